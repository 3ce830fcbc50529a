use Rattle.ngx_outside.specs.Views.{ask_in}
use Rattle.link_service.proofs.BlockLemmas.{Left, brought_given, brought_left, reading_asks}
use Rattle.link_service.proofs.events.block_done.Given.{Over}
use Rattle.link_service.proofs.events.block_done.Goals as goal

-- what the event left, with the job as it was
left_of : (g : Over) → (c : goal.In_ok-read_done g) → Left c.args.conn (g.E.EventCore.seen c.args.core.now) (g.E.EventCore.seen c.read_done.new.self)
left_of g c =
    let e = g.E.EventCore in
    let f = g.F.Files in
    let q = reading_asks (ask_in ((e.seen c.args.core.now).view c.args.conn).jobs c.args.node) c.requires.reads in
    brought_left (f.seen c.args.files.now).tells ((f.seen c.args.files.now).trees q.of) q.path q.start q.count q.of c.args.conn c.args.node (f.seen c.args.files.now).answers (f.seen c.read_done.new.files).answers
    (e.seen c.args.core.now) (e.seen c.read_done.new.self) c.in_ok-read_done.field-0 q.is (c.in_ok-read_done.ensures.done q.path q.start q.count q.of q.is)

pub returns-clause-done : goal.returns-clause-done
returns-clause-done g c = λ path start count of waits.
    let e = g.E.EventCore in
    let f = g.F.Files in
    brought_given (f.seen c.args.files.now).tells ((f.seen c.args.files.now).trees of) path start count of c.args.conn c.args.node (f.seen c.args.files.now).answers (f.seen c.read_done.new.files).answers
    (e.seen c.args.core.now) (e.seen c.read_done.new.self) c.in_ok-read_done.field-0 waits (c.in_ok-read_done.ensures.done path start count of waits)

pub returns-clause-ended : goal.returns-clause-ended
returns-clause-ended g c = let l = left_of g c in l.ended

pub returns-clause-others : goal.returns-clause-others
returns-clause-others g c = let l = left_of g c in l.others

pub returns-clause-left : goal.returns-clause-left
returns-clause-left g c = let l = left_of g c in l.left

pub returns-clause-steady : goal.returns-clause-steady
returns-clause-steady g c = let l = left_of g c in l.steady

pub returns-clause-counts : goal.returns-clause-counts
returns-clause-counts g c = let l = left_of g c in l.counts
