use Rattle.std.proofs.Common.{◌≡◌, ◌≤◌, ◌∙◌, [], refl, sym, ap, subst, arith, Some, Err}
use Rattle.std.proofs.lemmas.List.{append-nil}
use Rattle.file_tree.specs.Tree.{tree_of}
use Rattle.file_tree.specs.declared.job.Ask.{Ask}
use Rattle.file_tree.specs.declared.job.Ask.TheVariants as asks
use Rattle.file_tree.specs.declared.job.JobAnswer.TheVariants as answer
use Rattle.ngx_outside.specs.Outside.{Found}
use Rattle.ngx_outside.specs.Records.{Answered, Failed, answer_of}
use Rattle.ngx_outside.specs.Seen.{CoreSeen}
use Rattle.ngx_outside.specs.Views.{ask_in}
use Rattle.ngx_outside.specs.Views.Ground.{Always, Answers}
use Rattle.link_service.specs.Seen.{Grown}
use Rattle.link_service.specs.Nodes.{Served, Spares}
use Rattle.link_service.proofs.AccountLemmas.{ends_same}
use Rattle.link_service.proofs.BesideLemmas.{stand_filed}
use Rattle.link_service.proofs.BlockLemmas.{given_held}
use Rattle.link_service.proofs.KeptLemmas.{kept_passed}
use Rattle.link_service.proofs.JobLemmas.{found_from, block_from}
use Rattle.link_service.proofs.NodeLemmas.{served_none, spares_none}
use Rattle.link_service.proofs.jobs.job_if.Goals as goal

pub returns-in_default-clause-served : goal.returns-in_default-clause-served
returns-in_default-clause-served g c = served_none (g.E.EventCore.seen c.args.core.now) (g.F.Files.seen c.args.files.now)

pub returns-in_default-clause-spares : goal.returns-in_default-clause-spares
returns-in_default-clause-spares g c = spares_none c.args.conn (g.E.EventCore.seen c.args.core.now) (g.F.Files.seen c.args.files.now)

pub returns-in-Ok-clause-served : goal.returns-in-Ok-clause-served
returns-in-Ok-clause-served g c =
    let e = g.E.EventCore in
    let f = g.F.Files in
    let ask = asks.Stat c.in-Stat.path c.in-Stat.of in
    let waits : ask_in ((e.seen c.args.core.now).view c.args.conn).jobs c.args.node ≡ Some ask = sym c.in-Some.ensures.job ∙ ap (λ (q : Ask). Some q) c.in-Stat.is in
    let of_is : tree_of c.in-Some.ask.now ≡ c.in-Stat.of = ap (λ (q : Ask). tree_of q) c.in-Stat.is in
    let within : c.in-Stat.of ≤ (f.seen c.args.files.now).newest = (let k = c.in-Some.ensures.known in let r = c.requires.known in omega (arith, k, r, of_is)) in
    let grown : Grown (f.seen c.args.files.now) (f.seen c.look.new.self) = record { trees = c.look.ensures.grow; faults = c.look.ensures.cause.later } in
    record {
      kept = λ links links_tell tells marks whole ticks.
          kept_passed marks whole (e.seen c.args.core.now) (e.seen c.file_done.new.core) links links (f.seen c.args.files.now) (f.seen c.look.new.self) ticks c.args.conn (Answers ask (answer.Stat c.in-Ok.look.node c.bytes_of-text.result)) [] []
          (record { terms = c.file_done.ensures.steady.0; now = c.file_done.ensures.steady.1; counts = c.file_done.ensures.counts; views = c.file_done.ensures.others; wires = λ d ne. refl; used = λ d. refl; opens = λ d ne. refl; faults = λ d. omega arith; store = grown; crowd = λ e. c.file_done.ensures.steady.2 ∙ e })
          (λ raceless trees agree. found_from (f.seen c.args.files.now) (f.seen c.look.new.self) trees c.in-Stat.path c.in-Stat.of c.in-Ok.look c.bytes_of-text.result grown agree within
          (subst (λ path. Found ((f.seen c.args.files.now).trees c.in-Stat.of) path (f.seen c.look.new.self).block c.in-Ok.look) c.as_slice.ensures (c.in-Ok.ensures.look tells))
          c.bytes_of-text.ensures)
          (λ x. absurd x) (λ x. absurd x) (λ x. x) refl refl refl (sym (append-nil (links.link c.args.conn).taken)) (sym (append-nil (links.link c.args.conn).sent))
          (ends_same ((e.seen c.args.core.now).view c.args.conn) ((e.seen c.file_done.new.core).view c.args.conn) (links.link c.args.conn) (links.link c.args.conn) c.file_done.ensures.ended refl) (c.file_done.ensures.passed ask waits);
      beside = λ links clock.
          stand_filed (Answered c.args.conn c.args.node (answer_of (answer.Stat c.in-Ok.look.node c.bytes_of-text.result))) (answer_of (answer.Stat c.in-Ok.look.node c.bytes_of-text.result)) (e.seen c.args.core.now).events (e.seen c.file_done.new.core).events
          links (f.seen c.args.files.now).answers (f.seen c.look.new.self).answers clock c.file_done.ensures.given c.in-Ok.ensures.answers refl refl refl;
    }

pub returns-in-Err-clause-served : goal.returns-in-Err-clause-served
returns-in-Err-clause-served g c =
    let e = g.E.EventCore in
    let f = g.F.Files in
    let grown : Grown (f.seen c.args.files.now) (f.seen c.look.new.self) = record { trees = c.look.ensures.grow; faults = c.look.ensures.cause.later } in
    record {
      kept = λ links links_tell tells marks whole ticks.
          kept_passed marks whole (e.seen c.args.core.now) (e.seen c.job_failed.new.core) links links (f.seen c.args.files.now) (f.seen c.look.new.self) ticks c.args.conn Always [] []
          (record { terms = c.job_failed.ensures.steady.0; now = c.job_failed.ensures.steady.1; counts = c.job_failed.ensures.counts; views = c.job_failed.ensures.others; wires = λ d ne. refl; used = λ d. refl; opens = λ d ne. refl; faults = λ d. omega arith; store = grown; crowd = λ e. c.job_failed.ensures.steady.2 ∙ e })
          (λ raceless trees agree. tt) (λ x. absurd x) (λ x. c.in-Err.ensures.cause.failed refl) (λ x. absurd x) refl refl refl (sym (append-nil (links.link c.args.conn).taken)) (sym (append-nil (links.link c.args.conn).sent))
          (ends_same ((e.seen c.args.core.now).view c.args.conn) ((e.seen c.job_failed.new.core).view c.args.conn) (links.link c.args.conn) (links.link c.args.conn) c.job_failed.ensures.ended refl) c.job_failed.ensures.passed;
      beside = λ links clock.
          stand_filed (Answered c.args.conn c.args.node Failed) Failed (e.seen c.args.core.now).events (e.seen c.job_failed.new.core).events
          links (f.seen c.args.files.now).answers (f.seen c.look.new.self).answers clock c.job_failed.ensures.given c.in-Err.ensures.answers refl refl refl;
    }

pub returns-in-Ok-block_done-clause-served : goal.returns-in-Ok-block_done-clause-served
returns-in-Ok-block_done-clause-served g c =
    let e = g.E.EventCore in
    let f = g.F.Files in
    let r = c.in-Read in
    let d = c.in-Ok-block_done.ensures in
    let waits : ask_in ((e.seen c.args.core.now).view c.args.conn).jobs c.args.node ≡ Some (asks.Read r.path r.start r.count r.of) = sym c.in-Some.ensures.job ∙ ap (λ (q : Ask). Some q) r.is in
    let of_is : tree_of c.in-Some.ask.now ≡ r.of = ap (λ (q : Ask). tree_of q) r.is in
    let within : r.of ≤ (f.seen c.args.files.now).newest = (let k = c.in-Some.ensures.known in let q = c.requires.known in omega (arith, k, q, of_is)) in
    let b = d.done r.path r.start r.count r.of waits in
    record {
      kept = λ links links_tell tells marks whole ticks.
          kept_passed marks whole (e.seen c.args.core.now) (e.seen c.block_done.new.core) links links (f.seen c.args.files.now) (f.seen c.block_done.new.files) ticks c.args.conn (Answers (asks.Read r.path r.start r.count r.of) (answer.Read b.block)) [] []
          (record { terms = d.steady.0; now = d.steady.1; counts = d.counts; views = d.others; wires = λ d ne. refl; used = λ d. refl; opens = λ d ne. refl; faults = λ d. omega arith; store = d.grown; crowd = λ e. d.steady.2 ∙ e })
          (λ raceless trees agree. block_from (f.seen c.args.files.now) (f.seen c.block_done.new.files) trees r.path r.start r.count r.of b.block d.grown agree within (b.holds tells))
          (λ x. absurd x) (λ x. absurd x) (λ x. x) refl refl refl (sym (append-nil (links.link c.args.conn).taken)) (sym (append-nil (links.link c.args.conn).sent))
          (ends_same ((e.seen c.args.core.now).view c.args.conn) ((e.seen c.block_done.new.core).view c.args.conn) (links.link c.args.conn) (links.link c.args.conn) d.ended refl) b.passed;
      beside = λ links clock.
          stand_filed (Answered c.args.conn c.args.node (answer_of (answer.Read b.block))) (answer_of (answer.Read b.block)) (e.seen c.args.core.now).events (e.seen c.block_done.new.core).events
          links (f.seen c.args.files.now).answers (f.seen c.block_done.new.files).answers clock b.given b.told refl refl refl;
    }

pub returns-in-Err-Failed-clause-served : goal.returns-in-Err-Failed-clause-served
returns-in-Err-Failed-clause-served g c =
    let e = g.E.EventCore in
    let f = g.F.Files in
    let same = c.in-Err-Failed.ensures.same in
    let failed = c.job_failed-in-Err-Failed in
    let from : Served (e.seen c.block_done.new.core) (e.seen failed.new.core) (f.seen c.args.files.now) (f.seen c.block_done.new.files) = record {
      kept = λ links links_tell tells marks whole ticks.
          kept_passed marks whole (e.seen c.block_done.new.core) (e.seen failed.new.core) links links (f.seen c.args.files.now) (f.seen c.block_done.new.files) ticks c.args.conn Always [] []
          (record { terms = failed.ensures.steady.0; now = failed.ensures.steady.1; counts = failed.ensures.counts; views = failed.ensures.others; wires = λ d ne. refl; used = λ d. refl; opens = λ d ne. refl; faults = λ d. omega arith; store = c.block_done.ensures.grown; crowd = λ e. failed.ensures.steady.2 ∙ e })
          (λ raceless trees agree. tt) (λ x. absurd x) (λ x. c.in-Err-Failed.ensures.cause (ap Err c.in-Err-Failed.field-0-is)) (λ x. absurd x) refl refl refl (sym (append-nil (links.link c.args.conn).taken)) (sym (append-nil (links.link c.args.conn).sent))
          (ends_same ((e.seen c.block_done.new.core).view c.args.conn) ((e.seen failed.new.core).view c.args.conn) (links.link c.args.conn) (links.link c.args.conn) failed.ensures.ended refl) failed.ensures.passed;
      beside = λ links clock.
          stand_filed (Answered c.args.conn c.args.node Failed) Failed (e.seen c.block_done.new.core).events (e.seen failed.new.core).events
          links (f.seen c.args.files.now).answers (f.seen c.block_done.new.files).answers clock failed.ensures.given (c.in-Err-Failed.ensures.failed (ap Err c.in-Err-Failed.field-0-is)) refl refl refl;
    } in
    subst (λ (s : CoreSeen). Served s (e.seen failed.new.core) (f.seen c.args.files.now) (f.seen c.block_done.new.files)) same from

pub returns-in-Ok-block_done-clause-held : goal.returns-in-Ok-block_done-clause-held
returns-in-Ok-block_done-clause-held g c = λ some.
    let f = g.F.Files.seen c.args.files.now in
    let r = c.in-Read in
    given_held f.tells (f.trees r.of) r.path r.start r.count r.of c.args.conn c.args.node f.answers (g.F.Files.seen c.block_done.new.files).answers (g.E.EventCore.seen c.args.core.now) (g.E.EventCore.seen c.block_done.new.core)
    (c.in-Ok-block_done.ensures.done r.path r.start r.count r.of (sym c.in-Some.ensures.job ∙ ap (λ (q : Ask). Some q) r.is))

pub returns-in-Ok-clause-spares : goal.returns-in-Ok-clause-spares
returns-in-Ok-clause-spares g c = record { views = c.file_done.ensures.others; terms = c.file_done.ensures.steady.0; now = c.file_done.ensures.steady.1; grown = c.look.ensures.grow.rises; versions = c.look.ensures.versions; tells = c.look.ensures.tells }

pub returns-in-Err-clause-spares : goal.returns-in-Err-clause-spares
returns-in-Err-clause-spares g c = record { views = c.job_failed.ensures.others; terms = c.job_failed.ensures.steady.0; now = c.job_failed.ensures.steady.1; grown = c.look.ensures.grow.rises; versions = c.look.ensures.versions; tells = c.look.ensures.tells }

pub returns-in-Ok-block_done-clause-spares : goal.returns-in-Ok-block_done-clause-spares
returns-in-Ok-block_done-clause-spares g c = record { views = c.in-Ok-block_done.ensures.others; terms = c.in-Ok-block_done.ensures.steady.0; now = c.in-Ok-block_done.ensures.steady.1; grown = c.block_done.ensures.grown.trees.rises; versions = c.block_done.ensures.versions; tells = c.block_done.ensures.tells }

pub returns-in-Err-Failed-clause-spares : goal.returns-in-Err-Failed-clause-spares
returns-in-Err-Failed-clause-spares g c =
    let e = g.E.EventCore in
    let f = g.F.Files in
    let failed = c.job_failed-in-Err-Failed in
    let from : Spares c.args.conn (e.seen c.block_done.new.core) (e.seen failed.new.core) (f.seen c.args.files.now) (f.seen c.block_done.new.files) =
    record { views = failed.ensures.others; terms = failed.ensures.steady.0; now = failed.ensures.steady.1; grown = c.block_done.ensures.grown.trees.rises; versions = c.block_done.ensures.versions; tells = c.block_done.ensures.tells } in
    subst (λ (s : CoreSeen). Spares c.args.conn s (e.seen failed.new.core) (f.seen c.args.files.now) (f.seen c.block_done.new.files)) c.in-Err-Failed.ensures.same from
