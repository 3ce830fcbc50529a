use Rattle.std.proofs.Common.{◌≡◌, true}
use Rattle.ready_loop.specs.Turns.{IsHeard}
use Rattle.ready_loop.proofs.RestLemmas.{rests_all}
use Rattle.link_service.proofs.BesideLemmas.{stand_none}
use Rattle.ready_loop.proofs.turn.serve_due.Goals as goal

pub returns-in_ok-serve_all-clause-rests : goal.returns-in_ok-serve_all-clause-rests
returns-in_ok-serve_all-clause-rests g c = λ h known before.
    let k = g.L.Links in
    rests_all (h ≡ true) (((k.seen c.args.links.now).tells ≡ true) × IsHeard (k.seen c.args.links.now).is_open (k.seen c.args.links.now).link c.args.memory.now.unread) ((k.seen c.args.links.now).tells ≡ true) ((k.seen c.args.links.now).tells ≡ true) (g.E.EventCore.seen c.serve_all.new.core).view (k.seen c.serve_all.new.links).link known (λ t. t) c.in_ok-serve_all.ensures.rests

pub returns-else-is_due-clause-beside : goal.returns-else-is_due-clause-beside
returns-else-is_due-clause-beside g c = stand_none (g.E.EventCore.seen c.args.core.now).events (g.L.Links.seen c.args.links.now).answers (g.F.Files.seen c.args.files.now).answers
