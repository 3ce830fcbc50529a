use Rattle.std.proofs.Common.{◌≡◌, true, subst}
use Rattle.ready_loop.specs.Turns.{IsHeardBut, HeardAs, RestsBut}
use Rattle.ready_loop.proofs.RestLemmas.{rests_one}
use Rattle.link_service.proofs.BesideLemmas.{stand_none}
use Rattle.ready_loop.proofs.turn.serve_heard.Goals as goal

pub returns-in_ok-serve_one-in-At-clause-rests : goal.returns-in_ok-serve_one-in-At-clause-rests
returns-in_ok-serve_one-in-At-clause-rests g c = λ h known but.
    let e = g.E.EventCore in
    let k = g.L.Links in
    rests_one (h ≡ true) (((k.seen c.args.links.now).tells ≡ true) × IsHeardBut c.in-At.conn c.in-At.due (k.seen c.args.links.now).is_open (k.seen c.args.links.now).link c.args.memory.now.unread) ((k.seen c.args.links.now).tells ≡ true) ((k.seen c.args.links.now).tells ≡ true) c.in-At.conn
    (e.seen c.args.core.now).view (e.seen c.serve_one.new.core).view (k.seen c.args.links.now).link (k.seen c.serve_one.new.links).link
    (λ t. ((known t).0, subst (λ n. HeardAs n (k.seen c.args.links.now).is_open (k.seen c.args.links.now).link c.args.memory.now.unread) c.in-At.is (known t).1)) (λ t. (known t).0) (λ t. t)
    c.serve_one.ensures.views c.serve_one.ensures.links c.in_ok-serve_one-in-At.ensures.rests
    (subst (λ n. RestsBut n (h ≡ true) ((k.seen c.args.links.now).tells ≡ true) (e.seen c.args.core.now).view (k.seen c.args.links.now).link) c.in-At.is but)

pub returns-in-Nothing-clause-beside : goal.returns-in-Nothing-clause-beside
returns-in-Nothing-clause-beside g c = stand_none (g.E.EventCore.seen c.args.core.now).events (g.L.Links.seen c.args.links.now).answers (g.F.Files.seen c.args.files.now).answers

pub returns-in-Ended-clause-beside : goal.returns-in-Ended-clause-beside
returns-in-Ended-clause-beside g c = stand_none (g.E.EventCore.seen c.args.core.now).events (g.L.Links.seen c.args.links.now).answers (g.F.Files.seen c.args.files.now).answers

pub returns-in-Failed-clause-beside : goal.returns-in-Failed-clause-beside
returns-in-Failed-clause-beside g c = stand_none (g.E.EventCore.seen c.args.core.now).events (g.L.Links.seen c.args.links.now).answers (g.F.Files.seen c.args.files.now).answers
