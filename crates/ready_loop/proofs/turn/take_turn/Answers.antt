use Rattle.std.proofs.Common.{◌≡◌, ◌∙◌, [], ◌∷◌, ◌++◌, true, refl, sym}
use Rattle.ready_loop.specs.Turns.{tick_at}
use Rattle.ready_loop.proofs.RestLemmas.{rests_ticked, rests_heard, rests_told, before_all}
use Rattle.link_service.specs.Tellings.{moments_told}
use Rattle.link_service.proofs.BesideLemmas.{stand_then}
use Rattle.ready_loop.proofs.turn.take_turn.Goals as goal

pub returns-clause-kept : goal.returns-clause-kept
returns-clause-kept g c = λ tl tf marks whole ticks kept.
    let k = g.L.Links in
    let f = g.F.Files in
    let a = c.tick-told.ensures in
    let b = c.in_ok-serve_due.ensures in
    let d = c.hear-heard.ensures in
    let now = ticks ++ tick_at c.tick-told.result ∷ [] in
    let tl' = b.tells.0 ∙ tl in
    c.in_ok-serve_heard.ensures.kept (d.tells.0 ∙ tl') (b.tells.2 ∙ a.same.0 ∙ tf) marks whole now
    (d.kept (f.seen c.serve_due.new.files) tl' marks whole now (ticks, tick_at c.tick-told.result, refl)
    (b.kept tl (a.same.0 ∙ tf) marks whole now (a.kept marks whole (k.seen c.args.links.now) ticks kept)))

pub returns-clause-rests : goal.returns-clause-rests
returns-clause-rests g c = λ h known all.
    let e = g.E.EventCore in
    let k = g.L.Links in
    let a = c.tick-told.ensures in
    let b = c.in_ok-serve_due.ensures in
    let d = c.hear-heard.ensures in
    let back : (k.seen c.hear-heard.new.links).tells ≡ (k.seen c.args.links.now).tells = d.tells.0 ∙ b.tells.0 in
    rests_told (h ≡ true) ((k.seen c.hear-heard.new.links).tells ≡ true) ((k.seen c.args.links.now).tells ≡ true) (e.seen c.serve_heard.new.core).view (k.seen c.serve_heard.new.links).link (λ t. back ∙ t)
    (c.in_ok-serve_heard.ensures.rests h
    (λ t. (back ∙ (known t).0, d.heard (b.tells.0 ∙ (known t).0) c.serve_due.new.memory.unread (b.heard (known t).0 (known t).1)))
    (rests_heard c.hear-heard.result (h ≡ true) ((k.seen c.args.links.now).tells ≡ true) ((k.seen c.hear-heard.new.links).tells ≡ true) (e.seen c.serve_due.new.core).view (e.seen c.hear-heard.new.core).view (k.seen c.serve_due.new.links).link (k.seen c.hear-heard.new.links).link
    (λ t. (known t).0) (λ t. sym back ∙ t) d.views (λ t. d.links (b.tells.0 ∙ t))
    (b.rests h known (λ not_due. rests_ticked (h ≡ true) ((k.seen c.args.links.now).tells ≡ true) c.quiet_until-until.result c.tick-told.result.moment (e.seen c.args.core.now).view (e.seen c.tick-told.new.core).view (k.seen c.args.links.now).link (before_all c.quiet_until-until.result c.tick-told.result.moment not_due) c.quiet_until-until.ensures a.ticked all))))

pub returns-clause-beside : goal.returns-clause-beside
returns-clause-beside g c =
    let k = g.L.Links in
    let f = g.F.Files in
    let t = g.C.Clock in
    let clock = moments_told (t.seen c.tick-told.new.clock).tells (t.seen c.tick-told.new.clock).told in
    stand_then (c.tick-told.ensures.beside (k.seen c.args.links.now).answers)
    (stand_then (c.in_ok-serve_due.ensures.beside clock)
    (stand_then (c.hear-heard.ensures.beside (f.seen c.serve_due.new.files).answers clock) (c.in_ok-serve_heard.ensures.beside clock)))
