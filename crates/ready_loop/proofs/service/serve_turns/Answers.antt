use Rattle.std.proofs.Common.{◌≡◌, ◌∙◌, true, refl, subst}
use Rattle.std.specs.List.{All}
use Rattle.ready_loop.specs.Ids.{has}
use Rattle.ready_loop.specs.Turns.{IsHeard}
use Rattle.ready_loop.proofs.RestLemmas.{rest_same, heard_at_start}
use Rattle.link_service.specs.Tellings.{moments_told}
use Rattle.link_service.proofs.BesideLemmas.{stand_then}
use Rattle.ready_loop.proofs.ThroughLemmas.{through_between}
use Rattle.ready_loop.proofs.service.serve_turns.Goals as goal

pub returns-clause-kept : goal.returns-clause-kept
returns-clause-kept g c =
    let e = g.E.EventCore in
    let f = g.F.Files in
    let k = g.L.Links in
    let t = g.C.Clock in
    let a = c.in_ok-serve_all.ensures in
    let b = c.in_ok-ending.ensures in
    let d = c.in_ok-serve_all-2.ensures in
    through_between (e.seen c.args.core.now) (e.seen c.serve_all.new.core) (e.seen c.take_turns.new.core) (e.seen c.serve_all-2.new.core)
    (k.seen c.args.links.now) (k.seen c.serve_all.new.links) (k.seen c.take_turns.new.links) (k.seen c.serve_all-2.new.links)
    (f.seen c.args.files.now) (f.seen c.serve_all.new.files) (f.seen c.take_turns.new.files) (f.seen c.serve_all-2.new.files)
    (t.seen c.args.clock.now) (t.seen c.take_turns.new.clock)
    a.tells.0 a.tells.2 b.tells.0.0 b.tells.0.2 a.versions d.versions a.kept b.kept d.kept

pub returns-clause-rests : goal.returns-clause-rests
returns-clause-rests g c = λ d held.
    let e = g.E.EventCore in
    let k = g.L.Links in
    let a = c.in_ok-serve_all.ensures in
    let b = c.in_ok-ending.ensures in
    rest_same (((k.seen c.take_turns.new.links).tells ≡ true) × IsHeard (k.seen c.take_turns.new.links).is_open (k.seen c.take_turns.new.links).link c.take_turns.new.memory.unread)
    ((k.seen c.args.links.now).tells ≡ true)
    ((k.seen c.take_turns.new.links).tells ≡ true) ((k.seen c.args.links.now).tells ≡ true)
    ((e.seen c.serve_all-2.new.core).view d) ((e.seen c.serve_all-2.new.core).view d) ((k.seen c.serve_all-2.new.links).link d) ((k.seen c.serve_all-2.new.links).link d)
    (λ h. (b.tells.0.0 ∙ a.tells.0 ∙ h, b.heard (a.tells.0 ∙ h) (a.heard h (heard_at_start (e.seen c.args.core.now).view (k.seen c.args.links.now).is_open (k.seen c.args.links.now).link c.remember_all.new.unread (e.seen c.args.core.now).conns (λ n is. (c.conns.ensures.held n).1 is) c.requires.matched (subst (All (λ n. has c.remember_all.new.unread n ≡ true)) c.conns.ensures.conns c.in_ok-remember_all.ensures)))))
    (λ tl. b.tells.0.0 ∙ a.tells.0 ∙ tl) refl (λ h. refl) (λ h. refl) (c.in_ok-serve_all-2.ensures.rests d held)

pub returns-clause-beside : goal.returns-clause-beside
returns-clause-beside g c =
    let t = g.C.Clock in
    stand_then (c.in_ok-serve_all.ensures.beside (moments_told (t.seen c.args.clock.now).tells (t.seen c.args.clock.now).told))
    (stand_then c.in_ok-ending.ensures.beside (c.in_ok-serve_all-2.ensures.beside (moments_told (t.seen c.take_turns.new.clock).tells (t.seen c.take_turns.new.clock).told)))
