use Rattle.std.proofs.Common.{[], ◌∷◌, ◌++◌, sym, ap, subst, ◌∙◌}
use Rattle.ngx_outside.specs.Views.{ConnView, Ticked, kept_moment}
use Rattle.ready_loop.proofs.TurnLemmas.{kept_ticked, kept_version, now_is}
use Rattle.link_service.specs.Seen.{Tick}
use Rattle.link_service.specs.Tellings.{StandBeside, moments_told}
use Rattle.link_service.proofs.BesideLemmas.{stand_ticked, stand_then}
use Rattle.ready_loop.proofs.ticks.tick.Goals as goal

pub returns-clause-kept : goal.returns-clause-kept
returns-clause-kept g c = λ marks whole links ticks kept.
    let e = g.E.EventCore in
    let f = g.F.Files in
    let a = c.ticked.ensures in
    let b = c.tell_tree-tree.ensures in
    let tick : Tick = record { moment = c.now-moment.result; tree = c.tell_tree-tree.result } in
    kept_version marks whole (e.seen c.tell_tree-tree.new.core) links (f.seen c.args.files.now) (f.seen c.tell_tree-tree.new.files) (ticks ++ tick ∷ []) b.grown
    (kept_ticked marks whole (e.seen c.args.core.now) (e.seen c.tell_tree-tree.new.core) links (f.seen c.args.files.now) ticks tick
    (λ d. subst (λ v. Ticked (kept_moment c.now-moment.result) ((e.seen c.args.core.now).view d) v) (sym (b.views d)) (a.ticked d))
    (b.steady.0 ∙ a.steady.0) (now_is (e.seen c.tell_tree-tree.new.core).now (kept_moment c.now-moment.result) c.tell_tree-tree.result (b.moment ∙ a.moment) b.tree) (b.refused ∙ a.refused)
    (λ d. ap (λ (v : ConnView). v.ended) (b.views d) ∙ a.ended d) (b.steady.1 ∙ a.steady.1) kept)

pub returns-clause-ticked : goal.returns-clause-ticked
returns-clause-ticked g c = λ d. subst (λ v. Ticked (kept_moment c.now-moment.result) ((g.E.EventCore.seen c.args.core.now).view d) v) (sym (c.tell_tree-tree.ensures.views d)) (c.ticked.ensures.ticked d)

pub returns-clause-beside : goal.returns-clause-beside
returns-clause-beside g c = λ links.
    let e = g.E.EventCore in
    let f = g.F.Files in
    let t = g.C.Clock in
    let n = c.now-moment in
    let files = (f.seen c.args.files.now).answers in
    subst (λ x. StandBeside (e.seen c.args.core.now).events (e.seen c.tell_tree-tree.new.core).events links links files x (moments_told (t.seen c.args.clock.now).tells (t.seen c.args.clock.now).told) (moments_told (t.seen n.new.self).tells (t.seen n.new.self).told)) (sym c.tell_tree-tree.ensures.same.1)
    (stand_then (stand_ticked n.result (e.seen c.args.core.now).events (e.seen c.ticked.new.core).events links files (t.seen c.args.clock.now).tells (t.seen n.new.self).tells (t.seen c.args.clock.now).told (t.seen n.new.self).told c.ticked.ensures.given n.ensures.tells n.ensures.told)
    (c.tell_tree-tree.ensures.beside links files (moments_told (t.seen n.new.self).tells (t.seen n.new.self).told)))
