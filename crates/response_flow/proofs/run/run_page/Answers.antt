use Rattle.std.proofs.Common.{◌≡◌, true, List, [], None, refl, sym, ap, ◌∙◌, subst}
use Rattle.std.specs.Prelude.{is_some}
use Rattle.request_meaning.specs.Laws.{shipped}
use Rattle.request_flow.specs.request_phases.Rounds.{world_in}
use Rattle.request_flow.specs.request_phases.declared.ground.Ground.{Ground}
use Rattle.ngx_pattern.specs.Pattern.{Pattern as SetPattern}
use Rattle.subrequests.specs.Moved.{IsDone, IsWhole, files}
use Rattle.page_response.specs.Pages.{IsAllOver}
use Rattle.page_response.specs.declared.pages.Pages.{Pages}
use Rattle.response_flow.specs.Continues.{Continues}
use Rattle.response_flow.specs.Flights.{page_left}
use Rattle.response_flow.proofs.Goes as goes
use Rattle.response_flow.proofs.Tails.{over_tail}
use Rattle.response_flow.proofs.run.run_page.Goals as goal

pub returns-then-is_done-clause-runs : goal.returns-then-is_done-clause-runs
returns-then-is_done-clause-runs c = λ trees before from first raceless reached continues.
    let patterns = c.args.space.now.patterns in
    let g = c.args.ground.now in
    let site = g.site.now in
    let w = world_in patterns g shipped in
    let p = c.args.page.pages.value in
    let q = c.run.new.self in
    let r = c.into_inner.result in
    let go = goes.rested patterns g c.deref_mut-inside.result.now p q c.in-Ok-Rests.field-0 c.deref_mut-inside.ensures.value c.in-Ok-Rests.ensures.ran c.in-Ok-Rests.field-0-is in
    let left = goes.same_left w patterns site trees p q (go.same trees raceless reached) go.status in
    let done = subst (λ (x : Pages). c.is_done.result ≡ true → IsWhole x.family → ((ps : List SetPattern) (h : Ground) → IsDone ps h x.family)) c.deref.ensures c.is_done.ensures.done in
    c.in_ok-ends-in-Ok-Rests.ensures.ends w patterns site trees before from first
    (subst (λ x. IsAllOver w patterns site trees x) (sym c.into_inner.ensures) (done c.if-is_done.true go.whole patterns g (files trees q.family)))
    (subst (λ x. Continues site before (page_left w patterns site trees x) from [] first c.args.closing None c.args.level) (sym c.into_inner.ensures)
    (goes.moved site before _ _ from [] [] first c.args.closing c.args.level left refl continues))

pub returns-then-is_done-clause-tail : goal.returns-then-is_done-clause-tail
returns-then-is_done-clause-tail c =
    let p = c.args.page.pages.value in
    let q = c.into_inner.result in
    let o = c.in_ok-ends-in-Ok-Rests.field-0 in
    let e = c.in_ok-ends-in-Ok-Rests.ensures in
    over_tail p.outgoing.block q.outgoing.block o.flight o.tail c.ends.new.out
    (ap (λ (x : Pages). is_some x.outgoing.block) c.into_inner.ensures ∙ (c.in-Ok-Rests.ensures.kind ∙ ap (λ (x : Pages). is_some x.outgoing.block) c.deref_mut-inside.ensures.value))
    e.over.0 e.tail
