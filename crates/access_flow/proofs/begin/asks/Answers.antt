use Rattle.std.proofs.Common.{[], sym, ap, ◌∙◌, subst}
use Rattle.request_meaning.specs.Access.{auth_child}
use Rattle.request_meaning.specs.Laws.{shipped}
use Rattle.request_meaning.specs.Phases.{rounds}
use Rattle.request_meaning.specs.Replies.{child_asked}
use Rattle.request_meaning.specs.Serving.From.{Start}
use Rattle.node_turn.specs.request_phases.Rounds.{asked_from, world_in}
use Rattle.node_turn.specs.request_phases.declared.state.Phases.{Phases}
use Rattle.node_turn.specs.request_phases.declared.state.Step.TheVariants.{Calls}
use Rattle.request_flow.specs.Flows.{item_asked}
use Rattle.request_flow.specs.Sents.{step_rest}
use Rattle.request_flow.specs.reply_out.declared.terms.InPhases.{InPhases}
use Rattle.access_flow.specs.Flows.{IsOpened, inner_left, outer_of, stage_rest}
use Rattle.access_flow.specs.Reached.{StageReached}
use Rattle.access_flow.specs.declared.flow.AccessFlow.{AccessFlow}
use Rattle.access_flow.specs.declared.flow.Stage.{Stage}
use Rattle.access_flow.proofs.Inner.{asked_is, begins_open, outer_is}
use Rattle.access_flow.proofs.Reaching.{begins_reached}
use Rattle.access_flow.proofs.begin.asks.Goals as goal

pub returns-clause-goes : goal.returns-clause-goes
returns-clause-goes c = λ patterns trees.
    let start = c.args.start.request.value in
    let path = c.args.start.path in
    let site = c.args.ground.now.site.now in
    let w = world_in patterns c.args.ground.now shipped in
    let f : AccessFlow = c.in_ok-new.field-0.value in
    let ok = c.in_ok-new.ensures.ok in
    let q = c.deref_mut-inside.result.now in
    let first = c.inner_phases-inner.result in
    let inner = c.lend.new.phases in
    let is = c.deref_mut-inside.ensures.value in
    let same = ap (λ (x : InPhases). x.phases) is in
    let asked = c.inner_phases-inner.ensures.asked in
    let to = step_rest w patterns site (trees c.args.start.of) start (Calls path) [] in
    subst (λ (s : Stage). IsOpened (stage_rest w patterns site (trees f.of) f s (item_asked trees f.ask)) to) (sym (ap (λ (x : AccessFlow). x.stage) ok))
    (subst (λ n. IsOpened (inner_left w site (trees n) f (rounds w f.inner.changes (asked_from f.inner Start))) to) (sym (ap (λ (x : AccessFlow). x.of) ok))
    (begins_open w patterns site (trees c.args.start.of) start path f
    (ap (λ (x : AccessFlow). outer_of x) ok ∙ (outer_is q.phases first inner c.lend.new.main c.lend.ensures.main c.lend.ensures.phases ∙ same))
    (ap (λ (x : AccessFlow). asked_from x.inner Start) ok
    ∙ (asked_is q.phases.main path first inner c.lend.ensures.phases (c.inner_phases-inner.ensures.main ∙ c.in_ok-method.ensures) asked.0 asked.1 asked.2 asked.3
    ∙ ap (λ (p : Phases). child_asked (auth_child p.main path)) same))
    (ap (λ (x : AccessFlow). x.inner.changes) ok ∙ (ap (λ (p : Phases). p.changes) c.lend.ensures.phases ∙ asked.4))
    (ap (λ (x : AccessFlow). x.request.value.vars) ok ∙ ap (λ (x : InPhases). x.vars) is)
    (ap (λ (x : AccessFlow). x.request.value.terms) ok ∙ ap (λ (x : InPhases). x.terms) is)))

pub returns-clause-reached : goal.returns-clause-reached
returns-clause-reached c = λ patterns reached.
    let start = c.args.start.request.value in
    let path = c.args.start.path in
    let site = c.args.ground.now.site.now in
    let w = world_in patterns c.args.ground.now shipped in
    let f : AccessFlow = c.in_ok-new.field-0.value in
    let ok = c.in_ok-new.ensures.ok in
    let q = c.deref_mut-inside.result.now in
    let first = c.inner_phases-inner.result in
    let inner = c.lend.new.phases in
    let is = c.deref_mut-inside.ensures.value in
    let same = ap (λ (x : InPhases). x.phases) is in
    let asked = c.inner_phases-inner.ensures.asked in
    subst (λ (s : Stage). StageReached w patterns site f s) (sym (ap (λ (x : AccessFlow). x.stage) ok))
    (begins_reached w patterns site start path f
    (ap (λ (x : AccessFlow). outer_of x) ok ∙ (outer_is q.phases first inner c.lend.new.main c.lend.ensures.main c.lend.ensures.phases ∙ same))
    (ap (λ (x : AccessFlow). asked_from x.inner Start) ok
    ∙ (asked_is q.phases.main path first inner c.lend.ensures.phases (c.inner_phases-inner.ensures.main ∙ c.in_ok-method.ensures) asked.0 asked.1 asked.2 asked.3
    ∙ ap (λ (p : Phases). child_asked (auth_child p.main path)) same))
    (ap (λ (x : AccessFlow). x.inner.changes) ok ∙ (ap (λ (p : Phases). p.changes) c.lend.ensures.phases ∙ asked.4))
    (ap (λ (x : AccessFlow). x.request.value.vars) ok ∙ ap (λ (x : InPhases). x.vars) is)
    (reached []))
