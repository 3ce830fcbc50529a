use Rattle.std.proofs.Common.{[], sym, ap, ◌∙◌, subst}
use Rattle.reply_out.specs.request_phases.declared.state.Step.TheVariants.{Calls as ToCall}
use Rattle.reply_out.specs.declared.terms.InPhases.{InPhases}
use Rattle.request_flow.specs.Reached.{StepReached}
use Rattle.request_flow.specs.Sents.{step_rest}
use Rattle.request_flow.proofs.steps.calls.Goals as goal

pub returns-clause-goes : goal.returns-clause-goes
returns-clause-goes c = λ w patterns site trees bytes.
    let path = c.args.path in
    ap (λ (r : InPhases). step_rest w patterns site (trees c.tree_in.result) r (ToCall path) []) c.spent.ensures
    ∙ ap (λ of. step_rest w patterns site (trees of) c.args.request.value (ToCall path) []) c.tree_in.ensures

pub returns-clause-reached : goal.returns-clause-reached
returns-clause-reached c = λ w patterns site len h.
    subst (λ (r : InPhases). StepReached w patterns site r (ToCall c.args.path) 0) (sym c.spent.ensures) (λ text. h text)
