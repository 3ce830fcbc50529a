use Rattle.std.proofs.Common.{[], None, sym, ap, ◌∙◌, subst}
use Rattle.reply_out.specs.request_phases.declared.state.Step.TheVariants.{Asks as ToAsk}
use Rattle.request_flow.specs.declared.flow.Flow.{Flow}
use Rattle.acts.specs.Act.{Stat}
use Rattle.file_tree.specs.Tree.{Item}
use Rattle.reply_out.specs.request_phases.Rounds.{phases_told}
use Rattle.reply_out.specs.declared.terms.InPhases.{InPhases}
use Rattle.request_flow.specs.Flows.{one_rest, told_rest}
use Rattle.request_flow.specs.Terms.{terms_seen}
use Rattle.request_flow.specs.Reached.{IsReachedAt, OneReached}
use Rattle.request_flow.specs.Rests.{Follows, act_rest, finished}
use Rattle.request_flow.specs.Sents.{known_bytes, known_tree, step_rest}
use Rattle.request_flow.proofs.Pieces.{same_follows}
use Rattle.request_flow.proofs.Reaching as reaching
use Rattle.request_flow.proofs.Turns.{asks_rest}
use Rattle.request_flow.proofs.steps.asks.Goals as goal

pub returns-clause-goes : goal.returns-clause-goes
returns-clause-goes c = λ w patterns site trees out.
    let r = c.args.request.value in
    let known = c.args.known in
    let path = c.args.path in
    let told = λ (item : Item). phases_told w patterns site r.phases c.args.wait item in
    subst (λ (f : Flow). Follows site (step_rest w patterns site (trees (known_tree known)) r (ToAsk c.args.wait path) (known_bytes known trees)) (one_rest w patterns site f trees) out out c.args.closing c.args.closing None None) (sym c.in_ok-new.ensures.ok)
    (same_follows site _ _ out c.args.closing
    (ap (λ (r : InPhases). told_rest w patterns site (trees c.tree_in-of.result) r c.args.wait (trees c.tree_in-of.result path)) c.spent-request.ensures
    ∙ (ap (λ of. act_rest w (trees of) (terms_seen r.terms) (told (trees of path)) r.vars) c.tree_in-of.ensures
    ∙ sym (asks_rest w (trees (known_tree known)) (terms_seen r.terms) path told r.vars))))

pub returns-clause-reached : goal.returns-clause-reached
returns-clause-reached c = λ w patterns site len h.
    let r = c.args.request.value in
    let path = c.args.path in
    let wait = c.args.wait in
    subst (λ (f : Flow). OneReached w patterns site f) (sym c.in_ok-new.ensures.ok)
    (subst (λ (r : InPhases). IsReachedAt w (finished w (Stat path (λ item. phases_told w patterns site r.phases wait item))) r.vars) (sym c.spent-request.ensures)
    (reaching.asks w path (λ item. phases_told w patterns site r.phases wait item) r.vars (h [])))
