use Rattle.std.proofs.Common.{None, sym, ap, ◌∙◌, subst}
use Rattle.request_meaning.specs.Laws.{shipped}
use Rattle.reply_out.specs.request_phases.Rounds.{world_in}
use Rattle.request_flow.specs.Flows.{flow_rest}
use Rattle.request_flow.specs.Rests.{Follows}
use Rattle.request_flow.specs.Pages.{GoesTo, access_rest}
use Rattle.request_flow.specs.Reached.{StepReached}
use Rattle.request_flow.specs.Sents.{known_bytes, known_len, known_tree, step_rest}
use Rattle.request_flow.proofs.Pieces.{same_follows}
use Rattle.request_flow.proofs.steps.go_on.Goals as goal

pub returns-in_ok-asks-in-Asks-clause-goes : goal.returns-in_ok-asks-in-Asks-clause-goes
returns-in_ok-asks-in-Asks-clause-goes c = λ patterns trees.
    let g = c.args.ground.now in
    let site = g.site.now in
    let w = world_in patterns g shipped in
    let known = c.args.known in
    let o = c.in_ok-asks-in-Asks.field-0 in
    subst (λ s. Follows site (step_rest w patterns site (trees (known_tree known)) c.args.request.value s (known_bytes known trees)) (flow_rest w patterns site o.flow trees) c.args.out.now c.args.out.now c.args.closing o.closing o.log o.level) (sym c.in-Asks.is)
    (c.in_ok-asks-in-Asks.ensures.goes w patterns site trees c.args.out.now)

pub returns-in_ok-asks-in-Asks-clause-reached : goal.returns-in_ok-asks-in-Asks-clause-reached
returns-in_ok-asks-in-Asks-clause-reached c = λ w patterns site h.
    c.in_ok-asks-in-Asks.ensures.reached w patterns site (known_len c.args.known)
    (subst (λ s. StepReached w patterns site c.args.request.value s (known_len c.args.known)) c.in-Asks.is h)

pub returns-in_ok-answers-in-Answers-clause-goes : goal.returns-in_ok-answers-in-Answers-clause-goes
returns-in_ok-answers-in-Answers-clause-goes c = λ patterns trees.
    let site = c.args.ground.now.site.now in
    let w = world_in patterns c.args.ground.now shipped in
    let known = c.args.known in
    subst (λ s. GoesTo w patterns site trees (step_rest w patterns site (trees (known_tree known)) c.args.request.value s (known_bytes known trees)) c.args.out.now c.answers.new.out c.args.closing c.in_ok-answers-in-Answers.field-0) (sym c.in-Answers.is)
    (c.in_ok-answers-in-Answers.ensures.goes patterns trees)

pub returns-in_ok-answers-in-Answers-clause-reached : goal.returns-in_ok-answers-in-Answers-clause-reached
returns-in_ok-answers-in-Answers-clause-reached c = λ w patterns site h.
    c.in_ok-answers-in-Answers.ensures.reached w patterns site
    (subst (λ s. StepReached w patterns site c.args.request.value s (known_len c.args.known)) c.in-Answers.is h)

pub returns-in_ok-calls-in-Calls-clause-goes : goal.returns-in_ok-calls-in-Calls-clause-goes
returns-in_ok-calls-in-Calls-clause-goes c = λ patterns trees.
    let site = c.args.ground.now.site.now in
    let w = world_in patterns c.args.ground.now shipped in
    let known = c.args.known in
    let a = c.in_ok-calls-in-Calls.field-0 in
    let out = c.args.out.now in
    subst (λ closing. Follows site (step_rest w patterns site (trees (known_tree known)) c.args.request.value c.args.step (known_bytes known trees)) (access_rest w patterns site trees a) out out c.args.closing closing None None) (sym c.in_ok-calls-in-Calls.ensures.closes)
    (same_follows site _ _ out c.args.closing
    (c.in_ok-calls-in-Calls.ensures.goes w patterns site trees (known_bytes known trees)
    ∙ ap (λ s. step_rest w patterns site (trees (known_tree known)) c.args.request.value s (known_bytes known trees)) (sym c.in-Calls.is)))

pub returns-in_ok-calls-in-Calls-clause-reached : goal.returns-in_ok-calls-in-Calls-clause-reached
returns-in_ok-calls-in-Calls-clause-reached c = λ w patterns site h.
    c.in_ok-calls-in-Calls.ensures.reached w patterns site (known_len c.args.known)
    (subst (λ s. StepReached w patterns site c.args.request.value s (known_len c.args.known)) c.in-Calls.is h)
