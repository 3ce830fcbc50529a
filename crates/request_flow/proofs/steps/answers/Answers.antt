use Rattle.std.proofs.Common.{None, Some, sym, subst}
use Rattle.request_meaning.specs.Laws.{shipped}
use Rattle.reply_out.specs.request_phases.Rounds.{world_in}
use Rattle.reply_out.specs.request_phases.declared.state.Step.TheVariants.{Answers as ToAnswer}
use Rattle.request_flow.specs.Pages.{page_rest, start_rest}
use Rattle.request_flow.specs.Reached.{PageReached}
use Rattle.request_flow.specs.Rests.{Follows, Rest}
use Rattle.request_flow.specs.declared.page.PageStart.{PageStart}
use Rattle.reply_out.specs.declared.terms.InPhases.{InPhases}
use Rattle.request_flow.specs.declared.steps.Known.{Known}
use Rattle.request_flow.specs.Sents.{known_bytes, known_tree, step_rest}
use Rattle.request_flow.proofs.Composing.{page_reached}
use Rattle.request_flow.proofs.steps.answers.Goals as goal

pub returns-in_ok-new-in-Ok-clause-goes : goal.returns-in_ok-new-in-Ok-clause-goes
returns-in_ok-new-in-Ok-clause-goes c = λ patterns trees.
    let site = c.args.ground.now.site.now in
    let w = world_in patterns c.args.ground.now shipped in
    let known = c.args.known in
    let o = c.in-Ok.composed in
    let out = c.args.out.now in
    let before : InPhases → Rest = λ r. step_rest w patterns site (trees (known_tree known)) r (ToAnswer c.args.outcome) (known_bytes known trees) in
    let after : InPhases → Known → Rest = λ r k. page_rest w patterns site (trees (known_tree k)) r o.page (known_bytes k trees) in
    subst (λ (p : PageStart). Follows site (before c.args.request.value) (start_rest w patterns site trees p) out out c.args.closing p.closing None (Some p.level)) (sym c.in_ok-new-in-Ok.ensures.ok)
    (subst (λ (r : InPhases). Follows site (before r) (after r o.page.known) out out c.args.closing o.closing None (Some o.level)) c.deref-in-Ok-true.ensures
    (subst (λ k. Follows site (before c.deref-in-Ok-true.result.now) (after c.deref-in-Ok-true.result.now k) out out c.args.closing o.closing None (Some o.level)) (sym c.in-Ok.ensures.known)
    (c.in-Ok.ensures.goes patterns trees out)))

pub returns-in_ok-new-in-Ok-clause-reached : goal.returns-in_ok-new-in-Ok-clause-reached
returns-in_ok-new-in-Ok-clause-reached c = λ w patterns site h.
    subst (λ (p : PageStart). PageReached w patterns site p) (sym c.in_ok-new-in-Ok.ensures.ok)
    (page_reached w patterns site c.args.request.value c.args.outcome c.args.known c.in-Ok.composed.page c.in-Ok.ensures.known c.in-Ok.ensures.outcome h)
