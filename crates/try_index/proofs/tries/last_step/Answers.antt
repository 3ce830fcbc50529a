use Rattle.std.proofs.Common.{◌≡◌, Err, ap, sym, subst, ◌∙◌, rules}
use Rattle.acts.specs.Act.{Done, settled}
use Rattle.target_text.specs.ngx_variables.declared.fault.EvalFault.TheVariants.{TooLong}
use Rattle.site_whole.specs.Whole.{last_seen}
use Rattle.target_text.specs.request_meaning.Errors.{decided}
use Rattle.target_text.specs.request_meaning.Errors.Outcome.{GoesTo, GoesToNamed}
use Rattle.target_text.specs.request_meaning.Contents.{last_try}
use Rattle.target_text.specs.Settled.{target_seen}
use Rattle.try_index.specs.Searches.{IsLastUnfit}
use Rattle.try_index.proofs.Turns as turns
use Rattle.try_index.proofs.tries.last_step.Goals as goal

pub returns-in_ok-target-in-Path-clause-step : goal.returns-in_ok-target-in-Path-clause-step
returns-in_ok-target-in-Path-clause-step c = λ s t state h.
    ap (λ l. settled (last_try c.args.main.now s (last_seen l)) c.args.vars.now) c.in-Path.is
    ∙ (turns.last_goes c.target_settles.ensures c.args.main.now c.args.vars.now s _ c.args.request.now h (target_seen c.in_ok-target-in-Path.target) c.in_ok-target-in-Path.ensures.ok
    ∙ ap (λ a. settled (Done (decided s (GoesTo c.in_ok-target-in-Path.target.path a))) c.args.vars.now) (sym (c.unwrap_or.ensures ∙ turns.or_empty c.in_ok-target-in-Path.target.args c.new.result c.new.ensures)))

pub returns-in_err-target-in-Path-clause-too_long : goal.returns-in_err-target-in-Path-clause-too_long
returns-in_err-target-in-Path-clause-too_long c = λ e s h.
    let refused : c.target_of.result ≡ Err TooLong = search rules in
    ap (λ l. settled (last_try c.args.main.now s (last_seen l)) c.args.vars.now) c.in-Path.is
    ∙ turns.last_unfit c.target_settles.ensures c.args.main.now c.args.vars.now s _ c.args.request.now h (c.target_of.ensures.too_long refused)

pub returns-in_ok-from_slice-in-Location-clause-step : goal.returns-in_ok-from_slice-in-Location-clause-step
returns-in_ok-from_slice-in-Location-clause-step c = λ s t state h.
    ap (λ l. settled (last_try c.args.main.now s (last_seen l)) c.args.vars.now) c.in-Location.is
    ∙ (ap (λ m. settled m c.args.vars.now) (turns.goes_to_named c.args.main.now c.args.vars.now s c.in-Location.name)
    ∙ ap (λ n. settled (Done (decided s (GoesToNamed n))) c.args.vars.now) (sym (c.in_ok-from_slice-in-Location.ensures ∙ c.as_slice.ensures)))

pub returns-in-Code-clause-step : goal.returns-in-Code-clause-step
returns-in-Code-clause-step c = λ s t state h.
    ap (λ l. settled (last_try c.args.main.now s (last_seen l)) c.args.vars.now) c.in-Code.is
    ∙ ap (λ m. settled m c.args.vars.now) (turns.goes_by_code c.args.main.now c.args.vars.now s _)

pub returns-in_err-target-in-Path-clause-unfit : goal.returns-in_err-target-in-Path-clause-unfit
returns-in_err-target-in-Path-clause-unfit c = λ e.
    let refused : c.target_of.result ≡ Err TooLong = search rules in
    subst (λ l. IsLastUnfit c.args.main.now c.args.request.now c.args.vars.now (last_seen l)) (sym c.in-Path.is) (c.target_of.ensures.too_long refused)
