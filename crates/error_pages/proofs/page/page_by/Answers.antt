use Rattle.std.proofs.Common.{◌≡◌, Err, ap, sym, subst, ◌∙◌, rules}
use Rattle.acts.specs.Act.{settled}
use Rattle.target_text.specs.ngx_variables.declared.fault.EvalFault.TheVariants.{TooLong}
use Rattle.site_whole.specs.Whole.{target_seen, shown_seen}
use Rattle.request_meaning.specs.Errors.{error_page}
use Rattle.error_pages.specs.Pages.{IsTooLong}
use Rattle.error_pages.proofs.Nexts as nexts
use Rattle.error_pages.proofs.page.page_by.Goals as goal

pub returns-in_ok-step-in-Path-clause-page : goal.returns-in_ok-step-in-Path-clause-page
returns-in_ok-step-in-Path-clause-page c = λ a s code h.
    ap (λ t. settled (error_page a s code (shown_seen c.args.rule.now.shown) (target_seen t)) c.args.vars.now) c.in-Path.is
    ∙ nexts.goes_inside c.args.main.now c.args.request.now c.args.vars.now a s code c.args.rule.now.shown h c.target_settles.ensures _ _ c.in_ok-step-in-Path.ensures.ok

pub returns-in_err-step-in-Path-clause-too_long : goal.returns-in_err-step-in-Path-clause-too_long
returns-in_err-step-in-Path-clause-too_long c = λ e a s code h.
    let refused : c.inside.result ≡ Err TooLong = search rules in
    ap (λ t. settled (error_page a s code (shown_seen c.args.rule.now.shown) (target_seen t)) c.args.vars.now) c.in-Path.is
    ∙ nexts.inside_too_long c.args.main.now c.args.request.now c.args.vars.now a s code c.args.rule.now.shown h c.target_settles.ensures _ (c.inside.ensures.too_long refused)

pub returns-in_ok-step-in-Url-clause-page : goal.returns-in_ok-step-in-Url-clause-page
returns-in_ok-step-in-Url-clause-page c = λ a s code h.
    ap (λ t. settled (error_page a s code (shown_seen c.args.rule.now.shown) (target_seen t)) c.args.vars.now) c.in-Url.is
    ∙ nexts.goes_away c.args.main.now c.args.request.now c.args.vars.now a s code c.args.rule.now.shown h c.fit_value_settles.ensures _ _ c.in_ok-step-in-Url.ensures.ok

pub returns-in_err-step-in-Url-clause-too_long : goal.returns-in_err-step-in-Url-clause-too_long
returns-in_err-step-in-Url-clause-too_long c = λ e a s code h.
    let refused : c.away.result ≡ Err TooLong = search rules in
    ap (λ t. settled (error_page a s code (shown_seen c.args.rule.now.shown) (target_seen t)) c.args.vars.now) c.in-Url.is
    ∙ nexts.away_too_long c.args.main.now c.args.request.now c.args.vars.now a s code c.args.rule.now.shown h c.fit_value_settles.ensures _ (c.away.ensures.too_long refused)

pub returns-in_ok-from_slice-in-Location-clause-page : goal.returns-in_ok-from_slice-in-Location-clause-page
returns-in_ok-from_slice-in-Location-clause-page c = λ a s code h.
    ap (λ t. settled (error_page a s code (shown_seen c.args.rule.now.shown) (target_seen t)) c.args.vars.now) c.in-Location.is
    ∙ nexts.goes_to_named c.args.main.now c.args.request.now c.args.vars.now a s code c.args.rule.now.shown h c.in-Location.name c.in_ok-from_slice-in-Location.field-0 (c.in_ok-from_slice-in-Location.ensures ∙ c.as_slice.ensures)

pub returns-in_err-step-in-Path-clause-unfit : goal.returns-in_err-step-in-Path-clause-unfit
returns-in_err-step-in-Path-clause-unfit c = λ e.
    let refused : c.inside.result ≡ Err TooLong = search rules in
    subst (λ t. IsTooLong c.args.main.now c.args.request.now c.args.vars.now (target_seen t)) (sym c.in-Path.is) (c.inside.ensures.too_long refused)

pub returns-in_err-step-in-Url-clause-unfit : goal.returns-in_err-step-in-Url-clause-unfit
returns-in_err-step-in-Url-clause-unfit c = λ e.
    let refused : c.away.result ≡ Err TooLong = search rules in
    subst (λ t. IsTooLong c.args.main.now c.args.request.now c.args.vars.now (target_seen t)) (sym c.in-Url.is) (c.away.ensures.too_long refused)
