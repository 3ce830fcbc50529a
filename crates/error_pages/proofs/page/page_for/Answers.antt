use Rattle.std.proofs.Common.{◌≡◌, true, false, not, is_some, Err, map, ap, sym, subst, ◌∙◌, rules}
use Rattle.target_text.specs.ngx_variables.declared.fault.EvalFault.TheVariants.{TooLong}
use Rattle.site_whole.specs.Whole.{page_seen}
use Rattle.error_pages.specs.Pages.{applies, IsTooLongBy}
use Rattle.error_pages.proofs.Nexts as nexts
use Rattle.error_pages.proofs.Rules as rule
use Rattle.error_pages.proofs.page.page_for.Goals as goal

pub returns-then-not-may_apply-clause-page : goal.returns-then-not-may_apply-clause-page
returns-then-not-may_apply-clause-page c = λ a s f.
    let shut : applies c.args.handling.changes c.args.handling.used c.args.handling.recursive ≡ false = search rules in
    nexts.fails_closed c.args.main.now c.args.request.now _ c.args.code c.args.handling.changes c.args.handling.used c.args.handling.recursive a s f c.args.vars.now shut

pub returns-then-not-may_apply-clause-none : goal.returns-then-not-may_apply-clause-none
returns-then-not-may_apply-clause-none c =
    let shut : applies c.args.handling.changes c.args.handling.used c.args.handling.recursive ≡ false = search rules in
    sym (ap not (rule.none_applies (map page_seen c.args.rules.now) c.args.code c.args.handling.changes c.args.handling.used c.args.handling.recursive shut))

pub returns-in-None-clause-page : goal.returns-in-None-clause-page
returns-in-None-clause-page c = λ a s f.
    let free : applies c.args.handling.changes c.args.handling.used c.args.handling.recursive ≡ true = search rules in
    nexts.fails_unnamed c.args.main.now c.args.request.now _ c.args.code c.args.handling.changes c.args.handling.used c.args.handling.recursive a s f c.args.vars.now free (sym c.in-None.ensures)

pub returns-in-None-clause-none : goal.returns-in-None-clause-none
returns-in-None-clause-none c =
    let free : applies c.args.handling.changes c.args.handling.used c.args.handling.recursive ≡ true = search rules in
    ap is_some c.in-None.ensures ∙ rule.one_applies (map page_seen c.args.rules.now) c.args.code c.args.handling.changes c.args.handling.used c.args.handling.recursive free

pub returns-in_ok-step-in-Some-clause-page : goal.returns-in_ok-step-in-Some-clause-page
returns-in_ok-step-in-Some-clause-page c = λ a s f.
    let free : applies c.args.handling.changes c.args.handling.used c.args.handling.recursive ≡ true = search rules in
    nexts.fails_named c.args.main.now c.args.request.now _ c.args.code c.args.handling.changes c.args.handling.used c.args.handling.recursive a s f c.args.vars.now (page_seen c.in-Some.rule.now) _ free (sym c.in-Some.ensures)
    (c.in_ok-step-in-Some.ensures.page a s c.args.code f.error)

pub returns-in_ok-step-in-Some-clause-none : goal.returns-in_ok-step-in-Some-clause-none
returns-in_ok-step-in-Some-clause-none c =
    let free : applies c.args.handling.changes c.args.handling.used c.args.handling.recursive ≡ true = search rules in
    ap is_some c.in-Some.ensures ∙ rule.one_applies (map page_seen c.args.rules.now) c.args.code c.args.handling.changes c.args.handling.used c.args.handling.recursive free

pub returns-in_err-step-in-Some-clause-too_long : goal.returns-in_err-step-in-Some-clause-too_long
returns-in_err-step-in-Some-clause-too_long c = λ e a s f.
    let free : applies c.args.handling.changes c.args.handling.used c.args.handling.recursive ≡ true = search rules in
    let refused : c.page_by.result ≡ Err TooLong = search rules in
    nexts.fails_named c.args.main.now c.args.request.now _ c.args.code c.args.handling.changes c.args.handling.used c.args.handling.recursive a s f c.args.vars.now (page_seen c.in-Some.rule.now) _ free (sym c.in-Some.ensures)
    (c.page_by.ensures.too_long refused a s c.args.code f.error)

pub returns-in_err-step-in-Some-clause-some : goal.returns-in_err-step-in-Some-clause-some
returns-in_err-step-in-Some-clause-some c = λ e.
    let free : applies c.args.handling.changes c.args.handling.used c.args.handling.recursive ≡ true = search rules in
    rule.there_is (map page_seen c.args.rules.now) c.args.code c.args.handling.changes c.args.handling.used c.args.handling.recursive (page_seen c.in-Some.rule.now) free (sym c.in-Some.ensures)

pub returns-in_err-step-in-Some-clause-unfit : goal.returns-in_err-step-in-Some-clause-unfit
returns-in_err-step-in-Some-clause-unfit c = λ e.
    let refused : c.page_by.result ≡ Err TooLong = search rules in
    subst (λ r. IsTooLongBy c.args.main.now c.args.request.now c.args.vars.now r) c.in-Some.ensures (c.page_by.ensures.unfit refused)
