use Rattle.std.proofs.Common.{◌≡◌, ◌++◌, Err, ap, ◌∙◌, rules}
use Rattle.target_text.specs.ngx_variables.declared.fault.EvalFault.TheVariants.{TooLong}
use Rattle.target_text.specs.ngx_variables.Texts.{value_text}
use Rattle.site_whole.specs.Whole.{shown_seen}
use Rattle.request_meaning.specs.Errors.{url_code}
use Rattle.error_pages.specs.declared.page.PageStep.TheVariants.{Url}
use Rattle.error_pages.proofs.Nexts as nexts
use Rattle.error_pages.proofs.page.away.Goals as goal

pub returns-clause-ok : goal.returns-clause-ok
returns-clause-ok c =
    let value = value_text c.args.main.now c.args.request.now c.args.vars.now c.args.text.now in
    let all : c.eval.new.out ≡ value = c.in_ok-eval.ensures.ok ∙ ap (λ w. w ++ value) c.new-to.ensures in
    nexts.away_by c.args.shown _ value _ (nexts.fits value c.in_ok-eval.ensures.fits) (ap (λ code. Url code c.eval.new.out) c.url_code.ensures ∙ ap (λ to. Url (url_code (shown_seen c.args.shown)) to) all)

pub returns-in_err-eval-clause-too_long : goal.returns-in_err-eval-clause-too_long
returns-in_err-eval-clause-too_long c = λ e.
    let refused : c.eval.result ≡ Err TooLong = search rules in
    nexts.unfit _ (c.eval.ensures.too_long refused)
