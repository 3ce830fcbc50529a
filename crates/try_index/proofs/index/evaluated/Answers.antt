use Rattle.std.proofs.Common.{◌≡◌, ◌++◌, Some, Err, ap, ◌∙◌, sym, rules}
use Rattle.target_text.specs.ngx_variables.declared.fault.EvalFault.TheVariants.{TooLong}
use Rattle.target_text.specs.ngx_variables.Texts.{value_text}
use Rattle.try_index.proofs.Turns as turns
use Rattle.try_index.proofs.index.evaluated.Goals as goal

pub returns-clause-ok : goal.returns-clause-ok
returns-clause-ok c =
    let value = value_text c.args.main.now c.args.request.now c.args.vars.now c.args.text.now in
    let all : c.eval.new.out ≡ value = c.in_ok-eval.ensures.ok ∙ ap (λ w. w ++ value) c.new-bytes.ensures in
    turns.fits value c.in_ok-eval.ensures.fits ∙ ap (λ t. Some t) (sym all)

pub returns-in_err-eval-clause-too_long : goal.returns-in_err-eval-clause-too_long
returns-in_err-eval-clause-too_long c = λ e.
    let refused : c.eval.result ≡ Err TooLong = search rules in
    turns.unfit _ (c.eval.ensures.too_long refused)
