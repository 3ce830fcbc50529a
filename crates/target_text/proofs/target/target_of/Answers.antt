use Rattle.std.proofs.Common.{◌≡◌, true, false, Err, ◌++◌, is_some, sym, ◌∙◌, ap, rules}
use Rattle.ngx_variables.specs.declared.fault.EvalFault.TheVariants.{TooLong}
use Rattle.ngx_variables.specs.Texts.{value_text}
use Rattle.request_meaning.specs.Cuts.{cut}
use Rattle.target_text.proofs.Divides as divides
use Rattle.target_text.proofs.target.target_of.Goals as goal

pub returns-in_err-eval-clause-too_long : goal.returns-in_err-eval-clause-too_long
returns-in_err-eval-clause-too_long c = λ e.
    let refused : c.eval.result ≡ Err TooLong = search rules in
    divides.is_unfit c.args.main.now c.args.request.now c.args.vars.now c.args.text.now (c.eval.ensures.too_long refused)

pub returns-then-not-has_question-clause-ok : goal.returns-then-not-has_question-clause-ok
returns-then-not-has_question-clause-ok c =
    let value = value_text c.args.main.now c.args.request.now c.args.vars.now c.args.text.now in
    let all : c.eval.new.out ≡ value = c.in_ok-eval.ensures.ok ∙ ap (λ w. w ++ value) c.new-whole.ensures in
    let none : is_some (cut c.pieces.result.now).args ≡ false = search rules in
    divides.found_alone c.args.main.now c.args.request.now c.args.vars.now c.args.text.now c.pieces.result.now c.pieces.ensures c.eval.new.out all c.in_ok-eval.ensures.fits none

pub returns-in_err-at-clause-too_long : goal.returns-in_err-at-clause-too_long
returns-in_err-at-clause-too_long c = λ e.
    let value = value_text c.args.main.now c.args.request.now c.args.vars.now c.args.text.now in
    let all : c.eval.new.out ≡ value = c.in_ok-eval.ensures.ok ∙ ap (λ w. w ++ value) c.new-whole.ensures in
    let refused : c.path_len.result ≡ Err TooLong = search rules in
    divides.unfit_path c.args.main.now c.args.request.now c.args.vars.now c.args.text.now c.pieces-2.result.now c.pieces-2.ensures c.eval.new.out all (c.path_len.ensures.too_long refused)

pub divided-requires : goal.divided-requires
divided-requires c =
    let value = value_text c.args.main.now c.args.request.now c.args.vars.now c.args.text.now in
    let all : c.eval.new.out ≡ value = c.in_ok-eval.ensures.ok ∙ ap (λ w. w ++ value) c.new-whole.ensures in
    let had : is_some (cut c.pieces.result.now).args ≡ true = search rules in
    let some : is_some (cut c.pieces-2.result.now).args ≡ true = ap (λ t. is_some (cut t).args) (c.pieces-2.ensures ∙ sym c.pieces.ensures) ∙ had in
    divides.within c.args.main.now c.args.request.now c.args.vars.now c.args.text.now c.pieces-2.result.now c.pieces-2.ensures c.eval.new.out all c.in_ok-at.at c.in_ok-at.ensures.ok some

pub returns-clause-ok : goal.returns-clause-ok
returns-clause-ok c =
    let value = value_text c.args.main.now c.args.request.now c.args.vars.now c.args.text.now in
    let all : c.eval.new.out ≡ value = c.in_ok-eval.ensures.ok ∙ ap (λ w. w ++ value) c.new-whole.ensures in
    let had : is_some (cut c.pieces.result.now).args ≡ true = search rules in
    let some : is_some (cut c.pieces-2.result.now).args ≡ true = ap (λ t. is_some (cut t).args) (c.pieces-2.ensures ∙ sym c.pieces.ensures) ∙ had in
    divides.found_parts c.args.main.now c.args.request.now c.args.vars.now c.args.text.now c.pieces-2.result.now c.pieces-2.ensures c.eval.new.out all c.in_ok-eval.ensures.fits c.in_ok-at.at c.in_ok-at.ensures.ok some
    c.in_ok-target.target.path c.in_ok-target.target.args c.in_ok-target.ensures.path c.in_ok-target.ensures.args
