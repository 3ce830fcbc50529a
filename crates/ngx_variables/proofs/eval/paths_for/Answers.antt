use Rattle.std.proofs.Common.{◌≡◌, true, false, Err, ◌∙◌, ap, rules}
use Rattle.ngx_variables.specs.declared.fault.EvalFault.TheVariants.{TooLong}
use Rattle.ngx_variables.specs.Texts.{pieces_text, asks_for_paths}
use Rattle.ngx_variables.proofs.Evals as evals
use Rattle.ngx_variables.proofs.eval.paths_for.Goals as goal

pub returns-in-None-clause-ok : goal.returns-in-None-clause-ok
returns-in-None-clause-ok c =
    ap (λ p. pieces_text p c.args.main.now c.args.request.now c.args.vars.now c.args.pieces.now) c.none.ensures
    ∙ evals.value_nowhere c.args.main.now c.args.request.now c.args.vars.now c.args.pieces.now c.in-None.is

pub returns-then-not-asks_for_paths-clause-ok : goal.returns-then-not-asks_for_paths-clause-ok
returns-then-not-asks_for_paths-clause-ok c =
    let unasked : asks_for_paths c.args.pieces.now ≡ false = search rules in
    ap (λ p. pieces_text p c.args.main.now c.args.request.now c.args.vars.now c.args.pieces.now) c.none-then-not-asks_for_paths.ensures
    ∙ evals.value_unasked c.args.main.now c.args.request.now c.args.vars.now c.args.pieces.now unasked

pub returns-in_ok-paths-in-Some-clause-ok : goal.returns-in_ok-paths-in-Some-clause-ok
returns-in_ok-paths-in-Some-clause-ok c =
    ap (λ p. pieces_text p c.args.main.now c.args.request.now c.args.vars.now c.args.pieces.now) c.in_ok-paths-in-Some.ensures.ok
    ∙ evals.value_there c.args.main.now c.args.request.now c.args.vars.now c.in-Some.place c.args.pieces.now c.in-Some.is

pub returns-in_err-paths-in-Some-clause-too_long : goal.returns-in_err-paths-in-Some-clause-too_long
returns-in_err-paths-in-Some-clause-too_long c = λ e.
    let asked : asks_for_paths c.args.pieces.now ≡ true = search rules in
    let refused : c.paths_at.result ≡ Err TooLong = search rules in
    evals.value_too_long c.args.main.now c.args.request.now c.args.vars.now c.in-Some.place c.args.pieces.now c.in-Some.is asked (c.paths_at.ensures.too_long refused)
