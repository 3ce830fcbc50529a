use Rattle.std.proofs.Common.{◌≡◌, length, Ok, sym, ◌∙◌, ap, arith}
use Rattle.std.proofs.lemmas.Bool.Decides.{nat_tests}
use Rattle.ngx_variables.proofs.Tokens as tokens
use Rattle.ngx_variables.proofs.value.Value.compile.Goals as goal

pub returns-clause-ok : goal.returns-clause-ok
returns-clause-ok c =
    let none : length c.loop-rest.rest.now ≡ 0 = grind (arith, nat_tests) in
    tokens.all_read c.loop-rest.pieces.items c.args.text.now c.loop-rest.rest.now c.loop-rest.invariant none ∙ ap Ok (sym c.in_ok-shared.ensures)
