use Rattle.std.proofs.Common.{◌≡◌, [], ◌∷◌, take, drop, sym, ◌∙◌, ap, arith}
use Rattle.std.proofs.lemmas.Grind.{common_steps}
use Rattle.ngx_variables.specs.declared.value.Piece.TheVariants.{Literal}
use Rattle.ngx_variables.specs.Grammar.{compiled, with_pieces}
use Rattle.ngx_variables.proofs.Tokens as tokens
use Rattle.ngx_variables.proofs.compile.read_literal.Goals as goal

pub returns-clause-ok : goal.returns-clause-ok
returns-clause-ok c =
    let text = c.args.text.now in
    let n = c.literal_size-size.result in
    let bytes : c.in_ok-bytes.bytes ≡ take n text = grind (arith, common_steps) in
    tokens.literal_read text n c.requires.0 c.requires.1 c.literal_size-size.ensures.value
    ∙ ap (λ b. with_pieces (Literal b ∷ []) (compiled (drop n text))) (sym bytes)
