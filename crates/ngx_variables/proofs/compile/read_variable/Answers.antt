use Rattle.std.proofs.Common.{◌≡◌, [], ◌∷◌, drop, sym, ◌∙◌, ap}
use Rattle.ngx_variables.specs.Grammar.{compiled, with_pieces, piece_named, lowercase, name_in}
use Rattle.ngx_variables.proofs.Tokens as tokens
use Rattle.ngx_variables.proofs.compile.read_variable.Goals as goal

pub returns-in-Err-clause-fault : goal.returns-in-Err-clause-fault
returns-in-Err-clause-fault c = tokens.fault_at c.args.text.now c.in-Err.fault (sym c.reference_at.ensures.value ∙ c.in-Err.is)

pub returns-clause-ok : goal.returns-clause-ok
returns-clause-ok c =
    let text = c.args.text.now in
    let piece : c.in_ok-piece.piece ≡ piece_named (lowercase (name_in text c.in-Ok.reference)) = c.in_ok-piece.ensures ∙ ap piece_named (c.in_ok-name.ensures ∙ ap lowercase c.name_in.ensures) in
    tokens.variable_read text c.in-Ok.reference (sym c.reference_at.ensures.value ∙ c.in-Ok.is)
    ∙ ap (λ p. with_pieces (p ∷ []) (compiled (drop c.in-Ok.reference.size text))) (sym piece)
