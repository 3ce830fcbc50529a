use Rattle.std.proofs.Common.{◌≡◌, length}
use Rattle.ngx_variables.specs.Grammar.{compiled, with_pieces}
use Rattle.ngx_variables.proofs.value.Value.compile.Given as goal

abbrev pub invariant-loop-rest : goal.invariant-loop-rest
invariant-loop-rest l = with_pieces l.pieces.items (compiled l.rest) ≡ compiled l.text

abbrev pub decreases-loop-rest : goal.decreases-loop-rest
decreases-loop-rest l = length l.rest
