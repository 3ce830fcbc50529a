use Rattle.std.proofs.Common.{◌≡◌, ◌++◌, drop}
use Rattle.ngx_variables.proofs.value.copies.Given as goal

abbrev pub invariant-loop-piece : goal.invariant-loop-piece
invariant-loop-piece l = l.all.items ++ drop l.piece-index l.pieces ≡ l.pieces
