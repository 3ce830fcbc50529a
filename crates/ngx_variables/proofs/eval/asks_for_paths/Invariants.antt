use Rattle.std.proofs.Common.{◌≡◌, drop}
use Rattle.ngx_variables.specs.Texts.{asks_for_paths}
use Rattle.ngx_variables.proofs.eval.asks_for_paths.Given as goal

abbrev pub invariant-loop-piece : goal.invariant-loop-piece
invariant-loop-piece l = asks_for_paths (drop l.piece-index l.pieces) ≡ asks_for_paths l.pieces
