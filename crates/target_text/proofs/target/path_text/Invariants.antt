use Rattle.std.proofs.Common.{◌≡◌, ◌++◌, drop}
use Rattle.request_meaning.specs.Cuts.{cut}
use Rattle.target_text.proofs.target.path_text.Given as goal

abbrev pub invariant-loop-piece : goal.invariant-loop-piece
invariant-loop-piece l = l.path.items ++ (cut (drop l.piece-index l.pieces)).path ≡ (cut l.pieces).path
