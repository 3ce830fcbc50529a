use Rattle.std.proofs.Common.{◌≡◌, drop, is_some}
use Rattle.request_meaning.specs.Cuts.{cut}
use Rattle.rewrite_code.proofs.target.has_question.Given as goal

abbrev pub invariant-loop-piece : goal.invariant-loop-piece
invariant-loop-piece l = is_some (cut (drop l.piece-index l.pieces)).args ≡ is_some (cut l.pieces).args
