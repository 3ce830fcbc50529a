use Rattle.std.proofs.Common.{◌≡◌, length}
use Rattle.request_meaning.specs.Cuts.{ends_in_question}
use Rattle.rewrite_code.proofs.target.ends_in_question.Given as goal

abbrev pub invariant-loop-rest : goal.invariant-loop-rest
invariant-loop-rest l = ends_in_question l.rest ≡ ends_in_question l.pieces

abbrev pub decreases-loop-rest : goal.decreases-loop-rest
decreases-loop-rest l = length l.rest
