use Rattle.std.proofs.Common.{◌≡◌, true, length}
use Rattle.file_path.proofs.Clean.{are_clean}
use Rattle.file_path.proofs.locate.is_clean.Given as goal

abbrev pub invariant-loop-rest : goal.invariant-loop-rest
invariant-loop-rest l = are_clean l.rest ≡ true → are_clean l.path ≡ true

abbrev pub decreases-loop-rest : goal.decreases-loop-rest
decreases-loop-rest l = length l.rest
