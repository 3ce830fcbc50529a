use Rattle.std.proofs.Common.{◌≡◌, ◌≤◌, length}
use Rattle.file_path.specs.Located.{has_dots}
use Rattle.file_path.proofs.locate.has_dots.Given as goal

abbrev pub invariant-loop-at : goal.invariant-loop-at
invariant-loop-at l = (has_dots l.rest ≡ has_dots l.path) × (length l.rest ≤ length l.path)

abbrev pub decreases-loop-at : goal.decreases-loop-at
decreases-loop-at l = length l.rest
