use Rattle.std.proofs.Common.{◌-◌, ◌≤◌, length}
use Rattle.location_match.specs.Shared.{shared}
use Rattle.location_match.proofs.prefixes.shared_from.Given as goal

abbrev pub invariant-loop-at : goal.invariant-loop-at
invariant-loop-at l = l.at ≤ shared l.text l.path

abbrev pub decreases-loop-at : goal.decreases-loop-at
decreases-loop-at l = length l.text - l.at
