use Rattle.std.proofs.Common.{◌≤◌, length, drop}
use Rattle.conf_include.specs.Steps.{IsRow}
use Rattle.conf_include.proofs.mask.matches.Given as goal

abbrev pub invariant-loop-at : goal.invariant-loop-at
invariant-loop-at l = (l.at ≤ length l.mask) × IsRow (drop l.at l.mask) l.name l.row

abbrev pub decreases-loop-at : goal.decreases-loop-at
decreases-loop-at l = l.at
