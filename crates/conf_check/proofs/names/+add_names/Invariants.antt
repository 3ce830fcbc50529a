use Rattle.std.proofs.Common.{◌≤◌, length}
use Rattle.conf_values.specs.TextSet.{holds}
use Rattle.conf_block.specs.Forest.{forest_of}
use Rattle.conf_check.proofs.NamesLaws.{StillSet}
use Rattle.conf_check.proofs.names.+add_names.Given as goal

abbrev pub decreases-add_names : goal.decreases-add_names
decreases-add_names l = length l.level.now

-- the names so far, and those of the directives that are left
abbrev pub invariant-loop-branch : goal.invariant-loop-branch
invariant-loop-branch l = StillSet (holds l.fn.names.keys) (holds l.names.keys) l.here (forest_of l.rest) (forest_of l.level) × (length l.rest ≤ length l.level)

abbrev pub decreases-loop-branch : goal.decreases-loop-branch
decreases-loop-branch l = length l.rest
