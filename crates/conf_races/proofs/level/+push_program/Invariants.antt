use Rattle.std.proofs.Common.{◌≡◌, ◌≤◌, ◌++◌, length}
use Rattle.conf_values.specs.TextSet.{holds}
use Rattle.conf_block.specs.Forest.{forest_of}
use Rattle.conf_races.specs.Origins.{program_lines}
use Rattle.conf_races.proofs.level.+push_program.Given as goal

abbrev pub decreases-push_program : goal.decreases-push_program
decreases-push_program l = length l.level.now

abbrev pub invariant-loop-branch : goal.invariant-loop-branch
invariant-loop-branch l =
    (l.lines.items ++ program_lines (holds l.known.keys) (forest_of l.rest) ≡ l.fn.lines.items ++ program_lines (holds l.known.keys) (forest_of l.level))
    × (length l.rest ≤ length l.level)

abbrev pub decreases-loop-branch : goal.decreases-loop-branch
decreases-loop-branch l = length l.rest
