use Rattle.std.proofs.Common.{◌≡◌, ◌++◌, length, map}
use Rattle.conf_block.specs.Forest.{forest_of}
use Rattle.conf_block.specs.Blocks.{blocks_of}
use Rattle.conf_races.specs.Origins.{head_line}
use Rattle.conf_races.proofs.lines.directive_lines.Given as goal

abbrev pub invariant-loop-branch : goal.invariant-loop-branch
invariant-loop-branch l = l.lines.items ++ map head_line (blocks_of l.name (forest_of l.rest)) ≡ map head_line (blocks_of l.name (forest_of l.level))

abbrev pub decreases-loop-branch : goal.decreases-loop-branch
decreases-loop-branch l = length l.rest
