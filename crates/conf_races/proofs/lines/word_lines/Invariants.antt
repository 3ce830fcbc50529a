use Rattle.std.proofs.Common.{◌≡◌, ◌++◌, length, flat_map}
use Rattle.conf_block.specs.Forest.{forest_of}
use Rattle.conf_block.specs.Blocks.{blocks_of}
use Rattle.conf_races.specs.Origins.{word_lines}
use Rattle.conf_races.proofs.lines.word_lines.Given as goal

abbrev pub invariant-loop-branch : goal.invariant-loop-branch
invariant-loop-branch l = l.lines.items ++ flat_map word_lines (blocks_of l.name (forest_of l.rest)) ≡ flat_map word_lines (blocks_of l.name (forest_of l.level))

abbrev pub decreases-loop-branch : goal.decreases-loop-branch
decreases-loop-branch l = length l.rest
