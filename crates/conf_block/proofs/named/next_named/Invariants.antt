use Rattle.std.proofs.Common.{◌≡◌, ◌≤◌, length}
use Rattle.conf_block.specs.Forest.{forest_of}
use Rattle.conf_block.specs.Blocks.{blocks_of}
use Rattle.conf_block.proofs.named.next_named.Given as goal

-- the directives that are left decide
abbrev pub invariant-loop-branch : goal.invariant-loop-branch
invariant-loop-branch l = (blocks_of l.name (forest_of l.rest) ≡ blocks_of l.name (forest_of l.level)) × (length l.rest ≤ length l.level)

abbrev pub decreases-loop-branch : goal.decreases-loop-branch
decreases-loop-branch l = length l.rest
