use Rattle.std.proofs.Common.{◌≡◌, ◌++◌, length}
use Rattle.std.specs.Prelude.{codes}
use Rattle.conf_block.specs.Forest.{forest_of}
use Rattle.conf_inherit.specs.Values.{all_entries}
use Rattle.conf_block.specs.Blocks.{blocks_of}
use Rattle.conf_inherit.proofs.entries.stated_entries.Given as goal

-- the entries so far, and those of the blocks that are left
abbrev pub invariant-loop-branch : goal.invariant-loop-branch
invariant-loop-branch l = l.entries.items ++ all_entries (blocks_of (codes "types") (forest_of l.rest)) ≡ all_entries (blocks_of (codes "types") (forest_of l.level))

abbrev pub decreases-loop-branch : goal.decreases-loop-branch
decreases-loop-branch l = length l.rest
