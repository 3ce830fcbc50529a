use Rattle.std.proofs.Common.{◌≤◌, length}
use Rattle.conf_values.specs.TextSet.{holds}
use Rattle.conf_block.specs.Forest.{forest_of}
use Rattle.conf_inherit.specs.Programs.{blocks_in}
use Rattle.conf_inherit.specs.Pools.{values_by}
use Rattle.conf_inherit.proofs.LevelLaws.{BlocksSoFar}
use Rattle.conf_inherit.proofs.site.+add_blocks.Given as goal

abbrev pub decreases-add_blocks : goal.decreases-add_blocks
decreases-add_blocks l = length l.level.now

-- the blocks so far, and those that are left
abbrev pub invariant-loop-branch : goal.invariant-loop-branch
invariant-loop-branch l =
    BlocksSoFar (values_by l.values) l.fn.pool.levels.items l.pool.levels.items l.fn.pool.shelf l.pool.shelf
    (blocks_in (holds l.known.keys) (forest_of l.rest)) (blocks_in (holds l.known.keys) (forest_of l.level))
    × (length l.rest ≤ length l.level)

abbrev pub decreases-loop-branch : goal.decreases-loop-branch
decreases-loop-branch l = length l.rest
