use Rattle.std.proofs.Common.{◌≤◌, length}
use Rattle.conf_values.specs.TextSet.{holds}
use Rattle.conf_block.specs.Forest.{forest_of}
use Rattle.conf_inherit.specs.Pools.{Added, values_by}
use Rattle.conf_inherit.specs.Built.{locations_in}
use Rattle.conf_inherit.proofs.site.+add_locations.Given as goal

abbrev pub decreases-add_locations : goal.decreases-add_locations
decreases-add_locations g l = length l.level.now

-- the locations so far, and those that are left
abbrev pub invariant-loop-branch : goal.invariant-loop-branch
invariant-loop-branch g l =
    Added (values_by l.around.values) l.around.depth l.fn.pool.levels.items l.pool.levels.items l.fn.pool.shelf l.pool.shelf l.fn.locations.items l.locations.items
    (locations_in (holds l.known.keys) (values_by l.around.values) (forest_of l.rest)) (locations_in (holds l.known.keys) (values_by l.around.values) (forest_of l.level))
    × (length l.rest ≤ length l.level)

abbrev pub decreases-loop-branch : goal.decreases-loop-branch
decreases-loop-branch g l = length l.rest
