use Rattle.std.proofs.Common.{length}
use Rattle.conf_values.specs.TextSet.{holds}
use Rattle.conf_block.specs.Forest.{forest_of}
use Rattle.conf_inherit.specs.Pools.{values_by, named_built}
use Rattle.conf_inherit.specs.Built.{named_in}
use Rattle.conf_inherit.proofs.SiteLaws.{SoFar}
use Rattle.conf_inherit.proofs.site.named_in.Given as goal

-- the locations so far, and those that are left
abbrev pub invariant-loop-branch : goal.invariant-loop-branch
invariant-loop-branch g l =
    SoFar (λ b n. named_built b n) l.fn.pool.levels.items l.pool.levels.items l.fn.pool.shelf l.pool.shelf l.named.items
    (named_in (holds l.known.keys) (values_by l.outer) (forest_of l.rest)) (named_in (holds l.known.keys) (values_by l.outer) (forest_of l.server))

abbrev pub decreases-loop-branch : goal.decreases-loop-branch
decreases-loop-branch g l = length l.rest
