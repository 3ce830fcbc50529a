use Rattle.std.proofs.Common.{map, length}
use Rattle.std.specs.Prelude.{codes}
use Rattle.conf_values.specs.TextSet.{holds}
use Rattle.conf_block.specs.Forest.{forest_of}
use Rattle.conf_block.specs.Blocks.{blocks_of}
use Rattle.conf_inherit.specs.Pools.{values_by, server_built}
use Rattle.conf_inherit.specs.Built.{server_in}
use Rattle.conf_inherit.proofs.SiteLaws.{SoFar}
use Rattle.conf_inherit.proofs.site.servers_of.Given as goal

-- the servers so far, and those that are left
abbrev pub invariant-loop-branch : goal.invariant-loop-branch
invariant-loop-branch g l =
    SoFar (λ b s. server_built b s) l.fn.pool.levels.items l.pool.levels.items l.fn.pool.shelf l.pool.shelf l.servers.items
    (map (server_in (holds l.known.keys) (values_by l.outer)) (blocks_of (codes "server") (forest_of l.rest))) (map (server_in (holds l.known.keys) (values_by l.outer)) (blocks_of (codes "server") (forest_of l.http)))

abbrev pub decreases-loop-branch : goal.decreases-loop-branch
decreases-loop-branch g l = length l.rest
