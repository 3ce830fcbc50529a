use Rattle.std.proofs.Common.{map, ap, ◌∙◌, rules}
use Rattle.conf_values.specs.TextSet.{holds}
use Rattle.conf_block.specs.Forest.{forest_of}
use Rattle.conf_block.specs.Blocks.{block_with}
use Rattle.conf_inherit.specs.Pools.{values_by}
use Rattle.conf_inherit.specs.Built.{server_with, server_in}
use Rattle.conf_inherit.proofs.SiteLaws.{keeps-same, keeps-then, all-then, fits-later, so-far-begin, so-far-more, so-far-end}
use Rattle.conf_inherit.proofs.site.servers_of.Goals as goal

pub loop-branch-init : goal.loop-branch-init
loop-branch-init g c = so-far-begin _ _ _ _ _ (search rules)

pub inner-requires : goal.inner-requires
inner-requires g c = fits-later _ _ c.args.outer c.loop-branch.invariant.shelf_kept c.requires

pub server_of-requires : goal.server_of-requires
server_of-requires g c = c.in_ok-values.ensures.there

pub loop-branch-preserved : goal.loop-branch-preserved
loop-branch-preserved g c =
    so-far-more c.loop-branch.invariant _ _ _ c.in_ok-server_of.field-0
    (server_in (holds c.args.known.now.keys) (values_by c.args.outer) (block_with c.in-Some.branch.directive.now (forest_of c.in-Some.branch.block.now))) _
    (keeps-then _ _ _ (keeps-same _ _ c.in_ok-values.ensures.levels) c.in_ok-server_of.ensures.levels)
    (all-then _ _ _ c.in_ok-values.ensures.shelf c.in_ok-server_of.ensures.shelf) (search rules)
    (ap (map (server_in (holds c.args.known.now.keys) (values_by c.args.outer))) c.in-Some.ensures.blocks)
    (λ b h. c.in_ok-server_of.ensures.seen b h ∙ ap (λ v. server_with (holds c.args.known.now.keys) v (forest_of c.in-Some.branch.block.now)) c.in_ok-values.ensures.values)

pub returns : goal.returns
returns g c = λ b h. so-far-end c.loop-branch.invariant (ap (map (server_in (holds c.args.known.now.keys) (values_by c.args.outer))) c.in_default.ensures.blocks) b h
