use Rattle.std.proofs.Common.{arith}
use Rattle.conf_values.specs.TextSet.{holds}
use Rattle.conf_inherit.specs.Pools.{values_by}
use Rattle.conf_inherit.proofs.SiteLaws.{fits-later}
use Rattle.conf_inherit.proofs.LevelLaws.{blocks-begin, blocks-more, blocks-over}
use Rattle.conf_inherit.proofs.site.+add_blocks.Goals as goal

pub loop-branch-init : goal.loop-branch-init
loop-branch-init t c = (blocks-begin _ _ _ _, omega arith)

pub add_block-requires : goal.add_block-requires
add_block-requires t c = fits-later _ _ c.args.values c.loop-branch.invariant.0.added.shelf_kept c.requires

pub add_blocks-requires : goal.add_blocks-requires
add_blocks-requires t c = (
  omega (arith, c.block_if.ensures.len, c.in-Some.ensures.block, c.loop-branch.invariant.1),
  fits-later _ _ c.args.values c.in_ok-add_block.ensures.shelf_kept (fits-later _ _ c.args.values c.loop-branch.invariant.0.added.shelf_kept c.requires),
)

pub loop-branch-preserved : goal.loop-branch-preserved
loop-branch-preserved t c = (
  blocks-more (holds c.args.known.now.keys) (values_by c.args.values) _ _ _ _ _ _ _ _ _ c.in-Some.branch.directive.now _ _ _ c.in_ok-is_if.is_if _
      c.loop-branch.invariant.0 c.in-Some.ensures.forest c.in_ok-is_if.ensures c.in_ok-add_block.ensures (c.block_if.ensures.blocks (holds c.args.known.now.keys)) c.in_ok-add_blocks.ensures,
  omega (arith, c.in-Some.ensures.beside),
)

pub returns : goal.returns
returns t c = blocks-over (holds c.args.known.now.keys) (values_by c.args.values) _ _ _ _ _ _ c.loop-branch.invariant.0 c.in_default.ensures.forest
