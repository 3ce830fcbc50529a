use Rattle.std.proofs.Common.{ap, ◌∙◌}
use Rattle.conf_block.specs.Forest.{forest_of}
use Rattle.conf_inherit.specs.Pools.{values_by, level_by}
use Rattle.conf_inherit.proofs.SiteLaws.{fits-same}
use Rattle.conf_inherit.proofs.LevelLaws.{block-added, blocks-if, blocks-if-not}
use Rattle.conf_inherit.proofs.site.add_block.Goals as goal

pub returns-then-not-is_if : goal.returns-then-not-is_if
returns-then-not-is_if c = blocks-if-not (values_by c.args.values) c.args.pool.now.levels.items c.args.pool.now.shelf c.args.is_if (forest_of c.args.block.now) c.if-not-is_if.true

pub returns : goal.returns
returns c =
    blocks-if (values_by c.args.values) c.args.pool.now.levels.items c.add_level.new.self.levels.items c.args.pool.now.shelf c.add_level.new.self.shelf c.args.is_if (forest_of c.args.block.now) c.if-not-is_if.false
    (block-added (values_by c.args.values) c.in_ok-inner.inner c.args.pool.now.levels.items c.inner.new.self.levels.items c.add_level.new.self.levels.items c.args.pool.now.shelf c.inner.new.self.shelf c.add_level.new.self.shelf c.in_ok-_number._number (forest_of c.args.block.now) c.in_ok-made.made
    c.in_ok-inner.ensures.values c.in_ok-inner.ensures.levels c.in_ok-inner.ensures.shelf c.in_ok-inner.ensures.there
    (c.in_ok-made.ensures.values ∙ ap (λ p. level_by (values_by c.in_ok-inner.inner) c.in_ok-inner.inner.types c.in_ok-inner.inner.lists c.in_ok-made.made.tries p) c.new.ensures) c.in_ok-made.ensures.tries c.in_ok-_number.ensures.there c.in_ok-_number.ensures.levels c.in_ok-_number.ensures.number c.in_ok-_number.ensures.count c.in_ok-_number.ensures.shelf
    (fits-same _ _ c.in_ok-inner.inner c.in_ok-_number.ensures.shelf c.in_ok-inner.ensures.there))
