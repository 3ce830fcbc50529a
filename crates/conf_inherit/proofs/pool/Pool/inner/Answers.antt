use Rattle.std.proofs.Common.{Some, option_map, sym, ap, subst, ◌∙◌}
use Rattle.std.specs.List.{slice_get}
use Rattle.conf_block.specs.Forest.{forest_of}
use Rattle.conf_inherit.specs.Values.{Values}
use Rattle.conf_inherit.specs.Pools.{FitsLists, values_by}
use Rattle.conf_inherit.proofs.SiteLaws.{beside-around, entries-around, types-around, fits-around, lists-later, all-then}
use Rattle.conf_inherit.proofs.pool.Pool.inner.Goals as goal

pub returns-then-has_named-clause-there : goal.returns-then-has_named-clause-there
returns-then-has_named-clause-there c = record {
  types = c.in_ok-types.ensures.there ∙ ap Some c.in_ok-types_of.ensures;
  lists = lists-later _ _ c.stated_over-inner.result.lists c.in_ok-types.ensures.kept
      (subst (FitsLists c.share.new.shelf) (sym c.stated_over-inner.ensures.lists) c.in_ok-lists.ensures.fits);
}

pub returns-then-has_named-clause-shelf : goal.returns-then-has_named-clause-shelf
returns-then-has_named-clause-shelf c = all-then _ _ _ c.in_ok-lists.ensures.kept c.in_ok-types.ensures.kept

pub returns-then-not-has_named-clause-there : goal.returns-then-not-has_named-clause-there
returns-then-not-has_named-clause-there c =
    let around = types-around (option_map (λ t. t.now) c.args.prefix) (forest_of c.args.block.now) (values_by c.args.outer)
    (sym c.has_named.ensures ∙ c.if-has_named.false) (sym c.has_named-2.ensures ∙ c.if-not-has_named.true) in
    fits-around c.args.self.now.shelf c.share.new.shelf c.args.outer c.stated_over-inner.result c.in_ok-lists.ensures.types c.stated_over-inner.ensures.types
    (ap (λ (v : Values). v.types) c.stated_over-inner.ensures.values ∙ around) c.requires
    (subst (FitsLists c.share.new.shelf) (sym c.stated_over-inner.ensures.lists) c.in_ok-lists.ensures.fits)

pub types_beside-requires : goal.types_beside-requires
types_beside-requires c = λ types e.
    let around = entries-around (option_map (λ t. t.now) c.args.prefix) (forest_of c.args.block.now) (values_by c.args.outer)
    (sym c.has_named.ensures ∙ c.if-has_named.false) in
    beside-around c.args.self.now.shelf c.share.new.shelf c.args.outer c.stated_over-inner.result c.in_ok-lists.ensures.types c.stated_over-inner.ensures.types
    (ap (λ (v : Values). v.types.entries) c.stated_over-inner.ensures.values ∙ around) c.requires types (ap (λ ts. slice_get ts c.stated_over-inner.result.types) (sym c.as_slice.ensures.value) ∙ e)

pub returns-clause-there : goal.returns-clause-there
returns-clause-there c = record {
  types = c.in_ok-types-3.ensures.there ∙ ap Some c.in_ok-types-2.ensures;
  lists = lists-later _ _ c.stated_over-inner.result.lists c.in_ok-types-3.ensures.kept
      (subst (FitsLists c.share.new.shelf) (sym c.stated_over-inner.ensures.lists) c.in_ok-lists.ensures.fits);
}

pub returns-clause-shelf : goal.returns-clause-shelf
returns-clause-shelf c = all-then _ _ _ c.in_ok-lists.ensures.kept c.in_ok-types-3.ensures.kept
