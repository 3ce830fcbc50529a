use Rattle.std.proofs.Common.{◌≡◌, ap, ◌∙◌, arith}
use Rattle.conf_values.specs.TextSet.{holds}
use Rattle.conf_block.specs.Forest.{forest_of}
use Rattle.conf_block.specs.Locations.{alias_prefix}
use Rattle.conf_inherit.specs.Values.{stated, over}
use Rattle.conf_inherit.specs.Pools.{values_by}
use Rattle.conf_inherit.specs.Built.{location_with, locations_in, inner_values}
use Rattle.conf_inherit.proofs.SiteLaws.{keeps-same, keeps-then, all-then, fits-later, locations-none, locations-by, added-none, added-more, added-end}
use Rattle.conf_inherit.proofs.site.+add_locations.Goals as goal

pub loop-branch-init : goal.loop-branch-init
loop-branch-init g t c = (added-none _ _ _ _ _ _, omega arith)

pub inner-requires : goal.inner-requires
inner-requires g t c = fits-later _ _ c.args.around.values c.loop-branch.invariant.0.shelf_kept c.requires

pub location_of-requires : goal.location_of-requires
location_of-requires g t c = c.in_ok-values.ensures.there

pub loop-branch-preserved : goal.loop-branch-preserved
loop-branch-preserved g t c =
    let known = holds c.args.known.now.keys in
    let outer = values_by c.args.around.values in
    let v = values_by c.in_ok-values.values in
    let d = c.in-Some.branch.directive.now in
    let block = forest_of c.in-Some.branch.block.now in
    let within : v ≡ inner_values outer d block =
    c.in_ok-values.ensures.values ∙ ap (λ p. over (stated p block) outer) (c.alias_prefix-prefix.ensures ∙ ap alias_prefix c.as_slice.ensures) in (
      added-more c.loop-branch.invariant.0 v c.in_ok-deeper.deeper _ _ _ _ _ _ c.in_ok-location.location (location_with known v d block) (locations_in known v block)
          (locations_in known outer (forest_of c.in-Some.branch.beside.now))
          (keeps-then _ _ _ (keeps-same _ _ c.in_ok-values.ensures.levels) c.in_ok-location.ensures.levels)
          (all-then _ _ _ c.in_ok-values.ensures.shelf c.in_ok-location.ensures.shelf)
          c.in_ok-push.ensures.items c.in_ok-location.ensures.depth c.in_ok-deeper.ensures
          (locations-by known outer v _ d block _ c.in-Some.ensures.forest c.in-Some.ensures.found within) c.in_ok-location.ensures.seen c.in_ok-add_locations.ensures,
      omega (arith, c.in-Some.ensures.beside),
    )

pub returns : goal.returns
returns g t c = added-end c.loop-branch.invariant.0 (locations-none _ _ _ c.in_default.ensures.forest)
