use Rattle.std.proofs.Common.{[], ◌∷◌, map, refl, arith}
use Rattle.conf_values.specs.TextSet.{holds}
use Rattle.conf_block.specs.Forest.{forest_of}
use Rattle.race_places.specs.Places.{level_by}
use Rattle.conf_races.specs.Origins.{outer_by, location_level, locations_in}
use Rattle.conf_races.proofs.GrowLaws.{grows_none, grows_both}
use Rattle.conf_races.proofs.LineLaws.{pushed, two_more, none_left}
use Rattle.conf_races.proofs.ServerLaws.{locations_here, locations_none}
use Rattle.conf_races.proofs.server.+push_locations.Goals as goal

pub push_locations-requires : goal.push_locations-requires
push_locations-requires t c = omega (arith, c.in-Some.ensures.block, c.loop-branch.invariant.1)

pub loop-branch-init : goal.loop-branch-init
loop-branch-init t c = (λ later g. refl, omega arith, grows_none c.args.lists.now.items)

pub loop-branch-preserved : goal.loop-branch-preserved
loop-branch-preserved t c =
    let known = holds c.args.known.now.keys in
    let block = forest_of c.in-Some.branch.block.now in
    let start = c.args.lists.now.items in
    let now = c.loop-branch.lists.items in
    let one = c.outer_over.new.lists.items in
    let two = c.location_level.new.lists.items in
    let last = c.push_locations.new.lists.items in
    let more = c.in_ok-push_locations.ensures.grows in (
      λ later g.
          let outer = outer_by later c.args.outer in
          let inner = outer_by later c.in_ok-inner.inner in
          let behind = grows_both two last later more g in
          let before = grows_both one two later c.in_ok-location_level.ensures.grows behind in
          two_more (map (level_by later) c.loop-branch.levels.items) (map (level_by later) c.push.new.self.items) (map (level_by later) c.push_locations.new.levels.items) (location_level known inner block ∷ []) (locations_in known inner block) _ _ _
          (pushed (level_by later) c.loop-branch.levels.items c.push.new.self.items c.in_ok-location_level.field-0 (location_level known inner block) c.in_ok-push.ensures.items (c.in_ok-location_level.ensures.lines later behind))
          (c.in_ok-push_locations.ensures.lines later g)
          (locations_here known outer (forest_of c.loop-branch.rest.now) c.in-Some.branch.directive.now block (forest_of c.in-Some.branch.beside.now) inner c.in-Some.ensures.forest c.in-Some.ensures.found (c.in_ok-inner.ensures.lines later before))
          (c.loop-branch.invariant.0 later (grows_both now one later c.in_ok-inner.ensures.grows before)),
      omega (arith, c.in-Some.ensures.beside, c.loop-branch.invariant.1),
      grows_both start two last (grows_both start one two (grows_both start now one c.loop-branch.invariant.2 c.in_ok-inner.ensures.grows) c.in_ok-location_level.ensures.grows) more,
    )

pub returns-clause-grows : goal.returns-clause-grows
returns-clause-grows t c = c.loop-branch.invariant.2

pub returns-clause-lines : goal.returns-clause-lines
returns-clause-lines t c = λ later g.
    none_left (map (level_by later) c.loop-branch.levels.items) _ _ (locations_none (holds c.args.known.now.keys) (outer_by later c.args.outer) (forest_of c.loop-branch.rest.now) c.in_default.ensures.forest) (c.loop-branch.invariant.0 later g)
