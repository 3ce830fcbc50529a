use Rattle.std.proofs.Common.{[], ◌∷◌, map, refl}
use Rattle.conf_values.specs.TextSet.{holds}
use Rattle.conf_block.specs.Forest.{forest_of}
use Rattle.race_places.specs.Places.{level_by}
use Rattle.conf_races.specs.Origins.{outer_by, location_level}
use Rattle.conf_races.proofs.GrowLaws.{grows_none, grows_both}
use Rattle.conf_races.proofs.LineLaws.{pushed, one_more, none_left}
use Rattle.conf_races.proofs.ServerLaws.{named_here, named_none}
use Rattle.conf_races.proofs.server.push_named.Goals as goal

pub loop-branch-init : goal.loop-branch-init
loop-branch-init c = (λ later g. refl, grows_none c.args.lists.now.items)

pub loop-branch-preserved : goal.loop-branch-preserved
loop-branch-preserved c =
    let known = holds c.args.known.now.keys in
    let block = forest_of c.in-Some.branch.block.now in
    let start = c.args.lists.now.items in
    let now = c.loop-branch.lists.items in
    let one = c.outer_over.new.lists.items in
    let last = c.location_level.new.lists.items in
    let more = c.in_ok-location_level.ensures.grows in (
      λ later g.
          let outer = outer_by later c.args.outer in
          let inner = outer_by later c.in_ok-inner.inner in
          let before = grows_both one last later more g in
          one_more (map (level_by later) c.loop-branch.levels.items) (map (level_by later) c.push.new.self.items) (location_level known inner block ∷ []) _ _ _
          (pushed (level_by later) c.loop-branch.levels.items c.push.new.self.items c.in_ok-location_level.field-0 (location_level known inner block) c.in_ok-push.ensures.items (c.in_ok-location_level.ensures.lines later g))
          (named_here known outer (forest_of c.loop-branch.rest.now) c.in-Some.branch.directive.now block (forest_of c.in-Some.branch.beside.now) inner c.in-Some.ensures.forest c.in-Some.ensures.found (c.in_ok-inner.ensures.lines later before))
          (c.loop-branch.invariant.0 later (grows_both now one later c.in_ok-inner.ensures.grows before)),
      grows_both start one last (grows_both start now one c.loop-branch.invariant.1 c.in_ok-inner.ensures.grows) more,
    )

pub returns-clause-grows : goal.returns-clause-grows
returns-clause-grows c = c.loop-branch.invariant.1

pub returns-clause-lines : goal.returns-clause-lines
returns-clause-lines c = λ later g.
    none_left (map (level_by later) c.loop-branch.levels.items) _ _ (named_none (holds c.args.known.now.keys) (outer_by later c.args.outer) (forest_of c.loop-branch.rest.now) c.in_default.ensures.forest) (c.loop-branch.invariant.0 later g)
