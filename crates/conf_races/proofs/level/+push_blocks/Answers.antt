use Rattle.std.proofs.Common.{map, refl, arith}
use Rattle.conf_values.specs.TextSet.{holds}
use Rattle.conf_block.specs.Forest.{forest_of}
use Rattle.race_places.specs.Places.{origins_by}
use Rattle.conf_races.specs.Origins.{outer_by}
use Rattle.conf_races.proofs.GrowLaws.{grows_none, grows_both}
use Rattle.conf_races.proofs.LineLaws.{two_more, none_left}
use Rattle.conf_races.proofs.LevelLaws.{origins_branch, origins_end}
use Rattle.conf_races.proofs.level.+push_blocks.Goals as goal

pub push_blocks-requires : goal.push_blocks-requires
push_blocks-requires t c = omega (arith, c.block_if-block.ensures.len, c.in-Some.ensures.block, c.loop-branch.invariant.1)

pub loop-branch-init : goal.loop-branch-init
loop-branch-init t c = (λ later g. refl, omega arith, grows_none c.args.lists.now.items)

pub loop-branch-preserved : goal.loop-branch-preserved
loop-branch-preserved t c =
    let known = holds c.args.known.now.keys in
    let start = c.args.lists.now.items in
    let now = c.loop-branch.lists.items in
    let one = c.push_block.new.lists.items in
    let last = c.push_blocks.new.lists.items in
    let more = c.in_ok-push_blocks.ensures.grows in (
      λ later g.
          let outer = outer_by later c.args.outer in
          let behind = grows_both one last later more g in
          two_more (map (origins_by later) c.loop-branch.blocks.items) (map (origins_by later) c.push_block.new.blocks.items) (map (origins_by later) c.push_blocks.new.blocks.items) _ _ _ _ _
          (c.in_ok-push_block.ensures.lines later behind) (c.in_ok-push_blocks.ensures.lines later g)
          (origins_branch outer known (forest_of c.loop-branch.rest.now) c.in-Some.branch.directive.now (forest_of c.in-Some.branch.block.now) (forest_of c.in-Some.branch.beside.now) c.in_ok-led.led.block _
          c.in-Some.ensures.forest c.in_ok-led.ensures.block (c.block_if-block.ensures.blocks known))
          (c.loop-branch.invariant.0 later (grows_both now one later c.in_ok-push_block.ensures.grows behind)),
      omega (arith, c.in-Some.ensures.beside, c.loop-branch.invariant.1),
      grows_both start one last (grows_both start now one c.loop-branch.invariant.2 c.in_ok-push_block.ensures.grows) more,
    )

pub returns-clause-grows : goal.returns-clause-grows
returns-clause-grows t c = c.loop-branch.invariant.2

pub returns-clause-lines : goal.returns-clause-lines
returns-clause-lines t c = λ later g.
    none_left (map (origins_by later) c.loop-branch.blocks.items) _ _ (origins_end (outer_by later c.args.outer) (holds c.args.known.now.keys) (forest_of c.loop-branch.rest.now) c.in_default.ensures.forest) (c.loop-branch.invariant.0 later g)
