use Rattle.std.proofs.Common.{arith}
use Rattle.conf_values.specs.TextSet.{holds}
use Rattle.conf_block.specs.Forest.{forest_of}
use Rattle.conf_races.proofs.LineLaws.{two_more, none_left}
use Rattle.conf_races.proofs.LevelLaws.{program_branch, program_end}
use Rattle.conf_races.proofs.level.+push_program.Goals as goal

pub push_program-requires : goal.push_program-requires
push_program-requires t c = omega (arith, c.block_if-block.ensures.len, c.in-Some.ensures.block, c.loop-branch.invariant.1)

pub loop-branch-preserved : goal.loop-branch-preserved
loop-branch-preserved t c =
    let known = holds c.args.known.now.keys in (
      two_more c.loop-branch.lines.items c.push_own.new.lines.items c.push_program.new.lines.items _ _ _ _ _
          c.in_ok-push_own.ensures c.in_ok-push_program.ensures
          (program_branch known (forest_of c.loop-branch.rest.now) c.in-Some.branch.directive.now (forest_of c.in-Some.branch.block.now) (forest_of c.in-Some.branch.beside.now) c.in_ok-led.led.part c.in_ok-led.led.block _
          c.in-Some.ensures.forest c.in_ok-led.ensures.part c.in_ok-led.ensures.block (c.block_if-block.ensures.parts known))
          c.loop-branch.invariant.0,
      omega (arith, c.in-Some.ensures.beside, c.loop-branch.invariant.1),
    )

pub returns : goal.returns
returns t c = none_left c.loop-branch.lines.items _ _ (program_end (holds c.args.known.now.keys) (forest_of c.loop-branch.rest.now) c.in_default.ensures.forest) c.loop-branch.invariant.0
