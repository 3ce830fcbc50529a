use Rattle.std.proofs.Common.{ap, ◌∙◌, arith}
use Rattle.conf_values.specs.TextSet.{holds}
use Rattle.conf_block.specs.Forest.{forest_of}
use Rattle.rewrite_compile.specs.Readings.{reading_by}
use Rattle.rewrite_compile.proofs.Compiling.{led_more, led_end}
use Rattle.rewrite_compile.proofs.part.+parts_in.Goals as goal

pub loop-branch-preserved : goal.loop-branch-preserved
loop-branch-preserved t c =
    let known = holds c.args.known.now.keys in
    let d = c.in-Some.branch.directive.now in (
      led_more known d c.in_ok-reading.reading c.loop-branch.parts.items c.push_led.new.parts.items c.in_ok-block.block.items _
          (forest_of c.loop-branch.rest.now) (forest_of c.in-Some.branch.block.now) (forest_of c.in-Some.branch.beside.now) c.in-Some.ensures.forest
          (c.in_ok-reading.ensures ∙ ap (λ n. reading_by known n c.as_slice-in-Some.result.now) c.as_slice.ensures ∙ ap (reading_by known d.name) c.as_slice-in-Some.ensures)
          (c.in_ok-block.ensures ∙ c.block_of.ensures.parts known) c.in_ok-push_led.ensures c.loop-branch.invariant.0,
      omega (arith, c.in-Some.ensures.beside),
    )

pub returns : goal.returns
returns t c = led_end (holds c.args.known.now.keys) c.loop-branch.parts.items _ (forest_of c.loop-branch.rest.now) c.in_default.ensures.forest c.loop-branch.invariant.0
