use Rattle.std.proofs.Common.{◌+◌, map, drop, ap, sym, ◌∙◌, arith}
use Rattle.site_whole.specs.Whole.{step_seen}
use Rattle.race_check.specs.Names.{has}
use Rattle.race_check.proofs.Lists.{next_at, all_over}
use Rattle.race_check.proofs.Programs.{private_step, private_over}
use Rattle.race_check.proofs.reads.note_steps.Goals as goal

pub loop-step-preserved : goal.loop-step-preserved
loop-step-preserved c = λ patterns site name.
    let xs = c.args.steps.now in
    let i = c.loop-step.step-index in
    let x = c.step-item.result in
    private_step name (has c.loop-step.settled name) (has c.settle.new.settled name) c.loop-step.block c.block_after-block.result (step_seen patterns site x) (map (step_seen patterns site) (drop (i + 1) xs)) (map (step_seen patterns site) (drop i xs))
    (has c.loop-step.exposed name) (has c.note_directive.new.exposed name) (ap (map (step_seen patterns site)) (next_at xs i x (omega arith) c.step-item.is))
    (c.in_ok-note_directive.ensures patterns site name) (c.in_ok-settle.ensures patterns site name) (c.block_after-block.ensures patterns site)
    ∙ c.loop-step.invariant patterns site name

pub returns : goal.returns
returns c = λ patterns site name.
    sym (private_over name (has c.loop-step.settled name) c.loop-step.block (map (step_seen patterns site) (drop c.loop-step.step-index c.args.steps.now)) (ap (map (step_seen patterns site)) (all_over c.args.steps.now c.loop-step.step-index (omega arith))) (has c.loop-step.exposed name))
    ∙ c.loop-step.invariant patterns site name
