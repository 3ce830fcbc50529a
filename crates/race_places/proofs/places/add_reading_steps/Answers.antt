use Rattle.std.proofs.Common.{arith}
use Rattle.site_whole.specs.Whole.{step_seen}
use Rattle.race_meaning.specs.Reads.{in_directive}
use Rattle.race_check.specs.Names.{has}
use Rattle.race_check.proofs.Lists.{next_at, all_over}
use Rattle.race_places.specs.Index.{at}
use Rattle.race_places.proofs.Lines.{lines_more, lines_short, lines_over}
use Rattle.race_places.proofs.places.add_reading_steps.Goals as goal

pub returns-in_default : goal.returns-in_default
returns-in_default c = λ patterns site name.
    lines_short (in_directive name) (step_seen patterns site) c.args.steps.now c.loop-step.step-index c.loop-step.left.now (at c.loop-step.reads name) _ c.in_default.ensures.cases (c.loop-step.invariant patterns site name)

pub loop-step-preserved : goal.loop-step-preserved
loop-step-preserved c = λ patterns site name.
    lines_more (in_directive name) (step_seen patterns site) c.args.steps.now c.loop-step.step-index c.step-item.result c.loop-step.left.now c.in-Some.rest.now c.in-Some.line.now (has c.in_ok-read.read name)
    (at c.loop-step.reads name) (at c.add_all.new.self name) _ (next_at c.args.steps.now c.loop-step.step-index c.step-item.result (omega arith) c.step-item.is) c.in-Some.ensures.cases.0 (c.in_ok-read.ensures patterns site name) (c.in_ok-add_all.ensures name) (c.loop-step.invariant patterns site name)

pub returns : goal.returns
returns c = λ patterns site name.
    lines_over (in_directive name) (step_seen patterns site) c.args.steps.now c.loop-step.step-index c.loop-step.left.now (at c.loop-step.reads name) _ (all_over c.args.steps.now c.loop-step.step-index (omega arith)) (c.loop-step.invariant patterns site name)
