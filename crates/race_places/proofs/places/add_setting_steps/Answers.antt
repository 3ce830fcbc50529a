use Rattle.std.proofs.Common.{arith, refl}
use Rattle.site_whole.specs.Whole.{step_seen}
use Rattle.race_meaning.specs.Conflicts.{sets_it}
use Rattle.race_check.proofs.Lists.{next_at, all_over}
use Rattle.race_places.specs.Index.{at}
use Rattle.race_places.proofs.Lines.{lines_more, lines_short, lines_over}
use Rattle.race_places.proofs.places.add_setting_steps.Goals as goal

pub returns-in_default : goal.returns-in_default
returns-in_default c = λ patterns site name.
    lines_short (sets_it name) (step_seen patterns site) c.args.steps.now c.loop-step.step-index c.loop-step.left.now (at c.loop-step.sets name) _ c.in_default.ensures.cases (c.loop-step.invariant patterns site name)

pub loop-step-preserved : goal.loop-step-preserved
loop-step-preserved c = λ patterns site name.
    lines_more (sets_it name) (step_seen patterns site) c.args.steps.now c.loop-step.step-index c.step-item.result c.loop-step.left.now c.in-Some.rest.now c.in-Some.line.now _
    (at c.loop-step.sets name) (at c.add_set.new.sets name) _ (next_at c.args.steps.now c.loop-step.step-index c.step-item.result (omega arith) c.step-item.is) c.in-Some.ensures.cases.0 refl (c.in_ok-add_set.ensures patterns site name) (c.loop-step.invariant patterns site name)

pub returns : goal.returns
returns c = λ patterns site name.
    lines_over (sets_it name) (step_seen patterns site) c.args.steps.now c.loop-step.step-index c.loop-step.left.now (at c.loop-step.sets name) _ (all_over c.args.steps.now c.loop-step.step-index (omega arith)) (c.loop-step.invariant patterns site name)
