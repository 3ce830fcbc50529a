use Rattle.std.proofs.Common.{◌+◌, drop, ◌∙◌, arith, rules}
use Rattle.race_check.specs.Names.{has}
use Rattle.race_check.proofs.Lists.{next_at, all_over}
use Rattle.race_check.proofs.Programs.{first_more, first_ends, first_over}
use Rattle.race_check.proofs.marks.add_first_sets.Goals as goal

pub returns-in-None : goal.returns-in-None
returns-in-None c = λ patterns site name.
    let xs = c.args.steps.now in
    let i = c.loop-step.step-index in
    first_ends patterns site name c.step-item.result (drop (i + 1) xs) (drop i xs) (has c.loop-step.names name) (next_at xs i c.step-item.result (omega arith) c.step-item.is) (search rules)
    ∙ c.loop-step.invariant patterns site name

pub loop-step-preserved : goal.loop-step-preserved
loop-step-preserved c = λ patterns site name.
    let xs = c.args.steps.now in
    let i = c.loop-step.step-index in
    first_more patterns site name c.step-item.result c.in-Some.name.now (drop (i + 1) xs) (drop i xs) (has c.loop-step.names name) (has c.add.new.self name) (next_at xs i c.step-item.result (omega arith) c.step-item.is) (search rules) (c.in_ok-add-in-Some.ensures name)
    ∙ c.loop-step.invariant patterns site name

pub returns : goal.returns
returns c = λ patterns site name.
    first_over patterns site name (drop c.loop-step.step-index c.args.steps.now) (has c.loop-step.names name) (all_over c.args.steps.now c.loop-step.step-index (omega arith)) ∙ c.loop-step.invariant patterns site name
