use Rattle.std.proofs.Common.{◌+◌, map, drop, ap, sym, ◌∙◌, arith}
use Rattle.site_whole.specs.Whole.{step_seen}
use Rattle.race_meaning.specs.Named.{set_text}
use Rattle.race_check.specs.Texts.{known, told}
use Rattle.race_check.proofs.Lists.{next_at, all_over}
use Rattle.race_check.proofs.Telling.{told_step, told_over}
use Rattle.race_check.proofs.Lists.{flat_of_map}
use Rattle.race_check.proofs.texts.SetTexts.add_steps.Goals as goal

pub loop-step-preserved : goal.loop-step-preserved
loop-step-preserved c = λ patterns site name.
    let xs = c.args.steps.now in
    let i = c.loop-step.step-index in
    let x = c.step-item.result in
    ap (told (known c.add_step.new.self name)) (flat_of_map (set_text name) (step_seen patterns site) (drop (i + 1) xs))
    ∙ told_step (λ s. set_text name (step_seen patterns site s)) xs i x (next_at xs i x (omega arith) c.step-item.is) (known c.loop-step.self name) (known c.add_step.new.self name) (c.in_ok-add_step.ensures patterns site name)
    ∙ ap (told (known c.loop-step.self name)) (sym (flat_of_map (set_text name) (step_seen patterns site) (drop i xs)))
    ∙ c.loop-step.invariant patterns site name

pub returns : goal.returns
returns c = λ patterns site name.
    sym (told_over (set_text name) (map (step_seen patterns site) (drop c.loop-step.step-index c.args.steps.now)) (ap (map (step_seen patterns site)) (all_over c.args.steps.now c.loop-step.step-index (omega arith))) (known c.loop-step.self name))
    ∙ c.loop-step.invariant patterns site name
