use Rattle.std.proofs.Common.{◌<◌, map, flat_map, length, drop, ap, sym, ◌∙◌, arith}
use Rattle.site_model.specs.Levels.{raw_level}
use Rattle.site_whole.specs.Whole.{program_seen, step_seen}
use Rattle.race_meaning.specs.Named.{set_text}
use Rattle.race_check.specs.Texts.{known, told}
use Rattle.race_check.proofs.Lists.{number_at, all_over}
use Rattle.race_check.proofs.Telling.{told_step, told_over}
use Rattle.race_check.proofs.marks.set_texts.Goals as goal

pub loop-number-preserved : goal.loop-number-preserved
loop-number-preserved c = λ patterns name.
    let xs = c.args.levels.now in
    let i = c.loop-number.number-index in
    let site = c.args.site.now in
    let inside : i < length xs = omega arith in
    told_step (λ n. flat_map (set_text name) (program_seen patterns site (raw_level site n))) xs i _ (number_at xs i inside) (known c.loop-number.texts name) (known c.add_steps.new.self name)
    (c.in_ok-add_steps.ensures patterns site name
    ∙ ap (λ p. told (known c.loop-number.texts name) (flat_map (set_text name) (map (step_seen patterns site) p))) (c.as_slice.ensures ∙ ap (λ l. l.program) c.level.ensures))
    ∙ c.loop-number.invariant patterns name

pub returns : goal.returns
returns c = λ patterns name.
    let site = c.args.site.now in
    sym (told_over (λ n. flat_map (set_text name) (program_seen patterns site (raw_level site n))) (drop c.loop-number.number-index c.args.levels.now) (all_over c.args.levels.now c.loop-number.number-index (omega arith)) (known c.loop-number.texts name))
    ∙ c.loop-number.invariant patterns name
