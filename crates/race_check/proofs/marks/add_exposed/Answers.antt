use Rattle.std.proofs.Common.{◌<◌, ◌||◌, not, false, length, ap, sym, ◌∙◌, arith}
use Rattle.site_model.specs.Levels.{raw_level}
use Rattle.site_whole.specs.Whole.{program_seen}
use Rattle.race_meaning.specs.Reads.{is_private_in}
use Rattle.race_check.specs.Names.{has}
use Rattle.race_check.proofs.Lists.{number_at, all_more, all_done}
use Rattle.race_check.proofs.marks.add_exposed.Goals as goal

pub loop-number-preserved : goal.loop-number-preserved
loop-number-preserved c = λ patterns name.
    let xs = c.args.levels.now in
    let i = c.loop-number.number-index in
    let inside : i < length xs = omega arith in
    all_more xs i _ (number_at xs i inside) (λ n. is_private_in name false 0 (program_seen patterns c.args.site.now (raw_level c.args.site.now n))) (has c.loop-number.exposed name) (has c.note_program.new.exposed name)
    (c.in_ok-note_program.ensures patterns c.args.site.now name
    ∙ ap (λ l. not (is_private_in name false 0 (program_seen patterns c.args.site.now l)) || has c.loop-number.exposed name) c.level.ensures)
    ∙ c.loop-number.invariant patterns name

pub returns : goal.returns
returns c = λ patterns name.
    sym (all_done c.args.levels.now c.loop-number.number-index (omega arith) (λ n. is_private_in name false 0 (program_seen patterns c.args.site.now (raw_level c.args.site.now n))) (has c.loop-number.exposed name)) ∙ c.loop-number.invariant patterns name
