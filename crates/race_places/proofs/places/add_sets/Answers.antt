use Rattle.std.proofs.Common.{◌++◌, ◌∙◌, ap, map}
use Rattle.site_model.specs.declared.site.Level.{Level}
use Rattle.site_whole.specs.Whole.{level_whole, step_seen}
use Rattle.race_meaning.specs.Conflicts.{sets_it}
use Rattle.race_places.specs.Index.{at}
use Rattle.race_places.specs.Places.{lines_of}
use Rattle.race_places.proofs.places.add_sets.Goals as goal

pub returns : goal.returns
unfolding level_whole
returns c = λ lists patterns name.
    let site = c.args.site.now in
    let out = at c.args.sets.now name in
    let test = sets_it name in
    c.in_ok-add_setting_steps.ensures patterns site name
    ∙ ap (λ x. out ++ lines_of test (map (step_seen patterns site) c.as_slice-steps.result.now) x) c.as_slice.ensures.value
    ∙ ap (λ x. out ++ lines_of test (map (step_seen patterns site) x) c.args.lines.now.own.program.items) (c.as_slice-steps.ensures ∙ ap (λ (l : Level). l.program) c.level.ensures)
