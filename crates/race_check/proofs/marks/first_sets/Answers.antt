use Rattle.std.proofs.Common.{◌||◌, ap, ◌∙◌}
use Rattle.race_check.proofs.Lists.{or_false}
use Rattle.race_check.proofs.Programs.{begins}
use Rattle.race_check.proofs.marks.first_sets.Goals as goal

pub returns : goal.returns
returns c = λ patterns site name.
    c.in_ok-add_first_sets.ensures patterns site name
    ∙ ap (λ b. begins patterns site name c.as_slice.result.now || b) (c.new-names.ensures name)
    ∙ or_false (begins patterns site name c.as_slice.result.now)
    ∙ ap (begins patterns site name) c.as_slice.ensures
