use Rattle.std.proofs.Common.{◌||◌, ap, ◌∙◌}
use Rattle.std.specs.List.{list_any}
use Rattle.race_check.specs.Lists.{sets_by_auth}
use Rattle.race_check.proofs.Lists.{or_false}
use Rattle.race_check.proofs.marks.set_by_auth.Goals as goal

pub returns : goal.returns
returns c = λ name.
    let set = list_any (sets_by_auth c.args.site.now name) c.args.numbers.now in
    c.in_ok-note_auth_sets.ensures name ∙ ap (λ b. set || b) (c.new-auth.ensures name) ∙ or_false set
