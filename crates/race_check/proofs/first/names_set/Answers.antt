use Rattle.std.proofs.Common.{ℕ, ◌||◌, Bool, List, bytes_eq, map, ap, ◌∙◌}
use Rattle.std.specs.List.{list_any}
use Rattle.site_views.specs.Values.{Text}
use Rattle.site_whole.specs.Whole.{auth_set_seen}
use Rattle.race_check.proofs.Lists.{or_false}
use Rattle.race_check.proofs.first.names_set.Goals as goal

pub returns : goal.returns
returns c = λ name.
    let by : List ℕ × Text → Bool = λ s. bytes_eq s.0 name in
    let sets = map auth_set_seen c.auth_sets_of.result.now in
    c.in_ok-note_set_names.ensures name
    ∙ ap (λ b. list_any by sets || b) (c.new-names.ensures name)
    ∙ or_false (list_any by sets)
    ∙ ap (list_any by) c.auth_sets_of.ensures
