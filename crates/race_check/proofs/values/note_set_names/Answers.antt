use Rattle.std.proofs.Common.{ℕ, ◌||◌, List, bytes_eq, ap, sym, ◌∙◌, arith}
use Rattle.site_model.specs.declared.values.AuthSet.{AuthSet}
use Rattle.site_views.specs.Values.{Text}
use Rattle.site_whole.specs.Whole.{auth_set_seen}
use Rattle.race_check.specs.Names.{has}
use Rattle.race_check.proofs.Lists.{any_over}
use Rattle.race_check.proofs.Lists.{any_map}
use Rattle.race_check.proofs.values.note_set_names.Goals as goal

pub returns : goal.returns
returns c = λ name.
    let xs = c.args.sets.now in
    sym (any_over xs c.loop-set.set-index (omega arith) (λ (s : AuthSet). bytes_eq s.name name) (has c.loop-set.auth name))
    ∙ c.loop-set.invariant name
    ∙ ap (λ b. b || has c.args.auth.now name) (sym (any_map (λ (s : List ℕ × Text). bytes_eq s.0 name) auth_set_seen xs))
