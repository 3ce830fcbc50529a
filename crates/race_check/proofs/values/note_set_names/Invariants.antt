use Rattle.std.proofs.Common.{◌≡◌, ℕ, ◌||◌, List, drop, bytes_eq}
use Rattle.std.specs.List.{list_any}
use Rattle.site_model.specs.declared.values.AuthSet.{AuthSet}
use Rattle.race_check.specs.Names.{has}
use Rattle.race_check.proofs.values.note_set_names.Given as goal

abbrev pub invariant-loop-set : goal.invariant-loop-set
invariant-loop-set l =
    (name : List ℕ) → (list_any (λ (s : AuthSet). bytes_eq s.name name) (drop l.set-index l.sets) || has l.auth name)
    ≡ (list_any (λ (s : AuthSet). bytes_eq s.name name) l.sets || has l.fn.auth name)
