use Rattle.std.proofs.Common.{◌≡◌, ℕ, ◌||◌, List, drop, bytes_eq}
use Rattle.std.specs.List.{list_any}
use Rattle.race_check.specs.Names.{has}
use Rattle.race_check.proofs.conflict.names_in.Given as goal

abbrev pub invariant-loop-text : goal.invariant-loop-text
invariant-loop-text l =
    (name : List ℕ) → (list_any (λ x. bytes_eq x name) (drop l.text-index l.texts) || has l.names name) ≡ list_any (λ x. bytes_eq x name) l.texts
