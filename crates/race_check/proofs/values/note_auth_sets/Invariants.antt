use Rattle.std.proofs.Common.{◌≡◌, ℕ, ◌||◌, List, drop}
use Rattle.std.specs.List.{list_any}
use Rattle.race_check.specs.Lists.{sets_by_auth}
use Rattle.race_check.specs.Names.{has}
use Rattle.race_check.proofs.values.note_auth_sets.Given as goal

abbrev pub invariant-loop-number : goal.invariant-loop-number
invariant-loop-number l =
    (name : List ℕ) → (list_any (sets_by_auth l.site name) (drop l.number-index l.numbers) || has l.auth name)
    ≡ (list_any (sets_by_auth l.site name) l.numbers || has l.fn.auth name)
