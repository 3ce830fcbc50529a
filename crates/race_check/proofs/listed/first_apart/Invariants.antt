use Rattle.std.proofs.Common.{◌≡◌, ℕ, ◌&&◌, ◌||◌, Bool, drop}
use Rattle.std.specs.List.{list_any}
use Rattle.race_check.proofs.listed.first_apart.Given as goal

abbrev pub invariant-loop-number : goal.invariant-loop-number
invariant-loop-number l =
    (test : ℕ → Bool) → (((l.has_first && test 0) || list_any test l.others.items) || list_any test (drop l.number-index l.numbers)) ≡ list_any test l.numbers
