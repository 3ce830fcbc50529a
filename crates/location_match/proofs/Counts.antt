-- How many members of a list pass a test.
use Rattle.std.proofs.Common.{◌≡◌, ℕ, zero, suc, ◌+◌, ◌<◌, ◌≤◌, Bool, true, false, List, [], ◌∷◌, length, get_or, if◌then◌else◌, ⊎_elim, arith}
use Rattle.std.specs.List.{count_by}
use Rattle.std.proofs.lemmas.Grind.{common_steps}
use Rattle.std.proofs.lemmas.Bool.{cases_Bool}

module _ {A : Type 0} (p q : A → Bool) (weaker : (x : A) → p x ≡ true → q x ≡ true) where
  cell_le : (x : A) → (if p x then 1 else 0) ≤ (if q x then 1 else 0)
  cell_le x = ⊎_elim
      (λ (hit : p x ≡ true). let also = weaker x hit in rw hit (rw also (omega arith)))
      (λ (miss : p x ≡ false). rw miss (omega arith))
      (cases_Bool (p x))

  pub count-weaker : (xs : List A) → count_by p xs ≤ count_by q xs
  count-weaker [] = omega arith
  count-weaker (x ∷ xs) = let rest = count-weaker xs in let first = cell_le x in grind (arith, common_steps, rest, first)

  -- one that passes the second test and not the first makes a difference
  pub count-more : (xs : List A) (k : ℕ) (d : A) → k < length xs → q (get_or xs k d) ≡ true → p (get_or xs k d) ≡ false →
      count_by p xs + 1 ≤ count_by q xs
  count-more [] k d lt hit miss = absurd (omega arith)
  count-more (x ∷ xs) zero d lt hit miss = let rest = count-weaker xs in grind (arith, common_steps, rest, hit, miss)
  count-more (x ∷ xs) (suc k) d lt hit miss =
      let rest = count-more xs k d (omega arith) hit miss in
      let first = cell_le x in
      grind (arith, common_steps, rest, first)
