-- A text cut at its first separator.
use Rattle.std.proofs.Common.{◌≡◌, ℕ, ◌+◌, ◌<◌, ◌≤◌, Bool, true, false, cond, List, [], ◌∷◌, length, take, drop, Option, Some, None, MatchOption, ltb, not, refl, sym, ap, subst, arith}
use Rattle.std.specs.List.{slice_split, onto_first, position_or_len, position}
use Rattle.std.proofs.lemmas.Bool.{ltb-true, ltb-false}
use Rattle.std.proofs.lemmas.List.Splits.{slice_split_first}

not_cut : (p : ℕ → Bool) (xs : List ℕ) → length xs ≤ position_or_len p xs → slice_split p xs ≡ xs ∷ []
not_cut p [] h = refl
not_cut p (x ∷ xs) h =
    elim (p x) as (λ b. length (x ∷ xs) ≤ cond (not b) (1 + position_or_len p xs) 0 → cond b ([] ∷ slice_split p xs) (onto_first x (slice_split p xs)) ≡ (x ∷ xs) ∷ []) [
      | true ↦ λ k. absurd (omega arith)
      | false ↦ λ k. ap (onto_first x) (not_cut p xs (omega arith))
    ] h

pub cut_at : (p : ℕ → Bool) (xs : List ℕ) (r : Option ℕ) → r ≡ position p xs → MatchOption r (slice_split p xs ≡ xs ∷ []) (λ k. (k < length xs) × (slice_split p xs ≡ take k xs ∷ slice_split p (drop (k + 1) xs)))
cut_at p xs r e =
    let P : Option ℕ → Type 0 = λ q. MatchOption q (slice_split p xs ≡ xs ∷ []) (λ k. (k < length xs) × (slice_split p xs ≡ take k xs ∷ slice_split p (drop (k + 1) xs))) in
    subst P (sym e) (elim (ltb (position_or_len p xs) (length xs)) as (λ b. ltb (position_or_len p xs) (length xs) ≡ b → P (cond b (Some (position_or_len p xs)) None)) [
      | true ↦ λ t. (ltb-true _ _ t, slice_split_first p xs 0 (ltb-true _ _ t))
      | false ↦ λ f. not_cut p xs (ltb-false _ _ f)
    ] refl)
