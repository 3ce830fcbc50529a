-- Rows: what a mask matches of the ends of a name.
use Rattle.std.proofs.Common.{◌≡◌, ℕ, zero, suc, ◌+◌, ◌-◌, ◌≤◌, ◌<◌, Bool, true, false, eqb, ltb, ◌&&◌, ◌||◌, List, [], ◌∷◌, length, get_or, drop, refl, ap, sym, ◌∙◌, arith, ⊎_elim, ne_eqb}
use Rattle.std.specs.List.{list_any}
use Rattle.std.proofs.Math.Bool.{or-false}
use Rattle.std.proofs.lemmas.Bool.{cond-false, cases_Bool, ltb-true, ltb-false}
use Rattle.std.proofs.lemmas.List.{drop_more, drop_all}
use Rattle.conf_include.specs.Masks.{some_end, after_byte, is_empty, matches}
use Rattle.conf_include.specs.Steps.{IsRow}

-- a flag of a row
abbrev pub flag : List Bool → ℕ → Bool
flag row i = get_or row i false

matches_none : (name : List ℕ) → matches [] name ≡ is_empty name
unfolding matches
matches_none name = refl

matches_star : (mask name : List ℕ) → matches (42 ∷ mask) name ≡ some_end (matches mask) name
unfolding matches
matches_star mask name = refl

matches_byte : (m : ℕ) (mask name : List ℕ) → eqb m 42 ≡ false → matches (m ∷ mask) name ≡ after_byte m (matches mask) name
unfolding matches
matches_byte m mask name h = cond-false _ _ _ h

byte_at : (m : ℕ) (mask name : List ℕ) (old new : List Bool) → eqb m 42 ≡ false → IsRow mask name old
    → ((k : ℕ) → k < length name → flag new k ≡ ((eqb m 63 || eqb m (get_or name k 0)) && flag old (k + 1)))
    → (i : ℕ) → i < length name → flag new i ≡ matches (m ∷ mask) (drop i name)
byte_at m mask name old new other row steps i inside =
    steps i inside
    ∙ ap (λ t. (eqb m 63 || eqb m (get_or name i 0)) && t) (row.told (i + 1) (omega arith))
    ∙ sym (ap (matches (m ∷ mask)) (drop_more name i 0 inside) ∙ matches_byte m mask (get_or name i 0 ∷ drop (i + 1) name) other)

byte_end : (m : ℕ) (mask name : List ℕ) (new : List Bool) → eqb m 42 ≡ false → flag new (length name) ≡ false
    → (i : ℕ) → i ≤ length name → length name ≤ i → flag new i ≡ matches (m ∷ mask) (drop i name)
byte_end m mask name new other none i within last =
    let here : i ≡ length name = omega arith in
    ap (flag new) here ∙ none
    ∙ sym (ap (matches (m ∷ mask)) (drop_all i name last) ∙ matches_byte m mask [] other)

-- another byte before the mask
pub byte_row : (m : ℕ) (mask name : List ℕ) (old new : List Bool) → (m ≡ 42 → ⊥) → IsRow mask name old → length new ≡ length old
    → ((k : ℕ) → k < length name → flag new k ≡ ((eqb m 63 || eqb m (get_or name k 0)) && flag old (k + 1)))
    → flag new (length name) ≡ false → IsRow (m ∷ mask) name new
byte_row m mask name old new other row len steps none =
    let differs = ne_eqb m 42 other in
    record {
      len = len ∙ row.len;
      told = λ i within. ⊎_elim
          (λ e. byte_at m mask name old new differs row steps i (ltb-true i (length name) e))
          (λ e. byte_end m mask name new differs none i within (ltb-false i (length name) e))
          (cases_Bool (ltb i (length name)));
    }

-- some flag from a place on
abbrev pub some_from : List Bool → ℕ → Bool
some_from row i = list_any (λ b. b) (drop i row)

pub some_none : (row : List Bool) (i : ℕ) → length row ≤ i → some_from row i ≡ false
some_none row i h = ap (list_any (λ b. b)) (drop_all i row h)

pub some_more : (row : List Bool) (i : ℕ) → i < length row → some_from row i ≡ (flag row i || some_from row (i + 1))
some_more row i h = ap (list_any (λ b. b)) (drop_more row i false h)

ends : (mask name : List ℕ) (row : List Bool) → IsRow mask name row → (n i : ℕ) → i + n ≡ length name → some_from row i ≡ some_end (matches mask) (drop i name)
ends mask name row is zero i sum =
    let size = is.len in
    some_more row i (omega arith)
    ∙ ap (λ t. flag row i || t) (some_none row (i + 1) (omega arith))
    ∙ or-false (flag row i) ∙ is.told i (omega arith)
    ∙ ap (matches mask) (drop_all i name (omega arith))
    ∙ sym (ap (some_end (matches mask)) (drop_all i name (omega arith)))
ends mask name row is (suc n) i sum =
    let size = is.len in
    let inside : i < length name = omega arith in
    some_more row i (omega arith)
    ∙ ap (λ t. t || some_from row (i + 1)) (is.told i (omega arith) ∙ ap (matches mask) (drop_more name i 0 inside))
    ∙ ap (λ t. matches mask (get_or name i 0 ∷ drop (i + 1) name) || t) (ends mask name row is n (i + 1) (omega arith))
    ∙ sym (ap (some_end (matches mask)) (drop_more name i 0 inside))

-- a star before the mask
pub star_row : (mask name : List ℕ) (old new : List Bool) → IsRow mask name old → length new ≡ length old
    → ((k : ℕ) → k < length old → flag new k ≡ some_from old k) → IsRow (42 ∷ mask) name new
star_row mask name old new row len steps =
    let size = row.len in
    record {
      len = len ∙ row.len;
      told = λ i within. steps i (omega arith) ∙ ends mask name old row (length name - i) i (omega arith) ∙ sym (matches_star mask (drop i name));
    }

-- no mask matches the empty name alone
pub empty_row : (name : List ℕ) (row : List Bool) → length row ≡ length name + 1 → ((k : ℕ) → k < length name → flag row k ≡ false) → flag row (length name) ≡ true → IsRow [] name row
empty_row name row len below last = record {
  len = len;
  told = λ i within. ⊎_elim
      (λ e. let inside = ltb-true i (length name) e in
      below i inside ∙ sym (ap (matches []) (drop_more name i 0 inside) ∙ matches_none (get_or name i 0 ∷ drop (i + 1) name)))
      (λ e. let here : i ≡ length name = omega (arith, within, ltb-false i (length name) e) in
      ap (flag row) here ∙ last ∙ sym (ap (matches []) (drop_all i name (omega (arith, ltb-false i (length name) e))) ∙ matches_none []))
      (cases_Bool (ltb i (length name)));
}
