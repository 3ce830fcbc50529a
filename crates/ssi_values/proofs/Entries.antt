-- The entries of a table, and where a name is among them.
use Rattle.std.proofs.Common.{◌≡◌, ℕ, suc, ◌+◌, ◌<◌, ◌≤◌, Bool, true, false, cond, not, List, [], ◌∷◌, ◌++◌, length, map, get_or, filter, set as put_at, Some, None, ltb, refl, sym, ◌∙◌, ap, subst, arith}
use Rattle.std.specs.List.{position_or_len, position}
use Rattle.std.specs.Str.{bytes_eq}
use Rattle.std.proofs.lemmas.Bool.{ltb-true, ltb-false}
use Rattle.acts.specs.Vars.{set}
use Rattle.ssi_values.specs.Tables.{without_name}
use Rattle.ssi_values.specs.declared.table.Entry.{Entry}

-- an entry as contracts see it
abbrev pub pair : Entry → List ℕ × List ℕ
pair s = (s.name, s.value)

abbrev pub is_of : List ℕ → Entry → Bool
is_of name s = bytes_eq s.name name

-- an entry with another value
abbrev pub with_value : Entry → List ℕ → Entry
with_value s value = record { name = s.name; value = value }

at_first : (value : List ℕ) (x : Entry) (xs : List Entry) (at : ℕ) (found : Entry) → at ≡ 0 → found ≡ get_or (x ∷ xs) at found → map pair (put_at (x ∷ xs) at (with_value found value)) ≡ (x.name, value) ∷ map pair xs
at_first value x xs at found here is =
    let P : ℕ → Type 0 = λ i. found ≡ get_or (x ∷ xs) i found → map pair (put_at (x ∷ xs) i (with_value found value)) ≡ (x.name, value) ∷ map pair xs in
    subst P (sym here) (λ same. ap (λ y. (y.name, value) ∷ map pair xs) same) is

found_later : (x : Entry) (xs : List Entry) (at n : ℕ) (found : Entry) → at ≡ suc n → found ≡ get_or (x ∷ xs) at found → found ≡ get_or xs n found
found_later x xs at n found later is =
    let P : ℕ → Type 0 = λ i. found ≡ get_or (x ∷ xs) i found in
    subst P later is

put_later : (x new : Entry) (xs : List Entry) (at n : ℕ) → at ≡ suc n → map pair (put_at (x ∷ xs) at new) ≡ pair x ∷ map pair (put_at xs n new)
put_later x new xs at n later =
    let P : ℕ → Type 0 = λ i. map pair (put_at (x ∷ xs) i new) ≡ pair x ∷ map pair (put_at xs n new) in
    subst P (sym later) refl

pub set_at : (name value : List ℕ) (xs : List Entry) (at : ℕ) (found : Entry) → at ≡ position_or_len (is_of name) xs → at < length xs → found ≡ get_or xs at found → map pair (put_at xs at (with_value found value)) ≡ set name value (map pair xs)
unfolding set
set_at name value [] at found e h is = absurd (omega arith)
set_at name value (x ∷ xs) at found e h is =
    elim (bytes_eq x.name name) as (λ b. at ≡ cond (not b) (1 + position_or_len (is_of name) xs) 0 → map pair (put_at (x ∷ xs) at (with_value found value)) ≡ cond b ((x.name, value) ∷ map pair xs) (pair x ∷ set name value (map pair xs))) [
      | true ↦ λ here. at_first value x xs at found here is
      | false ↦ λ later.
          let next : at ≡ suc (position_or_len (is_of name) xs) = omega arith in
          put_later x (with_value found value) xs at (position_or_len (is_of name) xs) next ∙ ap (λ rest. pair x ∷ rest) (set_at name value xs (position_or_len (is_of name) xs) found refl (omega arith) (found_later x xs at (position_or_len (is_of name) xs) found next is))
    ] e

-- a name that is nowhere comes last
pub set_last : (name value : List ℕ) (xs : List Entry) → length xs ≤ position_or_len (is_of name) xs → map pair xs ++ (name, value) ∷ [] ≡ set name value (map pair xs)
unfolding set
set_last name value [] h = refl
set_last name value (x ∷ xs) h =
    elim (bytes_eq x.name name) as (λ b. length (x ∷ xs) ≤ cond (not b) (1 + position_or_len (is_of name) xs) 0 → pair x ∷ (map pair xs ++ (name, value) ∷ []) ≡ cond b ((x.name, value) ∷ map pair xs) (pair x ∷ set name value (map pair xs))) [
      | true ↦ λ k. absurd (omega arith)
      | false ↦ λ k. ap (λ rest. pair x ∷ rest) (set_last name value xs (omega arith))
    ] h

-- what a search for the name says
pub found_at : (name : List ℕ) (xs : List Entry) (at : ℕ) → Some at ≡ position (is_of name) xs → (at ≡ position_or_len (is_of name) xs) × (at < length xs)
found_at name xs at e =
    elim (ltb (position_or_len (is_of name) xs) (length xs)) as (λ b. ltb (position_or_len (is_of name) xs) (length xs) ≡ b → Some at ≡ cond b (Some (position_or_len (is_of name) xs)) None → (at ≡ position_or_len (is_of name) xs) × (at < length xs)) [
      | true ↦ λ t same. at_place (ltb-true _ _ t) (cc)
      | false ↦ λ f same. absurd (cc)
    ] refl e
  where
    at_place : position_or_len (is_of name) xs < length xs → at ≡ position_or_len (is_of name) xs → (at ≡ position_or_len (is_of name) xs) × (at < length xs)
    at_place within same = (same, omega arith)

pub not_found : (name : List ℕ) (xs : List Entry) → None ≡ position (is_of name) xs → length xs ≤ position_or_len (is_of name) xs
not_found name xs e =
    elim (ltb (position_or_len (is_of name) xs) (length xs)) as (λ b. ltb (position_or_len (is_of name) xs) (length xs) ≡ b → None ≡ cond b (Some (position_or_len (is_of name) xs)) None → length xs ≤ position_or_len (is_of name) xs) [
      | true ↦ λ t none. absurd (cc)
      | false ↦ λ f none. ltb-false _ _ f
    ] refl e

-- what stays where the entries of a name go
pub stay : (name : List ℕ) (xs : List Entry) → map pair (filter (λ e. not (is_of name e)) xs) ≡ without_name name (map pair xs)
stay name [] = refl
stay name (x ∷ xs) =
    elim (bytes_eq x.name name) as (λ b. map pair (cond (not b) (x ∷ filter (λ e. not (is_of name e)) xs) (filter (λ e. not (is_of name e)) xs)) ≡ cond (not b) (pair x ∷ without_name name (map pair xs)) (without_name name (map pair xs))) [
      | true ↦ stay name xs
      | false ↦ ap (λ rest. pair x ∷ rest) (stay name xs)
    ]
