-- At a path of plain bytes a file can be.
use Rattle.std.proofs.Common.{◌≡◌, ℕ, zero, suc, ◌<◌, Bool, true, false, not, ◌&&◌, ◌||◌, cond, eqb, List, [], ◌∷◌, take, refl, sym, ◌∙◌, ap, arith}
use Rattle.std.specs.List.{list_any, slice_split, onto_first}
use Rattle.std.specs.Str.{IsAscii, is_utf8, bytes_eq}
use Rattle.std.proofs.lemmas.Bool.{ltb-true, false≢true}
use Rattle.std.proofs.lemmas.Str.{IsUtf8-from_ascii, is_utf8-from_IsUtf8}
use Rattle.file_path.specs.Located.{is_dots, has_dots, has_nul, can_stand, is_plain_behind}

-- each byte is plain after the one before it
unfoldable pub are_plain : ℕ → List ℕ → Bool
are_plain before [] = true
are_plain before (b ∷ bs) = is_plain_behind before b && are_plain b bs

pub both : (a b : Bool) → (a && b) ≡ true → (a ≡ true) × (b ≡ true)
both true b e = (refl, e)
both false b e = absurd (false≢true e)

pub off : (a : Bool) → not a ≡ true → a ≡ false
off true e = absurd (false≢true e)
off false e = refl

neither : (a b : Bool) → a ≡ false → b ≡ false → (a || b) ≡ false
neither true b e f = e
neither false b e f = f

no_dot_here : (before b : ℕ) → eqb before 47 ≡ true → (eqb b 46 && eqb before 47) ≡ false → eqb b 46 ≡ false
no_dot_here before b s e = elim (eqb b 46) as (λ t. (t && eqb before 47) ≡ false → t ≡ false) [
  | true ↦ λ f. absurd (false≢true (sym f ∙ s))
  | false ↦ λ f. refl
] e

-- the parts after the first
abbrev rest_of : List (List ℕ) → List (List ℕ)
rest_of [] = []
rest_of (part ∷ parts) = parts

record Plain (before b : ℕ) (bs : List ℕ) : Type 0 where
  no_nul : eqb b 0 ≡ false
  low : b < 128
  no_dot : (eqb b 46 && eqb before 47) ≡ false
  later : are_plain b bs ≡ true

first_plain : (before b : ℕ) (bs : List ℕ) → are_plain before (b ∷ bs) ≡ true → Plain before b bs
unfolding are_plain
first_plain before b bs h =
    let parts = both _ _ h in
    let first = both _ _ parts.0 in
    let second = both _ _ first.1 in
    record { no_nul = off _ first.0; low = ltb-true _ _ second.0; no_dot = off _ second.1; later = parts.1 }

no_nul_in : (before : ℕ) (bs : List ℕ) → are_plain before bs ≡ true → has_nul bs ≡ false
no_nul_in before [] h = refl
no_nul_in before (b ∷ bs) h =
    let p = first_plain before b bs h in
    neither _ _ p.no_nul (no_nul_in b bs p.later)

low_in : (before : ℕ) (bs : List ℕ) → are_plain before bs ≡ true → IsAscii bs
low_in before [] h i = omega arith
low_in before (b ∷ bs) h zero = (first_plain before b bs h).low
low_in before (b ∷ bs) h (suc i) = low_in b bs (first_plain before b bs h).later i

-- a segment that begins with another byte than a dot is no dots
begins_plain : (b : ℕ) (part : List ℕ) → eqb b 46 ≡ false → is_dots (b ∷ part) ≡ false
begins_plain b part e = neither _ _ (ap (λ t. t && bytes_eq part []) e) (ap (λ t. t && bytes_eq part (46 ∷ [])) e)

onto_plain : (b : ℕ) (parts : List (List ℕ)) → eqb b 46 ≡ false → list_any is_dots (rest_of parts) ≡ false → list_any is_dots (onto_first b parts) ≡ false
onto_plain b [] e h = neither _ _ (begins_plain b [] e) refl
onto_plain b (part ∷ parts) e h = neither _ _ (begins_plain b part e) h

rest_onto : (b : ℕ) (parts : List (List ℕ)) → rest_of (onto_first b parts) ≡ rest_of parts
rest_onto b [] = refl
rest_onto b (part ∷ parts) = refl

-- no dot begins a segment after the first, nor the first where a slash comes before it
no_dots_in : (before : ℕ) (bs : List ℕ) → are_plain before bs ≡ true → (list_any is_dots (rest_of (slice_split (λ x. eqb x 47) bs)) ≡ false) × (eqb before 47 ≡ true → list_any is_dots (slice_split (λ x. eqb x 47) bs) ≡ false)
no_dots_in before [] h = (refl, λ s. refl)
no_dots_in before (b ∷ bs) h =
    let p = first_plain before b bs h in
    let parts = slice_split (λ x. eqb x 47) bs in
    let later = no_dots_in b bs p.later in
    elim (eqb b 47) as (λ t. eqb b 47 ≡ t → (list_any is_dots (rest_of (cond t ([] ∷ parts) (onto_first b parts))) ≡ false) × (eqb before 47 ≡ true → list_any is_dots (cond t ([] ∷ parts) (onto_first b parts)) ≡ false)) [
      | true ↦ λ e. (later.1 e, λ s. later.1 e)
      | false ↦ λ e. (ap (list_any is_dots) (rest_onto b parts) ∙ later.0, λ s. onto_plain b parts (no_dot_here before b s p.no_dot) later.0)
    ] refl

pub can_stand_at : (path : List ℕ) → are_plain 47 path ≡ true → can_stand path ≡ true
unfolding can_stand has_dots
can_stand_at path h =
    ap (λ t. not t && (not (has_nul path) && is_utf8 path)) ((no_dots_in 47 path h).1 refl)
    ∙ (ap (λ t. not t && is_utf8 path) (no_nul_in 47 path h) ∙ is_utf8-from_IsUtf8 path (IsUtf8-from_ascii path (low_in 47 path h)))

-- the front of a plain text
pub plain_front : (before n : ℕ) (bs : List ℕ) → are_plain before bs ≡ true → are_plain before (take n bs) ≡ true
unfolding are_plain
plain_front before zero bs h = refl
plain_front before (suc n) [] h = refl
plain_front before (suc n) (b ∷ bs) h =
    let parts = both _ _ h in
    ap (λ t. t && are_plain b (take n bs)) parts.0 ∙ plain_front b n bs parts.1
