-- One of a list's values in place of another.
use Rattle.std.proofs.Common.{◌≡◌, ◌≢◌, ◌<◌, ℕ, zero, suc, List, [], ◌∷◌, ◌++◌, length, set, get_or, slice_get, None, Some, refl, sym, ap, arith}

pub get_set_same : {A : Type 0} (xs : List A) (i : ℕ) (y x : A) → slice_get xs i ≡ Some x → slice_get (set xs i y) i ≡ Some y
get_set_same [] i y x h = cc
get_set_same (z ∷ xs) zero y x h = refl
get_set_same (z ∷ xs) (suc i) y x h = get_set_same xs i y x h

pub get_set_other : {A : Type 0} (xs : List A) (i j : ℕ) (y : A) → j ≢ i → slice_get (set xs i y) j ≡ slice_get xs j
get_set_other [] i j y h = refl
get_set_other (x ∷ xs) zero zero y h = absurd (h refl)
get_set_other (x ∷ xs) zero (suc j) y h = refl
get_set_other (x ∷ xs) (suc i) zero y h = refl
get_set_other (x ∷ xs) (suc i) (suc j) y h = get_set_other xs i j y (λ e. h (ap suc e))

pub get_none : {A : Type 0} (xs : List A) → slice_get xs (length xs) ≡ None
get_none [] = refl
get_none (x ∷ xs) = get_none xs

-- the last of a list, and what was there before
pub get_last : {A : Type 0} (xs : List A) (y : A) → slice_get (xs ++ y ∷ []) (length xs) ≡ Some y
get_last [] y = refl
get_last (x ∷ xs) y = get_last xs y

pub get_before : {A : Type 0} (xs : List A) (y : A) (j : ℕ) → j ≢ length xs → slice_get (xs ++ y ∷ []) j ≡ slice_get xs j
get_before [] y zero h = absurd (h refl)
get_before [] y (suc j) h = refl
get_before (x ∷ xs) y zero h = refl
get_before (x ∷ xs) y (suc j) h = get_before xs y j (λ e. h (ap suc e))

pub get_kept : {A : Type 0} (xs ys : List A) (j : ℕ) (x : A) → slice_get xs j ≡ Some x → slice_get (xs ++ ys) j ≡ Some x
get_kept [] ys j x h = cc
get_kept (z ∷ xs) ys zero x h = h
get_kept (z ∷ xs) ys (suc j) x h = get_kept xs ys j x h

pub length_set : {A : Type 0} (xs : List A) (i : ℕ) (y : A) → length (set xs i y) ≡ length xs
length_set [] i y = refl
length_set (x ∷ xs) zero y = refl
length_set (x ∷ xs) (suc i) y = ap suc (length_set xs i y)

pub length_snoc : {A : Type 0} (xs : List A) (y : A) → length (xs ++ y ∷ []) ≡ suc (length xs)
length_snoc [] y = refl
length_snoc (x ∷ xs) y = ap suc (length_snoc xs y)

-- what is looked up where there is one
pub there_some : {A : Type 0} (xs : List A) (i : ℕ) (x : A) → i < length xs → x ≡ get_or xs i x → slice_get xs i ≡ Some x
there_some [] i x h e = absurd (omega (arith, h))
there_some (y ∷ ys) zero x h e = ap Some (sym e)
there_some (y ∷ ys) (suc i) x h e = there_some ys i x (omega (arith, h)) e
