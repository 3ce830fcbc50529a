-- Lists side by side.
use Rattle.std.proofs.Common.{◌≡◌, ◌<◌, ◌≤◌, arith, refl, length, map, ℕ, zero, suc, List, [], ◌∷◌, ◌++◌, Option, Some, None}
use Rattle.std.specs.Prelude.{slice_get, unwrap_or}
use Rattle.std.specs.List.{AllZip}

pub zip_push : {A B : Type 0} (R : A → B → Type 0) (xs : List A) (ys : List B) (x : A) (y : B) → AllZip R xs ys → R x y → AllZip R (xs ++ x ∷ []) (ys ++ y ∷ [])
zip_push R [] [] x y h r = (r, tt)
zip_push R [] (b ∷ ys) x y h r = absurd h
zip_push R (a ∷ xs) [] x y h r = absurd h
zip_push R (a ∷ xs) (b ∷ ys) x y h r = (h.0, zip_push R xs ys x y h.1 r)

pub zip_each : {A B : Type 0} (R : A → B → Type 0) (xs : List A) (ys : List B) (a : A) (b : B) → AllZip R xs ys → R a b → (n : ℕ) → R (unwrap_or (slice_get xs n) a) (unwrap_or (slice_get ys n) b)
zip_each R [] [] a b h r n = r
zip_each R [] (y ∷ ys) a b h r n = absurd h
zip_each R (x ∷ xs) [] a b h r n = absurd h
zip_each R (x ∷ xs) (y ∷ ys) a b h r zero = h.0
zip_each R (x ∷ xs) (y ∷ ys) a b h r (suc n) = zip_each R xs ys a b h.1 r n

-- ---- numbers of elements

pub number_within : {A B : Type 0} (f : A → B) (xs : List A) (a : A) (n : ℕ) → n < length xs → Some (f (unwrap_or (slice_get xs n) a)) ≡ slice_get (map f xs) n
number_within f [] a n h = absurd (omega (arith, h))
number_within f (x ∷ xs) a zero h = refl
number_within f (x ∷ xs) a (suc n) h = number_within f xs a n (omega (arith, h))

pub number_beyond : {A B : Type 0} (f : A → B) (xs : List A) (n : ℕ) → length xs ≤ n → None ≡ slice_get (map f xs) n
number_beyond f [] n h = refl
number_beyond f (x ∷ xs) zero h = absurd (omega (arith, h))
number_beyond f (x ∷ xs) (suc n) h = number_beyond f xs n (omega (arith, h))
