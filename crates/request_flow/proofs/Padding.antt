-- Exactly as many bytes as are asked for.
use Rattle.std.proofs.Common.{◌≡◌, ℕ, ◌+◌, ◌≤◌, List, [], ◌∷◌, ◌++◌, length, take, drop, refl, ap, ◌∙◌, arith, suc, zero}
use Rattle.request_flow.specs.Padded.{padded}

pub padded_length : (n : ℕ) (xs : List ℕ) → length (padded n xs) ≡ n
unfolding padded
padded_length zero xs = refl
padded_length (suc n) [] = ap suc (padded_length n [])
padded_length (suc n) (x ∷ xs) = ap suc (padded_length n xs)

none_dropped : (n : ℕ) → drop {A = ℕ} n [] ≡ []
none_dropped zero = refl
none_dropped (suc n) = refl

next : (m n : ℕ) → suc m + n ≡ suc (m + n)
next m n = omega arith

-- some bytes, and then more
pub padded_split : (m n : ℕ) (xs : List ℕ) → padded (m + n) xs ≡ padded m xs ++ padded n (drop m xs)
unfolding padded
padded_split zero n xs = ap (λ k. padded k xs) (let e : 0 + n ≡ n = omega arith in e)
padded_split (suc m) n [] = ap (λ k. padded k []) (next m n) ∙ ap (λ r. 0 ∷ r) (padded_split m n [] ∙ ap (λ r. padded m [] ++ padded n r) (none_dropped m))
padded_split (suc m) n (x ∷ xs) = ap (λ k. padded k (x ∷ xs)) (next m n) ∙ ap (λ r. x ∷ r) (padded_split m n xs)

-- bytes that are there
pub padded_within : (n : ℕ) (xs : List ℕ) → n ≤ length xs → padded n xs ≡ take n xs
unfolding padded
padded_within zero xs h = refl
padded_within (suc n) [] h = absurd (omega (arith, h))
padded_within (suc n) (x ∷ xs) h = ap (λ r. x ∷ r) (padded_within n xs (omega (arith, h)))

pub padded_whole : (xs : List ℕ) → padded (length xs) xs ≡ xs
unfolding padded
padded_whole [] = refl
padded_whole (x ∷ xs) = ap (λ r. x ∷ r) (padded_whole xs)

pub padded_none : (xs : List ℕ) → padded 0 xs ≡ []
unfolding padded
padded_none xs = refl
