-- Texts in the order of their bytes, and those that begin with one another.
use Rattle.std.proofs.Common.{Ordering, ◌≡◌, ℕ, ◌<◌, ◌≤◌, true, false, List, [], ◌∷◌, length, ◌⊎◌, inl, inr, ⊎_elim, refl, sym, ◌∙◌, subst, nat_eq, nat_lt, arith}
use mathlib.Core.Bool.{true≢false}
use Rattle.std.proofs.lemmas.Bool.{cases_lt, and_parts, and_from}
use Rattle.std.proofs.lemmas.Bool.Decides.{nat_tests}
use Rattle.std.specs.Ordering.{nat_cmp, is_le, ordering_then}
use Rattle.std.specs.Cmp.Lexicographic.{slice_cmp}
use Rattle.location_match.specs.Prefixes.{fits, is_inside, is_at_most}

pub true_false : {A : Type 0} → true ≡ false → A
true_false e = absurd (true≢false e)

-- what the first bytes and the others say of the order
pub le_parts : (x y : ℕ) (r : Ordering) → is_le (ordering_then (nat_cmp x y) r) ≡ true → (x < y) ⊎ ((x ≡ y) × (is_le r ≡ true))
le_parts x y r h = ⊎_elim
    (λ (lt : x < y). inl lt)
    (λ (ge : y ≤ x). ⊎_elim
    (λ (gt : y < x). true_false (sym h ∙ grind (arith, nat_tests)))
    (λ (le : x ≤ y). let e : x ≡ y = omega arith in inr (e, grind (arith, nat_tests)))
    (cases_lt y x))
    (cases_lt x y)

le_of_lt : (x y : ℕ) (r : Ordering) → x < y → is_le (ordering_then (nat_cmp x y) r) ≡ true
le_of_lt x y r h = grind (arith, nat_tests)

pub le_eq : (x : ℕ) (r : Ordering) → is_le (ordering_then (nat_cmp x x) r) ≡ is_le r
le_eq x r = grind (arith, nat_tests)

le_of_eq : (x : ℕ) (r : Ordering) → is_le r ≡ true → is_le (ordering_then (nat_cmp x x) r) ≡ true
le_of_eq x r h = le_eq x r ∙ h

pub first_same : (x y : ℕ) (xs ys : List ℕ) → fits (y ∷ ys) (x ∷ xs) ≡ true → (x ≡ y) × (fits ys xs ≡ true)
first_same x y xs ys h =
    let p = and_parts (nat_eq x y) (fits ys xs) h in
    let same : nat_eq x y ≡ true = p.0 in
    (grind (arith, nat_tests, same), p.1)

fits-cons : (x : ℕ) (xs ys : List ℕ) → fits ys xs ≡ true → fits (x ∷ ys) (x ∷ xs) ≡ true
fits-cons x xs ys h = and_from _ _ (grind (arith, nat_tests)) h

-- a text that a path begins with is at most the path
pub fits-at_most : (path text : List ℕ) → fits path text ≡ true → is_at_most text path ≡ true
fits-at_most [] [] h = refl
fits-at_most [] (x ∷ xs) h = true_false (sym h)
fits-at_most (y ∷ ys) [] h = refl
fits-at_most (y ∷ ys) (x ∷ xs) h =
    let p = first_same x y xs ys h in
    subst (λ n. is_le (ordering_then (nat_cmp x n) (slice_cmp nat_cmp xs ys)) ≡ true) p.0 (le_of_eq x _ (fits-at_most ys xs p.1))

-- what is between a prefix of the path and the path begins with the prefix too
pub fits-between : (path other text : List ℕ) → fits path text ≡ true → is_at_most text other ≡ true →
    is_at_most other path ≡ true → fits other text ≡ true
fits-between path other [] h low high = refl
fits-between [] other (x ∷ xs) h low high = true_false (sym h)
fits-between (y ∷ ys) [] (x ∷ xs) h low high = true_false (sym low)
fits-between (y ∷ ys) (z ∷ zs) (x ∷ xs) h low high =
    let p = first_same x y xs ys h in
    let l = le_parts x z _ low in
    let r = le_parts z y _ high in
    ⊎_elim
    (λ (lt : x < z). absurd (⊎_elim (λ (gt : z < y). omega (arith, p.0)) (λ (e : (z ≡ y) × _). omega (arith, p.0, e.0)) r))
    (λ (e : (x ≡ z) × (is_le (slice_cmp nat_cmp xs zs) ≡ true)). ⊎_elim
    (λ (gt : z < y). absurd (omega (arith, p.0, e.0)))
    (λ (f : (z ≡ y) × (is_le (slice_cmp nat_cmp zs ys) ≡ true)).
    subst (λ n. fits (n ∷ zs) (x ∷ xs) ≡ true) e.0 (fits-cons x xs zs (fits-between ys zs xs p.1 e.1 f.1)))
    r)
    l

-- of two texts that a path begins with, the longer begins with the other
pub fits-both : (path text other : List ℕ) → fits path text ≡ true → fits path other ≡ true → length text ≤ length other →
    fits other text ≡ true
fits-both path [] other h g le = refl
fits-both path (x ∷ xs) [] h g le = absurd (omega arith)
fits-both [] (x ∷ xs) (z ∷ zs) h g le = true_false (sym h)
fits-both (y ∷ ys) (x ∷ xs) (z ∷ zs) h g le =
    let p = first_same x y xs ys h in
    let q = first_same z y zs ys g in
    subst (λ n. fits (n ∷ zs) (x ∷ xs) ≡ true) (p.0 ∙ sym q.0) (fits-cons x xs zs (fits-both ys xs zs p.1 q.1 (omega arith)))

pub fits-trans : (a b c : List ℕ) → fits a b ≡ true → fits b c ≡ true → fits a c ≡ true
fits-trans a b [] h g = refl
fits-trans a [] (z ∷ zs) h g = true_false (sym g)
fits-trans [] (y ∷ ys) (z ∷ zs) h g = true_false (sym h)
fits-trans (x ∷ xs) (y ∷ ys) (z ∷ zs) h g =
    let p = first_same y x ys xs h in
    let q = first_same z y zs ys g in
    subst (λ n. fits (n ∷ xs) (z ∷ zs) ≡ true) (q.0 ∙ p.0) (fits-cons z zs xs (fits-trans xs ys zs p.1 q.1))

pub fits-length : (path text : List ℕ) → fits path text ≡ true → length text ≤ length path
fits-length path [] h = omega arith
fits-length [] (x ∷ xs) h = true_false (sym h)
fits-length (y ∷ ys) (x ∷ xs) h = let p = first_same x y xs ys h in let le = fits-length ys xs p.1 in omega arith

pub at_most-trans : (a b c : List ℕ) → is_at_most a b ≡ true → is_at_most b c ≡ true → is_at_most a c ≡ true
at_most-trans [] b [] h g = refl
at_most-trans [] b (z ∷ zs) h g = refl
at_most-trans (x ∷ xs) [] c h g = true_false (sym h)
at_most-trans (x ∷ xs) (y ∷ ys) [] h g = true_false (sym g)
at_most-trans (x ∷ xs) (y ∷ ys) (z ∷ zs) h g =
    ⊎_elim
    (λ (lt : x < y). le_of_lt x z _ (⊎_elim (λ (lt2 : y < z). omega arith) (λ (e : (y ≡ z) × _). omega (arith, e.0)) (le_parts y z _ g)))
    (λ (e : (x ≡ y) × (is_le (slice_cmp nat_cmp xs ys) ≡ true)). ⊎_elim
    (λ (lt : y < z). le_of_lt x z _ (omega (arith, e.0)))
    (λ (f : (y ≡ z) × (is_le (slice_cmp nat_cmp ys zs) ≡ true)).
    subst (λ n. is_le (ordering_then (nat_cmp x n) (slice_cmp nat_cmp xs zs)) ≡ true) (e.0 ∙ f.0)
    (le_of_eq x _ (at_most-trans xs ys zs e.1 f.1)))
    (le_parts y z _ g))
    (le_parts x y _ h)

-- of two texts one is at most the other
pub at_most-total : (a b : List ℕ) → is_at_most a b ≡ false → is_at_most b a ≡ true
at_most-total [] [] h = refl
at_most-total [] (y ∷ ys) h = true_false h
at_most-total (x ∷ xs) [] h = refl
at_most-total (x ∷ xs) (y ∷ ys) h = ⊎_elim
    (λ (lt : x < y). true_false (sym (le_of_lt x y _ lt) ∙ h))
    (λ (ge : y ≤ x). ⊎_elim
    (λ (gt : y < x). le_of_lt y x _ gt)
    (λ (le : x ≤ y). let e : x ≡ y = omega arith in
    subst (λ n. is_le (ordering_then (nat_cmp y n) (slice_cmp nat_cmp ys xs)) ≡ true) (sym e)
    (le_of_eq y _ (at_most-total xs ys (sym (le_eq y _) ∙ subst (λ n. is_le (ordering_then (nat_cmp n y) (slice_cmp nat_cmp xs ys)) ≡ false) e h))))
    (cases_lt y x))
    (cases_lt x y)

-- a text that is at most a proper prefix of its own isn't there
pub inside-above : (text other : List ℕ) → is_inside text other ≡ true → is_at_most other text ≡ false
inside-above [] [] h = true_false (sym h)
inside-above [] (y ∷ ys) h = refl
inside-above (x ∷ xs) [] h = true_false (sym h)
inside-above (x ∷ xs) (y ∷ ys) h =
    let p = and_parts _ _ h in
    let q = first_same x y xs ys p.0 in
    let shorter : nat_lt (length xs) (length ys) ≡ true = grind (arith, nat_tests, p.1) in
    subst (λ n. is_le (ordering_then (nat_cmp y n) (slice_cmp nat_cmp ys xs)) ≡ false) (sym q.0)
    (le_eq y _ ∙ inside-above xs ys (and_from _ _ q.1 shorter))
