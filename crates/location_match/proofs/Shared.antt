-- How many bytes texts share, by their order.
use Rattle.std.proofs.Common.{◌≡◌, ℕ, zero, suc, ◌+◌, ◌<◌, ◌≤◌, nat_eq, nat_le, true, false, List, [], ◌∷◌, ◌++◌, length, get_or, ◌⊎◌, inl, inr, ⊎_elim, refl, sym, ap, ◌∙◌, subst, cond, arith}
use Rattle.std.proofs.lemmas.Bool.{cases_lt, cases_Bool}
use Rattle.std.proofs.lemmas.Bool.Decides.{nat_tests}
use Rattle.std.proofs.lemmas.List.{get_or_append_left, get_or_push, length-append}
use Rattle.std.specs.Ordering.{nat_cmp, is_le, ordering_then}
use Rattle.std.specs.Cmp.Lexicographic.{slice_cmp}
use Rattle.location_match.specs.Prefixes.{text_at, is_at_most}
use Rattle.location_match.specs.Shared.{shared, AllShare}
use Rattle.location_match.proofs.Order.{le_parts, le_eq, true_false}

cons-same : (x y : ℕ) (xs ys : List ℕ) → x ≡ y → shared (x ∷ xs) (y ∷ ys) ≡ shared xs ys + 1
unfolding shared
cons-same x y xs ys e = let t : nat_eq x y ≡ true = grind (arith, nat_tests) in ap (λ b. cond b (shared xs ys + 1) 0) t

cons-apart : (x y : ℕ) (xs ys : List ℕ) → nat_eq x y ≡ false → shared (x ∷ xs) (y ∷ ys) ≡ 0
unfolding shared
cons-apart x y xs ys e = ap (λ b. cond b (shared xs ys + 1) 0) e

equal_or : (x y : ℕ) → (x ≡ y) ⊎ (nat_eq x y ≡ false)
equal_or x y = ⊎_elim (λ (h : nat_eq x y ≡ true). inl (grind (arith, nat_tests))) (λ h. inr h) (cases_Bool (nat_eq x y))

pub shared-left : (xs ys : List ℕ) → shared xs ys ≤ length xs
unfolding shared
shared-left [] ys = omega arith
shared-left (x ∷ xs) [] = omega arith
shared-left (x ∷ xs) (y ∷ ys) = ⊎_elim
    (λ e. let rest = shared-left xs ys in omega (arith, cons-same x y xs ys e, rest))
    (λ e. omega (arith, cons-apart x y xs ys e))
    (equal_or x y)

pub shared-right : (xs ys : List ℕ) → shared xs ys ≤ length ys
unfolding shared
shared-right [] ys = omega arith
shared-right (x ∷ xs) [] = omega arith
shared-right (x ∷ xs) (y ∷ ys) = ⊎_elim
    (λ e. let rest = shared-right xs ys in omega (arith, cons-same x y xs ys e, rest))
    (λ e. omega (arith, cons-apart x y xs ys e))
    (equal_or x y)

pub shared-next : (xs ys : List ℕ) (n : ℕ) → n ≤ shared xs ys → n < length xs → n < length ys →
    get_or xs n 0 ≡ get_or ys n 0 → n + 1 ≤ shared xs ys
unfolding shared
shared-next [] ys n le lx ly e = absurd (omega arith)
shared-next (x ∷ xs) [] n le lx ly e = absurd (omega arith)
shared-next (x ∷ xs) (y ∷ ys) zero le lx ly e = omega (arith, cons-same x y xs ys e)
shared-next (x ∷ xs) (y ∷ ys) (suc n) le lx ly e = ⊎_elim
    (λ s. let same = cons-same x y xs ys s in let rest = shared-next xs ys n (omega (arith, same, le)) (omega arith) (omega arith) e in omega (arith, same, rest))
    (λ s. absurd (omega (arith, cons-apart x y xs ys s, le)))
    (equal_or x y)

pub shared-stop : (xs ys : List ℕ) (n : ℕ) → n ≤ shared xs ys → n < length xs → n < length ys →
    nat_eq (get_or xs n 0) (get_or ys n 0) ≡ false → shared xs ys ≡ n
unfolding shared
shared-stop [] ys n le lx ly e = absurd (omega arith)
shared-stop (x ∷ xs) [] n le lx ly e = absurd (omega arith)
shared-stop (x ∷ xs) (y ∷ ys) zero le lx ly e = cons-apart x y xs ys e
shared-stop (x ∷ xs) (y ∷ ys) (suc n) le lx ly e = ⊎_elim
    (λ s. let same = cons-same x y xs ys s in let rest = shared-stop xs ys n (omega (arith, same, le)) (omega arith) (omega arith) e in omega (arith, same, rest))
    (λ s. absurd (omega (arith, cons-apart x y xs ys s, le)))
    (equal_or x y)

-- the order, by the first bytes in which they differ
pub at_most-end : (xs ys : List ℕ) → length xs ≤ shared xs ys → is_at_most xs ys ≡ true
unfolding shared
at_most-end [] [] le = refl
at_most-end [] (y ∷ ys) le = refl
at_most-end (x ∷ xs) [] le = absurd (omega arith)
at_most-end (x ∷ xs) (y ∷ ys) le = ⊎_elim
    (λ s. let same = cons-same x y xs ys s in
    subst (λ n. is_le (ordering_then (nat_cmp x n) (slice_cmp nat_cmp xs ys)) ≡ true) s (le_eq x _ ∙ at_most-end xs ys (omega (arith, same, le))))
    (λ s. absurd (omega (arith, cons-apart x y xs ys s, le)))
    (equal_or x y)

pub above-end : (xs ys : List ℕ) → shared xs ys < length xs → length ys ≤ shared xs ys → is_at_most xs ys ≡ false
unfolding shared
above-end [] ys lt le = absurd (omega arith)
above-end (x ∷ xs) [] lt le = refl
above-end (x ∷ xs) (y ∷ ys) lt le = ⊎_elim
    (λ s. let same = cons-same x y xs ys s in
    subst (λ n. is_le (ordering_then (nat_cmp x n) (slice_cmp nat_cmp xs ys)) ≡ false) s (le_eq x _ ∙ above-end xs ys (omega (arith, same, lt)) (omega (arith, same, le))))
    (λ s. absurd (omega (arith, cons-apart x y xs ys s, le)))
    (equal_or x y)

first_decides : (x y : ℕ) (xs ys : List ℕ) → nat_eq x y ≡ false → is_at_most (x ∷ xs) (y ∷ ys) ≡ nat_le x y
first_decides x y xs ys e = grind (arith, nat_tests)

pub order-at : (xs ys : List ℕ) (n : ℕ) → n ≡ shared xs ys → n < length xs → n < length ys →
    is_at_most xs ys ≡ nat_le (get_or xs n 0) (get_or ys n 0)
unfolding shared
order-at [] ys n is lx ly = absurd (omega arith)
order-at (x ∷ xs) [] n is lx ly = absurd (omega arith)
order-at (x ∷ xs) (y ∷ ys) zero is lx ly = ⊎_elim
    (λ s. absurd (omega (arith, cons-same x y xs ys s, is)))
    (λ s. first_decides x y xs ys s)
    (equal_or x y)
order-at (x ∷ xs) (y ∷ ys) (suc n) is lx ly = ⊎_elim
    (λ s. let same = cons-same x y xs ys s in
    subst (λ m. is_le (ordering_then (nat_cmp x m) (slice_cmp nat_cmp xs ys)) ≡ nat_le (get_or xs n 0) (get_or ys n 0)) s
    (le_eq x _ ∙ order-at xs ys n (omega (arith, same, is)) (omega arith) (omega arith)))
    (λ s. absurd (omega (arith, cons-apart x y xs ys s, is)))
    (equal_or x y)

-- what is between a text and a path, from below, shares as many bytes with the path
pub shared-between : (a t path : List ℕ) → is_at_most a t ≡ true → is_at_most t path ≡ true → shared a path ≤ shared t path
unfolding shared
shared-between [] t path low high = omega arith
shared-between (x ∷ xs) t [] low high = omega arith
shared-between (x ∷ xs) [] (y ∷ ys) low high = true_false (sym low)
shared-between (x ∷ xs) (z ∷ zs) (y ∷ ys) low high = ⊎_elim
    (λ s.
    let l = le_parts x z _ low in
    let r = le_parts z y _ high in
    let zy : z ≡ y = ⊎_elim
    (λ (lt : x < z). ⊎_elim (λ (gt : z < y). absurd (omega (arith, s, lt, gt))) (λ (e : (z ≡ y) × _). e.0) r)
    (λ (e : (x ≡ z) × _). sym e.0 ∙ s) l in
    let lower : is_le (slice_cmp nat_cmp xs zs) ≡ true = ⊎_elim
    (λ (lt : x < z). absurd (omega (arith, s, lt, zy)))
    (λ (e : (x ≡ z) × (is_le (slice_cmp nat_cmp xs zs) ≡ true)). e.1) l in
    let upper : is_le (slice_cmp nat_cmp zs ys) ≡ true = ⊎_elim
    (λ (lt : z < y). absurd (omega (arith, zy, lt)))
    (λ (e : (z ≡ y) × (is_le (slice_cmp nat_cmp zs ys) ≡ true)). e.1) r in
    let rest = shared-between xs zs ys lower upper in
    omega (arith, cons-same x y xs ys s, cons-same z y zs ys zy, rest))
    (λ s. omega (arith, cons-apart x y xs ys s))
    (equal_or x y)

-- and from above
pub shared-between-above : (path t b : List ℕ) → is_at_most path t ≡ true → is_at_most t b ≡ true → shared b path ≤ shared t path
unfolding shared
shared-between-above [] t [] low high = omega arith
shared-between-above [] t (y ∷ ys) low high = omega arith
shared-between-above (x ∷ xs) t [] low high = omega arith
shared-between-above (x ∷ xs) [] (y ∷ ys) low high = true_false (sym low)
shared-between-above (x ∷ xs) (z ∷ zs) (y ∷ ys) low high = ⊎_elim
    (λ s.
    let l = le_parts x z _ low in
    let r = le_parts z y _ high in
    let zx : z ≡ x = ⊎_elim
    (λ (lt : x < z). ⊎_elim (λ (gt : z < y). absurd (omega (arith, s, lt, gt))) (λ (e : (z ≡ y) × _). e.0 ∙ s) r)
    (λ (e : (x ≡ z) × _). sym e.0) l in
    let lower : is_le (slice_cmp nat_cmp xs zs) ≡ true = ⊎_elim
    (λ (lt : x < z). absurd (omega (arith, lt, zx)))
    (λ (e : (x ≡ z) × (is_le (slice_cmp nat_cmp xs zs) ≡ true)). e.1) l in
    let upper : is_le (slice_cmp nat_cmp zs ys) ≡ true = ⊎_elim
    (λ (lt : z < y). absurd (omega (arith, zx, lt, s)))
    (λ (e : (z ≡ y) × (is_le (slice_cmp nat_cmp zs ys) ≡ true)). e.1) r in
    let rest = shared-between-above xs zs ys lower upper in
    omega (arith, cons-same y x ys xs s, cons-same z x zs xs zx, rest))
    (λ s. omega (arith, cons-apart y x ys xs s))
    (equal_or y x)

-- what two texts share with a third, they share
pub shared-both : (a b c : List ℕ) (n : ℕ) → n ≤ shared a b → n ≤ shared b c → n ≤ shared a c
unfolding shared
shared-both a b c zero g h = omega arith
shared-both [] b c (suc n) g h = absurd (omega arith)
shared-both (x ∷ xs) [] c (suc n) g h = absurd (omega arith)
shared-both (x ∷ xs) (y ∷ ys) [] (suc n) g h = absurd (omega arith)
shared-both (x ∷ xs) (y ∷ ys) (z ∷ zs) (suc n) g h = ⊎_elim
    (λ s. ⊎_elim
    (λ t.
    let one = cons-same x y xs ys s in
    let two = cons-same y z ys zs t in
    let rest = shared-both xs ys zs n (omega (arith, one, g)) (omega (arith, two, h)) in
    omega (arith, cons-same x z xs zs (s ∙ t), rest))
    (λ t. absurd (omega (arith, cons-apart y z ys zs t, h)))
    (equal_or y z))
    (λ s. absurd (omega (arith, cons-apart x y xs ys s, g)))
    (equal_or x y)

pub shared-sym : (a b : List ℕ) → shared a b ≤ shared b a
unfolding shared
shared-sym [] b = omega arith
shared-sym (x ∷ xs) [] = omega arith
shared-sym (x ∷ xs) (y ∷ ys) = ⊎_elim
    (λ s. let rest = shared-sym xs ys in omega (arith, cons-same x y xs ys s, cons-same y x ys xs (sym s), rest))
    (λ s. omega (arith, cons-apart x y xs ys s))
    (equal_or x y)

pub shared-self : (a : List ℕ) → shared a a ≡ length a
unfolding shared
shared-self [] = refl
shared-self (x ∷ xs) = let rest = shared-self xs in omega (arith, cons-same x x xs xs refl, rest)

-- one text more
pub all_share-first : (text : List ℕ) → AllShare (text ∷ []) (length text)
all_share-first text i j li lj =
    let ei : i ≡ 0 = omega (arith, li) in
    let ej : j ≡ 0 = omega (arith, lj) in
    let self = shared-self text in
    subst (λ n. length text ≤ shared (text_at (text ∷ []) n) (text_at (text ∷ []) j)) (sym ei)
    (subst (λ n. length text ≤ shared text (text_at (text ∷ []) n)) (sym ej) (omega (arith, self)))

module _ (texts : List (List ℕ)) (text : List ℕ) (common more : ℕ) (some : 0 < length texts) (all : AllShare texts common)
    (le : more ≤ common) (first : more ≤ shared (text_at texts 0) text) where
  abbrev grown : List (List ℕ)
  grown = texts ++ text ∷ []

  size : length grown ≡ length texts + 1
  size = length-append texts (text ∷ [])

  with_first : (i : ℕ) → i < length grown → more ≤ shared (text_at grown i) (text_at texts 0)
  with_first i lt = ⊎_elim
      (λ (inside : i < length texts).
      let a = all i 0 inside some in
      subst (λ t. more ≤ shared t (text_at texts 0)) (sym (get_or_append_left texts (text ∷ []) [] i inside)) (omega (arith, a, le)))
      (λ (last : length texts ≤ i).
      let e : i ≡ length texts = omega (arith, size, lt) in
      let back = shared-sym (text_at texts 0) text in
      subst (λ t. more ≤ shared t (text_at texts 0)) (sym (ap (text_at grown) e ∙ get_or_push texts text [] (length texts) refl)) (omega (arith, first, back)))
      (cases_lt i (length texts))

  pub all_share-more : AllShare grown more
  all_share-more i j li lj =
      let back = shared-sym (text_at grown j) (text_at texts 0) in
      let other = with_first j lj in
      shared-both (text_at grown i) (text_at texts 0) (text_at grown j) more (with_first i li) (omega (arith, other, back))
