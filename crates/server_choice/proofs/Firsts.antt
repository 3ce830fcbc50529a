-- The first with something, by its number and as it is seen.
use Rattle.std.proofs.Common.{◌≡◌, ℕ, zero, suc, ◌+◌, Bool, true, false, ◌&&◌, ◌||◌, List, [], ◌∷◌, map, find, filter, Option, Some, None, is_some, option_map, option_and_then, slice_get, cond, ⊎_elim, refl, sym, ap, ap₂, ◌∙◌, subst, arith}
use Rattle.std.specs.List.{list_any}
use Rattle.std.proofs.lemmas.Bool.{cases_Bool}
use Rattle.site_views.specs.Choice.{or_else}
use Rattle.server_choice.specs.Listening.{first_from, number_if}

pub else-else : {A : Type 0} (a b c : Option A) → or_else (or_else a b) c ≡ or_else a (or_else b c)
else-else None b c = refl
else-else (Some x) b c = refl

pub else-none : {A : Type 0} (a : Option A) → or_else a None ≡ a
else-none None = refl
else-none (Some x) = refl

pub no_some : {A : Type 0} {a : A} → Some a ≡ None → ⊥
no_some e = grind (arith, e)

pub none-of : {A : Type 0} (o : Option A) → is_some o ≡ false → o ≡ None
none-of None h = refl
none-of (Some a) h = absurd (grind (arith, h))

abbrev pub later : Option ℕ → Option ℕ
later o = option_map suc o

pub later-else : (a b : Option ℕ) → later (or_else a b) ≡ or_else (later a) (later b)
later-else None b = refl
later-else (Some n) b = refl

module _ {X : Type 0} where
  pub first-as : (p q : X → Bool) → ((x : X) → p x ≡ q x) → (k : ℕ) (xs : List X) → first_from p k xs ≡ first_from q k xs
  unfolding first_from
  first-as p q same k [] = refl
  first-as p q same k (x ∷ xs) = ap₂ (λ b o. cond b (Some k) o) (same x) (first-as p q same (k + 1) xs)

  -- of one and those after it
  pub first-step : (p : X → Bool) (k : ℕ) (x : X) (xs : List X) → first_from p k (x ∷ xs) ≡ or_else (number_if (p x) k) (first_from p (k + 1) xs)
  unfolding first_from
  first-step p k x xs = elim (p x) as (λ b. cond b (Some k) (first_from p (k + 1) xs) ≡ or_else (number_if b k) (first_from p (k + 1) xs)) [ true ↦ refl | false ↦ refl ]

  pub first-none : (p : X → Bool) (k : ℕ) → first_from p k [] ≡ None
  unfolding first_from
  first-none p k = refl

  pub first-later : (p : X → Bool) (k : ℕ) (xs : List X) → first_from p (suc k) xs ≡ later (first_from p k xs)
  unfolding first_from
  first-later p k [] = refl
  first-later p k (x ∷ xs) =
      elim (p x) as (λ b. cond b (Some (suc k)) (first_from p (suc k + 1) xs) ≡ later (cond b (Some k) (first_from p (k + 1) xs)))
      [ true ↦ refl | false ↦ ap (λ n. first_from p n xs) (omega arith) ∙ first-later p (k + 1) xs ]

  -- the first of all, by the first of those after it
  pub first-cons : (p : X → Bool) (x : X) (xs : List X) → first_from p 0 (x ∷ xs) ≡ cond (p x) (Some 0) (later (first_from p 0 xs))
  unfolding first_from
  first-cons p x xs = ap (λ o. cond (p x) (Some 0) o) (first-later p 0 xs)

  pub first-any : (p : X → Bool) (k : ℕ) (xs : List X) → is_some (first_from p k xs) ≡ list_any p xs
  unfolding first_from
  first-any p k [] = refl
  first-any p k (x ∷ xs) =
      elim (p x) as (λ b. is_some (cond b (Some k) (first_from p (k + 1) xs)) ≡ (b || list_any p xs)) [ true ↦ refl | false ↦ first-any p (k + 1) xs ]

module _ {X Y : Type 0} (see : X → Y) where
  pub at-later : (x : X) (xs : List X) (o : Option ℕ) → option_and_then (slice_get (map see (x ∷ xs))) (later o) ≡ option_and_then (slice_get (map see xs)) o
  at-later x xs None = refl
  at-later x xs (Some n) = refl

  -- the number of one that is found is that of one
  pub first-there : (p : X → Bool) (xs : List X) (n : ℕ) → first_from p 0 xs ≡ Some n → is_some (slice_get (map see xs) n) ≡ true
  first-there p [] n h = absurd (no_some (sym h ∙ first-none p 0))
  first-there p (x ∷ xs) n h = ⊎_elim
      (λ (hit : p x ≡ true). at-start n (sym (first-cons p x xs ∙ ap (λ b. cond b (Some 0) (later (first_from p 0 xs))) hit) ∙ h))
      (λ (miss : p x ≡ false).
      past (first-there p xs) (first_from p 0 xs) refl (sym (first-cons p x xs ∙ ap (λ b. cond b (Some 0) (later (first_from p 0 xs))) miss) ∙ h))
      (cases_Bool (p x))
    where
      at-start : (n : ℕ) → Some 0 ≡ Some n → is_some (slice_get (see x ∷ map see xs) n) ≡ true
      at-start zero e = refl
      at-start (suc n) e = absurd (grind (arith, e))

      past : ((m : ℕ) → first_from p 0 xs ≡ Some m → is_some (slice_get (map see xs) m) ≡ true) → (o : Option ℕ) → first_from p 0 xs ≡ o → later o ≡ Some n →
          is_some (slice_get (see x ∷ map see xs) n) ≡ true
      past others None e h = absurd (grind (arith, h))
      past others (Some m) e h =
          let is : n ≡ suc m = grind (arith, h) in
          subst (λ k. is_some (slice_get (see x ∷ map see xs) k) ≡ true) (sym is) (others m e)

  -- what is found of those that pass a test is the one with that number
  module _ (test p : Y → Bool) (own q : X → Bool) (tests : (x : X) → test (see x) ≡ own x) (same : (x : X) → p (see x) ≡ q x) where
    passed : (y : Y) (rest : List Y) (a : Bool) → find p (cond a (y ∷ rest) rest) ≡ cond a (cond (p y) (Some y) (find p rest)) (find p rest)
    passed y rest true = refl
    passed y rest false = refl

    by-tests : (x : X) (xs : List X) → find p (filter test (map see xs)) ≡ option_and_then (slice_get (map see xs)) (first_from (λ x. own x && q x) 0 xs) → (a b : Bool) →
        cond a (cond b (Some (see x)) (find p (filter test (map see xs)))) (find p (filter test (map see xs)))
        ≡ option_and_then (slice_get (map see (x ∷ xs))) (cond (a && b) (Some 0) (later (first_from (λ x. own x && q x) 0 xs)))
    by-tests x xs others true true = refl
    by-tests x xs others true false = others ∙ sym (at-later x xs (first_from (λ x. own x && q x) 0 xs))
    by-tests x xs others false b = others ∙ sym (at-later x xs (first_from (λ x. own x && q x) 0 xs))

    pub find-is : (xs : List X) → find p (filter test (map see xs)) ≡ option_and_then (slice_get (map see xs)) (first_from (λ x. own x && q x) 0 xs)
    find-is [] = ap (option_and_then (slice_get [])) (sym (first-none (λ x. own x && q x) 0))
    find-is (x ∷ xs) =
        passed (see x) (filter test (map see xs)) (test (see x))
        ∙ ap₂ (λ a b. cond a (cond b (Some (see x)) (find p (filter test (map see xs)))) (find p (filter test (map see xs)))) (tests x) (same x)
        ∙ by-tests x xs (find-is xs) (own x) (q x)
        ∙ ap (option_and_then (slice_get (map see (x ∷ xs)))) (sym (first-cons (λ x. own x && q x) x xs))

-- the first of two numbers that leads to something
pub else-at : {Y : Type 0} (ys : List Y) (a b : Option ℕ) → ((n : ℕ) → a ≡ Some n → is_some (slice_get ys n) ≡ true) →
    or_else (option_and_then (slice_get ys) a) (option_and_then (slice_get ys) b) ≡ option_and_then (slice_get ys) (or_else a b)
else-at ys None b there = refl
else-at {Y = Y} ys (Some n) b there = some (slice_get ys n) (there n refl)
  where
    some : (o : Option Y) → is_some o ≡ true → or_else o (option_and_then (slice_get ys) b) ≡ o
    some None h = absurd (grind (arith, h))
    some (Some s) h = refl

pub keep-all : {Y : Type 0} (ys : List Y) → filter (λ y. true) ys ≡ ys
keep-all [] = refl
keep-all (y ∷ ys) = ap (λ l. y ∷ l) (keep-all ys)

pub keep-none : {Y : Type 0} (test : Y → Bool) (ys : List Y) → list_any test ys ≡ false → filter test ys ≡ []
keep-none test [] h = refl
keep-none test (y ∷ ys) h = ⊎_elim
    (λ (hit : test y ≡ true). absurd (grind (arith, sym (ap (λ b. b || list_any test ys) hit) ∙ h)))
    (λ (miss : test y ≡ false). ap (λ b. cond b (y ∷ filter test ys) (filter test ys)) miss
    ∙ keep-none test ys (sym (ap (λ b. b || list_any test ys) miss) ∙ h))
    (cases_Bool (test y))
