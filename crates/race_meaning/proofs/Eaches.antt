-- What is so of each member of a list.
use Rattle.std.proofs.Common.{◌≡◌, ◌||◌, ◌&&◌, Bool, true, false, List, [], ◌∷◌, ◌++◌, map, flat_map}
use Rattle.std.specs.List.{list_any, list_all}

abbrev pub Each : {A : Type 0} → (A → Type 0) → List A → Type 0
Each P [] = Unit {0}
Each P (x ∷ xs) = P x × Each P xs

pub each_any : {A : Type 0} (P : A → Type 0) (xs : List A) → ((x : A) → P x) → Each P xs
each_any P [] f = tt
each_any P (x ∷ xs) f = (f x, each_any P xs f)

pub each_more : {A : Type 0} (P Q : A → Type 0) (xs : List A) → ((x : A) → P x → Q x) → Each P xs → Each Q xs
each_more P Q [] f h = tt
each_more P Q (x ∷ xs) f h = (f x h.0, each_more P Q xs f h.1)

pub each_both : {A : Type 0} (P Q : A → Type 0) (xs : List A) → Each P xs → Each Q xs → Each (λ x. P x × Q x) xs
each_both P Q [] h g = tt
each_both P Q (x ∷ xs) h g = ((h.0, g.0), each_both P Q xs h.1 g.1)

-- for each member all of these, where for all of these each member
pub each_all : {A B : Type 0} (P : B → A → Type 0) (xs : List A) → ((b : B) → Each (P b) xs) → Each (λ x. (b : B) → P b x) xs
each_all P [] f = tt
each_all P (x ∷ xs) f = ((λ b. (f b).0), each_all P xs (λ b. (f b).1))

pub each_first : {A : Type 0} (P : A → Type 0) (xs ys : List A) → Each P (xs ++ ys) → Each P xs
each_first P [] ys h = tt
each_first P (x ∷ xs) ys h = (h.0, each_first P xs ys h.1)

pub each_second : {A : Type 0} (P : A → Type 0) (xs ys : List A) → Each P (xs ++ ys) → Each P ys
each_second P [] ys h = h
each_second P (x ∷ xs) ys h = each_second P xs ys h.1

pub each_flat : {A B : Type 0} (P : B → Type 0) (f : A → List B) (xs : List A) → Each P (flat_map f xs) → Each (λ x. Each P (f x)) xs
each_flat P f [] h = tt
each_flat P f (x ∷ xs) h = (each_first P (f x) (flat_map f xs) h, each_flat P f xs (each_second P (f x) (flat_map f xs) h))

pub each_map : {A B : Type 0} (P : B → Type 0) (f : A → B) (xs : List A) → Each P (map f xs) → Each (λ x. P (f x)) xs
each_map P f [] h = tt
each_map P f (x ∷ xs) h = (h.0, each_map P f xs h.1)

pub not_left : (a b : Bool) → (a || b) ≡ false → a ≡ false
not_left true b e = cc
not_left false b e = refl_false
  where
    refl_false : false ≡ false
    refl_false = λ i. false

pub not_right : (a b : Bool) → (a || b) ≡ false → b ≡ false
not_right true b e = cc
not_right false b e = e

all_left : (a b : Bool) → (a && b) ≡ true → a ≡ true
all_left true b e = λ i. true
all_left false b e = cc

all_right : (a b : Bool) → (a && b) ≡ true → b ≡ true
all_right true b e = e
all_right false b e = cc

pub each_not : {A : Type 0} (test : A → Bool) (xs : List A) → list_any test xs ≡ false → Each (λ x. test x ≡ false) xs
each_not test [] e = tt
each_not test (x ∷ xs) e = (not_left (test x) (list_any test xs) e, each_not test xs (not_right (test x) (list_any test xs) e))

pub each_true : {A : Type 0} (test : A → Bool) (xs : List A) → list_all test xs ≡ true → Each (λ x. test x ≡ true) xs
each_true test [] e = tt
each_true test (x ∷ xs) e = (all_left (test x) (list_all test xs) e, each_true test xs (all_right (test x) (list_all test xs) e))
