-- Lists, from a place on.
use Rattle.std.proofs.Common.{◌≡◌, ℕ, suc, ◌+◌, ◌<◌, ◌≤◌, ◌||◌, ◌&&◌, Bool, true, false, not, List, [], ◌∷◌, ◌++◌, length, drop, map, flat_map, get_or, refl, ap, sym, ◌∙◌, add-one, drop-cons, slice_index}
use Rattle.std.specs.List.{list_any, list_all}
use Rattle.std.proofs.lemmas.List.{map-append}
use Rattle.std.proofs.Math.ListN.{drop_of_length-le}

pub next_at : {X : Type 0} (xs : List X) (j : ℕ) (x : X) → j < length xs → x ≡ get_or xs j x → drop j xs ≡ x ∷ drop (j + 1) xs
next_at xs j x h e = drop-cons xs j x h ∙ ap (λ y. y ∷ drop (suc j) xs) (sym e) ∙ ap (λ n. x ∷ drop n xs) (sym (add-one j))

pub all_over : {X : Type 0} (xs : List X) (j : ℕ) → length xs ≤ j → drop j xs ≡ []
all_over xs j h = drop_of_length-le xs h

pub any_map : {X Y : Type 0} (p : Y → Bool) (f : X → Y) (xs : List X) → list_any p (map f xs) ≡ list_any (λ x. p (f x)) xs
any_map p f [] = refl
any_map p f (x ∷ xs) = ap (λ b. p (f x) || b) (any_map p f xs)

pub all_map : {X Y : Type 0} (p : Y → Bool) (f : X → Y) (xs : List X) → list_all p (map f xs) ≡ list_all (λ x. p (f x)) xs
all_map p f [] = refl
all_map p f (x ∷ xs) = ap (λ b. p (f x) && b) (all_map p f xs)

pub flat_of_map : {X Y Z : Type 0} (g : Y → List Z) (f : X → Y) (xs : List X) → flat_map g (map f xs) ≡ flat_map (λ x. g (f x)) xs
flat_of_map g f [] = refl
flat_of_map g f (x ∷ xs) = ap (λ l. g (f x) ++ l) (flat_of_map g f xs)

pub map_of_flat : {X Y Z : Type 0} (g : Y → Z) (f : X → List Y) (xs : List X) → map g (flat_map f xs) ≡ flat_map (λ x. map g (f x)) xs
map_of_flat g f [] = refl
map_of_flat g f (x ∷ xs) = map-append g (f x) (flat_map f xs) ∙ ap (λ l. map g (f x) ++ l) (map_of_flat g f xs)

pub number_at : (xs : List ℕ) (j : ℕ) → j < length xs → drop j xs ≡ slice_index xs j ∷ drop (j + 1) xs
number_at xs j h = drop-cons xs j 0 h ∙ ap (λ n. slice_index xs j ∷ drop n xs) (sym (add-one j))

-- of a list from a place on, one more
module _ {X : Type 0} (xs : List X) (i : ℕ) (x : X) (at : drop i xs ≡ x ∷ drop (i + 1) xs) where
  pub any_more : (f : X → Bool) (o n : Bool) → n ≡ (f x || o) → (list_any f (drop (i + 1) xs) || n) ≡ (list_any f (drop i xs) || o)
  any_more f o n e =
      ap (λ b. list_any f (drop (i + 1) xs) || b) e ∙ turned (list_any f (drop (i + 1) xs)) (f x) o ∙ ap (λ l. list_any f l || o) (sym at)
    where
      turned : (r p o : Bool) → (r || (p || o)) ≡ ((p || r) || o)
      turned true true o = refl
      turned true false o = refl
      turned false true o = refl
      turned false false o = refl

  pub all_more : (f : X → Bool) (o n : Bool) → n ≡ (not (f x) || o) → (not (list_all f (drop (i + 1) xs)) || n) ≡ (not (list_all f (drop i xs)) || o)
  all_more f o n e =
      ap (λ b. not (list_all f (drop (i + 1) xs)) || b) e ∙ turned (list_all f (drop (i + 1) xs)) (f x) o ∙ ap (λ l. not (list_all f l) || o) (sym at)
    where
      turned : (r p o : Bool) → (not r || (not p || o)) ≡ (not (p && r) || o)
      turned true true o = refl
      turned true false o = refl
      turned false true o = refl
      turned false false o = refl

module _ {X : Type 0} (xs : List X) (i : ℕ) (over : length xs ≤ i) where
  pub any_over : (f : X → Bool) (o : Bool) → (list_any f (drop i xs) || o) ≡ o
  any_over f o = ap (λ l. list_any f l || o) (all_over xs i over)

  pub all_done : (f : X → Bool) (o : Bool) → (not (list_all f (drop i xs)) || o) ≡ o
  all_done f o = ap (λ l. not (list_all f l) || o) (all_over xs i over)

pub or_false : (b : Bool) → (b || false) ≡ b
or_false true = refl
or_false false = refl
