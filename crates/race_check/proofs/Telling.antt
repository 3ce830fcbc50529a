-- Texts that are told of one after another.
use Rattle.std.proofs.Common.{◌≡◌, ℕ, ◌+◌, drop, map, flat_map, ◌||◌, ◌&&◌, Bool, true, false, List, [], ◌∷◌, ◌++◌, Option, None, Some, is_some, MatchOption, bytes_eq, cond, refl, ap, sym, ◌∙◌, subst, ⊎_elim, if◌then◌else◌}
use Rattle.std.proofs.lemmas.Bool.{cases_Bool}
use Rattle.std.specs.declared.cmp.Ordering.TheVariants.{Less}
use Rattle.std.specs.List.{list_any, list_all, AllByRecursion}
use Rattle.std.specs.List.Sorted.{IsStrictlySortedBy}
use Rattle.std.specs.Ordering.{nat_cmp, is_eq, eq_by_cmp}
use Rattle.std.specs.Cmp.Lexicographic.{slice_cmp, nat_list_eq_equiv}
use Rattle.std.specs.Map.{lookup, keys_of, KeepsOthers}
use Rattle.std.proofs.lemmas.Map.Text.{is_eq-slice_cmp}
use Rattle.std.proofs.lemmas.Slice.Eq.{bytes_eq-Decides}
use Rattle.site_views.specs.Values.{Text}
use Rattle.race_meaning.specs.Named.{is_steady_piece, same_text, is_one_text, is_some_text}
use Rattle.race_check.specs.declared.texts.Texts.{Texts}
use Rattle.race_check.specs.declared.texts.Texts.TheVariants.{One, Several}
use Rattle.race_check.specs.Texts.{with_text, told, is_one}

pub told_more : (o : Option Texts) (xs ys : List Text) → told (told o xs) ys ≡ told o (xs ++ ys)
unfolding told
told_more o [] ys = refl
told_more o (x ∷ xs) ys = told_more (Some (with_text o x)) xs ys

pub told_nothing : (o : Option Texts) → told o [] ≡ o
unfolding told
told_nothing o = refl

pub told_one : (o : Option Texts) (x : Text) → told o (x ∷ []) ≡ Some (with_text o x)
unfolding told
told_one o x = refl

several : (xs : List Text) → told (Some Several) xs ≡ Some Several
unfolding told
several [] = refl
several (x ∷ xs) = several xs

one_of : (first : Text) (xs : List Text) → told (Some (One first)) xs ≡ Some (if list_all (same_text first) xs then One first else Several)
unfolding told
one_of first [] = refl
one_of first (x ∷ xs) = elim (same_text first x) as (λ b. told (Some (if b then One first else Several)) xs ≡ Some (if b && list_all (same_text first) xs then One first else Several))
    [ true ↦ one_of first xs | false ↦ several xs ]

is_one_by : (steady same : Bool) (first : Text) (xs : List Text) → list_all (same_text first) xs ≡ same →
    is_one (told (Some (if steady then One first else Several)) xs) ≡ (steady && same)
is_one_by true true first xs e = ap is_one (one_of first xs ∙ ap (λ b. Some (if b then One first else Several)) e)
is_one_by true false first xs e = ap is_one (one_of first xs ∙ ap (λ b. Some (if b then One first else Several)) e)
is_one_by false same first xs e = ap is_one (several xs)

pub is_one_told : (xs : List Text) → is_one (told None xs) ≡ is_one_text xs
unfolding told
is_one_told [] = refl
is_one_told (x ∷ xs) = is_one_by (list_all is_steady_piece x) (list_all (same_text x) xs) x xs refl

stays_some : (o : Texts) (xs : List Text) → is_some (told (Some o) xs) ≡ true
unfolding told
stays_some o [] = refl
stays_some o (x ∷ xs) = stays_some (with_text (Some o) x) xs

pub is_some_told : (xs : List Text) → is_some (told None xs) ≡ is_some_text xs
unfolding told
is_some_told [] = refl
is_some_told (x ∷ xs) = stays_some (with_text None x) xs

-- ---- a table after a name got a text

pub kept_by : (f : List ℕ → Option Texts) (name : List ℕ) (text : Text) → f name ≡ Some (with_text (f name) text) →
    (other : List ℕ) → f other ≡ told (f other) (if bytes_eq name other then text ∷ [] else [])
kept_by f name text here other = ⊎_elim
    (λ (hit : bytes_eq name other ≡ true).
    let same : name ≡ other = (bytes_eq-Decides name other).0 hit in
    rw hit (subst (λ n. f n ≡ Some (with_text (f n) text)) same here ∙ sym (told_one (f other) text)))
    (λ (miss : bytes_eq name other ≡ false). rw miss (sym (told_nothing (f other))))
    (cases_Bool (bytes_eq name other))

pub put_by : (f g : List ℕ → Option Texts) (name : List ℕ) (text : Text) → g name ≡ Some (with_text (f name) text) →
    ((other : List ℕ) → bytes_eq name other ≡ false → g other ≡ f other) →
    (other : List ℕ) → g other ≡ told (f other) (if bytes_eq name other then text ∷ [] else [])
put_by f g name text here others other = ⊎_elim
    (λ (hit : bytes_eq name other ≡ true).
    let same : name ≡ other = (bytes_eq-Decides name other).0 hit in
    rw hit (subst (λ n. g n ≡ Some (with_text (f n) text)) same here ∙ sym (told_one (f other) text)))
    (λ (miss : bytes_eq name other ≡ false). rw miss (others other miss ∙ sym (told_nothing (f other))))
    (cases_Bool (bytes_eq name other))

-- keys that are compared by their bytes
module _ {K X : Type 0} (bytes : K → List ℕ) (old new : List (K × X)) (text : List ℕ)
    (kept : KeepsOthers (eq_by_cmp (λ x y. slice_cmp nat_cmp (bytes x) (bytes y))) (λ k. is_eq (slice_cmp nat_cmp text (bytes k))) old new) where
  equal : (cs bs : List ℕ) → is_eq (slice_cmp nat_cmp cs bs) ≡ true → cs ≡ bs
  equal cs bs e = (bytes_eq-Decides cs bs).0 (sym (is_eq-slice_cmp cs bs) ∙ e)

  apart : (other key : List ℕ) → bytes_eq text other ≡ false → is_eq (slice_cmp nat_cmp text key) ≡ true → is_eq (slice_cmp nat_cmp other key) ≡ false
  apart other key n y =
      let same : text ≡ key = equal text key y in
      is_eq-slice_cmp other key ∙ nat_list_eq_equiv.symm other key ∙ subst (λ k. bytes_eq k other ≡ false) same n

  pub others_kept : (other : List ℕ) → bytes_eq text other ≡ false →
      lookup (λ k. is_eq (slice_cmp nat_cmp other (bytes k))) new ≡ lookup (λ k. is_eq (slice_cmp nat_cmp other (bytes k))) old
  unfolding KeepsOthers
  others_kept other n =
      kept (λ k. is_eq (slice_cmp nat_cmp other (bytes k))) (λ x y e. ap (λ o. is_eq (slice_cmp nat_cmp o (bytes y))) (equal other (bytes x) e)) (λ k. apart other (bytes k) n)

-- one after another
pub told_step : {X : Type 0} (g : X → List Text) (xs : List X) (i : ℕ) (x : X) → drop i xs ≡ x ∷ drop (i + 1) xs → (o n : Option Texts) → n ≡ told o (g x) →
    told n (flat_map g (drop (i + 1) xs)) ≡ told o (flat_map g (drop i xs))
told_step g xs i x at o n e =
    ap (λ t. told t (flat_map g (drop (i + 1) xs))) e ∙ told_more o (g x) (flat_map g (drop (i + 1) xs)) ∙ ap (λ l. told o (flat_map g l)) (sym at)

pub told_over : {X : Type 0} (g : X → List Text) (rest : List X) → rest ≡ [] → (o : Option Texts) → told o (flat_map g rest) ≡ o
told_over g rest over o = ap (λ l. told o (flat_map g l)) over ∙ told_nothing o

-- ---- the names of a table

pub keys_known : {K X : Type 0} (bytes : K → List ℕ) (es : List (K × X)) (name : List ℕ) →
    list_any (bytes_eq name) (map bytes (keys_of es)) ≡ is_some (lookup (λ k. is_eq (slice_cmp nat_cmp name (bytes k))) es)
keys_known bytes [] name = refl
keys_known bytes (e ∷ es) name =
    elim (bytes_eq name (bytes e.0)) as (λ b. bytes_eq name (bytes e.0) ≡ b → (b || list_any (bytes_eq name) (map bytes (keys_of es))) ≡ is_some (cond (is_eq (slice_cmp nat_cmp name (bytes e.0))) (Some e.1) (lookup (λ k. is_eq (slice_cmp nat_cmp name (bytes k))) es))) [
      | true ↦ λ h. sym (ap (λ t. is_some (cond t (Some e.1) (lookup (λ k. is_eq (slice_cmp nat_cmp name (bytes k))) es))) (is_eq-slice_cmp name (bytes e.0) ∙ h))
      | false ↦ λ h. keys_known bytes es name ∙ sym (ap (λ t. is_some (cond t (Some e.1) (lookup (λ k. is_eq (slice_cmp nat_cmp name (bytes k))) es))) (is_eq-slice_cmp name (bytes e.0) ∙ h))
    ] refl

all_below : {K : Type 0} (bytes : K → List ℕ) (from : List ℕ) (ks : List K) → AllByRecursion (λ y. slice_cmp nat_cmp from (bytes y) ≡ Less) ks → AllByRecursion (λ y. slice_cmp nat_cmp from y ≡ Less) (map bytes ks)
all_below bytes from [] h = h
all_below bytes from (k ∷ ks) h = (h.0, all_below bytes from ks h.1)

pub keys_rising : {K : Type 0} (bytes : K → List ℕ) (ks : List K) → IsStrictlySortedBy (λ x y. slice_cmp nat_cmp (bytes x) (bytes y)) ks → IsStrictlySortedBy (slice_cmp nat_cmp) (map bytes ks)
unfolding IsStrictlySortedBy
keys_rising bytes [] h = h
keys_rising bytes (k ∷ ks) h = (all_below bytes (bytes k) ks h.0, keys_rising bytes ks h.1)

-- ---- what is put next

pub next_some : (o : Option Texts) (A : Type 0) (B : Texts → Type 0) (t : Texts) → o ≡ Some t → MatchOption o A B → B t
next_some o A B t e m = let P : Option Texts → Type 0 = λ o. MatchOption o A B in subst P e m

pub next_none : (o : Option Texts) (A : Type 0) (B : Texts → Type 0) → o ≡ None → MatchOption o A B → A
next_none o A B e m = let P : Option Texts → Type 0 = λ o. MatchOption o A B in subst P e m

pub append_none : (names left all : List (List ℕ)) → left ≡ [] → names ++ left ≡ all → names ≡ all
append_none names left all over e = sym (append_nothing names) ∙ ap (λ l. names ++ l) (sym over) ∙ e
  where
    append_nothing : (xs : List (List ℕ)) → xs ++ [] ≡ xs
    append_nothing [] = refl
    append_nothing (x ∷ xs) = ap (λ l. x ∷ l) (append_nothing xs)
