-- Names in byte order, and the names of a folder.
use Rattle.std.proofs.Common.{◌≡◌, ℕ, zero, suc, ◌<◌, Bool, true, List, [], ◌∷◌, ◌++◌, length, map, filter, get_or, refl, ap, sym, subst, ◌∙◌, arith, Contains, ◌↔◌, Bor, nat_eq}
use Rattle.std.specs.declared.cmp.Ordering.{Ordering}
use Rattle.std.specs.declared.cmp.Ordering.TheVariants.{Less}
use Rattle.std.specs.Ordering.{nat_cmp}
use Rattle.std.specs.Cmp.Lexicographic.{slice_cmp, pointwise, same_text, on_texts_equal}
use Rattle.std.specs.List.{AllByRecursion, dedup}
use Rattle.std.specs.List.Sorted.{IsStrictlySortedBy, IsPermutation}
use Rattle.std.proofs.lemmas.List.Kept.{Any-dedup, Contains-from_dedup}
use Rattle.std.proofs.lemmas.List.Sorted.{Contains-permutation, IsPermutation-sym}
use Rattle.file_tree.specs.Tree.{Tree, child_path, IsChild}
use Rattle.ngx_outside.specs.Outside.{Names as Listed}
use Rattle.conf_include.specs.Listings.{byte_order, IsListing}
use Rattle.conf_include.specs.Listings.{Names}
use Rattle.conf_include.specs.Paths.{front_of, last_of, folder_of, is_mask}
use Rattle.conf_include.specs.Masks.{matches}
use Rattle.conf_include.specs.Expansion.{paths_named}
use Rattle.conf_include.specs.Steps.{FindsNames}
use Rattle.std.proofs.lemmas.Bool.{cond-true}

-- a text that is borrowed
abbrev pub Lent : Type 0
Lent = Bor (List ℕ)

abbrev pub texts : List Lent → List (List ℕ)
texts xs = map (λ (x : Lent). x.now) xs

abbrev pub lent_order : Lent → Lent → Ordering
lent_order x y = slice_cmp nat_cmp x.now y.now

abbrev pub lent_same : Lent → Lent → Bool
lent_same x y = pointwise nat_eq x.now y.now

less_map : (x : Lent) (xs : List Lent) → AllByRecursion (λ y. lent_order x y ≡ Less) xs → AllByRecursion (λ t. byte_order x.now t ≡ Less) (texts xs)
less_map x [] h = tt
less_map x (y ∷ ys) h = (h.0, less_map x ys h.1)

pub sorted_map : (xs : List Lent) → IsStrictlySortedBy lent_order xs → IsStrictlySortedBy byte_order (texts xs)
unfolding IsStrictlySortedBy
sorted_map [] h = tt
sorted_map (x ∷ xs) h = (less_map x xs h.0, sorted_map xs h.1)

-- an element by its place
length-texts : (xs : List Lent) → length (texts xs) ≡ length xs
length-texts [] = refl
length-texts (x ∷ xs) = ap suc (length-texts xs)

get_or-texts : (xs : List Lent) (k : ℕ) (d : Lent) → get_or (texts xs) k d.now ≡ (get_or xs k d).now
get_or-texts [] k d = refl
get_or-texts (x ∷ xs) zero d = refl
get_or-texts (x ∷ xs) (suc k) d = get_or-texts xs k d

pub Contains-texts : (xs : List Lent) (x : Lent) → Contains xs x → Contains (texts xs) x.now
Contains-texts xs x h = (h.0, omega (arith, length-texts xs, h.1), get_or-texts xs h.0 x ∙ ap (λ (y : Lent). y.now) h.2)

-- a text of the list is that of an element
from_place : (xs : List Lent) (t : List ℕ) (k : ℕ) → k < length (texts xs) → get_or (texts xs) k t ≡ t → (x : Lent) × Contains xs x × (x.now ≡ t)
from_place [] t k h e = absurd (omega arith)
from_place (x ∷ xs) t zero h e = (x, (0, omega arith, refl), e)
from_place (x ∷ xs) t (suc k) h e =
    let r = from_place xs t k (omega arith) e in
    (r.0, (suc r.1.0, omega (arith, r.1.1), r.1.2), r.2)

pub Contains-from_texts : (xs : List Lent) (t : List ℕ) → Contains (texts xs) t → (x : Lent) × Contains xs x × (x.now ≡ t)
Contains-from_texts xs t h = from_place xs t h.0 h.1 h.2

-- sorted and without repetitions, the texts are those from before
pub kept_forth : (xs ys : List Lent) (t : List ℕ) → IsPermutation xs ys → Contains (texts (dedup lent_same ys)) t → Contains (texts xs) t
kept_forth xs ys t moved h =
    let r = Contains-from_texts (dedup lent_same ys) t h in
    let there = Contains-permutation ys xs r.0 (IsPermutation-sym xs ys moved) (Contains-from_dedup lent_same ys r.0 r.1) in
    subst (Contains (texts xs)) r.2 (Contains-texts xs r.0 there)

pub kept_back : (xs ys : List Lent) (t : List ℕ) → IsPermutation xs ys → Contains (texts xs) t → Contains (texts (dedup lent_same ys)) t
kept_back xs ys t moved h =
    let r = Contains-from_texts xs t h in
    let there = Contains-permutation xs ys r.0 moved r.1 in
    let same = Any-dedup (on_texts_equal (λ (x : Lent). x.now)) ys r.0 there in
    let found : Contains (dedup lent_same ys) same.1 = (same.0, same.2, same.3) in
    let text : r.0.now ≡ same.1.now = same_text r.0.now same.1.now (sym same.4) in
    subst (Contains (texts (dedup lent_same ys))) (sym text ∙ r.2) (Contains-texts (dedup lent_same ys) same.1 found)

-- the tree that is told has the same names in a folder
pub child_same : (a b : Tree) (folder name : List ℕ) → ((path : List ℕ) → a path ≡ b path) → IsChild a folder name → IsChild b folder name
child_same a b folder name same h = record { some = h.some; one = h.one; there = λ none. h.there (same (child_path folder name) ∙ none) }

-- the names that were listed are found
pub found_done : (tells : Bool) (a tree : Tree) (folder : List ℕ) (old out : List (List ℕ)) → old ≡ [] → tells ≡ true → ((path : List ℕ) → a path ≡ tree path) → Listed tells a folder old out → FindsNames tree folder out
found_done tells a tree folder old out empty told same listed =
    let all : out ≡ listed.added = listed.all ∙ ap (λ l. l ++ listed.added) empty in
    record {
      names = λ there name. (
        λ h. child_same a tree folder name same ((listed.names told name).0 (subst (λ l. Contains l name) all h)),
        λ h. subst (λ l. Contains l name) (sym all) ((listed.names told name).1 (child_same tree a folder name (λ path. sym (same path)) h)),
      );
      none = λ other. absurd (other (sym (same folder) ∙ listed.there told));
    }

nothing : (xs : List (List ℕ)) → ((x : List ℕ) → ¬ Contains xs x) → xs ≡ []
nothing [] h = refl
nothing (x ∷ xs) h = absurd (h x (0, omega arith, refl))

-- found names in order are the folder's listing
pub found_listing : (tree : Tree) (folder : List ℕ) (found listed : List (List ℕ)) → FindsNames tree folder found → IsStrictlySortedBy byte_order listed → ((name : List ℕ) → Contains listed name ↔ Contains found name) → IsListing tree folder listed
found_listing tree folder found listed is order same = record {
  order = order;
  names = λ there name. (λ h. (is.names there name).0 ((same name).0 h), λ h. (same name).1 ((is.names there name).1 h));
  none = λ other. nothing listed (λ name h. is.none other name ((same name).0 h));
}

-- what a mask names
pub masked_named : (names : Names) (path : List ℕ) (listed : List (List ℕ)) → is_mask path ≡ true → names (folder_of path) ≡ listed → map (λ name. front_of path ++ name) (filter (matches (last_of path)) listed) ≡ paths_named names path
masked_named names path listed mask is =
    sym (cond-true _ _ _ mask ∙ ap (λ l. map (λ name. front_of path ++ name) (filter (matches (last_of path)) l)) is)
