-- The place of a number among those that rise.
use Rattle.std.proofs.Common.{◌≡◌, ℕ, ◌+◌, ◌<◌, ◌≤◌, List, [], ◌∷◌, ◌++◌, ◌-◌, length, take, drop, length-drop, get_or, ◌⊎◌, inl, inr, sym, ap, ◌∙◌, subst, arith, suc}
use Rattle.std.specs.Prelude.{Result, Ok, Err, MatchResult}
use Rattle.std.specs.List.{AllByRecursion}
use Rattle.std.specs.List.Sorted.{IsStrictlyIncreasing, IsBinarySearchResult}
use Rattle.std.specs.Ordering.{nat_cmp}
use Rattle.std.proofs.Math.Nat.{eq-or-lt_of_le}
use Rattle.std.proofs.lemmas.Grind.{common_steps}
use Rattle.std.proofs.lemmas.List.{take-append-drop, at_drop_more, get_or-take, get_or-drop, get_or_default}
use Rattle.std.proofs.lemmas.List.Kept.{AllPairs-from_increasing}
use Rattle.std.proofs.lemmas.List.Sorted.{searched}
use Rattle.connection_core.specs.Table.{Below, Above, StandsAt, BelongsAt}

from_index : {X : Type 0} (P : X → Type 0) (xs : List X) → ((k : ℕ) (d : X) → k < length xs → P (get_or xs k d)) → AllByRecursion P xs
from_index P [] h = tt
from_index P (x ∷ xs) h = (h 0 x (omega arith), from_index P xs (λ k d lt. h (suc k) d (omega (arith, lt))))

rises : (ids : List ℕ) → IsStrictlyIncreasing ids → (i j : ℕ) → i ≤ j → j < length ids → get_or ids i 0 ≤ get_or ids j 0
rises ids s i j le lt = go (eq-or-lt_of_le le)
  where
    go : (i ≡ j) ⊎ (i < j) → get_or ids i 0 ≤ get_or ids j 0
    go (inl e) = subst (λ k. get_or ids i 0 ≤ get_or ids k 0) e (omega arith)
    go (inr h) = let k = AllPairs-from_increasing ids s i j 0 h lt in omega (arith, k)

size_taken : (i : ℕ) (ids : List ℕ) → i ≤ length ids → length (take i ids) ≡ i
size_taken i ids h = grind (arith, common_steps)

below_taken : (c i : ℕ) (ids : List ℕ) → i ≤ length ids → ((k : ℕ) → k < i → get_or ids k 0 < c) → Below c (take i ids)
below_taken c i ids le h = from_index (λ id. id < c) (take i ids) at
  where
    at : (k : ℕ) (d : ℕ) → k < length (take i ids) → get_or (take i ids) k d < c
    at k d lt =
        let size = size_taken i ids le in
        let ki : k < i = omega (arith, lt, size) in
        subst (λ x. x < c) (sym (get_or-take i ids k d ki ∙ get_or_default ids k d 0 (omega (arith, ki, le)))) (h k ki)

above_dropped : (c i : ℕ) (ids : List ℕ) → i ≤ length ids → ((k : ℕ) → i ≤ k → k < length ids → c < get_or ids k 0) → Above c (drop i ids)
above_dropped c i ids le h = from_index (λ id. c < id) (drop i ids) at
  where
    at : (k : ℕ) (d : ℕ) → k < length (drop i ids) → c < get_or (drop i ids) k d
    at k d lt =
        let size : length (drop i ids) ≡ length ids - i = length-drop i ids in
        let ki : i + k < length ids = omega (arith, lt, size, le) in
        subst (λ x. c < x) (sym (get_or-drop i ids k d ∙ get_or_default ids (i + k) d 0 ki)) (h (i + k) (omega arith) ki)

pub stands : (ids : List ℕ) (c i : ℕ) → IsStrictlyIncreasing ids → i < length ids → get_or ids i 0 ≡ c → StandsAt c ids i
stands ids c i s lt e =
    record {
      front = take i ids;
      back = drop (i + 1) ids;
      whole = sym (take-append-drop i ids) ∙ ap (λ r. take i ids ++ r) (at_drop_more (λ r. r) ids i 0 lt) ∙ ap (λ x. take i ids ++ x ∷ drop (i + 1) ids) e;
      size = size_taken i ids (omega (arith, lt));
      below = below_taken c i ids (omega (arith, lt)) (λ k h. let p = AllPairs-from_increasing ids s k i 0 h lt in omega (arith, p, e));
      above = above_dropped c (i + 1) ids (omega (arith, lt)) (λ k h l. let p = AllPairs-from_increasing ids s i k 0 (omega (arith, h)) l in omega (arith, p, e));
    }

pub placed : (ids : List ℕ) (c : ℕ) (r : Result ℕ ℕ) → IsStrictlyIncreasing ids → IsBinarySearchResult (λ y. nat_cmp y c) ids r → MatchResult r (λ i. StandsAt c ids i) (λ i. BelongsAt c ids i)
placed ids c (Ok i) s b =
    let f = searched ids c (Ok i) b (rises ids s) in
    record {
      front = take i ids;
      back = drop (i + 1) ids;
      whole = sym (take-append-drop i ids) ∙ ap (λ r. take i ids ++ r) (at_drop_more (λ r. r) ids i 0 f.0) ∙ ap (λ x. take i ids ++ x ∷ drop (i + 1) ids) f.1;
      size = size_taken i ids (omega (arith, f.0));
      below = below_taken c i ids (omega (arith, f.0)) (λ k h. let p = AllPairs-from_increasing ids s k i 0 h f.0 in let e = f.1 in omega (arith, p, e));
      above = above_dropped c (i + 1) ids (omega (arith, f.0)) (λ k h lt. let p = AllPairs-from_increasing ids s i k 0 (omega (arith, h)) lt in let e = f.1 in omega (arith, p, e));
    }
placed ids c (Err i) s b =
    let f = searched ids c (Err i) b (rises ids s) in
    record {
      front = take i ids;
      back = drop i ids;
      whole = sym (take-append-drop i ids);
      size = size_taken i ids f.0;
      below = below_taken c i ids f.0 f.1;
      above = above_dropped c i ids f.0 f.2;
    }
