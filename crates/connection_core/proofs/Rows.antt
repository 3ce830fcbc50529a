-- Numbers that rise, when one is put in or taken out.
use Rattle.std.proofs.Common.{◌≡◌, ◌≢◌, ℕ, ◌+◌, ◌<◌, ◌≤◌, Bool, true, false, eqb, ◌||◌, List, [], ◌∷◌, ◌++◌, length, take, drop, get_or, refl, sym, ap, ◌∙◌, subst, arith, suc, zero}
use Rattle.std.specs.List.{AllByRecursion, insert, remove}
use Rattle.std.specs.List.Sorted.{IsStrictlyIncreasing}
use Rattle.std.proofs.lemmas.Bool.Decides.{nat_tests}
use Rattle.std.proofs.lemmas.List.{get_or_default}
use Rattle.std.proofs.lemmas.List.Kept.{AllPairs-from_increasing}
use Rattle.connection_core.specs.Table.{Below, Above, is_among}
use Rattle.connection_core.proofs.Tables.{Rising, None, More}

from_index : {X : Type 0} (P : X → Type 0) (xs : List X) → ((k : ℕ) (d : X) → k < length xs → P (get_or xs k d)) → AllByRecursion P xs
from_index P [] h = tt
from_index P (x ∷ xs) h = (h 0 x (omega arith), from_index P xs (λ k d lt. h (suc k) d (omega (arith, lt))))

tail_rises : (id : ℕ) (ids : List ℕ) → IsStrictlyIncreasing (id ∷ ids) → IsStrictlyIncreasing ids
tail_rises id ids s k h =
    let e : suc k + 1 ≡ suc (k + 1) = omega arith in
    subst (λ m. get_or ids k 0 < get_or (id ∷ ids) m 0) e (s (suc k) (omega (arith, h)))

pub rising_of : (ids : List ℕ) → IsStrictlyIncreasing ids → Rising ids
rising_of [] s = None
rising_of (id ∷ ids) s =
    More id ids
    (from_index (λ x. id < x) ids (λ k d lt. subst (λ y. id < y) (get_or_default ids k 0 d lt) (AllPairs-from_increasing (id ∷ ids) s 0 (suc k) 0 (omega arith) (omega (arith, lt)))))
    (rising_of ids (tail_rises id ids s))

first_above : (id : ℕ) (ids : List ℕ) → Above id ids → 0 < length ids → id < get_or ids 0 0
first_above id [] a h = absurd (omega (arith, h))
first_above id (x ∷ ids) a h = a.0

pub increasing_of : (ids : List ℕ) → Rising ids → IsStrictlyIncreasing ids
increasing_of [] r k h = absurd (omega (arith, h))
increasing_of (id ∷ ids) (More i is a r) zero h = first_above id ids a (omega (arith, h))
increasing_of (id ∷ ids) (More i is a r) (suc k) h =
    let e : suc (k + 1) ≡ suc k + 1 = omega arith in
    subst (λ m. get_or ids k 0 < get_or (id ∷ ids) m 0) e (increasing_of ids r k (omega (arith, h)))

above_put : (f : ℕ) (front back : List ℕ) (c : ℕ) → f < c → Above f (front ++ back) → Above f (front ++ c ∷ back)
above_put f [] back c h a = (h, a)
above_put f (x ∷ front) back c h a = (a.0, above_put f front back c h a.1)

above_cut : (f : ℕ) (front back : List ℕ) (c : ℕ) → Above f (front ++ c ∷ back) → Above f (front ++ back)
above_cut f [] back c a = a.1
above_cut f (x ∷ front) back c a = (a.0, above_cut f front back c a.1)

rising_put : (front back : List ℕ) (c : ℕ) → Rising (front ++ back) → Below c front → Above c back → Rising (front ++ c ∷ back)
rising_put [] back c r b a = More c back a r
rising_put (f ∷ front) back c (More i is o r) b a = More f (front ++ c ∷ back) (above_put f front back c b.0 o) (rising_put front back c r b.1 a)

rising_cut : (front back : List ℕ) (c : ℕ) → Rising (front ++ c ∷ back) → Rising (front ++ back)
rising_cut [] back c (More i is o r) = r
rising_cut (f ∷ front) back c (More i is o r) = More f (front ++ back) (above_cut f front back c o) (rising_cut front back c r)

pub put_rises : (front back : List ℕ) (c : ℕ) → IsStrictlyIncreasing (front ++ back) → Below c front → Above c back → IsStrictlyIncreasing (front ++ c ∷ back)
put_rises front back c s b a = increasing_of (front ++ c ∷ back) (rising_put front back c (rising_of (front ++ back) s) b a)

pub cut_rises : (front back : List ℕ) (c : ℕ) → IsStrictlyIncreasing (front ++ c ∷ back) → IsStrictlyIncreasing (front ++ back)
cut_rises front back c s = increasing_of (front ++ back) (rising_cut front back c (rising_of (front ++ c ∷ back) s))

-- a number that is put in, or taken out, between two parts
pub inserted : {X : Type 0} (xs front back : List X) (x : X) (n : ℕ) → xs ≡ front ++ back → length front ≡ n → insert xs n x ≡ front ++ x ∷ back
inserted xs front back x n e s = ap (λ l. insert l n x) e ∙ ap (λ k. insert (front ++ back) k x) (sym s) ∙ ap (λ l. l ++ x ∷ drop (length front) (front ++ back)) (taken front back) ∙ ap (λ l. front ++ x ∷ l) (dropped front back)
  where
    taken : {X : Type 0} (xs ys : List X) → take (length xs) (xs ++ ys) ≡ xs
    taken [] ys = refl
    taken (x ∷ xs) ys = ap (λ r. x ∷ r) (taken xs ys)

    dropped : {X : Type 0} (xs ys : List X) → drop (length xs) (xs ++ ys) ≡ ys
    dropped [] ys = refl
    dropped (x ∷ xs) ys = dropped xs ys

pub removed : {X : Type 0} (xs front back : List X) (x : X) (n : ℕ) → xs ≡ front ++ x ∷ back → length front ≡ n → remove xs n ≡ front ++ back
removed xs front back x n e s = ap (λ l. remove l n) e ∙ ap (λ k. remove (front ++ x ∷ back) k) (sym s) ∙ both front back x
  where
    both : {X : Type 0} (front back : List X) (x : X) → remove (front ++ x ∷ back) (length front) ≡ front ++ back
    both [] back x = refl
    both (f ∷ front) back x = ap (λ r. f ∷ r) (both front back x)

-- a list is parted at each place that it has
pub record Parted {X : Type 0} (xs : List X) (n : ℕ) : Type 0 where
  pub front : List X
  pub here : X
  pub back : List X
  pub whole : xs ≡ front ++ here ∷ back
  pub size : length front ≡ n

pub parted_at : {X : Type 0} (xs : List X) (n : ℕ) → n < length xs → Parted xs n
parted_at [] n h = absurd (omega (arith, h))
parted_at (x ∷ xs) zero h = record { front = []; here = x; back = xs; whole = refl; size = refl }
parted_at (x ∷ xs) (suc n) h =
    let p = parted_at xs n (omega (arith, h)) in
    record { front = x ∷ p.front; here = p.here; back = p.back; whole = ap (λ l. x ∷ l) p.whole; size = ap (λ k. suc k) p.size }

pub parted_between : {X : Type 0} (xs : List X) (n : ℕ) → n ≤ length xs → (front : List X) × (back : List X) × (xs ≡ front ++ back) × (length front ≡ n)
parted_between xs zero h = ([], xs, refl, refl)
parted_between [] (suc n) h = absurd (omega (arith, h))
parted_between (x ∷ xs) (suc n) h =
    let p = parted_between xs n (omega (arith, h)) in
    (x ∷ p.0, p.1, ap (λ l. x ∷ l) p.2, ap (λ k. suc k) p.3)

-- a number that is there, or isn't
pub among_here : (front back : List ℕ) (c : ℕ) → is_among c (front ++ c ∷ back) ≡ true
among_here [] back c = let e : eqb c c ≡ true = grind (arith, nat_tests) in ap (λ t. t || is_among c back) e
among_here (f ∷ front) back c = ap (λ t. eqb f c || t) (among_here front back c) ∙ always (eqb f c)
  where
    always : (t : Bool) → (t || true) ≡ true
    always true = refl
    always false = refl

pub among_none : (ids : List ℕ) (c : ℕ) → AllByRecursion (λ id. id ≢ c) ids → is_among c ids ≡ false
among_none [] c a = refl
among_none (id ∷ ids) c a = let h = a.0 in let e : eqb id c ≡ false = grind (arith, nat_tests) in ap (λ t. t || is_among c ids) e ∙ among_none ids c a.1
