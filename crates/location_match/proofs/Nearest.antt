-- From the greatest text that isn't above a path, the nearest places lead to the longest that the path begins with.
use Rattle.std.proofs.Common.{◌≡◌, ℕ, ◌+◌, ◌-◌, ◌<◌, ◌≤◌, Bool, true, false, List, [], ◌∷◌, length, Some, None, ◌⊎◌, inl, inr, ⊎_elim, refl, sym, ◌∙◌, subst, arith}
use Rattle.std.proofs.lemmas.Bool.{cases_lt, cases_Bool, and_parts, and_from}
use Rattle.std.proofs.lemmas.Bool.Decides.{nat_tests}
use mathlib.Core.Bool.{true≢false}
use Rattle.location_match.specs.Prefixes.{text_at, fits, is_inside, is_at_most, AreSorted, LeadsTo, Covers, IsLongest, FitsNone, IsGreatest, depth_at, IsHalved, IsFast}
use Rattle.location_match.proofs.Order.{fits-at_most, fits-between, fits-both, fits-trans, fits-length, at_most-trans, at_most-total, inside-above}
use Rattle.location_match.specs.Shared.{shared, AllShare}
use Rattle.location_match.proofs.Shared.{shared-between, shared-between-above, shared-both}
use Rattle.location_match.proofs.Counts.{count-more}

pub not_both : {A : Type 0} (b : Bool) → b ≡ true → b ≡ false → A
not_both b hit miss = absurd (true≢false (sym hit ∙ miss))

at_most-refl : (a : List ℕ) → is_at_most a a ≡ true
at_most-refl a = ⊎_elim (λ hit. hit) (λ miss. at_most-total a a miss) (cases_Bool (is_at_most a a))

pub fits-refl : (a : List ℕ) → fits a a ≡ true
fits-refl [] = refl
fits-refl (x ∷ xs) = and_from _ _ (grind (arith, nat_tests)) (fits-refl xs)

-- The texts from a place on that are at most the path share this many bytes with it, those before another place that
-- are above it this many, and all of them this many.
pub record Bounds (texts : List (List ℕ)) (path : List ℕ) (low high below above least : ℕ) : Type 0 where
  pub lower : (i : ℕ) → low ≤ i → i < length texts → is_at_most (text_at texts i) path ≡ true → below ≤ shared (text_at texts i) path
  pub upper : (i : ℕ) → i < high → is_at_most (text_at texts i) path ≡ false → above ≤ shared (text_at texts i) path
  pub floor : (i : ℕ) → i < length texts → least ≤ shared (text_at texts i) path

pub bounds-start : (texts : List (List ℕ)) (path : List ℕ) (high : ℕ) → Bounds texts path 0 high 0 0 0
bounds-start texts path high = record { lower = λ i le lt h. omega arith; upper = λ i lt h. omega arith; floor = λ i lt. omega arith }

module _ (texts : List (List ℕ)) (sorted : AreSorted texts) where
  -- the places are in the order of their texts
  pub ordered : (i j : ℕ) → i ≤ j → j < length texts → is_at_most (text_at texts i) (text_at texts j) ≡ true
  ordered i j le lt = ⊎_elim
      (λ (before : i < j). at_most-total (text_at texts j) (text_at texts i) (sorted i j before lt))
      (λ (after : j ≤ i). let e : i ≡ j = omega arith in
      subst (λ n. is_at_most (text_at texts i) (text_at texts n) ≡ true) e (at_most-refl (text_at texts i)))
      (cases_lt i j)

  pub below-left : (path : List ℕ) (middle i : ℕ) → middle < length texts → is_at_most (text_at texts middle) path ≡ true →
      i ≤ middle → is_at_most (text_at texts i) path ≡ true
  below-left path middle i lt below le = at_most-trans (text_at texts i) (text_at texts middle) path (ordered i middle le lt) below

  pub above-right : (path : List ℕ) (middle i : ℕ) → is_at_most (text_at texts middle) path ≡ false → middle ≤ i →
      i < length texts → is_at_most (text_at texts i) path ≡ false
  above-right path middle i above le lt = ⊎_elim
      (λ hit. not_both _ (at_most-trans (text_at texts middle) (text_at texts i) path (ordered middle i le lt) hit) above)
      (λ miss. miss)
      (cases_Bool (is_at_most (text_at texts i) path))

  -- ---- what the texts between two bounds share with a path

  module _ (path : List ℕ) (common low high lower upper floor : ℕ) (all : AllShare texts common)
      (bounds : Bounds texts path low high lower upper floor) where
    pub bounds-shared : (start middle : ℕ) → low ≤ middle → middle < high → high ≤ length texts →
        ((n : ℕ) → (lower ≤ n) ⊎ (upper ≤ n) → floor ≤ n → start ≤ n) → start ≤ shared (text_at texts middle) path
    bounds-shared start middle le lt inside starts = ⊎_elim
        (λ hit. starts _ (inl (bounds.lower middle le (omega (arith, lt, inside)) hit)) (bounds.floor middle (omega (arith, lt, inside))))
        (λ miss. starts _ (inr (bounds.upper middle lt miss)) (bounds.floor middle (omega (arith, lt, inside))))
        (cases_Bool (is_at_most (text_at texts middle) path))

    module _ (middle now next : ℕ) (inside : middle < length texts) (is : now ≡ shared (text_at texts middle) path)
        (least : (next ≤ now) × (next ≤ common)) where
      next-floor : (i : ℕ) → i < length texts → next ≤ shared (text_at texts i) path
      next-floor i lt =
          let both = all i middle lt inside in
          shared-both (text_at texts i) (text_at texts middle) path next (omega (arith, both, least.1)) (omega (arith, is, least.0))

      pub bounds-right : is_at_most (text_at texts middle) path ≡ true → Bounds texts path (middle + 1) high now upper next
      bounds-right hit = record {
        lower = λ i le lt below.
            let between = shared-between (text_at texts middle) (text_at texts i) path (ordered middle i (omega (arith, le)) lt) below in
            omega (arith, is, between);
        upper = bounds.upper;
        floor = next-floor;
      }

      pub bounds-left : is_at_most (text_at texts middle) path ≡ false → Bounds texts path low middle lower now next
      bounds-left miss = record {
        lower = bounds.lower;
        upper = λ i lt above.
            let between = shared-between-above path (text_at texts i) (text_at texts middle) (at_most-total (text_at texts i) path above) (ordered i middle (omega (arith, lt)) inside) in
            omega (arith, is, between);
        floor = next-floor;
      }

  module _ (path : List ℕ) where
    -- the places below a number are those of the texts that aren't above the path
    module _ (count : ℕ) (inside : count ≤ length texts)
        (below : (i : ℕ) → i < count → is_at_most (text_at texts i) path ≡ true)
        (above : (i : ℕ) → count ≤ i → i < length texts → is_at_most (text_at texts i) path ≡ false) where
      counted : (i : ℕ) → i < length texts → is_at_most (text_at texts i) path ≡ true → i < count
      counted i lt hit = ⊎_elim (λ before. before) (λ after. not_both _ hit (above i after lt)) (cases_lt i count)

      pub covers-last : 0 < count → Covers texts path (count - 1)
      covers-last some other lt begins =
          let low = fits-at_most path (text_at texts other) begins in
          let before = counted other lt low in
          fits-between path (text_at texts (count - 1)) (text_at texts other) begins
          (ordered other (count - 1) (omega arith) (omega arith)) (below (count - 1) (omega arith))

      last-is : 0 < count → (place : ℕ) → IsGreatest texts path place → place ≡ count - 1
      last-is some place g =
          let before = counted place g.inside g.below in
          let most = g.greatest (count - 1) (omega arith) (below (count - 1) (omega arith)) in
          ⊎_elim
          (λ (lt : place < count - 1). not_both _ most (sorted place (count - 1) lt (omega arith)))
          (λ (ge : count - 1 ≤ place). omega arith)
          (cases_lt place (count - 1))

      pub fast-none : (before after : ℕ) → count ≡ 0 → IsHalved (length texts) before after → IsFast texts path (after - before)
      fast-none before after zero_is h = record {
        halvings = h.halvings;
        few = h.few;
        none = λ _. omega (arith, h.taken);
        some = λ place g. not_both _ g.below (above place (omega arith) g.inside);
      }

      pub fast-some : (before middle after : ℕ) → 0 < count → IsHalved (length texts) before middle →
          after ≤ middle + 1 + depth_at texts (count - 1) → IsFast texts path (after - before)
      fast-some before middle after some h more = record {
        halvings = h.halvings;
        few = h.few;
        none = λ all. not_both _ (below (count - 1) (omega arith)) (all (count - 1) (omega arith));
        some = λ place g. subst (λ n. after - before ≤ h.halvings + 1 + depth_at texts n) (sym (last-is some place g))
            (omega (arith, h.taken, more));
      }

      pub none-fits : count ≡ 0 → FitsNone texts path
      none-fits zero_is place lt = ⊎_elim
          (λ hit. not_both _ (fits-at_most path (text_at texts place) hit) (above place (omega arith) lt))
          (λ miss. miss)
          (cases_Bool (fits path (text_at texts place)))

    -- ---- from a place on

    module _ (place : ℕ) (inside : place < length texts) (covers : Covers texts path place) where
      pub longest-here : fits path (text_at texts place) ≡ true → IsLongest texts path place
      longest-here begins = record {
        inside = inside;
        begins = begins;
        longest = λ other lt other_begins. fits-length (text_at texts place) (text_at texts other) (covers other lt other_begins);
      }

      -- what fits, where this one doesn't, is a proper prefix of it, and before it
      module _ (miss : fits path (text_at texts place) ≡ false) (other : ℕ) (lt : other < length texts)
          (begins : fits path (text_at texts other) ≡ true) where
        shorter : length (text_at texts other) < length (text_at texts place)
        shorter = ⊎_elim
            (λ (less : length (text_at texts other) < length (text_at texts place)). less)
            (λ (le : length (text_at texts place) ≤ length (text_at texts other)).
            not_both _
            (fits-trans path (text_at texts other) (text_at texts place) begins
            (fits-both (text_at texts place) (text_at texts place) (text_at texts other) (fits-refl (text_at texts place)) (covers other lt begins) le))
            miss)
            (cases_lt (length (text_at texts other)) (length (text_at texts place)))

        is-inside : is_inside (text_at texts other) (text_at texts place) ≡ true
        is-inside = and_from _ _ (covers other lt begins) (grind (arith, nat_tests, shorter))

        is-before : other < place
        is-before = ⊎_elim
            (λ before. before)
            (λ (after : place ≤ other). not_both _ (ordered place other after lt) (inside-above (text_at texts other) (text_at texts place) is-inside))
            (cases_lt other place)

      pub covers-nearest : fits path (text_at texts place) ≡ false → (nearest : ℕ) → LeadsTo texts place (Some nearest) →
          Covers texts path nearest
      covers-nearest miss nearest leads other lt begins = leads.2 other (is-before miss other lt begins) (is-inside miss other lt begins)

      pub none-left : fits path (text_at texts place) ≡ false → LeadsTo texts place None → FitsNone texts path
      none-left miss leads other lt = ⊎_elim
          (λ hit. not_both _ (is-inside miss other lt hit) (leads other (is-before miss other lt hit)))
          (λ miss. miss)
          (cases_Bool (fits path (text_at texts other)))

inside-trans : (a b c : List ℕ) → is_inside b c ≡ true → is_inside a b ≡ true → is_inside a c ≡ true
inside-trans a b c h g =
    let p = and_parts _ _ h in
    let q = and_parts _ _ g in
    and_from _ _ (fits-trans c b a p.0 q.0) (grind (arith, nat_tests, p.1, q.1))

pub depth-falls : (texts : List (List ℕ)) (place nearest : ℕ) → nearest < length texts → LeadsTo texts place (Some nearest) →
    depth_at texts nearest + 1 ≤ depth_at texts place
depth-falls texts place nearest lt leads =
    count-more (λ t. is_inside t (text_at texts nearest)) (λ t. is_inside t (text_at texts place))
    (λ t. inside-trans t (text_at texts nearest) (text_at texts place) leads.1)
    texts nearest [] lt leads.1 (not_itself (text_at texts nearest))
  where
    not_itself : (a : List ℕ) → is_inside a a ≡ false
    not_itself a = rw (fits-refl a) (grind (arith, nat_tests))
