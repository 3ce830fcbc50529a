-- The one with the longest text that fits, and the number to which that text leads.
use Rattle.std.proofs.Common.{◌≡◌, ℕ, suc, ◌<◌, ◌≤◌, nat_lt, Bool, true, false, ◌&&◌, List, [], ◌∷◌, map, filter, length, Option, Some, None, is_some, option_and_then, slice_get, cond, ◌⊎◌, inl, inr, ⊎_elim, refl, sym, ap, ap₂, ◌∙◌, arith}
use Rattle.std.proofs.lemmas.Bool.{cases_lt, cases_Bool}
use Rattle.std.proofs.lemmas.Bool.Decides.{nat_tests}
use Rattle.site_views.specs.Choice.{greatest, greater, kept}
use Rattle.server_choice.specs.Names.{IsLongestOf}
use Rattle.server_choice.specs.Listening.{first_from}
use Rattle.server_choice.proofs.Firsts.{later, first-none, first-cons, no_some}

module _ {X Y : Type 0} (see : X → Y) (test : Y → Bool) (own : X → Bool) (tests : (x : X) → test (see x) ≡ own x)
    (size : Y → Option ℕ) (fits : List ℕ → Bool) (has : List ℕ → X → Bool) where
  -- the longest text of one that fits
  pub record IsSized (x : X) : Type 0 where
    pub text : List ℕ
    pub begins : fits text ≡ true
    pub size_is : size (see x) ≡ Some (length text)
    pub has_it : has text x ≡ true
    pub longest : (other : List ℕ) → fits other ≡ true → length text < length other → has other x ≡ false

  abbrev pub SizeIs : X → Type 0
  SizeIs x = ((size (see x) ≡ None) × ((text : List ℕ) → fits text ≡ true → has text x ≡ false)) ⊎ IsSized x

  abbrev pub numbers : List X → List ℕ → Option ℕ
  numbers xs text = first_from (λ x. own x && has text x) 0 xs

  abbrev pub best : List X → Option Y
  best xs = greatest size (filter test (map see xs))

  pub record IsBest (xs : List X) : Type 0 where
    pub found : Y
    pub is : best xs ≡ Some found
    pub text : List ℕ
    pub begins : fits text ≡ true
    pub size_is : size found ≡ Some (length text)
    pub number : ℕ
    pub leads : numbers xs text ≡ Some number
    pub at : slice_get (map see xs) number ≡ Some found
    pub longest : (other : List ℕ) → fits other ≡ true → length text < length other → numbers xs other ≡ None

  abbrev pub HasNone : List X → Type 0
  HasNone xs = (best xs ≡ None) × ((text : List ℕ) → fits text ≡ true → numbers xs text ≡ None)

  abbrev pub BestIs : List X → Type 0
  BestIs xs = HasNone xs ⊎ IsBest xs

  -- one that has nothing that fits changes nothing
  skip : (x : X) (xs : List X) → best (x ∷ xs) ≡ best xs → ((text : List ℕ) → fits text ≡ true → (own x && has text x) ≡ false) → BestIs xs → BestIs (x ∷ xs)
  skip x xs same misses = ⊎_elim
      (λ (none : HasNone xs). inl (same ∙ none.0, λ text h. past text h ∙ ap later (none.1 text h)))
      (λ (q : IsBest xs). inr (record {
        found = q.found;
        is = same ∙ q.is;
        text = q.text;
        begins = q.begins;
        size_is = q.size_is;
        number = suc q.number;
        leads = past q.text q.begins ∙ ap later q.leads;
        at = q.at;
        longest = λ other h lt. past other h ∙ ap later (q.longest other h lt);
      }))
    where
      past : (text : List ℕ) → fits text ≡ true → numbers (x ∷ xs) text ≡ later (numbers xs text)
      past text h = first-cons (λ y. own y && has text y) x xs ∙ ap (λ b. cond b (Some 0) (later (numbers xs text))) (misses text h)

  -- one that has a text that fits is before those that have none that is longer
  module _ (x : X) (xs : List X) (mine : own x ≡ true) (s : IsSized x) where
    here : numbers (x ∷ xs) s.text ≡ Some 0
    here = first-cons (λ y. own y && has s.text y) x xs ∙ ap₂ (λ a b. cond (a && b) (Some 0) (later (numbers xs s.text))) mine s.has_it

    past : (other : List ℕ) → has other x ≡ false → numbers (x ∷ xs) other ≡ later (numbers xs other)
    past other miss = first-cons (λ y. own y && has other y) x xs ∙ ap₂ (λ a b. cond (a && b) (Some 0) (later (numbers xs other))) mine miss

    takes : best (x ∷ xs) ≡ Some (see x) → ((other : List ℕ) → fits other ≡ true → length s.text < length other → numbers xs other ≡ None) → IsBest (x ∷ xs)
    takes is none = record {
      found = see x;
      is = is;
      text = s.text;
      begins = s.begins;
      size_is = s.size_is;
      number = 0;
      leads = here;
      at = refl;
      longest = λ other h lt. past other (s.longest other h lt) ∙ ap later (none other h lt);
    }

    leaves : (q : IsBest xs) → length s.text < length q.text → best (x ∷ xs) ≡ Some q.found → IsBest (x ∷ xs)
    leaves q lt is = record {
      found = q.found;
      is = is;
      text = q.text;
      begins = q.begins;
      size_is = q.size_is;
      number = suc q.number;
      leads = past q.text (s.longest q.text q.begins lt) ∙ ap later q.leads;
      at = q.at;
      longest = λ other h more. past other (s.longest other h (omega (arith, lt, more))) ∙ ap later (q.longest other h more);
    }

    best-step : best (x ∷ xs) ≡ greater size (see x) (length s.text) (best xs)
    unfolding greatest
    best-step = ap (λ b. greatest size (cond b (see x ∷ filter test (map see xs)) (filter test (map see xs)))) (tests x ∙ mine)
        ∙ ap (λ o. kept size (see x) o (greatest size (filter test (map see xs)))) s.size_is

    sized-step : BestIs xs → BestIs (x ∷ xs)
    sized-step = ⊎_elim
        (λ (none : HasNone xs). inr (takes (best-step ∙ ap (greater size (see x) (length s.text)) none.0) (λ other h lt. none.1 other h)))
        (λ (q : IsBest xs).
        let both : best (x ∷ xs) ≡ cond (nat_lt (length s.text) (length q.text)) (Some q.found) (Some (see x))
        = best-step ∙ ap (greater size (see x) (length s.text)) q.is
        ∙ ap (λ o. elim o [ None ↦ Some (see x) | Some m ↦ cond (nat_lt (length s.text) m) (Some q.found) (Some (see x)) ]) q.size_is in
        ⊎_elim
        (λ (lt : length s.text < length q.text).
        let yes : nat_lt (length s.text) (length q.text) ≡ true = grind (arith, nat_tests) in
        inr (leaves q lt (both ∙ ap (λ b. cond b (Some q.found) (Some (see x))) yes)))
        (λ (ge : length q.text ≤ length s.text).
        let no : nat_lt (length s.text) (length q.text) ≡ false = grind (arith, nat_tests) in
        inr (takes (both ∙ ap (λ b. cond b (Some q.found) (Some (see x))) no) (λ other h lt. q.longest other h (omega (arith, ge, lt)))))
        (cases_lt (length s.text) (length q.text)))

  none-step : (x : X) (xs : List X) → own x ≡ true → size (see x) ≡ None → best (x ∷ xs) ≡ best xs
  unfolding greatest
  none-step x xs mine none = ap (λ b. greatest size (cond b (see x ∷ filter test (map see xs)) (filter test (map see xs)))) (tests x ∙ mine)
      ∙ ap (λ o. kept size (see x) o (greatest size (filter test (map see xs)))) none

  other-step : (x : X) (xs : List X) → own x ≡ false → best (x ∷ xs) ≡ best xs
  other-step x xs other = ap (λ b. greatest size (cond b (see x ∷ filter test (map see xs)) (filter test (map see xs)))) (tests x ∙ other)

  best-empty : best [] ≡ None
  unfolding greatest
  best-empty = refl

  pub best-is : ((x : X) → own x ≡ true → SizeIs x) → (xs : List X) → BestIs xs
  best-is each [] = inl (best-empty, λ text h. first-none (λ x. own x && has text x) 0)
  best-is each (x ∷ xs) = ⊎_elim
      (λ (mine : own x ≡ true). ⊎_elim
      (λ (none : (size (see x) ≡ None) × ((text : List ℕ) → fits text ≡ true → has text x ≡ false)).
      skip x xs (none-step x xs mine none.0) (λ text h. ap₂ (λ a b. a && b) mine (none.1 text h)) (best-is each xs))
      (λ (s : IsSized x). sized-step x xs mine s (best-is each xs))
      (each x mine))
      (λ (other : own x ≡ false). skip x xs (other-step x xs other) (λ text h. ap (λ a. a && has text x) other) (best-is each xs))
      (cases_Bool (own x))

  -- a number that the longest text leads to is that of the best
  pub best-leads : (xs : List X) → ((a b : List ℕ) → fits a ≡ true → fits b ≡ true → length a ≡ length b → a ≡ b) → BestIs xs → (r : Option ℕ) →
      IsLongestOf fits (numbers xs) r → (best xs ≡ option_and_then (slice_get (map see xs)) r) × ((n : ℕ) → r ≡ Some n → is_some (slice_get (map see xs) n) ≡ true)
  best-leads xs one = ⊎_elim no-best some-best
    where
      no-best : HasNone xs → (r : Option ℕ) → IsLongestOf fits (numbers xs) r →
          (best xs ≡ option_and_then (slice_get (map see xs)) r) × ((n : ℕ) → r ≡ Some n → is_some (slice_get (map see xs) n) ≡ true)
      no-best none None h = (none.0, λ n e. absurd (no_some (sym e)))
      no-best none (Some n) h = absurd (no_some (sym h.has ∙ none.1 h.text h.text_fits))

      there : (q : IsBest xs) (r : Option ℕ) → r ≡ Some q.number →
          (best xs ≡ option_and_then (slice_get (map see xs)) r) × ((n : ℕ) → r ≡ Some n → is_some (slice_get (map see xs) n) ≡ true)
      there q r e = (
        q.is ∙ sym (ap (option_and_then (slice_get (map see xs))) e ∙ q.at),
        λ n h. let is : n ≡ q.number = grind (arith, sym h ∙ e) in ap (λ m. is_some (slice_get (map see xs) m)) is ∙ ap is_some q.at,
      )

      same-text : (q : IsBest xs) (text : List ℕ) (n : ℕ) → fits text ≡ true → numbers xs text ≡ Some n →
          ((other : List ℕ) → fits other ≡ true → length text < length other → numbers xs other ≡ None) → text ≡ q.text
      same-text q text n h e longest = one text q.text h q.begins (⊎_elim
          (λ (lt : length text < length q.text). absurd (no_some (sym q.leads ∙ longest q.text q.begins lt)))
          (λ (ge : length q.text ≤ length text). ⊎_elim
          (λ (lt : length q.text < length text). absurd (no_some (sym e ∙ q.longest text h lt)))
          (λ (le : length text ≤ length q.text). omega (arith, ge, le))
          (cases_lt (length q.text) (length text)))
          (cases_lt (length text) (length q.text)))

      some-best : (q : IsBest xs) → (r : Option ℕ) → IsLongestOf fits (numbers xs) r →
          (best xs ≡ option_and_then (slice_get (map see xs)) r) × ((n : ℕ) → r ≡ Some n → is_some (slice_get (map see xs) n) ≡ true)
      some-best q None h = absurd (no_some (sym q.leads ∙ h q.text q.begins))
      some-best q (Some n) h = there q (Some n) (sym h.has ∙ ap (numbers xs) (same-text q h.text n h.text_fits h.has h.longest) ∙ q.leads)
