-- Texts in order, and the numbers that they lead to.
use Rattle.std.proofs.Common.{◌≡◌, ℕ, zero, suc, ◌+◌, ◌-◌, ◌<◌, ◌≤◌, Bool, true, false, not, ◌&&◌, List, [], ◌∷◌, ◌++◌, length, map, take, filter, find, Option, Some, None, is_some, option_map, bytes_eq, get_or, cond, ⊎_elim, refl, sym, ap, ap₂, ◌∙◌, subst, arith}
use mathlib.Core.Bool.{true≢false}
use Rattle.std.specs.Ordering.{nat_cmp, is_le, is_lt, is_eq, ordering_reverse}
use Rattle.std.specs.declared.cmp.Ordering.{Ordering}
use Rattle.std.specs.declared.cmp.Ordering.TheVariants.{Less, Equal, Greater}
use Rattle.std.specs.Cmp.Lexicographic.{slice_cmp, nat_list_cmp_total, texts_ties}
use Rattle.std.specs.List.Sorted.{ties}
use Rattle.std.proofs.lemmas.Bool.{cases_lt, cases_Bool}
use Rattle.std.proofs.lemmas.List.{length-append, get_or_push, get_or-take}
use Rattle.std.proofs.lemmas.Slice.Eq.{bytes_eq-Decides}
use Rattle.location_match.specs.Prefixes.{PrefixList, text_at, is_at_most, fits, IsLongest, FitsNone}
use Rattle.location_match.specs.Numbers.{number_in, first_number, number_of, LeadsAs, IsLongestOf}
use Rattle.location_match.specs.Ordered.{AreInOrder, HaveSameNumbers}
use Rattle.location_match.specs.declared.texts.NumberedText.{NumberedText}
use Rattle.location_match.proofs.Order.{first_same, fits-length}
use Rattle.location_match.proofs.Nearest.{not_both}

-- ---- the order of a sort

abbrev pub is_below : NumberedText → NumberedText → Bool
is_below a b = is_lt (slice_cmp nat_cmp a.text b.text)

le_of_not : (r : Ordering) → is_lt r ≡ false → is_le (ordering_reverse r) ≡ true
le_of_not Less h = absurd (true≢false h)
le_of_not Equal h = refl
le_of_not Greater h = refl

pub at_most-of : (a b : NumberedText) → is_below b a ≡ false → is_at_most a.text b.text ≡ true
at_most-of a b h = ap is_le (nat_list_cmp_total.antisymm a.text b.text) ∙ le_of_not (slice_cmp nat_cmp b.text a.text) h

tied : (r : Ordering) → (not (is_lt r) && not (is_lt (ordering_reverse r))) ≡ is_eq r
tied Less = refl
tied Equal = refl
tied Greater = refl

-- those that tie are those of one text
ties-are : (a b : NumberedText) → ties is_below a b ≡ bytes_eq a.text b.text
ties-are a b =
    ap (λ r. not (is_below a b) && not (is_lt r)) (nat_list_cmp_total.antisymm b.text a.text)
    ∙ tied (slice_cmp nat_cmp a.text b.text) ∙ sym (texts_ties a.text b.text)

first_kept : (p : NumberedText → Bool) (xs : List NumberedText) → find (λ x. true) (filter p xs) ≡ find p xs
first_kept p [] = refl
first_kept p (x ∷ xs) = elim (p x) as (λ b. find (λ x. true) (cond b (x ∷ filter p xs) (filter p xs)) ≡ cond b (Some x) (find p xs)) [ true ↦ refl | false ↦ first_kept p xs ]

find_as : (p q : NumberedText → Bool) → ((x : NumberedText) → p x ≡ q x) → (xs : List NumberedText) → find p xs ≡ find q xs
find_as p q same [] = refl
find_as p q same (x ∷ xs) = ap₂ (λ b o. cond b (Some x) o) (same x) (find_as p q same xs)

eq_turned : (a b : List ℕ) → bytes_eq a b ≡ bytes_eq b a
eq_turned a b = ⊎_elim
    (λ (h : bytes_eq a b ≡ true). let e : a ≡ b = (bytes_eq-Decides a b).0 h in h ∙ sym ((bytes_eq-Decides b a).1 (sym e)))
    (λ (h : bytes_eq a b ≡ false). ⊎_elim
    (λ (g : bytes_eq b a ≡ true). not_both _ ((bytes_eq-Decides a b).1 (sym ((bytes_eq-Decides b a).0 g))) h)
    (λ (g : bytes_eq b a ≡ false). h ∙ sym g)
    (cases_Bool (bytes_eq b a)))
    (cases_Bool (bytes_eq a b))

pub same-numbers : (old new : List NumberedText) → ((x : NumberedText) → filter (ties is_below x) new ≡ filter (ties is_below x) old) → HaveSameNumbers old new
same-numbers old new same text =
    let key : NumberedText = record { text = text; number = 0 } in
    let alike : (x : NumberedText) → bytes_eq x.text text ≡ ties is_below key x = λ x. eq_turned x.text text ∙ sym (ties-are key x) in
    let found : find (λ x. bytes_eq x.text text) new ≡ find (λ x. bytes_eq x.text text) old =
    find_as (λ x. bytes_eq x.text text) (ties is_below key) alike new ∙ sym (first_kept (ties is_below key) new)
    ∙ ap (find (λ x. true)) (same key) ∙ first_kept (ties is_below key) old ∙ sym (find_as (λ x. bytes_eq x.text text) (ties is_below key) alike old) in
    ap (option_map (λ (t : NumberedText). t.number)) found

-- ---- one text more

abbrev or_number : Option ℕ → List ℕ → ℕ → List ℕ → Option ℕ
or_number None own number text = cond (bytes_eq own text) (Some number) None
or_number (Some n) own number text = Some n

abbrev pick : List NumberedText → List ℕ → Option NumberedText
pick texts text = find (λ (t : NumberedText). bytes_eq t.text text) texts

number-more : (texts : List NumberedText) (t : NumberedText) (text : List ℕ) → number_in (texts ++ t ∷ []) text ≡ or_number (number_in texts text) t.text t.number text
number-more [] t text = elim (bytes_eq t.text text) as (λ b. option_map (λ (t : NumberedText). t.number) (cond b (Some t) None) ≡ cond b (Some t.number) None) [ true ↦ refl | false ↦ refl ]
number-more (x ∷ xs) t text =
    elim (bytes_eq x.text text) as (λ b. option_map (λ (t : NumberedText). t.number) (cond b (Some x) (pick (xs ++ t ∷ []) text)) ≡ or_number (option_map (λ (t : NumberedText). t.number) (cond b (Some x) (pick xs text))) t.text t.number text)
    [ true ↦ refl | false ↦ number-more xs t text ]

first-more : (texts : List (List ℕ)) (numbers : List ℕ) (own : List ℕ) (number : ℕ) (text : List ℕ) → length texts ≡ length numbers →
    first_number (texts ++ own ∷ []) (numbers ++ number ∷ []) text ≡ or_number (first_number texts numbers text) own number text
unfolding first_number
first-more [] [] own number text e = refl
first-more [] (n ∷ ns) own number text e = absurd (omega (arith, e))
first-more (t ∷ ts) [] own number text e = absurd (omega (arith, e))
first-more (t ∷ ts) (n ∷ ns) own number text e =
    elim (bytes_eq t text) as (λ b. cond b (Some n) (first_number (ts ++ own ∷ []) (ns ++ number ∷ []) text) ≡ or_number (cond b (Some n) (first_number ts ns text)) own number text)
    [ true ↦ refl | false ↦ first-more ts ns own number text (omega (arith, e)) ]

-- the texts that were put into a list, which are in order
pub record Filling (p : PrefixList) (texts : List NumberedText) : Type 0 where
  pub same : length p.texts ≡ length p.locations
  pub numbers : LeadsAs p (number_in texts)
  pub last : (n : ℕ) (d : NumberedText) → length texts ≡ n + 1 → (0 < length p.texts) × (text_at p.texts (length p.texts - 1) ≡ (get_or texts n d).text)

pub filling-none : Filling (record { texts = []; locations = [] }) []
unfolding first_number
filling-none = record { same = refl; numbers = λ text. refl; last = λ n d e. absurd (omega (arith, e)) }

pub filling-added : (p q : PrefixList) (texts : List NumberedText) (t : NumberedText) → Filling p texts →
    q ≡ record { texts = p.texts ++ t.text ∷ []; locations = p.locations ++ t.number ∷ [] } → Filling q (texts ++ t ∷ [])
filling-added p q texts t old is = subst (λ (x : PrefixList). Filling x (texts ++ t ∷ [])) (sym is) (record {
  same = length-append p.texts (t.text ∷ []) ∙ ap (λ n. n + 1) old.same ∙ sym (length-append p.locations (t.number ∷ []));
  numbers = λ text. first-more p.texts p.locations t.text t.number text old.same ∙ ap (λ o. or_number o t.text t.number text) (old.numbers text) ∙ sym (number-more texts t text);
  last = λ n d e.
      let size = length-append p.texts (t.text ∷ []) in
      let long = length-append texts (t ∷ []) in
      let at : length texts ≡ n = omega (arith, e, long) in (
        omega (arith, size),
        ap (text_at (p.texts ++ t.text ∷ [])) (omega (arith, size)) ∙ get_or_push p.texts t.text [] (length p.texts) refl
            ∙ ap (λ (x : NumberedText). x.text) (sym (ap (λ m. get_or (texts ++ t ∷ []) m d) (sym at) ∙ get_or_push texts t d (length texts) refl)),
      );
})

found-at : (texts : List (List ℕ)) (numbers : List ℕ) (n : ℕ) → length texts ≡ length numbers → n < length texts → is_some (first_number texts numbers (text_at texts n)) ≡ true
unfolding first_number
found-at [] numbers n e lt = absurd (omega (arith, lt))
found-at (t ∷ ts) [] n e lt = absurd (omega (arith, e))
found-at (t ∷ ts) (m ∷ ms) zero e lt = ap (λ b. is_some (cond b (Some m) (first_number ts ms t))) ((bytes_eq-Decides t t).1 refl)
found-at (t ∷ ts) (m ∷ ms) (suc n) e lt =
    elim (bytes_eq t (text_at ts n)) as (λ b. is_some (cond b (Some m) (first_number ts ms (text_at ts n))) ≡ true)
    [ true ↦ refl | false ↦ found-at ts ms n (omega (arith, e)) (omega (arith, lt)) ]

or_some : (o : Option ℕ) (own : List ℕ) (number : ℕ) (text : List ℕ) → is_some o ≡ true → o ≡ or_number o own number text
or_some None own number text h = absurd (true≢false (sym h))
or_some (Some n) own number text h = refl

or_other : (o : Option ℕ) (own : List ℕ) (number : ℕ) (text : List ℕ) → bytes_eq own text ≡ false → o ≡ or_number o own number text
or_other None own number text h = ap (λ b. cond b (Some number) None) (sym h)
or_other (Some n) own number text h = refl

pub both-at_most : (a b : List ℕ) → is_at_most a b ≡ true → is_at_most b a ≡ true → a ≡ b
both-at_most a b h g = (bytes_eq-Decides a b).0 (texts_ties a b ∙ equal (slice_cmp nat_cmp a b) h (sym (ap is_le (nat_list_cmp_total.antisymm b a)) ∙ g))
  where
    equal : (r : Ordering) → is_le r ≡ true → is_le (ordering_reverse r) ≡ true → is_eq r ≡ true
    equal Less h g = absurd (true≢false (sym g))
    equal Equal h g = refl
    equal Greater h g = absurd (true≢false (sym h))

pub filling-refused : (p q : PrefixList) (texts : List NumberedText) (t : NumberedText) → Filling p texts → q ≡ p → 0 < length p.texts →
    text_at p.texts (length p.texts - 1) ≡ t.text → Filling q (texts ++ t ∷ [])
filling-refused p q texts t old is some last = subst (λ (x : PrefixList). Filling x (texts ++ t ∷ [])) (sym is) (record {
  same = old.same;
  numbers = λ text. ⊎_elim
      (λ (hit : bytes_eq t.text text ≡ true).
      let there : is_some (number_of p text) ≡ true = ap (λ x. is_some (number_of p x)) (sym (last ∙ (bytes_eq-Decides t.text text).0 hit))
      ∙ found-at p.texts p.locations (length p.texts - 1) old.same (omega (arith, some)) in
      or_some (number_of p text) t.text t.number text there ∙ ap (λ o. or_number o t.text t.number text) (old.numbers text) ∙ sym (number-more texts t text))
      (λ (miss : bytes_eq t.text text ≡ false).
      or_other (number_of p text) t.text t.number text miss ∙ ap (λ o. or_number o t.text t.number text) (old.numbers text) ∙ sym (number-more texts t text))
      (cases_Bool (bytes_eq t.text text));
  last = λ n d e.
      let long = length-append texts (t ∷ []) in
      let at : length texts ≡ n = omega (arith, e, long) in
      (some, last ∙ ap (λ (x : NumberedText). x.text) (sym (ap (λ m. get_or (texts ++ t ∷ []) m d) (sym at) ∙ get_or_push texts t d (length texts) refl)));
})

-- what was put in is the front of the texts in order, and this is the next of them
module _ (p q : PrefixList) (all texts : List NumberedText) (t : NumberedText) (order : AreInOrder all)
    (so_far : map (λ (y : NumberedText). y) texts ≡ take (length texts) all)
    (here : (length texts < length all) × (t ≡ get_or all (length texts) t)) (old : Filling p texts) where
  map-same : (xs : List NumberedText) → map (λ (y : NumberedText). y) xs ≡ xs
  map-same [] = refl
  map-same (x ∷ xs) = ap (λ l. x ∷ l) (map-same xs)

  -- the last that was put in is the one before
  last-is : (n : ℕ) → length texts ≡ n + 1 → text_at p.texts (length p.texts - 1) ≡ (get_or all n t).text
  last-is n e = (old.last n t e).1 ∙ ap (λ (x : NumberedText). x.text)
      (ap (λ l. get_or l n t) (sym (map-same texts) ∙ so_far) ∙ get_or-take (length texts) all n t (omega (arith, e)))

  last-same : (n : ℕ) → length texts ≡ n + 1 → is_at_most t.text (text_at p.texts (length p.texts - 1)) ≡ true →
      text_at p.texts (length p.texts - 1) ≡ t.text
  last-same n e le =
      let next : get_or all (n + 1) t ≡ t = ap (λ m. get_or all m t) (sym e) ∙ sym here.1 in
      let up : is_at_most (get_or all n t).text (get_or all (n + 1) t).text ≡ true = order n t (omega (arith, e, here.0)) in
      both-at_most (text_at p.texts (length p.texts - 1)) t.text
      (ap₂ is_at_most (last-is n e) (ap (λ (x : NumberedText). x.text) (sym next)) ∙ up) le

  first-put : length texts ≡ 0 → 0 < length p.texts → ⊥
  first-put e some = true≢false (sym (found-at p.texts p.locations (length p.texts - 1) old.same (omega (arith, some)))
      ∙ ap is_some (old.numbers (text_at p.texts (length p.texts - 1))) ∙ none texts e (text_at p.texts (length p.texts - 1)))
    where
      none : (texts : List NumberedText) → length texts ≡ 0 → (text : List ℕ) → is_some (number_in texts text) ≡ false
      none [] e text = refl
      none (x ∷ xs) e text = absurd (omega (arith, e))

  pub filling-turn : (added : Bool) →
      (added ≡ true → q ≡ record { texts = p.texts ++ t.text ∷ []; locations = p.locations ++ t.number ∷ [] }) →
      (added ≡ false → q ≡ p) →
      (added ≡ false → (0 < length p.texts) × (is_at_most t.text (text_at p.texts (length p.texts - 1)) ≡ true)) →
      Filling q (texts ++ t ∷ [])
  filling-turn true put same below = filling-added p q texts t old (put refl)
  filling-turn false put same below =
      let some = (below refl).0 in
      ⊎_elim
      (λ (none : length texts < 1). absurd (first-put (omega (arith, none)) some))
      (λ (more : 1 ≤ length texts). filling-refused p q texts t old (same refl) some
      (last-same (length texts - 1) (omega (arith, more)) (below refl).1))
      (cases_lt (length texts) 1)

-- ---- look-ups

apart_of : (a b : List ℕ) → is_at_most a b ≡ false → bytes_eq b a ≡ false
apart_of a b h = ⊎_elim
    (λ (hit : bytes_eq b a ≡ true).
    let e : b ≡ a = (bytes_eq-Decides b a).0 hit in
    not_both _ (subst (λ x. is_at_most a x ≡ true) (sym e) (self a)) h)
    (λ miss. miss)
    (cases_Bool (bytes_eq b a))
  where
    reversed : (r : Ordering) → r ≡ ordering_reverse r → is_le r ≡ true
    reversed Less e = refl
    reversed Equal e = refl
    reversed Greater e = absurd (true≢false (ap is_lt (sym e)))

    self : (a : List ℕ) → is_at_most a a ≡ true
    self a = reversed (slice_cmp nat_cmp a a) (nat_list_cmp_total.antisymm a a)

-- of texts that differ, each leads to its own number
pub number-at : (texts : List (List ℕ)) (numbers : List ℕ) (n : ℕ) → length texts ≡ length numbers → n < length texts →
    ((i j : ℕ) → i < j → j < length texts → is_at_most (text_at texts j) (text_at texts i) ≡ false) →
    first_number texts numbers (text_at texts n) ≡ Some (get_or numbers n 0)
unfolding first_number
number-at [] numbers n e lt sorted = absurd (omega (arith, lt))
number-at (t ∷ ts) [] n e lt sorted = absurd (omega (arith, e))
number-at (t ∷ ts) (m ∷ ms) zero e lt sorted = ap (λ b. cond b (Some m) (first_number ts ms t)) ((bytes_eq-Decides t t).1 refl)
number-at (t ∷ ts) (m ∷ ms) (suc n) e lt sorted =
    ap (λ b. cond b (Some m) (first_number ts ms (text_at ts n))) (apart_of (text_at ts n) t (sorted 0 (suc n) (omega arith) lt))
    ∙ number-at ts ms n (omega (arith, e)) (omega (arith, lt)) (λ i j less within. sorted (suc i) (suc j) (omega (arith, less)) (omega (arith, within)))

pub place-of : (texts : List (List ℕ)) (numbers : List ℕ) (text : List ℕ) → is_some (first_number texts numbers text) ≡ true →
    (n : ℕ) × (n < length texts) × (text_at texts n ≡ text)
unfolding first_number
place-of [] numbers text h = absurd (true≢false (sym h))
place-of (t ∷ ts) [] text h = absurd (true≢false (sym h))
place-of (t ∷ ts) (m ∷ ms) text h = ⊎_elim
    (λ (hit : bytes_eq t text ≡ true). (0, omega arith, (bytes_eq-Decides t text).0 hit))
    (λ (miss : bytes_eq t text ≡ false).
    let p = place-of ts ms text (sym (ap (λ b. is_some (cond b (Some m) (first_number ts ms text))) miss) ∙ h) in
    (suc p.0, omega (arith, p.1), p.2))
    (cases_Bool (bytes_eq t text))

none_if : (o : Option ℕ) → (is_some o ≡ true → ⊥) → o ≡ None
none_if None h = refl
none_if (Some n) h = absurd (h refl)

module _ (p : PrefixList) (same : length p.texts ≡ length p.locations)
    (sorted : (i j : ℕ) → i < j → j < length p.texts → is_at_most (text_at p.texts j) (text_at p.texts i) ≡ false) (path : List ℕ) where
  pub longest-some : (place : ℕ) → IsLongest p.texts path place → IsLongestOf (λ text. fits path text) (number_of p) (Some (get_or p.locations place 0))
  longest-some place h = record {
    text = text_at p.texts place;
    text_fits = h.begins;
    has = number-at p.texts p.locations place same h.inside sorted;
    longest = λ other begins more. none_if (number_of p other) (λ some.
        let there = place-of p.texts p.locations other some in
        let most = h.longest there.0 there.1 (ap (fits path) there.2 ∙ begins) in
        let long : length (text_at p.texts there.0) ≡ length other = ap length there.2 in
        omega (arith, most, long, more));
  }

  pub longest-none : FitsNone p.texts path → IsLongestOf (λ text. fits path text) (number_of p) None
  longest-none h = λ text begins. none_if (number_of p text) (λ some.
      let there = place-of p.texts p.locations text some in
      not_both _ (ap (fits path) there.2 ∙ begins) (h there.0 there.1))

  fits-self : (a : List ℕ) → fits a a ≡ true
  fits-self a = (bytes_eq-Decides a (take (length a) a)).1 (sym (take-whole a))
    where
      take-whole : (a : List ℕ) → take (length a) a ≡ a
      take-whole [] = refl
      take-whole (x ∷ xs) = ap (λ l. x ∷ l) (take-whole xs)

  whole-fit : (a b : List ℕ) → fits a b ≡ true → length b ≡ length a → b ≡ a
  whole-fit [] [] h e = refl
  whole-fit [] (y ∷ ys) h e = absurd (omega (arith, e))
  whole-fit (x ∷ xs) [] h e = absurd (omega (arith, e))
  whole-fit (x ∷ xs) (y ∷ ys) h e = let q = first_same y x ys xs h in ap₂ (λ m ms. m ∷ ms) q.0 (whole-fit xs ys q.1 (omega (arith, e)))

  -- the longest text that the path begins with is the path, where that is among the texts
  pub exact-some : (place : ℕ) → IsLongest p.texts path place → length (text_at p.texts place) ≡ length path → Some (get_or p.locations place 0) ≡ number_of p path
  exact-some place h long =
      sym (ap (number_of p) (sym (whole-fit path (text_at p.texts place) h.begins long)) ∙ number-at p.texts p.locations place same h.inside sorted)

  pub exact-other : (place : ℕ) → IsLongest p.texts path place → (length (text_at p.texts place) ≡ length path → ⊥) → None ≡ number_of p path
  exact-other place h other = sym (none_if (number_of p path) (λ some.
      let there = place-of p.texts p.locations path some in
      let most = h.longest there.0 there.1 (ap (fits path) there.2 ∙ fits-self path) in
      let long : length (text_at p.texts there.0) ≡ length path = ap length there.2 in
      let within = fits-length path (text_at p.texts place) h.begins in
      other (omega (arith, most, long, within))))

  pub exact-none : FitsNone p.texts path → None ≡ number_of p path
  exact-none h = sym (none_if (number_of p path) (λ some.
      let there = place-of p.texts p.locations path some in
      not_both _ (ap (fits path) there.2 ∙ fits-self path) (h there.0 there.1)))
