-- The numbers that are put in a list one after another, and what waits of those nodes.
use Rattle.std.proofs.Common.{◌≡◌, ◌≢◌, ◌<◌, ◌≤◌, ℕ, zero, suc, ◌+◌, ◌-◌, ◌==◌, ◌&&◌, nat_lt, is_none, Bool, true, false, not, List, [], ◌∷◌, ◌++◌, length, Option, None, Some, slice_get, refl, sym, ap, ◌∙◌, subst, append_assoc, append-nil, arith, if◌then◌else◌}
use Rattle.std.proofs.lemmas.Bool.{eqb-true}
use Rattle.std.proofs.lemmas.Bool.Decides.{nat_tests}
use Rattle.node_line.specs.node_turn.declared.node.Node.{Node}
use Rattle.node_seats.specs.Joining.{AreClear, IsClearBy, has_some, number_with, numbers_at, numbers_below, numbers_from, waits_well}
use Rattle.node_seats.specs.Seats.{inner_in, is_asked, is_captured, is_inner, most_nodes, stub_in, withheld_text}
use Rattle.node_seats.proofs.Above.{false_true, left_true, none_some, right_true}
use Rattle.node_seats.proofs.Listed.{numbers_low, numbers_past}
use Rattle.node_seats.proofs.Walks.{there_none}

-- ---- one node

no_stub : (s : Option (List ℕ)) → is_none s ≡ true → s ≡ None
no_stub None e = refl
no_stub (Some stub) e = cc

-- it is put after those that come with it, where it has no stub
pub with_number : (below : ℕ → Node → List ℕ) (at : ℕ) (n : Node) (old list list' : List ℕ) (s : Option (List ℕ)) → is_none s ≡ true → list ≡ old ++ below at n → list' ≡ list ++ at ∷ [] → list' ≡ old ++ number_with below at n s
with_number below at n old list list' s e f g =
    g ∙ ap (λ z. z ++ at ∷ []) f ∙ append_assoc old (below at n) (at ∷ []) ∙ ap (λ o. old ++ number_with below at n o) (sym (no_stub s e))

pub alone_number : (below : ℕ → Node → List ℕ) (at : ℕ) (n : Node) (old list' : List ℕ) (s : Option (List ℕ)) → is_none s ≡ false → list' ≡ old ++ at ∷ [] → list' ≡ old ++ number_with below at n s
alone_number below at n old list' None e f = cc
alone_number below at n old list' (Some stub) e f = f

no_text : (text : List ℕ) → has_some text ≡ false → text ≡ []
no_text [] e = refl
no_text (b ∷ text) e = cc

pub bare_clear : (below : ℕ → Node → Type 0) (at : ℕ) (n : Node) (s : Option (List ℕ)) → is_none s ≡ true → n.before ≡ [] → has_some (withheld_text n.place) ≡ false → waits_well n ≡ true → below at n → IsClearBy below at n s
bare_clear below at n None e before text waits d = (before, no_text (withheld_text n.place) text, waits, d)
bare_clear below at n (Some stub) e before text waits d = before

pub stub_clear : (below : ℕ → Node → Type 0) (at : ℕ) (n : Node) (s : Option (List ℕ)) → is_none s ≡ false → n.before ≡ [] → IsClearBy below at n s
stub_clear below at n None e before = cc
stub_clear below at n (Some stub) e before = before

-- ---- one after another

pub within : (nodes : List Node) (at : ℕ) (n : Node) → slice_get nodes at ≡ Some n → at < length nodes
within [] at n e = absurd (none_some n e)
within (m ∷ nodes) zero n e = omega arith
within (m ∷ nodes) (suc at) n e = let h = within nodes at n e in omega (arith, h)

-- none has a lower number than the node itself
not_low : (x c : ℕ) (n m : Node) → c < x → is_inner x n c m ≡ true → ⊥
not_low x c n m h e =
    let a = right_true (is_captured m.place) ((m.parent == x) && (nat_lt x c && (not m.over && not (is_asked c n.asks)))) e in
    let b = right_true (m.parent == x) (nat_lt x c && (not m.over && not (is_asked c n.asks))) a in
    false_true (sym not_less ∙ left_true (nat_lt x c) (not m.over && not (is_asked c n.asks)) b)
  where
    not_less : nat_lt x c ≡ false
    not_less = grind (arith, nat_tests, h)

module _ (nodes : List Node) (x : ℕ) (n : Node) where
  abbrev pub Passed : (below : ℕ → Node → Type 0) → (child : ℕ) → Type 0
  Passed below child = (c : ℕ) (m : Node) → c < child → slice_get nodes c ≡ Some m → is_inner x n c m ≡ true → IsClearBy below c m (stub_in m.place)

  pub none_passed : (below : ℕ → Node → Type 0) → Passed below x
  none_passed below c m low here inner = absurd (not_low x c n m low inner)

  itself : (a : ℕ) → a ≤ suc a
  itself a = omega arith

  pub no_number : (below : ℕ → Node → List ℕ) (list : List ℕ) → list ≡ list ++ numbers_below below nodes x n x
  no_number below list = sym (ap (λ z. list ++ z) (numbers_low below nodes x n x (itself x)) ∙ append-nil list)

  next_is : (a : ℕ) → a + 1 ≡ suc a
  next_is a = omega arith

  below_next : (below : ℕ → Node → List ℕ) (c : ℕ) → numbers_below below nodes x n (c + 1) ≡ numbers_below below nodes x n c ++ numbers_at below x n c (slice_get nodes c)
  unfolding numbers_below
  below_next below c = ap (numbers_below below nodes x n) (next_is c)

  -- the next comes with the node
  pub one_number : (below : ℕ → Node → List ℕ) (c : ℕ) (old list list' : List ℕ) → slice_get nodes x ≡ Some n → inner_in x (slice_get nodes x) c (slice_get nodes c) ≡ true → list ≡ old ++ numbers_below below nodes x n c →
      ((m : Node) → slice_get nodes c ≡ Some m → list' ≡ list ++ number_with below c m (stub_in m.place)) → list' ≡ old ++ numbers_below below nodes x n (c + 1)
  one_number below c old list list' there inner before adds = by (slice_get nodes c) refl (sym (ap (λ o. inner_in x o c (slice_get nodes c)) there) ∙ inner)
    where
      by : (o : Option Node) → slice_get nodes c ≡ o → inner_in x (Some n) c o ≡ true → list' ≡ old ++ numbers_below below nodes x n (c + 1)
      by None f h = absurd (false_true h)
      by (Some m) f h =
          let its = number_with below c m (stub_in m.place) in
          adds m f ∙ ap (λ z. z ++ its) before ∙ append_assoc old (numbers_below below nodes x n c) its
          ∙ ap (λ z. old ++ (numbers_below below nodes x n c ++ z)) (sym (ap (numbers_at below x n c) f ∙ ap (λ b. if b then number_with below c m (stub_in m.place) else []) h))
          ∙ ap (λ z. old ++ z) (sym (below_next below c))

  -- or it doesn't
  pub same_numbers : (below : ℕ → Node → List ℕ) (c : ℕ) (old list : List ℕ) → slice_get nodes x ≡ Some n → inner_in x (slice_get nodes x) c (slice_get nodes c) ≡ false → list ≡ old ++ numbers_below below nodes x n c →
      list ≡ old ++ numbers_below below nodes x n (c + 1)
  same_numbers below c old list there inner before =
      before ∙ ap (λ z. old ++ z) (sym (below_next below c ∙ ap (λ z. numbers_below below nodes x n c ++ z) (by (slice_get nodes c) (sym (ap (λ o. inner_in x o c (slice_get nodes c)) there) ∙ inner)) ∙ append-nil (numbers_below below nodes x n c)))
    where
      by : (o : Option Node) → inner_in x (Some n) c o ≡ false → numbers_at below x n c o ≡ []
      by None h = refl
      by (Some m) h = ap (λ b. if b then number_with below c m (stub_in m.place) else []) h

  pub one_passed : (below : ℕ → Node → Type 0) (c : ℕ) → Passed below c → ((m : Node) → slice_get nodes c ≡ Some m → IsClearBy below c m (stub_in m.place)) → Passed below (c + 1)
  one_passed below c before its i m low here inner = by (i == c) refl
    where
      less : (i == c) ≡ false → i < c
      less f = grind (arith, nat_tests, f, low)

      by : (b : Bool) → (i == c) ≡ b → IsClearBy below i m (stub_in m.place)
      by true f = subst (λ j. IsClearBy below j m (stub_in m.place)) (sym (eqb-true i c f)) (its m (ap (slice_get nodes) (sym (eqb-true i c f)) ∙ here))
      by false f = before i m (less f) here inner

  pub same_passed : (below : ℕ → Node → Type 0) (c : ℕ) → slice_get nodes x ≡ Some n → inner_in x (slice_get nodes x) c (slice_get nodes c) ≡ false → Passed below c → Passed below (c + 1)
  same_passed below c there inner before i m low here is = by (i == c) refl
    where
      less : (i == c) ≡ false → i < c
      less f = grind (arith, nat_tests, f, low)

      by : (b : Bool) → (i == c) ≡ b → IsClearBy below i m (stub_in m.place)
      by true f =
          let same : c ≡ i = sym (eqb-true i c f) in
          absurd (false_true (sym inner ∙ ap (λ o. inner_in x o c (slice_get nodes c)) there ∙ ap (λ j. inner_in x (Some n) j (slice_get nodes j)) same ∙ ap (inner_in x (Some n) i) here ∙ is))
      by false f = before i m (less f) here is

  -- ---- all of them

  as_sum : (a b : ℕ) → a ≤ b → b ≡ a + (b - a)
  as_sum a b h = omega (arith, h)

  nobody : (c : ℕ) → length nodes ≤ c → slice_get nodes c ≡ None
  nobody c h = there_none nodes c h

  up_to : length nodes ≤ 1001 → length nodes ≤ most_nodes
  unfolding most_nodes
  up_to h = h

  all_below : (below : ℕ → Node → List ℕ) (child : ℕ) → length nodes ≤ 1001 → length nodes ≤ child → numbers_below below nodes x n child ≡ numbers_below below nodes x n most_nodes
  all_below below child few far =
      ap (numbers_below below nodes x n) (as_sum (length nodes) child far)
      ∙ numbers_past below nodes x n (length nodes) (child - length nodes) nobody
      ∙ sym (numbers_past below nodes x n (length nodes) (most_nodes - length nodes) nobody)
      ∙ ap (numbers_below below nodes x n) (sym (as_sum (length nodes) most_nodes (up_to few)))

  less_one : (levels : ℕ) → suc levels - 1 ≡ levels
  less_one levels = omega arith

  from_below : (levels : ℕ) → levels ≢ 0 → numbers_below (numbers_from nodes (levels - 1)) nodes x n most_nodes ≡ numbers_from nodes levels x n
  unfolding numbers_from
  from_below zero some = absurd (some refl)
  from_below (suc levels) some = ap (λ l. numbers_below (numbers_from nodes l) nodes x n most_nodes) (less_one levels)

  pub all_numbers : (levels child : ℕ) (old list : List ℕ) → levels ≢ 0 → length nodes ≤ 1001 → length nodes ≤ child → list ≡ old ++ numbers_below (numbers_from nodes (levels - 1)) nodes x n child → list ≡ old ++ numbers_from nodes levels x n
  all_numbers levels child old list some few far h = h ∙ ap (λ z. old ++ z) (all_below (numbers_from nodes (levels - 1)) child few far ∙ from_below levels some)

  pub all_clear : (levels child : ℕ) → levels ≢ 0 → length nodes ≤ child → Passed (AreClear nodes (levels - 1)) child → AreClear nodes levels x n
  unfolding AreClear
  all_clear zero child some far passed = absurd (some refl)
  all_clear (suc levels) child some far passed = λ c m here inner.
      let low = within nodes c m here in
      subst (λ l. IsClearBy (AreClear nodes l) c m (stub_in m.place)) (less_one levels) (passed c m (omega (arith, low, far)) here inner)
