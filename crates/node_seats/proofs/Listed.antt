-- The numbers of the nodes that come to the row with one.
use Rattle.std.proofs.Common.{◌≡◌, ◌≤◌, ℕ, zero, suc, ◌+◌, ◌==◌, ◌&&◌, nat_lt, Bool, true, false, not, List, [], ◌∷◌, ◌++◌, Option, None, Some, slice_get, refl, sym, ap, ◌∙◌, append-nil, arith, if◌then◌else◌}
use Rattle.std.proofs.lemmas.Bool.{eqb-true}
use Rattle.std.proofs.lemmas.Bool.Decides.{nat_tests}
use Rattle.node_line.specs.node_turn.declared.node.Node.{Node}
use Rattle.node_seats.specs.Joining.{number_with, numbers_at, numbers_below, numbers_from}
use Rattle.node_seats.specs.Seats.{is_asked, is_captured, is_inner, most_nodes, stub_in}
use Rattle.node_seats.proofs.Above.{eq_self, false_true}

unfoldable pub among : ℕ → List ℕ → Bool
among y [] = false
among y (x ∷ xs) = if x == y then true else among y xs

either_true : (a : Bool) → (if a then true else true) ≡ true
either_true true = refl
either_true false = refl

pub among_first : (y : ℕ) (xs ys : List ℕ) → among y xs ≡ true → among y (xs ++ ys) ≡ true
unfolding among
among_first y [] ys e = cc
among_first y (x ∷ xs) ys e = elim (x == y) as (λ b. (if b then true else among y xs) ≡ true → (if b then true else among y (xs ++ ys)) ≡ true) [
  | true ↦ λ h. refl
  | false ↦ λ h. among_first y xs ys h
] e

pub among_last : (y : ℕ) (xs ys : List ℕ) → among y ys ≡ true → among y (xs ++ ys) ≡ true
unfolding among
among_last y [] ys e = e
among_last y (x ∷ xs) ys e = ap (λ b. if x == y then true else b) (among_last y xs ys e) ∙ either_true (x == y)

pub data Side (y : ℕ) (xs ys : List ℕ) : Type 0 where
  First : among y xs ≡ true → Side y xs ys
  Last : among y ys ≡ true → Side y xs ys

pub among_side : (y : ℕ) (xs ys : List ℕ) → among y (xs ++ ys) ≡ true → Side y xs ys
unfolding among
among_side y [] ys e = Last e
among_side y (x ∷ xs) ys e = by (among_side y xs ys) (x == y) refl e
  where
    further : Side y xs ys → (x == y) ≡ false → Side y (x ∷ xs) ys
    further (First h) f = First (ap (λ b. if b then true else among y xs) f ∙ h)
    further (Last h) f = Last h

    by : (among y (xs ++ ys) ≡ true → Side y xs ys) → (b : Bool) → (x == y) ≡ b → (if x == y then true else among y (xs ++ ys)) ≡ true → Side y (x ∷ xs) ys
    by ih true f h = First (ap (λ b. if b then true else among y xs) f)
    by ih false f h = further (ih (sym (ap (λ b. if b then true else among y (xs ++ ys)) f) ∙ h)) f

pub among_one : (y c : ℕ) → among y (c ∷ []) ≡ true → c ≡ y
unfolding among
among_one y c e = by (c == y) refl e
  where
    by : (b : Bool) → (c == y) ≡ b → (if c == y then true else false) ≡ true → c ≡ y
    by true f h = eqb-true c y f
    by false f h = absurd (false_true (sym (ap (λ b. if b then true else false) f) ∙ h))

pub one_among : (c : ℕ) → among c (c ∷ []) ≡ true
unfolding among
one_among c = ap (λ b. if b then true else false) (eq_self c)

module _ (nodes : List Node) where
  pub data Comes (x : ℕ) (list : List ℕ) (z : ℕ) (p : Node) : Type 0 where
    Own : z ≡ x → Comes x list z p
    Of : among z list ≡ true → stub_in p.place ≡ None → Comes x list z p

  -- One whose number is in a list is inner to a node: to the one with this number, or to one without a stub that is in the list too.
  pub record Listed (x : ℕ) (list : List ℕ) (y : ℕ) : Type 0 where
    pub above : ℕ
    pub node : Node
    pub member : Node
    pub there : slice_get nodes above ≡ Some node
    pub here : slice_get nodes y ≡ Some member
    pub inner : is_inner above node y member ≡ true
    pub from : Comes x list above node

  wider : (x y : ℕ) (list list' : List ℕ) → ((i : ℕ) → among i list ≡ true → among i list' ≡ true) → Listed x list y → Listed x list' y
  wider x y list list' more l = record { above = l.above; node = l.node; member = l.member; there = l.there; here = l.here; inner = l.inner; from = by l.from }
    where
      by : Comes x list l.above l.node → Comes x list' l.above l.node
      by (Own e) = Own e
      by (Of e s) = Of (more l.above e) s

  -- of those below a node that is in a list itself
  deeper : (x c y : ℕ) (m : Node) (list list' : List ℕ) → slice_get nodes c ≡ Some m → stub_in m.place ≡ None → among c list' ≡ true → ((i : ℕ) → among i list ≡ true → among i list' ≡ true) → Listed c list y → Listed x list' y
  deeper x c y m list list' there free on more l = record { above = l.above; node = l.node; member = l.member; there = l.there; here = l.here; inner = l.inner; from = by l.from }
    where
      same : (p q : Node) → Some p ≡ Some q → p ≡ q
      same p q e = cc

      by : Comes c list l.above l.node → Comes x list' l.above l.node
      by (Own e) = Of (ap (λ i. among i list') e ∙ on) (ap (λ (p : Node). stub_in p.place) (same l.node m (sym l.there ∙ ap (slice_get nodes) e ∙ there)) ∙ free)
      by (Of e s) = Of (more l.above e) s

  abbrev Lists : (below : ℕ → Node → List ℕ) → Type 0
  Lists below = (c y : ℕ) (m : Node) → slice_get nodes c ≡ Some m → among y (below c m) ≡ true → Listed c (below c m) y

  listed_below : (below : ℕ → Node → List ℕ) → Lists below → (x : ℕ) (n : Node) → slice_get nodes x ≡ Some n → (count y : ℕ) → among y (numbers_below below nodes x n count) ≡ true → Listed x (numbers_below below nodes x n count) y
  unfolding numbers_below among
  listed_below below ih x n at zero y e = cc
  listed_below below ih x n at (suc count) y e = by (listed_below below ih x n at count y) (among_side y (numbers_below below nodes x n count) (numbers_at below x n count (slice_get nodes count)) e)
    where
      whole : List ℕ
      whole = numbers_below below nodes x n count ++ numbers_at below x n count (slice_get nodes count)

      is : numbers_below below nodes x n (suc count) ≡ numbers_below below nodes x n count ++ numbers_at below x n count (slice_get nodes count)
      is = refl

      last : (o : Option Node) → slice_get nodes count ≡ o → among y (numbers_at below x n count o) ≡ true → ((i : ℕ) → among i (numbers_at below x n count o) ≡ true → among i (numbers_below below nodes x n (suc count)) ≡ true) →
          Listed x (numbers_below below nodes x n (suc count)) y
      last None f h more = absurd (false_true h)
      last (Some m) f h more = of (is_inner x n count m) refl h more
        where
          one : (s : Option (List ℕ)) → stub_in m.place ≡ s → is_inner x n count m ≡ true → among y (number_with below count m s) ≡ true → ((i : ℕ) → among i (number_with below count m s) ≡ true → among i (numbers_below below nodes x n (suc count)) ≡ true) →
              Listed x (numbers_below below nodes x n (suc count)) y
          one (Some stub) g inner k more = record { above = x; node = n; member = m; there = at; here = ap (slice_get nodes) (sym (among_one y count k)) ∙ f; inner = ap (λ i. is_inner x n i m) (sym (among_one y count k)) ∙ inner; from = Own refl }
          one None g inner k more = with_it (among_side y (below count m) (count ∷ []) k)
            where
              with_it : Side y (below count m) (count ∷ []) → Listed x (numbers_below below nodes x n (suc count)) y
              with_it (First a) = deeper x count y m (below count m) (numbers_below below nodes x n (suc count)) f g (more count (among_last count (below count m) (count ∷ []) (one_among count))) (λ i b. more i (among_first i (below count m) (count ∷ []) b)) (ih count y m f a)
              with_it (Last a) = record { above = x; node = n; member = m; there = at; here = ap (slice_get nodes) (sym (among_one y count a)) ∙ f; inner = ap (λ i. is_inner x n i m) (sym (among_one y count a)) ∙ inner; from = Own refl }

          of : (b : Bool) → is_inner x n count m ≡ b → among y (if b then number_with below count m (stub_in m.place) else []) ≡ true →
              ((i : ℕ) → among i (if is_inner x n count m then number_with below count m (stub_in m.place) else []) ≡ true → among i (numbers_below below nodes x n (suc count)) ≡ true) →
              Listed x (numbers_below below nodes x n (suc count)) y
          of false g k more = absurd (false_true k)
          of true g k more = one (stub_in m.place) refl g k (λ i a. more i (ap (λ b. among i (if b then number_with below count m (stub_in m.place) else [])) g ∙ a))

      by : (among y (numbers_below below nodes x n count) ≡ true → Listed x (numbers_below below nodes x n count) y) → Side y (numbers_below below nodes x n count) (numbers_at below x n count (slice_get nodes count)) →
          Listed x (numbers_below below nodes x n (suc count)) y
      by before (First a) =
          wider x y (numbers_below below nodes x n count) (numbers_below below nodes x n (suc count)) (λ i b. among_first i (numbers_below below nodes x n count) (numbers_at below x n count (slice_get nodes count)) b) (before a)
      by before (Last a) =
          last (slice_get nodes count) refl a (λ i b. among_last i (numbers_below below nodes x n count) (numbers_at below x n count (slice_get nodes count)) b)

  pub listed : (levels x y : ℕ) (n : Node) → slice_get nodes x ≡ Some n → among y (numbers_from nodes levels x n) ≡ true → Listed x (numbers_from nodes levels x n) y
  unfolding numbers_from among
  listed zero x y n at e = cc
  listed (suc levels) x y n at e = listed_below (numbers_from nodes levels) (λ c i m f a. listed levels c i m f a) x n at most_nodes y e

-- ---- where none is

one_none : (below : ℕ → Node → List ℕ) (x : ℕ) (n : Node) (c : ℕ) (o : Option Node) → c ≤ x → numbers_at below x n c o ≡ []
one_none below x n c None h = refl
one_none below x n c (Some m) h =
    ap (λ b. if is_captured m.place && ((m.parent == x) && (b && (not m.over && not (is_asked c n.asks)))) then number_with below c m (stub_in m.place) else []) not_less
    ∙ ap (λ b. if b then number_with below c m (stub_in m.place) else []) (none (is_captured m.place) (m.parent == x))
  where
    not_less : nat_lt x c ≡ false
    not_less = grind (arith, nat_tests, h)

    none : (a b : Bool) → (a && (b && false)) ≡ false
    none false b = refl
    none true false = refl
    none true true = refl

nothing_more : (xs ys : List ℕ) → xs ≡ [] → ys ≡ [] → xs ++ ys ≡ []
nothing_more xs ys e f = ap (λ z. z ++ ys) e ∙ f

-- up to the node itself
pub numbers_low : (below : ℕ → Node → List ℕ) (nodes : List Node) (x : ℕ) (n : Node) (count : ℕ) → count ≤ suc x → numbers_below below nodes x n count ≡ []
unfolding numbers_below
numbers_low below nodes x n zero h = refl
numbers_low below nodes x n (suc count) h =
    nothing_more (numbers_below below nodes x n count) (numbers_at below x n count (slice_get nodes count)) (numbers_low below nodes x n count (omega (arith, h))) (one_none below x n count (slice_get nodes count) (omega (arith, h)))

one_further : (a b : ℕ) → a + suc b ≡ suc (a + b)
one_further a b = omega arith

from_there : (a b : ℕ) → a ≤ a + b
from_there a b = omega arith

no_further : (a : ℕ) → a + zero ≡ a
no_further a = omega arith

-- and from a number on that no node has
pub numbers_past : (below : ℕ → Node → List ℕ) (nodes : List Node) (x : ℕ) (n : Node) (k more : ℕ) → ((c : ℕ) → k ≤ c → slice_get nodes c ≡ None) → numbers_below below nodes x n (k + more) ≡ numbers_below below nodes x n k
unfolding numbers_below
numbers_past below nodes x n k zero none = ap (numbers_below below nodes x n) (no_further k)
numbers_past below nodes x n k (suc more) none =
    ap (numbers_below below nodes x n) (one_further k more)
    ∙ ap (λ o. numbers_below below nodes x n (k + more) ++ numbers_at below x n (k + more) o) (none (k + more) (from_there k more))
    ∙ append-nil (numbers_below below nodes x n (k + more))
    ∙ numbers_past below nodes x n k more none
