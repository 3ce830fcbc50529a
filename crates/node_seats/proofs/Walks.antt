-- One level of those that wait for a node's bytes.
use Rattle.std.proofs.Common.{◌≡◌, ◌≢◌, ◌<◌, ◌≤◌, ℕ, zero, suc, ◌-◌, ◌==◌, ◌||◌, nat_lt, Bool, true, false, not, List, [], ◌∷◌, Option, None, Some, get_or, length, slice_get, refl, sym, ap, ◌∙◌, arith}
use Rattle.std.proofs.lemmas.Bool.{eqb-true}
use Rattle.std.proofs.lemmas.Bool.Decides.{nat_tests}
use Rattle.node_line.specs.node_turn.declared.node.Node.{Node}
use Rattle.node_seats.specs.Seats.{NoInner, heard_by, inner_in, is_captured, is_heard, most_nodes}

pub in_row_heard : (levels : ℕ) (nodes : List Node) (at : ℕ) (n : Node) → is_captured n.place ≡ false → true ≡ is_heard levels nodes at n
unfolding is_heard
in_row_heard zero nodes at n e = sym (ap not e)
in_row_heard (suc levels) nodes at n e = sym (ap (λ b. not b || heard_by (is_heard levels nodes n.parent) n.parent at (slice_get nodes n.parent)) e)

pub none_heard : (levels : ℕ) (nodes : List Node) (at : ℕ) (n : Node) → is_captured n.place ≡ true → levels ≡ 0 → false ≡ is_heard levels nodes at n
unfolding is_heard
none_heard zero nodes at n e z = sym (ap not e)
none_heard (suc levels) nodes at n e z = cc

pub above_heard : (levels : ℕ) (nodes : List Node) (at : ℕ) (n : Node) → is_captured n.place ≡ true → levels ≢ 0 → heard_by (is_heard (levels - 1) nodes n.parent) n.parent at (slice_get nodes n.parent) ≡ is_heard levels nodes at n
unfolding is_heard
above_heard zero nodes at n e z = absurd (z refl)
above_heard (suc levels) nodes at n e z =
    ap (λ l. heard_by (is_heard l nodes n.parent) n.parent at (slice_get nodes n.parent)) (less levels)
    ∙ sym (ap (λ b. not b || heard_by (is_heard levels nodes n.parent) n.parent at (slice_get nodes n.parent)) e)
  where
    less : (n : ℕ) → suc n - 1 ≡ n
    less n = omega arith

pub there_some : (nodes : List Node) (at : ℕ) (x : Node) → at < length nodes → x ≡ get_or nodes at x → slice_get nodes at ≡ Some x
there_some [] at x h e = absurd (omega (arith, h))
there_some (n ∷ nodes) zero x h e = ap Some (sym e)
there_some (n ∷ nodes) (suc at) x h e = there_some nodes at x (omega (arith, h)) e

pub there_none : (nodes : List Node) (at : ℕ) → length nodes ≤ at → slice_get nodes at ≡ None
there_none [] at h = refl
there_none (n ∷ nodes) zero h = absurd (omega (arith, h))
there_none (n ∷ nodes) (suc at) h = there_none nodes at (omega (arith, h))

-- ---- the subrequests whose bytes come to a node

pub none_so_far : (nodes : List Node) (at from : ℕ) → NoInner nodes at from from
none_so_far nodes at from child h k = absurd (omega (arith, h, k))

pub none_here : (nodes : List Node) (at from child : ℕ) → NoInner nodes at from child → inner_in at (slice_get nodes at) child (slice_get nodes child) ≡ false → NoInner nodes at from (suc child)
none_here nodes at from child none e other h k = by (other == child) refl
  where
    less : (other == child) ≡ false → other < child
    less f = grind (arith, nat_tests, f, k)

    by : (b : Bool) → (other == child) ≡ b → inner_in at (slice_get nodes at) other (slice_get nodes other) ≡ false
    by true f = ap (λ c. inner_in at (slice_get nodes at) c (slice_get nodes c)) (eqb-true other child f) ∙ e
    by false f = none other h (less f)

pub none_up_to : (nodes : List Node) (at from child : ℕ) → NoInner nodes at from child → most_nodes ≤ child → NoInner nodes at from most_nodes
none_up_to nodes at from child none few other h k = none other h (omega (arith, k, few))

-- none has a number that no node has
pub none_beyond : (nodes : List Node) (at from child : ℕ) → NoInner nodes at from child → length nodes ≤ child → NoInner nodes at from most_nodes
none_beyond nodes at from child none few other h k = by (nat_lt other child) refl
  where
    less : nat_lt other child ≡ true → other < child
    less e = grind (arith, nat_tests, e)

    more : nat_lt other child ≡ false → child ≤ other
    more e = grind (arith, nat_tests, e)

    nobody : (o : Option Node) → inner_in at o other None ≡ false
    nobody None = refl
    nobody (Some n) = refl

    by : (b : Bool) → nat_lt other child ≡ b → inner_in at (slice_get nodes at) other (slice_get nodes other) ≡ false
    by true e = none other h (less e)
    by false e = let g = more e in ap (inner_in at (slice_get nodes at) other) (there_none nodes other (omega (arith, few, g))) ∙ nobody (slice_get nodes at)

pub few_nodes : (child : ℕ) → child < 1001 → child < most_nodes
unfolding most_nodes
few_nodes child h = h

pub all_nodes : (child : ℕ) → 1001 ≤ child → most_nodes ≤ child
unfolding most_nodes
all_nodes child h = h
