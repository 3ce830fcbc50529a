-- One level of those for which a node waits.
use Rattle.std.proofs.Common.{◌≡◌, ◌≢◌, ℕ, zero, suc, ◌-◌, ◌==◌, ◌&&◌, true, false, List, None, Some, slice_get, refl, sym, ap, ◌∙◌, arith}
use Rattle.node_line.specs.node_turn.declared.node.Node.{Node}
use Rattle.node_seats.specs.Joining.{answered_by, answers_asked, is_answered}
use Rattle.node_seats.specs.Seats.{is_captured}

pub none_answered : (levels : ℕ) (nodes : List Node) (at : ℕ) (n : Node) → levels ≡ 0 → false ≡ is_answered levels nodes at n
unfolding is_answered
none_answered zero nodes at n z = refl
none_answered (suc levels) nodes at n z = cc

pub free_answered : (levels : ℕ) (nodes : List Node) (at : ℕ) (n : Node) → levels ≢ 0 → n.asks ≡ None → true ≡ is_answered levels nodes at n
unfolding is_answered
free_answered zero nodes at n some e = absurd (some refl)
free_answered (suc levels) nodes at n some e = sym (ap (answers_asked (is_answered levels nodes) nodes at) e)

-- the one for which it waits
pub asked_answered : (levels : ℕ) (nodes : List Node) (at c : ℕ) (n : Node) → levels ≢ 0 → n.asks ≡ Some c → answered_by (is_answered (levels - 1) nodes) at c (slice_get nodes c) ≡ is_answered levels nodes at n
unfolding is_answered
asked_answered zero nodes at c n some e = absurd (some refl)
asked_answered (suc levels) nodes at c n some e =
    ap (λ l. answered_by (is_answered l nodes) at c (slice_get nodes c)) (less levels) ∙ sym (ap (answers_asked (is_answered levels nodes) nodes at) e)
  where
    less : (n : ℕ) → suc n - 1 ≡ n
    less n = omega arith

pub nobody_answered : (levels : ℕ) (nodes : List Node) (at c : ℕ) (n : Node) → levels ≢ 0 → n.asks ≡ Some c → slice_get nodes c ≡ None → false ≡ is_answered levels nodes at n
nobody_answered levels nodes at c n some e none = sym (ap (answered_by (is_answered (levels - 1) nodes) at c) none) ∙ asked_answered levels nodes at c n some e

pub child_answered : (levels : ℕ) (nodes : List Node) (at c : ℕ) (n m : Node) → levels ≢ 0 → n.asks ≡ Some c → slice_get nodes c ≡ Some m →
    (is_captured m.place && ((m.parent == at) && is_answered (levels - 1) nodes c m)) ≡ is_answered levels nodes at n
child_answered levels nodes at c n m some e there = sym (ap (answered_by (is_answered (levels - 1) nodes) at c) there) ∙ asked_answered levels nodes at c n some e
