-- The nodes that wait one above the other for the bytes of one.
use Rattle.std.proofs.Common.{◌≡◌, ℕ, zero, suc, ◌==◌, ◌&&◌, ◌||◌, Bool, true, false, List, Option, None, Some, slice_get, sym, ap, ◌∙◌}
use Rattle.node_line.specs.node_turn.declared.node.Node.{Node}
use Rattle.node_seats.specs.Seats.{is_captured}

-- A node with a number, or one of those that wait one above the other for its bytes.
unfoldable pub on_path : (levels : ℕ) → List Node → (at : ℕ) → Option Node → (j : ℕ) → Bool
on_path levels nodes at None j = false
on_path zero nodes at (Some n) j = j == at
on_path (suc levels) nodes at (Some n) j = (j == at) || (is_captured n.place && on_path levels nodes n.parent (slice_get nodes n.parent) j)

right_of : (a b : Bool) → (a && b) ≡ true → b ≡ true
right_of true b e = e
right_of false b e = cc

or_false : (a : Bool) → (a || false) ≡ true → a ≡ true
or_false true e = e
or_false false e = cc

-- none is above one whose bytes come to no other
pub path_top : (levels : ℕ) (nodes : List Node) (at : ℕ) (n : Node) (j : ℕ) → is_captured n.place ≡ false → on_path levels nodes at (Some n) j ≡ true → (j == at) ≡ true
unfolding on_path
path_top zero nodes at n j free e = e
path_top (suc levels) nodes at n j free e = or_false (j == at) (sym (ap (λ b. (j == at) || (b && on_path levels nodes n.parent (slice_get nodes n.parent) j)) free) ∙ e)

pub path_next : (levels : ℕ) (nodes : List Node) (at : ℕ) (n p : Node) (j : ℕ) → slice_get nodes n.parent ≡ Some p → (j == at) ≡ false → on_path (suc levels) nodes at (Some n) j ≡ true →
    on_path levels nodes n.parent (Some p) j ≡ true
unfolding on_path
path_next levels nodes at n p j above other e =
    sym (ap (λ o. on_path levels nodes n.parent o j) above)
    ∙ right_of (is_captured n.place) (on_path levels nodes n.parent (slice_get nodes n.parent) j)
    (sym (ap (λ b. b || (is_captured n.place && on_path levels nodes n.parent (slice_get nodes n.parent) j)) other) ∙ e)
