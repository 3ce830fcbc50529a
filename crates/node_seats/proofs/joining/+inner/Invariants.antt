use Rattle.std.proofs.Common.{◌≡◌, ℕ, suc, ◌+◌, ◌++◌, ◌<◌, ◌-◌, Some, true, slice_get}
use Rattle.node_line.specs.node_turn.declared.node.Node.{Node}
use Rattle.node_seats.specs.Seats.{is_inner, stub_in}
use Rattle.node_seats.specs.Joining.{AreClear, IsClearBy, numbers_below, numbers_from}
use Rattle.node_seats.proofs.joining.+inner.Given as goal

abbrev pub decreases-put_inner_nodes : goal.decreases-put_inner_nodes
decreases-put_inner_nodes l = l.levels + l.levels

abbrev pub decreases-put_inner_node : goal.decreases-put_inner_node
decreases-put_inner_node l = suc (l.levels + l.levels)

-- those with a number below that of the next are in the list, and no bytes of them wait
abbrev pub invariant-put_inner_nodes-loop-child : goal.invariant-put_inner_nodes-loop-child
invariant-put_inner_nodes-loop-child l = record {
  numbers : (n : Node) → slice_get l.nodes l.at ≡ Some n → l.list.items ≡ l.fn.list.items ++ numbers_below (numbers_from l.nodes (l.levels - 1)) l.nodes l.at n l.child;
  clear : (n : Node) → slice_get l.nodes l.at ≡ Some n → (c : ℕ) (m : Node) → c < l.child → slice_get l.nodes c ≡ Some m → is_inner l.at n c m ≡ true → IsClearBy (AreClear l.nodes (l.levels - 1)) c m (stub_in m.place);
}
