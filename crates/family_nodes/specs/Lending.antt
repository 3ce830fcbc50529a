-- Nodes that lend one of them.
use Rattle.std.specs.Prelude.{ℕ, List, slice_set}
use Rattle.std.specs.Borrow.{Lends, MutBor, Fml}
use Rattle.node_line.specs.node_turn.declared.node.Node.{Node}
use Rattle.node_line.specs.node_turn.contracts.node.Node as node
use Rattle.family_nodes.specs.contracts.nodes.Nodes as nodes

-- The node with a number is lent: what is last written through the reference is at its place, and the others stay.
abbrev pub LendsNode : MutBor (List Node) → (at : ℕ) → MutBor Node → Fml
LendsNode all at it = Lends nodes.the_row node.the_row all it (slice_set all.now at)
