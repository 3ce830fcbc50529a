use Rattle.std.proofs.Common.{sym, ◌∙◌, arith}
use Rattle.node_seats.proofs.Walks as walks
use Rattle.node_seats.proofs.seats.next_inner.Goals as goal

pub returns-then-is_inner_in : goal.returns-then-is_inner_in
returns-then-is_inner_in c = (omega arith, walks.few_nodes c.loop-child.child (omega arith), sym c.is_inner_in.ensures ∙ c.if-is_inner_in.true, c.loop-child.invariant)

pub returns : goal.returns
returns c = walks.none_up_to c.args.nodes.now c.args.at c.args.from c.loop-child.child c.loop-child.invariant (walks.all_nodes c.loop-child.child (omega arith))
