use Rattle.node_seats.specs.Seats.{NoInner}
use Rattle.node_seats.proofs.seats.next_inner.Given as goal

abbrev pub invariant-loop-child : goal.invariant-loop-child
invariant-loop-child l = NoInner l.nodes l.fn.at l.fn.from l.child
