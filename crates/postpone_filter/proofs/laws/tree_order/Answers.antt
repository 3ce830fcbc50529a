use Rattle.postpone_filter.proofs.Orders.{runs-in-order}
use Rattle.postpone_filter.proofs.laws.tree_order.Goals as goal

pub returns : goal.returns
returns c = runs-in-order
