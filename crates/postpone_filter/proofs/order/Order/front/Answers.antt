use Rattle.postpone_filter.proofs.Views.{first-gives}
use Rattle.postpone_filter.proofs.order.Order.front.Goals as goal

pub returns-clause-gives : goal.returns-clause-gives
returns-clause-gives c = first-gives c.args.self.now c.self.inside.parts.items c.self.inside.nodes.items c.self.view_is c.self.invariant
