use Rattle.std.proofs.Common.{◌∙◌, ap}
use Rattle.postpone_filter.specs.Row.{Row, is_first}
use Rattle.postpone_filter.proofs.Steps.{first-node}
use Rattle.postpone_filter.proofs.order.Order.is_active.Goals as goal

pub returns : goal.returns
returns c = c.first_is.ensures ∙ first-node c.args.id _ c.self.inside.parts.items c.self.inside.nodes.items c.self.invariant.0 ∙ ap (λ (z : Row). is_first c.args.id z.pieces) c.self.view_is
