use Rattle.std.proofs.Common.{◌∙◌, arith}
use Rattle.postpone_filter.proofs.Views.{sound-clean, child-view, row-lawful, order-child, open-child}
use Rattle.postpone_filter.proofs.order.Order.add_child.Goals as goal

pub invariant_of-self-2 : goal.invariant_of-self-2
invariant_of-self-2 c = sound-clean c.put_child.new.parts.items c.clean_front.new.parts.items c.put_child.new.nodes.items c.put_child.ensures.tied c.clean_front.ensures

pub returns-clause-row : goal.returns-clause-row
returns-clause-row c =
    child-view c.args.parent c.len-child.result c.args.self.now c.self.inside.parts.items c.reserve.new.self.items c.put_child.new.parts.items c.clean_front.new.parts.items c.self.inside.nodes.items c.place_of.new.nodes.items c.put_child.new.nodes.items
    c.self.view_is c.in_ok-reserve.ensures.items (c.in-Some.ensures.nodes ∙ c.in_ok-reserve-2.ensures.items) (omega arith) c.put_child.ensures.tied c.put_child.ensures.pieces c.put_child.ensures.nodes c.clean_front.ensures

pub returns-clause-order : goal.returns-clause-order
returns-clause-order c =
    order-child c.args.parent c.args.self.now _ (row-lawful c.args.self.now c.self.inside.parts.items c.self.inside.nodes.items c.self.view_is c.self.invariant)
    (child-view c.args.parent c.len-child.result c.args.self.now c.self.inside.parts.items c.reserve.new.self.items c.put_child.new.parts.items c.clean_front.new.parts.items c.self.inside.nodes.items c.place_of.new.nodes.items c.put_child.new.nodes.items
    c.self.view_is c.in_ok-reserve.ensures.items (c.in-Some.ensures.nodes ∙ c.in_ok-reserve-2.ensures.items) (omega arith) c.put_child.ensures.tied c.put_child.ensures.pieces c.put_child.ensures.nodes c.clean_front.ensures)

pub returns-clause-opened : goal.returns-clause-opened
returns-clause-opened c =
    open-child c.args.parent c.args.self.now _ c.requires
    (child-view c.args.parent c.len-child.result c.args.self.now c.self.inside.parts.items c.reserve.new.self.items c.put_child.new.parts.items c.clean_front.new.parts.items c.self.inside.nodes.items c.place_of.new.nodes.items c.put_child.new.nodes.items
    c.self.view_is c.in_ok-reserve.ensures.items (c.in-Some.ensures.nodes ∙ c.in_ok-reserve-2.ensures.items) (omega arith) c.put_child.ensures.tied c.put_child.ensures.pieces c.put_child.ensures.nodes c.clean_front.ensures)
