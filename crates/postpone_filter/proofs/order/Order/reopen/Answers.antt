use Rattle.std.proofs.Common.{arith}
use Rattle.postpone_filter.proofs.Views.{sound-clean, again-view, row-lawful, order-again, open-again, seen-open}
use Rattle.postpone_filter.proofs.order.Order.reopen.Goals as goal

pub invariant_of-self-2 : goal.invariant_of-self-2
invariant_of-self-2 c = sound-clean c.put_again.new.parts.items c.clean_front.new.parts.items c.put_again.new.nodes.items c.put_again.ensures.tied c.clean_front.ensures

pub returns-clause-row : goal.returns-clause-row
returns-clause-row c =
    again-view c.args.parent c.args.id c.args.self.now c.self.inside.parts.items c.reserve.new.self.items c.put_again.new.parts.items c.clean_front.new.parts.items c.self.inside.nodes.items c.place_of.new.nodes.items c.put_again.new.nodes.items
    c.self.view_is c.in_ok-reserve.ensures.items c.in-Some.ensures.nodes c.put_again.ensures.tied c.put_again.ensures.pieces c.put_again.ensures.nodes c.clean_front.ensures

pub returns-clause-lawful : goal.returns-clause-lawful
returns-clause-lawful c = (sound-clean c.put_again.new.parts.items c.clean_front.new.parts.items c.put_again.new.nodes.items c.put_again.ensures.tied c.clean_front.ensures).0.lawful

pub returns-clause-order : goal.returns-clause-order
returns-clause-order c =
    order-again c.args.parent c.args.id c.args.self.now _ (row-lawful c.args.self.now c.self.inside.parts.items c.self.inside.nodes.items c.self.view_is c.self.invariant)
    (again-view c.args.parent c.args.id c.args.self.now c.self.inside.parts.items c.reserve.new.self.items c.put_again.new.parts.items c.clean_front.new.parts.items c.self.inside.nodes.items c.place_of.new.nodes.items c.put_again.new.nodes.items
    c.self.view_is c.in_ok-reserve.ensures.items c.in-Some.ensures.nodes c.put_again.ensures.tied c.put_again.ensures.pieces c.put_again.ensures.nodes c.clean_front.ensures)

pub returns-clause-opened : goal.returns-clause-opened
returns-clause-opened c =
    open-again c.args.parent c.args.id c.args.self.now _
    (seen-open c.args.parent c.args.self.now c.self.inside.parts.items c.reserve.new.self.items c.self.inside.nodes.items c.place_of.new.nodes.items c.in-Some.at
    c.self.view_is c.self.invariant c.in_ok-reserve.ensures.items c.in-Some.ensures.nodes (let low = c.in-Some.ensures.found in omega (arith, low)) c.in-Some.ensures.place)
    (again-view c.args.parent c.args.id c.args.self.now c.self.inside.parts.items c.reserve.new.self.items c.put_again.new.parts.items c.clean_front.new.parts.items c.self.inside.nodes.items c.place_of.new.nodes.items c.put_again.new.nodes.items
    c.self.view_is c.in_ok-reserve.ensures.items c.in-Some.ensures.nodes c.put_again.ensures.tied c.put_again.ensures.pieces c.put_again.ensures.nodes c.clean_front.ensures)
