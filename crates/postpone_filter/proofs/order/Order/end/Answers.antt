use Rattle.std.proofs.Common.{◌∙◌, [], ◌∷◌, refl}
use Rattle.postpone_filter.specs.Row.{at_place, closed}
use Rattle.postpone_filter.proofs.Views.{sound-clean, view-changed, view-count, view-same, closed-end, row-lawful, order-end, open-end}
use Rattle.postpone_filter.proofs.order.Order.end.Goals as goal

pub invariant_of-self : goal.invariant_of-self
invariant_of-self c = sound-clean c.close.new.parts.items c.clean_front.new.parts.items c.close.new.nodes.items c.close.ensures.tied c.clean_front.ensures

pub returns-in-Some-clause-row : goal.returns-in-Some-clause-row
returns-in-Some-clause-row c =
    view-changed (at_place c.args.id (λ p. closed p ∷ [])) c.args.self.now c.self.inside.parts.items c.close.new.parts.items c.clean_front.new.parts.items c.self.inside.nodes.items c.place_of.new.nodes.items c.close.new.nodes.items c.args.self.now.nodes
    c.self.view_is c.in-Some.ensures.nodes c.close.ensures.tied c.close.ensures.pieces c.clean_front.ensures
    (view-count c.args.self.now c.self.inside.parts.items c.self.inside.nodes.items c.place_of.new.nodes.items c.close.new.nodes.items c.self.view_is c.in-Some.ensures.nodes c.close.ensures.nodes)

pub returns-in-Some-clause-order : goal.returns-in-Some-clause-order
returns-in-Some-clause-order c =
    order-end c.args.id c.args.self.now _ (row-lawful c.args.self.now c.self.inside.parts.items c.self.inside.nodes.items c.self.view_is c.self.invariant)
    (view-changed (at_place c.args.id (λ p. closed p ∷ [])) c.args.self.now c.self.inside.parts.items c.close.new.parts.items c.clean_front.new.parts.items c.self.inside.nodes.items c.place_of.new.nodes.items c.close.new.nodes.items c.args.self.now.nodes
    c.self.view_is c.in-Some.ensures.nodes c.close.ensures.tied c.close.ensures.pieces c.clean_front.ensures
    (view-count c.args.self.now c.self.inside.parts.items c.self.inside.nodes.items c.place_of.new.nodes.items c.close.new.nodes.items c.self.view_is c.in-Some.ensures.nodes c.close.ensures.nodes))

pub returns-in_default-clause-row : goal.returns-in_default-clause-row
returns-in_default-clause-row c =
    view-same c.args.self.now c.self.inside.parts.items c.self.inside.nodes.items c.place_of.new.nodes.items c.self.view_is c.in_default.ensures.nodes
    ∙ closed-end c.args.id c.args.self.now c.self.inside.parts.items c.self.inside.nodes.items c.self.view_is c.self.invariant (c.in_default.ensures.none refl)

pub returns-in_default-clause-order : goal.returns-in_default-clause-order
returns-in_default-clause-order c =
    order-end c.args.id c.args.self.now _ (row-lawful c.args.self.now c.self.inside.parts.items c.self.inside.nodes.items c.self.view_is c.self.invariant)
    (view-same c.args.self.now c.self.inside.parts.items c.self.inside.nodes.items c.place_of.new.nodes.items c.self.view_is c.in_default.ensures.nodes
    ∙ closed-end c.args.id c.args.self.now c.self.inside.parts.items c.self.inside.nodes.items c.self.view_is c.self.invariant (c.in_default.ensures.none refl))

pub returns-in-Some-clause-opened : goal.returns-in-Some-clause-opened
returns-in-Some-clause-opened c =
    open-end c.args.id c.args.self.now _ (row-lawful c.args.self.now c.self.inside.parts.items c.self.inside.nodes.items c.self.view_is c.self.invariant)
    (view-changed (at_place c.args.id (λ p. closed p ∷ [])) c.args.self.now c.self.inside.parts.items c.close.new.parts.items c.clean_front.new.parts.items c.self.inside.nodes.items c.place_of.new.nodes.items c.close.new.nodes.items c.args.self.now.nodes
    c.self.view_is c.in-Some.ensures.nodes c.close.ensures.tied c.close.ensures.pieces c.clean_front.ensures
    (view-count c.args.self.now c.self.inside.parts.items c.self.inside.nodes.items c.place_of.new.nodes.items c.close.new.nodes.items c.self.view_is c.in-Some.ensures.nodes c.close.ensures.nodes))

pub returns-in_default-clause-opened : goal.returns-in_default-clause-opened
returns-in_default-clause-opened c =
    open-end c.args.id c.args.self.now _ (row-lawful c.args.self.now c.self.inside.parts.items c.self.inside.nodes.items c.self.view_is c.self.invariant)
    (view-same c.args.self.now c.self.inside.parts.items c.self.inside.nodes.items c.place_of.new.nodes.items c.self.view_is c.in_default.ensures.nodes
    ∙ closed-end c.args.id c.args.self.now c.self.inside.parts.items c.self.inside.nodes.items c.self.view_is c.self.invariant (c.in_default.ensures.none refl))
