use Rattle.std.proofs.Common.{◌∙◌, [], ◌∷◌, take, refl}
use Rattle.postpone_filter.specs.Row.{at_place, longer}
use Rattle.postpone_filter.proofs.Views.{sound-append, view-put, view-same, closed-append, row-lawful, order-append, open-append}
use Rattle.postpone_filter.proofs.order.Order.append.Goals as goal

pub invariant_of-self-in-Some : goal.invariant_of-self-in-Some
invariant_of-self-in-Some c = sound-append c.args.id (take c.in_ok-put_bytes-in-Some.field-0 c.args.bytes.now) c.self.inside.parts.items c.put_bytes.new.parts.items c.self.inside.nodes.items c.place_of.new.nodes.items c.put_bytes.new.nodes.items c.self.invariant c.in-Some.ensures.nodes c.in_ok-put_bytes-in-Some.ensures.tied c.in_ok-put_bytes-in-Some.ensures.pieces

pub returns-in_ok-put_bytes-in-Some-clause-order : goal.returns-in_ok-put_bytes-in-Some-clause-order
returns-in_ok-put_bytes-in-Some-clause-order c =
    order-append c.args.id (take c.in_ok-put_bytes-in-Some.field-0 c.args.bytes.now) c.args.self.now _ (row-lawful c.args.self.now c.self.inside.parts.items c.self.inside.nodes.items c.self.view_is c.self.invariant)
    (view-put (at_place c.args.id (λ p. longer (take c.in_ok-put_bytes-in-Some.field-0 c.args.bytes.now) p ∷ [])) c.args.self.now c.self.inside.parts.items c.put_bytes.new.parts.items c.self.inside.nodes.items c.place_of.new.nodes.items c.put_bytes.new.nodes.items
    c.self.view_is c.in-Some.ensures.nodes c.in_ok-put_bytes-in-Some.ensures.pieces c.in_ok-put_bytes-in-Some.ensures.nodes)

pub returns-in-None-clause-row : goal.returns-in-None-clause-row
returns-in-None-clause-row c =
    view-same c.args.self.now c.self.inside.parts.items c.self.inside.nodes.items c.place_of.new.nodes.items c.self.view_is c.in-None.ensures.nodes
    ∙ closed-append c.args.id c.args.self.now c.self.inside.parts.items c.self.inside.nodes.items c.self.view_is (c.in-None.ensures.none refl)

pub returns-in_ok-put_bytes-in-Some-clause-opened : goal.returns-in_ok-put_bytes-in-Some-clause-opened
returns-in_ok-put_bytes-in-Some-clause-opened c =
    open-append c.args.id (take c.in_ok-put_bytes-in-Some.field-0 c.args.bytes.now) c.args.self.now _
    (view-put (at_place c.args.id (λ p. longer (take c.in_ok-put_bytes-in-Some.field-0 c.args.bytes.now) p ∷ [])) c.args.self.now c.self.inside.parts.items c.put_bytes.new.parts.items c.self.inside.nodes.items c.place_of.new.nodes.items c.put_bytes.new.nodes.items
    c.self.view_is c.in-Some.ensures.nodes c.in_ok-put_bytes-in-Some.ensures.pieces c.in_ok-put_bytes-in-Some.ensures.nodes)

pub returns-in-None-clause-opened : goal.returns-in-None-clause-opened
returns-in-None-clause-opened c =
    open-append c.args.id [] c.args.self.now _
    (view-same c.args.self.now c.self.inside.parts.items c.self.inside.nodes.items c.place_of.new.nodes.items c.self.view_is c.in-None.ensures.nodes
    ∙ closed-append c.args.id c.args.self.now c.self.inside.parts.items c.self.inside.nodes.items c.self.view_is (c.in-None.ensures.none refl))
