use Rattle.std.proofs.Common.{refl}
use Rattle.postpone_filter.specs.Row.{shorter}
use Rattle.postpone_filter.proofs.Views.{sound-clean, view-changed, view-count, order-used, open-used}
use Rattle.postpone_filter.proofs.order.Order.used.Goals as goal

pub invariant_of-self : goal.invariant_of-self
invariant_of-self c = sound-clean c.use_front.new.parts.items c.clean_front.new.parts.items c.use_front.new.nodes.items c.use_front.ensures.tied c.clean_front.ensures

pub returns-clause-row : goal.returns-clause-row
returns-clause-row c =
    view-changed (shorter c.args.count) c.args.self.now c.self.inside.parts.items c.use_front.new.parts.items c.clean_front.new.parts.items c.self.inside.nodes.items c.self.inside.nodes.items c.use_front.new.nodes.items c.args.self.now.nodes
    c.self.view_is refl c.use_front.ensures.tied c.use_front.ensures.pieces c.clean_front.ensures
    (view-count c.args.self.now c.self.inside.parts.items c.self.inside.nodes.items c.self.inside.nodes.items c.use_front.new.nodes.items c.self.view_is refl c.use_front.ensures.nodes)

pub returns-clause-order : goal.returns-clause-order
returns-clause-order c =
    order-used c.args.count c.args.self.now _
    (view-changed (shorter c.args.count) c.args.self.now c.self.inside.parts.items c.use_front.new.parts.items c.clean_front.new.parts.items c.self.inside.nodes.items c.self.inside.nodes.items c.use_front.new.nodes.items c.args.self.now.nodes
    c.self.view_is refl c.use_front.ensures.tied c.use_front.ensures.pieces c.clean_front.ensures
    (view-count c.args.self.now c.self.inside.parts.items c.self.inside.nodes.items c.self.inside.nodes.items c.use_front.new.nodes.items c.self.view_is refl c.use_front.ensures.nodes))

pub returns-clause-opened : goal.returns-clause-opened
returns-clause-opened c =
    open-used c.args.count c.args.self.now _
    (view-changed (shorter c.args.count) c.args.self.now c.self.inside.parts.items c.use_front.new.parts.items c.clean_front.new.parts.items c.self.inside.nodes.items c.self.inside.nodes.items c.use_front.new.nodes.items c.args.self.now.nodes
    c.self.view_is refl c.use_front.ensures.tied c.use_front.ensures.pieces c.clean_front.ensures
    (view-count c.args.self.now c.self.inside.parts.items c.self.inside.nodes.items c.self.inside.nodes.items c.use_front.new.nodes.items c.self.view_is refl c.use_front.ensures.nodes))
