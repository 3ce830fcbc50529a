use Rattle.std.proofs.Common.{refl}
use Rattle.ngx_outside.specs.declared.event.Event.TheVariants.{Arrived}
use Rattle.link_service.proofs.EventLemmas.{arrived_at}
use Rattle.link_service.proofs.events.arrived.Goals as goal

pub returns-clause-passed : goal.returns-clause-passed
returns-clause-passed g c =
    let d = arrived_at (g.E.EventCore.seen c.args.core.now).terms.fresh (g.E.EventCore.seen c.args.core.now).now c.args.conn c.args.room (Arrived c.args.conn c.args.bytes) c.args.bytes.now c.step.result (g.E.EventCore.seen c.args.core.now).view (g.E.EventCore.seen c.step.new.self).view
    (g.E.EventCore.seen c.args.core.now).terms.price (g.E.EventCore.seen c.args.core.now).left (g.E.EventCore.seen c.step.new.self).left (g.E.EventCore.seen c.args.core.now).refused (g.E.EventCore.seen c.step.new.self).refused
    c.requires.room c.requires.within c.requires.some (refl, refl) c.step.ensures.left c.step.ensures.refused c.step.ensures.steps in
    d.own.does

pub returns-clause-left : goal.returns-clause-left
returns-clause-left g c =
    let d = arrived_at (g.E.EventCore.seen c.args.core.now).terms.fresh (g.E.EventCore.seen c.args.core.now).now c.args.conn c.args.room (Arrived c.args.conn c.args.bytes) c.args.bytes.now c.step.result (g.E.EventCore.seen c.args.core.now).view (g.E.EventCore.seen c.step.new.self).view
    (g.E.EventCore.seen c.args.core.now).terms.price (g.E.EventCore.seen c.args.core.now).left (g.E.EventCore.seen c.step.new.self).left (g.E.EventCore.seen c.args.core.now).refused (g.E.EventCore.seen c.step.new.self).refused
    c.requires.room c.requires.within c.requires.some (refl, refl) c.step.ensures.left c.step.ensures.refused c.step.ensures.steps in
    d.own.left

pub returns-clause-counts : goal.returns-clause-counts
returns-clause-counts g c =
    let d = arrived_at (g.E.EventCore.seen c.args.core.now).terms.fresh (g.E.EventCore.seen c.args.core.now).now c.args.conn c.args.room (Arrived c.args.conn c.args.bytes) c.args.bytes.now c.step.result (g.E.EventCore.seen c.args.core.now).view (g.E.EventCore.seen c.step.new.self).view
    (g.E.EventCore.seen c.args.core.now).terms.price (g.E.EventCore.seen c.args.core.now).left (g.E.EventCore.seen c.step.new.self).left (g.E.EventCore.seen c.args.core.now).refused (g.E.EventCore.seen c.step.new.self).refused
    c.requires.room c.requires.within c.requires.some (refl, refl) c.step.ensures.left c.step.ensures.refused c.step.ensures.steps in
    d.own.counts

pub returns-clause-others : goal.returns-clause-others
returns-clause-others g c =
    let d = arrived_at (g.E.EventCore.seen c.args.core.now).terms.fresh (g.E.EventCore.seen c.args.core.now).now c.args.conn c.args.room (Arrived c.args.conn c.args.bytes) c.args.bytes.now c.step.result (g.E.EventCore.seen c.args.core.now).view (g.E.EventCore.seen c.step.new.self).view
    (g.E.EventCore.seen c.args.core.now).terms.price (g.E.EventCore.seen c.args.core.now).left (g.E.EventCore.seen c.step.new.self).left (g.E.EventCore.seen c.args.core.now).refused (g.E.EventCore.seen c.step.new.self).refused
    c.requires.room c.requires.within c.requires.some (refl, refl) c.step.ensures.left c.step.ensures.refused c.step.ensures.steps in
    d.others
