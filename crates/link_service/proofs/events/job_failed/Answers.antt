use Rattle.ngx_outside.specs.Views.{nobody}
use Rattle.link_service.proofs.EventLemmas.{job_failed_own}
use Rattle.link_service.proofs.events.job_failed.Goals as goal

pub returns-clause-passed : goal.returns-clause-passed
returns-clause-passed g c =
    let d = job_failed_own nobody.course (g.E.EventCore.seen c.args.core.now).now c.args.conn c.args.node c.step.result ((g.E.EventCore.seen c.args.core.now).view c.args.conn) ((g.E.EventCore.seen c.step.new.self).view c.args.conn)
    (g.E.EventCore.seen c.args.core.now).terms.price (g.E.EventCore.seen c.args.core.now).left (g.E.EventCore.seen c.step.new.self).left (g.E.EventCore.seen c.args.core.now).refused (g.E.EventCore.seen c.step.new.self).refused
    c.requires.waits c.step.ensures.left c.step.ensures.refused c.step.ensures.steps.own in
    d.does

pub returns-clause-left : goal.returns-clause-left
returns-clause-left g c =
    let d = job_failed_own nobody.course (g.E.EventCore.seen c.args.core.now).now c.args.conn c.args.node c.step.result ((g.E.EventCore.seen c.args.core.now).view c.args.conn) ((g.E.EventCore.seen c.step.new.self).view c.args.conn)
    (g.E.EventCore.seen c.args.core.now).terms.price (g.E.EventCore.seen c.args.core.now).left (g.E.EventCore.seen c.step.new.self).left (g.E.EventCore.seen c.args.core.now).refused (g.E.EventCore.seen c.step.new.self).refused
    c.requires.waits c.step.ensures.left c.step.ensures.refused c.step.ensures.steps.own in
    d.left

pub returns-clause-counts : goal.returns-clause-counts
returns-clause-counts g c =
    let d = job_failed_own nobody.course (g.E.EventCore.seen c.args.core.now).now c.args.conn c.args.node c.step.result ((g.E.EventCore.seen c.args.core.now).view c.args.conn) ((g.E.EventCore.seen c.step.new.self).view c.args.conn)
    (g.E.EventCore.seen c.args.core.now).terms.price (g.E.EventCore.seen c.args.core.now).left (g.E.EventCore.seen c.step.new.self).left (g.E.EventCore.seen c.args.core.now).refused (g.E.EventCore.seen c.step.new.self).refused
    c.requires.waits c.step.ensures.left c.step.ensures.refused c.step.ensures.steps.own in
    d.counts
