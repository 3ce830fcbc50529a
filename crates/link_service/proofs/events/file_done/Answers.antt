use Rattle.ngx_outside.specs.Views.{nobody, ask_in}
use Rattle.link_service.proofs.EventLemmas.{file_done_own, some_ask}
use Rattle.link_service.proofs.events.file_done.Goals as goal

pub returns-clause-passed : goal.returns-clause-passed
returns-clause-passed g c = λ ask waits.
    let d = file_done_own nobody.course (g.E.EventCore.seen c.args.core.now).now c.args.conn c.args.node c.args.answer c.step.result ((g.E.EventCore.seen c.args.core.now).view c.args.conn) ((g.E.EventCore.seen c.step.new.self).view c.args.conn)
    (g.E.EventCore.seen c.args.core.now).terms.price (g.E.EventCore.seen c.args.core.now).left (g.E.EventCore.seen c.step.new.self).left (g.E.EventCore.seen c.args.core.now).refused (g.E.EventCore.seen c.step.new.self).refused
    ask waits (c.requires.fits ask waits) c.step.ensures.left c.step.ensures.refused c.step.ensures.steps.own in
    d.does

pub returns-clause-left : goal.returns-clause-left
returns-clause-left g c =
    let job = some_ask (ask_in ((g.E.EventCore.seen c.args.core.now).view c.args.conn).jobs c.args.node) c.requires.waits in
    let d = file_done_own nobody.course (g.E.EventCore.seen c.args.core.now).now c.args.conn c.args.node c.args.answer c.step.result ((g.E.EventCore.seen c.args.core.now).view c.args.conn) ((g.E.EventCore.seen c.step.new.self).view c.args.conn)
    (g.E.EventCore.seen c.args.core.now).terms.price (g.E.EventCore.seen c.args.core.now).left (g.E.EventCore.seen c.step.new.self).left (g.E.EventCore.seen c.args.core.now).refused (g.E.EventCore.seen c.step.new.self).refused
    job.0 job.1 (c.requires.fits job.0 job.1) c.step.ensures.left c.step.ensures.refused c.step.ensures.steps.own in
    d.left

pub returns-clause-counts : goal.returns-clause-counts
returns-clause-counts g c =
    let job = some_ask (ask_in ((g.E.EventCore.seen c.args.core.now).view c.args.conn).jobs c.args.node) c.requires.waits in
    let d = file_done_own nobody.course (g.E.EventCore.seen c.args.core.now).now c.args.conn c.args.node c.args.answer c.step.result ((g.E.EventCore.seen c.args.core.now).view c.args.conn) ((g.E.EventCore.seen c.step.new.self).view c.args.conn)
    (g.E.EventCore.seen c.args.core.now).terms.price (g.E.EventCore.seen c.args.core.now).left (g.E.EventCore.seen c.step.new.self).left (g.E.EventCore.seen c.args.core.now).refused (g.E.EventCore.seen c.step.new.self).refused
    job.0 job.1 (c.requires.fits job.0 job.1) c.step.ensures.left c.step.ensures.refused c.step.ensures.steps.own in
    d.counts
