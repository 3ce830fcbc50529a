use Rattle.std.proofs.Common.{◌≡◌, ◌+◌, ◌∙◌, ap}
use Rattle.ngx_outside.specs.Views.{ConnView}
use Rattle.link_service.proofs.KeptLemmas.{closes_open}
use Rattle.ready_loop.proofs.TurnLemmas.{kept_opened, kept_turned_away}
use Rattle.ready_loop.proofs.hear.open_link.Goals as goal

pub returns-then-not-opened-clause-kept : goal.returns-then-not-opened-clause-kept
returns-then-not-opened-clause-kept g c = λ tells marks whole before files ticks told o.
    let e = g.E.EventCore in
    let k = g.L.Links in
    let r = c.opened.ensures in
    let d = c.close.ensures in
    let fewer : (k.seen c.args.links.now).crowd ≡ (k.seen c.close.new.self).crowd + 1 = closes_open ((k.seen c.args.links.now).is_open c.args.id) (k.seen c.args.links.now).crowd (k.seen c.close.new.self).crowd c.requires.open (d.crowd tells) in
    kept_turned_away marks whole (e.seen c.args.core.now) (e.seen c.opened.new.core) before (k.seen c.args.links.now) (k.seen c.close.new.self) files ticks c.args.id c.args.local c.args.peer o r.steady.0 r.steady.1 r.counts r.others
    c.requires.unheld (ap (λ (v : ConnView). v.held) (r.same c.if-not-opened.true) ∙ c.requires.unheld) (r.why c.if-not-opened.true) (d.told tells) d.ids.0 d.ids.1.others d.ids.1.own d.link_faults (r.as_many c.if-not-opened.true) fewer

pub returns-else-not-opened-clause-kept : goal.returns-else-not-opened-clause-kept
returns-else-not-opened-clause-kept g c = λ tells marks whole before files ticks told o.
    let e = g.E.EventCore in
    let k = g.L.Links in
    let r = c.opened.ensures in
    kept_opened marks whole (e.seen c.args.core.now) (e.seen c.opened.new.core) before (k.seen c.args.links.now) files ticks c.args.id c.args.local c.args.peer o told r.steady.0 r.steady.1 r.counts r.others (r.fresh c.if-not-opened.false) (r.more c.if-not-opened.false)
