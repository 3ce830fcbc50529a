use Rattle.std.proofs.Common.{◌≡◌, ◌+◌, length, ap, arith}
use Rattle.ngx_outside.specs.Views.{ConnView}
use Rattle.link_service.proofs.KeptLemmas.{kept_closed, grown_same, closes_open}
use Rattle.link_service.proofs.links.close_one.Goals as goal

pub returns-clause-kept : goal.returns-clause-kept
returns-clause-kept g c = λ files tells files_tell marks whole ticks.
    let e = g.E.EventCore in
    let l = g.L.Links in
    let links : (l.seen c.args.links.now).crowd ≡ (l.seen c.close.new.self).crowd + 1 = closes_open ((l.seen c.args.links.now).is_open c.args.conn) (l.seen c.args.links.now).crowd (l.seen c.close.new.self).crowd c.requires.open (c.close.ensures.crowd tells) in
    let conns = c.gone.ensures.fewer in
    let fewer : length (e.seen c.args.core.now).conns ≡ (l.seen c.args.links.now).crowd → length (e.seen c.gone.new.core).conns ≡ (l.seen c.close.new.self).crowd = λ same. omega (arith, same, links, conns) in
    kept_closed marks whole (e.seen c.args.core.now) (e.seen c.gone.new.core) (l.seen c.args.links.now) (l.seen c.close.new.self) files files ticks c.args.conn
    (record { terms = c.gone.ensures.steady.0; now = c.gone.ensures.steady.1; counts = c.gone.ensures.counts; views = c.gone.ensures.others; wires = λ d ne. c.close.ensures.told tells d; used = c.close.ensures.ids.0; opens = c.close.ensures.ids.1.others; faults = c.close.ensures.link_faults; store = grown_same files; crowd = fewer })
    c.requires.open c.close.ensures.ids.1.own (ap (λ (v : ConnView). v.held) c.gone.ensures.passed) c.requires.sound c.requires.shut (c.close.ensures.told tells c.args.conn)
