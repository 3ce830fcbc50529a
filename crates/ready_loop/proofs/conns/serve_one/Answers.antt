use Rattle.std.proofs.Common.{◌≡◌, ◌∙◌, ◌||◌, true, sym, ap}
use Rattle.ready_loop.specs.Turns.{IsHeardBut}
use Rattle.ready_loop.proofs.RestLemmas.{at_rest, heard_on, heard_own}
use Rattle.ready_loop.proofs.conns.serve_one.Goals as goal

pub returns-clause-heard : goal.returns-clause-heard
returns-clause-heard g c = λ tells heard.
    let k = g.L.Links in
    let d = c.in_ok-still_due.ensures in
    heard_on c.args.conn c.args.due c.in_ok-still_due.still_due (k.seen c.args.links.now).is_open (k.seen c.drain.new.links).is_open (k.seen c.args.links.now).link (k.seen c.drain.new.links).link c.args.memory.now.unread c.remember.new.unread
    d.opens (d.links tells)
    (d.due tells (λ is_o is. c.either-due.ensures ∙ ap (λ b. c.args.due || b) c.has.ensures ∙ heard_own c.args.conn c.args.due (k.seen c.args.links.now).is_open (k.seen c.args.links.now).link c.args.memory.now.unread heard is_o is))
    c.in_ok-remember.ensures.own c.in_ok-remember.ensures.others heard

pub returns-clause-rests : goal.returns-clause-rests
returns-clause-rests g c = λ held.
    let k = g.L.Links in
    let d = c.in_ok-still_due.ensures in
    at_rest (((k.seen c.args.links.now).tells ≡ true) × IsHeardBut c.args.conn c.args.due (k.seen c.args.links.now).is_open (k.seen c.args.links.now).link c.args.memory.now.unread) ((k.seen c.args.links.now).tells ≡ true) c.in_ok-still_due.still_due c.args.conn
    ((g.E.EventCore.seen c.drain.new.core).view c.args.conn) ((k.seen c.drain.new.links).link c.args.conn) d.rests
    (λ h is. d.due h.0 (λ is_o was. c.either-due.ensures ∙ ap (λ b. c.args.due || b) c.has.ensures ∙ heard_own c.args.conn c.args.due (k.seen c.args.links.now).is_open (k.seen c.args.links.now).link c.args.memory.now.unread h.1 is_o was) (sym d.matched ∙ held) is)
