use Rattle.std.proofs.Common.{◌<◌, ◌≤◌, length, get_or, refl, arith}
use Rattle.connection_core.proofs.Ticks.{part_begins, part_goes, part_ends}
use Rattle.connection_core.proofs.place.tick_all.Goals as goal

pub loop-conn-init : goal.loop-conn-init
loop-conn-init c = part_begins c.args.now 18446744073709551615 c.args.conns.now

pub loop-conn-preserved : goal.loop-conn-preserved
loop-conn-preserved c =
    let l = c.loop-conn in
    let lt : l.conn-index < length l.conns = omega (arith, c.loop-conn-test.true) in
    part_goes c.args.now l.soon c.earlier-soon.result l.conn-index c.args.conns.now l.conns (get_or l.conns l.conn-index c.conn-item.result) c.ticks.new.self c.conn-item.result l.invariant lt refl
    (record { ticked = c.ticks.ensures.ticked; left = c.ticks.ensures.left; asked = c.ticks.ensures.asked; ended = c.ticks.ensures.ended; flight = c.ticks.ensures.flight; keeps = c.ticks.ensures.keeps }) c.earlier-soon.ensures.0 c.earlier-soon.ensures.1

pub returns-clause-ticked : goal.returns-clause-ticked
returns-clause-ticked c =
    let l = c.loop-conn in
    (part_ends c.args.now l.soon l.conn-index c.args.conns.now l.conns l.invariant (let h : length l.conns ≤ l.conn-index = omega (arith, c.loop-conn-test.false) in h)).0

pub returns-clause-later : goal.returns-clause-later
returns-clause-later c =
    let l = c.loop-conn in
    (part_ends c.args.now l.soon l.conn-index c.args.conns.now l.conns l.invariant (let h : length l.conns ≤ l.conn-index = omega (arith, c.loop-conn-test.false) in h)).1
