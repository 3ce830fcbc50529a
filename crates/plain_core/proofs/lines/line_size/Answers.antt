use Rattle.std.proofs.Common.{arith}
use Rattle.std.proofs.lemmas.List.{drop_all}
use Rattle.plain_core.proofs.LineLaws.{sought_first, sought_next, sought_end, found_ends, found_behind}
use Rattle.plain_core.proofs.lines.line_size.Goals as goal

pub loop-i-init : goal.loop-i-init
loop-i-init c = sought_first c.args.bytes.now

pub loop-i-preserved : goal.loop-i-preserved
loop-i-preserved c = sought_next c.args.bytes.now c.loop-i.i c.loop-i-test.true c.if-byte-eq10.false c.loop-i.invariant

pub returns : goal.returns
returns c = sought_end c.args.bytes.now c.loop-i.i (drop_all c.loop-i.i c.args.bytes.now c.loop-i-test.false) c.loop-i.invariant

pub returns-then-byte-eq10 : goal.returns-then-byte-eq10
returns-then-byte-eq10 c = (
  found_ends c.args.bytes.now c.loop-i.i c.loop-i-test.true c.if-byte-eq10.true c.loop-i.invariant,
  omega arith,
  omega arith,
  found_behind c.args.bytes.now c.loop-i.i c.loop-i-test.true c.if-byte-eq10.true c.loop-i.invariant,
)
