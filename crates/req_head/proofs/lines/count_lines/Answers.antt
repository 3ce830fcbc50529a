use Rattle.std.proofs.Common.{◌+◌, length, ap, arith}
use Rattle.req_head.specs.Lines.{lines}
use Rattle.req_head.proofs.CodeLemmas.{one_counted, all_counted}
use Rattle.req_head.proofs.lines.count_lines.Goals as goal

pub loop-byte-preserved : goal.loop-byte-preserved
loop-byte-preserved c =
    let bytes = c.args.bytes.now in
    let i = c.loop-byte.byte-index in
    let count = c.loop-byte.count in
    let one = c.ends_line-one.result in (
      omega (arith, c.loop-byte.invariant.0, c.ends_line-one.ensures.few),
      one_counted bytes i count (count + one) (length (lines bytes)) c.loop-byte-test.true c.loop-byte.invariant.1 (ap (λ z. count + z) c.ends_line-one.ensures.value),
    )

pub returns : goal.returns
returns c = all_counted c.args.bytes.now c.loop-byte.byte-index c.loop-byte.count (length (lines c.args.bytes.now)) c.loop-byte-test.false c.loop-byte.invariant.1
