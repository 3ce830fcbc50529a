use Rattle.std.proofs.Common.{◌<◌, ◌∙◌, ◌+◌, Some, None, sym, ap, arith, length, get_or, length-drop}
use Rattle.ssi_text.specs.Commands.{Outside, closes, taken}
use Rattle.ssi_text.proofs.Scans.{size-ends, size-past, size-past_plain, size-taken}
use Rattle.ssi_text.proofs.place.size_of_command.Goals as goal

pub returns-then-at-bytes-clause-value : goal.returns-then-at-bytes-clause-value
returns-then-at-bytes-clause-value c =
    size-past Outside c.args.bytes.now (c.loop-at.at + c.plain_len-at.result) (omega (arith, c.if-at-bytes.true))
    ∙ size-past_plain c.args.bytes.now c.rest_of.result.now c.loop-at.at c.plain_len-at.result c.rest_of.ensures c.plain_len-at.ensures.value ∙ c.loop-at.invariant.1

pub returns-then-closes-clause-value : goal.returns-then-closes-clause-value
returns-then-closes-clause-value c =
    size-ends Outside c.args.bytes.now (c.loop-at.at + c.plain_len-at.result) (omega (arith, c.loop-at.invariant.0, c.plain_len-at.ensures.within, ap length c.rest_of.ensures, length-drop c.loop-at.at c.args.bytes.now, c.if-at-bytes.false)) (ap closes (sym c.rest_of-in-loop-at.ensures) ∙ sym c.closes.ensures ∙ c.if-closes.true)
    ∙ size-past_plain c.args.bytes.now c.rest_of.result.now c.loop-at.at c.plain_len-at.result c.rest_of.ensures c.plain_len-at.ensures.value ∙ c.loop-at.invariant.1

pub loop-at-preserved : goal.loop-at-preserved
loop-at-preserved c =
    let inside : c.loop-at.at + c.plain_len-at.result < length c.args.bytes.now = omega (arith, c.loop-at.invariant.0, c.plain_len-at.ensures.within, ap length c.rest_of.ensures, length-drop c.loop-at.at c.args.bytes.now, c.if-at-bytes.false) in (
      omega (arith, inside, c.in-Some.ensures.within, ap length c.rest_of-in-loop-at-2.ensures, length-drop (c.loop-at.at + c.plain_len-at.result + 1) c.args.bytes.now),
      size-taken c.args.bytes.now (c.loop-at.at + c.plain_len-at.result) (Some c.in-Some.len) inside (ap closes (sym c.rest_of-in-loop-at.ensures) ∙ sym c.closes.ensures ∙ c.if-closes.false) (c.in-Some.ensures.value ∙ ap (taken (get_or c.args.bytes.now (c.loop-at.at + c.plain_len-at.result) 0)) c.rest_of-in-loop-at-2.ensures)
          ∙ size-past_plain c.args.bytes.now c.rest_of.result.now c.loop-at.at c.plain_len-at.result c.rest_of.ensures c.plain_len-at.ensures.value ∙ c.loop-at.invariant.1,
    )

pub returns-in-None-clause-value : goal.returns-in-None-clause-value
returns-in-None-clause-value c =
    size-taken c.args.bytes.now (c.loop-at.at + c.plain_len-at.result) None (omega (arith, c.loop-at.invariant.0, c.plain_len-at.ensures.within, ap length c.rest_of.ensures, length-drop c.loop-at.at c.args.bytes.now, c.if-at-bytes.false)) (ap closes (sym c.rest_of-in-loop-at.ensures) ∙ sym c.closes.ensures ∙ c.if-closes.false) (c.in-None.ensures.value ∙ ap (taken (get_or c.args.bytes.now (c.loop-at.at + c.plain_len-at.result) 0)) c.rest_of-in-loop-at-2.ensures)
    ∙ size-past_plain c.args.bytes.now c.rest_of.result.now c.loop-at.at c.plain_len-at.result c.rest_of.ensures c.plain_len-at.ensures.value ∙ c.loop-at.invariant.1

pub returns-clause-value : goal.returns-clause-value
returns-clause-value c = size-past Outside c.args.bytes.now c.loop-at.at (omega (arith, c.loop-at-test.false)) ∙ c.loop-at.invariant.1
