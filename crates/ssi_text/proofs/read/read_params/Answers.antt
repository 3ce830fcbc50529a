use Rattle.std.proofs.Common.{◌∙◌, ◌+◌, ap, sym, arith, length, drop, length-drop}
use Rattle.std.specs.List.{prefix_len}
use Rattle.ssi_text.specs.Commands.{is_space}
use Rattle.ssi_text.specs.Reads.{ReadParam}
use Rattle.ssi_text.proofs.Onward.{some-param, reading-more, reading-ends}
use Rattle.ssi_text.proofs.read.read_params.Goals as goal

pub returns-then-closes : goal.returns-then-closes
returns-then-closes c = reading-ends c.loop-at.found c.args.bytes.now c.rest_of-in-loop-at.result.now c.loop-at.at c.space_len-gap.result (c.space_len-gap.ensures.value ∙ ap (prefix_len is_space) c.rest_of.ensures) c.rest_of-in-loop-at.ensures (sym c.if-closes.true ∙ c.closes.ensures) c.loop-at.invariant.1

pub loop-at-preserved : goal.loop-at-preserved
loop-at-preserved c =
    let bytes = c.args.bytes.now in
    let at = c.loop-at.at in
    let gap = c.space_len-gap.result in
    let read : ReadParam c.in-Some.param c.in-Some.len (drop (at + gap) bytes) = some-param c.in_ok-param.field-0 c.in-Some.param c.in-Some.len c.rest_of-in-loop-at-2.result.now (drop (at + gap) bytes) c.in_ok-param.ensures c.in-Some.is c.rest_of-in-loop-at-2.ensures in (
      omega (arith, read.within, length-drop (at + gap) bytes, c.loop-at.invariant.0, c.space_len-gap.ensures.within, ap length c.rest_of.ensures, length-drop at bytes),
      reading-more c.loop-at.found c.push.new.self bytes at gap c.in-Some.len c.in-Some.param (c.space_len-gap.ensures.value ∙ ap (prefix_len is_space) c.rest_of.ensures) c.if-gap-eq0.false read c.in_ok-push-in-Some.ensures.ok c.loop-at.invariant.1,
    )
