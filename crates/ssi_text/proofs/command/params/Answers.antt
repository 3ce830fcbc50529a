use Rattle.std.proofs.Common.{◌∙◌, ◌+◌, ap, arith, length, length-drop}
use Rattle.ssi_text.proofs.Insides.{all-end, all-no_gap, all-none, all-more, all-past, some-within}
use Rattle.ssi_text.proofs.command.params.Goals as goal

pub returns-then-gap-bytes : goal.returns-then-gap-bytes
returns-then-gap-bytes c = all-end c.loop-at.found c.args.bytes.now c.rest_of.result.now c.loop-at.at c.space_len-gap.result c.rest_of.ensures c.space_len-gap.ensures.value c.if-gap-bytes.true ∙ c.loop-at.invariant.1

pub returns-then-gap-eq0 : goal.returns-then-gap-eq0
returns-then-gap-eq0 c = all-no_gap c.loop-at.found c.args.bytes.now c.rest_of.result.now c.loop-at.at c.space_len-gap.result c.rest_of.ensures c.space_len-gap.ensures.value c.if-gap-bytes.false c.if-gap-eq0.true ∙ c.loop-at.invariant.1

pub returns-in-None : goal.returns-in-None
returns-in-None c = all-none c.loop-at.found c.args.bytes.now c.rest_of.result.now c.rest_of-in-loop-at.result.now c.loop-at.at c.space_len-gap.result _ c.rest_of.ensures c.space_len-gap.ensures.value c.if-gap-bytes.false c.if-gap-eq0.false c.rest_of-in-loop-at.ensures c.in_ok-param.ensures.value c.in-None.is ∙ c.loop-at.invariant.1

pub loop-at-preserved : goal.loop-at-preserved
loop-at-preserved c = (
  omega (arith, some-within c.in_ok-param.field-0 c.in-Some.param c.in-Some.len (length c.rest_of-in-loop-at.result.now) c.in_ok-param.ensures.within c.in-Some.is, c.space_len-gap.ensures.within, ap length c.rest_of.ensures, length-drop c.loop-at.at c.args.bytes.now, c.loop-at.invariant.0, ap length c.rest_of-in-loop-at.ensures, length-drop (c.loop-at.at + c.space_len-gap.result) c.args.bytes.now),
  all-more c.loop-at.found c.push.new.self c.args.bytes.now c.rest_of.result.now c.rest_of-in-loop-at.result.now c.loop-at.at c.space_len-gap.result c.in-Some.len _ c.in-Some.param c.rest_of.ensures c.space_len-gap.ensures.value c.if-gap-bytes.false c.if-gap-eq0.false c.rest_of-in-loop-at.ensures c.in_ok-param.ensures.value c.in-Some.is c.in_ok-push-in-Some.ensures.ok ∙ c.loop-at.invariant.1,
)

pub returns : goal.returns
returns c = all-past c.loop-at.found c.args.bytes.now c.loop-at.at c.loop-at-test.false ∙ c.loop-at.invariant.1
