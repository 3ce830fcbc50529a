use Rattle.std.proofs.Common.{arith}
use Rattle.uri_text.proofs.Entering.{last_is}
use Rattle.uri_text.proofs.path.last_start.Goals as goal

pub returns-else-text-at-ne47-clause-start : goal.returns-else-text-at-ne47-clause-start
returns-else-text-at-ne47-clause-start c = λ f kept free is. last_is f kept c.args.text.now c.loop-at.at free is c.loop-at.invariant.0 c.loop-at.invariant.1 c.loop-at.invariant.2 (λ _. c.if-text-at-ne47.false)

pub returns-after-loop-at-clause-start : goal.returns-after-loop-at-clause-start
returns-after-loop-at-clause-start c = λ f kept free is. last_is f kept c.args.text.now c.loop-at.at free is c.loop-at.invariant.0 c.loop-at.invariant.1 c.loop-at.invariant.2 (λ above. absurd (omega (arith, above, c.loop-at-test.false)))
