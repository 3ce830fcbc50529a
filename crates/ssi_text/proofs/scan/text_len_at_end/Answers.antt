use Rattle.std.proofs.Common.{arith, length, sym, ap, ◌∙◌, drop}
use Rattle.ssi_text.specs.Split.{begins, opening}
use borrow.Author.Count.{below_more}
use Rattle.ssi_text.proofs.Steps.{text-run, front-is-plain}
use Rattle.ssi_text.proofs.scan.text_len_at_end.Goals as goal

pub returns-in-Yes-clause-text : goal.returns-in-Yes-clause-text
returns-in-Yes-clause-text c = text-run c.loop-at.at c.args.bytes.now c.loop-at.invariant (omega arith)

pub returns-in-Maybe-clause-text : goal.returns-in-Maybe-clause-text
returns-in-Maybe-clause-text c = text-run c.loop-at.at c.args.bytes.now c.loop-at.invariant (omega arith)

pub loop-at-preserved : goal.loop-at-preserved
loop-at-preserved c = below_more _ _ c.loop-at.invariant (sym (front-is-plain (drop c.loop-at.at c.args.bytes.now) (c.in-No.ensures ∙ ap (begins opening) c.rest_of.ensures)))

pub returns-clause-text : goal.returns-clause-text
returns-clause-text c = text-run (length c.args.bytes.now) c.args.bytes.now (λ k h. c.loop-at.invariant k (omega arith)) (omega arith)
