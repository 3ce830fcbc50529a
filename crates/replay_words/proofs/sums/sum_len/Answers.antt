use Rattle.std.proofs.Common.{◌+◌, ◌-◌, ◌^◌, min, ap, ◌∙◌, arith}
use Rattle.std.proofs.lemmas.Result.{err_from_is_err_and}
use Rattle.replay_words.proofs.SumLaws.{len_go_on, len_fail, len_end}
use Rattle.replay_words.proofs.sums.sum_len.Goals as goal

pub returns-in_err-len : goal.returns-in_err-len
returns-in_err-len c =
    let p = err_from_is_err_and c.from_residual.result c.from_residual.ensures.1 in
    rw (p.1, p.2) (len_fail c.in_err-len.field-0.0 c.loop-term.total c.args.terms.now c.loop-term.term-index _ _ (omega arith) c.in_err-len.ensures c.loop-term.invariant.0)

pub loop-term-preserved : goal.loop-term-preserved
loop-term-preserved c = (
  len_go_on c.loop-term.total _ c.in_ok-len.len c.args.terms.now c.loop-term.term-index _ _ (omega arith) c.in_ok-len.ensures
      (c.saturating_add-total.ensures ∙ ap (λ n. min (c.loop-term.total + n) (2 ^ 64 - 1)) c.saturating_mul.ensures) c.loop-term.invariant.0,
  omega (arith, c.saturating_add-total.type_inv),
)

pub returns : goal.returns
returns c = len_end c.loop-term.total c.args.terms.now c.loop-term.term-index _ (omega arith) c.loop-term.invariant.1 c.loop-term.invariant.0
