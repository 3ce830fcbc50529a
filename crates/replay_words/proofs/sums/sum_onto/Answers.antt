use Rattle.std.proofs.Common.{arith}
use Rattle.std.proofs.lemmas.Result.{err_from_is_err_and}
use Rattle.replay_words.proofs.SumLaws.{bytes_go_on, bytes_fail, bytes_end}
use Rattle.replay_words.proofs.sums.sum_onto.Goals as goal

pub returns-in_err-term_onto : goal.returns-in_err-term_onto
returns-in_err-term_onto c =
    let p = err_from_is_err_and c.from_residual.result c.from_residual.ensures.1 in
    rw (p.1, p.2) (bytes_fail c.in_err-term_onto.field-0.0 c.loop-term.out.items c.args.terms.now c.loop-term.term-index _ _ (omega arith) c.in_err-term_onto.ensures c.loop-term.invariant)

pub loop-term-preserved : goal.loop-term-preserved
loop-term-preserved c =
    bytes_go_on c.loop-term.out.items c.term_onto.new.out.items c.args.terms.now c.loop-term.term-index _ _ (omega arith) c.in_ok-term_onto.ensures c.loop-term.invariant

pub returns : goal.returns
returns c = bytes_end c.loop-term.out.items c.args.terms.now c.loop-term.term-index _ (omega arith) c.loop-term.invariant
