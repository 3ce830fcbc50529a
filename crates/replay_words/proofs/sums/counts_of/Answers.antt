use Rattle.std.proofs.Common.{ap, ◌∙◌, arith}
use Rattle.std.proofs.lemmas.Result.{err_from_is_err_and}
use Rattle.std.proofs.lemmas.List.{map_push}
use Rattle.replay_words.specs.Steps.{counted_view, counted_views}
use Rattle.replay_words.proofs.SumLaws.{counts_go_on, counts_fail, counts_end}
use Rattle.replay_words.proofs.sums.counts_of.Goals as goal

pub returns-in_err-count : goal.returns-in_err-count
returns-in_err-count c =
    let p = err_from_is_err_and c.from_residual.result c.from_residual.ensures.1 in
    rw (p.1, p.2) (counts_fail c.in_err-count.field-0.0 (counted_views c.loop-term.counted.items) c.args.terms.now c.loop-term.term-index _ _ (omega arith) c.in_err-count.ensures.value c.loop-term.invariant)

pub loop-term-preserved : goal.loop-term-preserved
loop-term-preserved c =
    let e = ap counted_views c.in_ok-push.ensures.items ∙ map_push counted_view c.loop-term.counted.items _ in
    rw e (counts_go_on (counted_views c.loop-term.counted.items) c.args.terms.now c.loop-term.term-index _ c.in_ok-count.count _ (omega arith) c.in_ok-count.ensures.value c.loop-term.invariant)

pub returns : goal.returns
returns c = counts_end (counted_views c.loop-term.counted.items) c.args.terms.now c.loop-term.term-index _ (omega arith) c.loop-term.invariant
