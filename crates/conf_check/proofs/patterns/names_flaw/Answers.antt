use Rattle.std.proofs.Common.{sym, ◌∙◌, arith}
use Rattle.conf_check.proofs.PatternLaws.{names-flawed, names-fine, names-over, next-word, no-words}
use Rattle.conf_check.proofs.patterns.names_flaw.Goals as goal

pub returns-then-is_some : goal.returns-then-is_some
returns-then-is_some g c =
    names-flawed _ _ _ _ _ _ c.word-item.result c.in_ok-flaw.flaw (sym c.is_some.ensures ∙ c.if-is_some.true) c.loop-word.invariant.spared c.loop-word.invariant.same
    (next-word c.args.words.now c.loop-word.word-index c.word-item.result (omega arith) c.word-item.is) (rw c.as_slice.ensures at c.in_ok-flaw.ensures)

pub loop-word-preserved : goal.loop-word-preserved
loop-word-preserved g c =
    let p = names-fine _ _ _ _ _ _ c.word-item.result c.in_ok-flaw.flaw (sym c.is_some.ensures ∙ c.if-is_some.false) c.loop-word.invariant.spared c.loop-word.invariant.same
    (next-word c.args.words.now c.loop-word.word-index c.word-item.result (omega arith) c.word-item.is) (rw c.as_slice.ensures at c.in_ok-flaw.ensures) in
    record { same = p.0; spared = p.1 }

pub returns : goal.returns
returns g c = (names-over _ c.args.words.now c.loop-word.invariant.same (no-words c.args.words.now c.loop-word.word-index (omega arith)), c.loop-word.invariant.spared)
