use Rattle.std.proofs.Common.{sym, ◌∙◌, arith}
use Rattle.std.proofs.lemmas.Result.{err_from_is_err_and}
use Rattle.replay_text.proofs.SectionLaws.{fails_at, fewer_lines, tree_begin, tree_end, tree_passed, tree_dot, tree_fail, tree_more}
use Rattle.replay_text.proofs.sections.tree_of.Goals as goal

pub lines-init : goal.lines-init
lines-init c = (tree_begin _ _ c.new-tree.ensures, omega arith)

pub returns-in_default-clause-value : goal.returns-in_default-clause-value
returns-in_default-clause-value c =
    fails_at c.ends_at.result c.number-number.result c.lines.spot.number _ c.ends_at.ensures c.number-number.ensures
    (tree_end c.lines.used c.lines.spot.number c.lines.tree c.lines.spot.lines _ c.in_default.ensures.lines c.lines.invariant.0)

pub lines-preserved-then-is_passed : goal.lines-preserved-then-is_passed
lines-preserved-then-is_passed c = (
  tree_passed c.lines.used c.lines.spot.number c.in-Some.behind.number c.lines.tree c.in-Some.line.now c.lines.spot.lines c.in-Some.behind.lines _ c.in-Some.ensures.lines c.in-Some.ensures.number (sym c.is_passed.ensures ∙ c.if-is_passed.true) c.lines.invariant.0,
  c.lines.invariant.1,
)

pub returns-then-is_dot-clause-value : goal.returns-then-is_dot-clause-value
returns-then-is_dot-clause-value c =
    tree_dot c.lines.used c.lines.spot.number c.lines.tree c.in-Some.line.now c.lines.spot.lines c.in-Some.behind _ c.in-Some.ensures.lines c.in-Some.ensures.number (sym c.is_passed.ensures ∙ c.if-is_passed.false) (sym c.is_dot.ensures ∙ c.if-is_dot.true) c.lines.invariant.0

pub returns-in_err-one-clause-value : goal.returns-in_err-one-clause-value
returns-in_err-one-clause-value c =
    let p = err_from_is_err_and c.from_residual.result c.from_residual.ensures.1 in
    rw (p.1, p.2) (tree_fail c.in_err-one.field-0.0 c.number-number.result c.lines.used c.lines.spot.number c.lines.tree c.in-Some.line.now c.lines.spot.lines c.in-Some.behind.lines _ c.in-Some.ensures.lines (sym c.is_passed.ensures ∙ c.if-is_passed.false) (sym c.is_dot.ensures ∙ c.if-is_dot.false) c.number-number.ensures c.in_err-one.ensures.value c.lines.invariant.0)

pub lines-preserved : goal.lines-preserved
lines-preserved c = (
  tree_more c.number-number.result c.lines.used c.in_ok-one.after c.lines.spot.number c.in-Some.behind.number c.lines.tree _ c.in_ok-one.one c.in-Some.line.now c.lines.spot.lines c.in-Some.behind.lines _ c.in-Some.ensures.lines c.in-Some.ensures.number (sym c.is_passed.ensures ∙ c.if-is_passed.false) (sym c.is_dot.ensures ∙ c.if-is_dot.false) c.number-number.ensures c.in_ok-one.ensures.value c.in_ok-push.ensures.ok c.lines.invariant.0,
  c.in_ok-one.ensures.within,
)

pub lines-smaller : goal.lines-smaller
lines-smaller c = fewer_lines c.lines.spot.lines c.in-Some.behind.lines c.in-Some.line.now c.in-Some.ensures.lines
