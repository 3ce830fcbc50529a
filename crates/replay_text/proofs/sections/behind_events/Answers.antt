use Rattle.std.proofs.Common.{sym, ◌∙◌}
use Rattle.std.proofs.lemmas.Result.{err_from_is_err_and}
use Rattle.replay_text.proofs.SectionLaws.{fails_at, head_end, head_passed, head_fail, head_found}
use Rattle.replay_text.proofs.sections.behind_events.Goals as goal

pub returns-in_default : goal.returns-in_default
returns-in_default c =
    fails_at c.ends_at.result c.number-number.result c.lines.spot.number _ c.ends_at.ensures c.number-number.ensures
    (head_end c.lines.spot.number c.lines.spot.lines _ c.in_default.ensures.lines c.lines.invariant)

pub lines-preserved : goal.lines-preserved
lines-preserved c =
    head_passed c.lines.spot.number c.in-Some.behind.number c.in-Some.line.now c.lines.spot.lines c.in-Some.behind.lines _ c.in-Some.ensures.lines c.in-Some.ensures.number (sym c.is_passed.ensures ∙ c.if-is_passed.true) c.lines.invariant

pub returns-in_err-events_at : goal.returns-in_err-events_at
returns-in_err-events_at c =
    let p = err_from_is_err_and c.from_residual.result c.from_residual.ensures.1 in
    rw (p.1, p.2) (head_fail c.in_err-events_at.field-0.0 c.number-number.result c.lines.spot.number c.in-Some.line.now c.lines.spot.lines c.in-Some.behind.lines _ c.in-Some.ensures.lines (sym c.is_passed.ensures ∙ c.if-is_passed.false) c.number-number.ensures c.in_err-events_at.ensures c.lines.invariant)

pub returns-in-lines : goal.returns-in-lines
returns-in-lines c =
    head_found c.number-number.result c.lines.spot.number _ c.in-Some.line.now c.lines.spot.lines c.in-Some.behind _ c.in-Some.ensures.lines c.in-Some.ensures.number (sym c.is_passed.ensures ∙ c.if-is_passed.false) c.number-number.ensures c.in_ok-events_at.ensures c.lines.invariant
