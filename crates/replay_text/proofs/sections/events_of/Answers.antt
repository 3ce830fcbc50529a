use Rattle.std.proofs.Common.{sym, ◌∙◌}
use Rattle.std.proofs.lemmas.Result.{err_from_is_err_and}
use Rattle.replay_text.proofs.SectionLaws.{fewer_lines, events_begin, events_end, events_passed, events_fail, events_more}
use Rattle.replay_text.proofs.sections.events_of.Goals as goal

pub lines-init : goal.lines-init
lines-init c = (events_begin _ _ c.new-events.ensures, c.requires)

pub returns-in_default : goal.returns-in_default
returns-in_default c = events_end c.lines.total c.lines.spot.number c.lines.events c.lines.spot.lines _ c.in_default.ensures.lines c.lines.invariant.0

pub lines-preserved-then-is_passed : goal.lines-preserved-then-is_passed
lines-preserved-then-is_passed c = (
  events_passed c.lines.total c.lines.spot.number c.in-Some.behind.number c.lines.events c.in-Some.line.now c.lines.spot.lines c.in-Some.behind.lines _ c.in-Some.ensures.lines c.in-Some.ensures.number (sym c.is_passed.ensures ∙ c.if-is_passed.true) c.lines.invariant.0,
  c.lines.invariant.1,
)

pub returns-in_err-one : goal.returns-in_err-one
returns-in_err-one c =
    let p = err_from_is_err_and c.from_residual.result c.from_residual.ensures.1 in
    rw (p.1, p.2) (events_fail c.in_err-one.field-0.0 c.number-number.result c.lines.total c.lines.spot.number c.lines.events c.in-Some.line.now c.lines.spot.lines c.in-Some.behind.lines _ c.in-Some.ensures.lines (sym c.is_passed.ensures ∙ c.if-is_passed.false) c.number-number.ensures c.in_err-one.ensures.value c.lines.invariant.0)

pub lines-preserved : goal.lines-preserved
lines-preserved c = (
  events_more c.number-number.result c.lines.total c.in_ok-one.after c.lines.spot.number c.in-Some.behind.number c.lines.events _ c.in_ok-one.one c.in-Some.line.now c.lines.spot.lines c.in-Some.behind.lines _ c.in-Some.ensures.lines c.in-Some.ensures.number (sym c.is_passed.ensures ∙ c.if-is_passed.false) c.number-number.ensures c.in_ok-one.ensures.value c.in_ok-push.ensures.ok c.lines.invariant.0,
  c.in_ok-one.ensures.within,
)

pub lines-smaller : goal.lines-smaller
lines-smaller c = fewer_lines c.lines.spot.lines c.in-Some.behind.lines c.in-Some.line.now c.in-Some.ensures.lines
