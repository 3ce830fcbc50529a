use Rattle.std.proofs.Common.{◌++◌, ◌∷◌, [], sym, ap, ◌∙◌}
use Rattle.replay_text.proofs.SectionLaws.{fails_at, fewer_lines, raw_begin, raw_end, raw_dot, raw_more}
use Rattle.replay_text.proofs.sections.raw_at.Goals as goal

pub lines-init : goal.lines-init
lines-init c = raw_begin _ _ c.new-text.ensures

pub returns-in_default : goal.returns-in_default
returns-in_default c =
    fails_at c.ends_at.result c.number-number.result c.lines.spot.number _ c.ends_at.ensures c.number-number.ensures
    (raw_end c.lines.spot.number c.lines.text c.lines.spot.lines _ c.in_default.ensures.lines c.lines.invariant)

pub returns-then-is_dot : goal.returns-then-is_dot
returns-then-is_dot c =
    raw_dot c.lines.spot.number c.lines.text c.in-Some.line.now c.lines.spot.lines c.in-Some.behind _ c.in-Some.ensures.lines c.in-Some.ensures.number (sym c.is_dot.ensures ∙ c.if-is_dot.true) c.lines.invariant

pub lines-preserved : goal.lines-preserved
lines-preserved c =
    raw_more c.lines.spot.number c.in-Some.behind.number c.lines.text c.in-Some.line.now _ c.lines.spot.lines c.in-Some.behind.lines _ c.in-Some.ensures.lines c.in-Some.ensures.number (sym c.is_dot.ensures ∙ c.if-is_dot.false)
    (c.in_ok-push.ensures.ok ∙ ap (λ bs. bs ++ 10 ∷ []) c.in_ok-extend.ensures.ok) c.lines.invariant

pub lines-smaller : goal.lines-smaller
lines-smaller c = fewer_lines c.lines.spot.lines c.in-Some.behind.lines c.in-Some.line.now c.in-Some.ensures.lines
