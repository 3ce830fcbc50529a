use Rattle.std.proofs.Common.{sym, ap, ◌∙◌, Ok, subst}
use Rattle.std.proofs.lemmas.Result.{err_from_is_err_and}
use Rattle.replay_text.specs.Faults.{Fails, at_line}
use Rattle.replay_text.specs.Grammar.{confs_of, head_of}
use Rattle.replay_text.proofs.SectionLaws.{fails_at, confs_end, confs_passed, confs_fail, confs_tree, confs_raw_fail, confs_more, fewer_behind_raw}
use Rattle.replay_text.proofs.sections.confs_of.Goals as goal

pub lines-init : goal.lines-init
lines-init c = ap (λ cs. confs_of cs c.args.spot.number c.args.spot.lines) c.new-confs.ensures

pub returns-in_default : goal.returns-in_default
returns-in_default c =
    fails_at c.ends_at.result c.number-number.result c.lines.spot.number _ c.ends_at.ensures c.number-number.ensures
    (confs_end c.lines.spot.number c.lines.confs c.lines.spot.lines _ c.in_default.ensures.lines c.lines.invariant)

pub lines-preserved-then-is_passed : goal.lines-preserved-then-is_passed
lines-preserved-then-is_passed c =
    confs_passed c.lines.spot.number c.in-Some.behind.number c.lines.confs c.in-Some.line.now c.lines.spot.lines c.in-Some.behind.lines _ c.in-Some.ensures.lines c.in-Some.ensures.number (sym c.is_passed.ensures ∙ c.if-is_passed.true) c.lines.invariant

pub returns-in_err-path : goal.returns-in_err-path
returns-in_err-path c =
    let p = err_from_is_err_and c.from_residual.result c.from_residual.ensures.1 in
    let e = c.in_err-path.field-0.0 in
    let line = c.in-Some.line.now in
    let wrong = subst (λ cs. Fails e (at_line c.number-number.result (head_of cs line))) c.as_slice.ensures c.in_err-path.ensures in
    rw (p.1, p.2) (confs_fail e c.number-number.result c.lines.spot.number c.lines.confs line c.lines.spot.lines c.in-Some.behind.lines _ c.in-Some.ensures.lines (sym c.is_passed.ensures ∙ c.if-is_passed.false) c.number-number.ensures wrong c.lines.invariant)

pub returns-in_default-2 : goal.returns-in_default-2
returns-in_default-2 c =
    let line = c.in-Some.line.now in
    let none = ap (λ cs. at_line c.number-number.result (head_of cs line)) (sym c.as_slice.ensures) ∙ c.in_ok-path.ensures ∙ ap Ok c.in_default-2.is in
    confs_tree c.number-number.result c.lines.spot.number c.lines.confs line c.lines.spot.lines c.in-Some.behind _ c.in-Some.ensures.lines c.in-Some.ensures.number (sym c.is_passed.ensures ∙ c.if-is_passed.false) c.number-number.ensures none c.lines.invariant

pub returns-in_err-bytes : goal.returns-in_err-bytes
returns-in_err-bytes c =
    let p = err_from_is_err_and c.from_residual-in_err-bytes.result c.from_residual-in_err-bytes.ensures.1 in
    let line = c.in-Some.line.now in
    let some = ap (λ cs. at_line c.number-number.result (head_of cs line)) (sym c.as_slice.ensures) ∙ c.in_ok-path.ensures ∙ ap Ok c.in-Some-2.is in
    rw (p.1, p.2) (confs_raw_fail c.in_err-bytes.field-0.0 c.number-number.result c.lines.spot.number c.in-Some.behind.number c.lines.confs line _ c.lines.spot.lines c.in-Some.behind.lines _ c.in-Some.ensures.lines c.in-Some.ensures.number (sym c.is_passed.ensures ∙ c.if-is_passed.false) c.number-number.ensures some c.in_err-bytes.ensures c.lines.invariant)

pub lines-smaller : goal.lines-smaller
lines-smaller c = fewer_behind_raw c.in-Some.behind.number c.lines.spot.lines c.in-Some.behind.lines c.in-Some.line.now c.in_ok-bytes.bytes c.in_ok-bytes.after c.in-Some.ensures.lines c.in_ok-bytes.ensures

pub lines-preserved : goal.lines-preserved
lines-preserved c =
    let line = c.in-Some.line.now in
    let some = ap (λ cs. at_line c.number-number.result (head_of cs line)) (sym c.as_slice.ensures) ∙ c.in_ok-path.ensures ∙ ap Ok c.in-Some-2.is in
    confs_more c.number-number.result c.lines.spot.number c.in-Some.behind.number c.lines.confs c.push.new.self line c.in-Some-2.path c.in_ok-bytes.bytes c.lines.spot.lines c.in-Some.behind.lines c.in_ok-bytes.after _ c.in-Some.ensures.lines c.in-Some.ensures.number (sym c.is_passed.ensures ∙ c.if-is_passed.false) c.number-number.ensures some c.in_ok-bytes.ensures c.in_ok-push.ensures.ok c.lines.invariant
