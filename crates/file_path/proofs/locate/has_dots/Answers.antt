use Rattle.std.proofs.Common.{◌+◌, ◌||◌, length, drop, sym, ◌∙◌, ap, arith}
use Rattle.std.proofs.lemmas.List.{take_rest, length-drop}
use Rattle.file_path.specs.Located.{has_dots}
use Rattle.file_path.proofs.Found.{dots_at, dots_alone}
use Rattle.file_path.proofs.locate.has_dots.Goals as goal

pub returns-then-is_dots : goal.returns-then-is_dots
returns-then-is_dots c =
    let rest = c.loop-at.rest.now in
    let at = c.in-Some.at in
    let cut = dots_at rest at c.in-Some.ensures.0 c.in-Some.ensures.1 in
    sym (sym c.loop-at.invariant.0 ∙ (cut ∙ ap (λ b. b || has_dots (drop (at + 1) rest)) (sym c.is_dots.ensures ∙ c.if-is_dots.true)))

pub loop-at-preserved : goal.loop-at-preserved
loop-at-preserved c =
    let rest = c.loop-at.rest.now in
    let at = c.in-Some.at in
    let cut = dots_at rest at c.in-Some.ensures.0 c.in-Some.ensures.1 in
    let behind = take_rest rest (at + 1) in (
      ap has_dots behind ∙ (sym (cut ∙ ap (λ b. b || has_dots (drop (at + 1) rest)) (sym c.is_dots.ensures ∙ c.if-is_dots.false)) ∙ c.loop-at.invariant.0),
      omega (arith, ap length behind, length-drop (at + 1) rest, c.loop-at.invariant.1),
    )

pub returns : goal.returns
returns c = c.is_dots-2.ensures ∙ (sym (dots_alone c.loop-at.rest.now c.in_default.ensures) ∙ c.loop-at.invariant.0)
