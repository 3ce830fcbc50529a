use Rattle.std.proofs.Common.{ap, sym, ◌∙◌, arith}
use Rattle.replay_words.specs.Escapes.{behind_percent}
use Rattle.replay_words.proofs.EscapeLaws.{measured_whole, measured_fault, measured_cut}
use Rattle.replay_words.proofs.escapes.unescaped_len.Goals as goal

pub returns-then-at-rest : goal.returns-then-at-rest
returns-then-at-rest c =
    sym c.escapes.invariant.0 ∙ measured_whole c.escapes.len _ _ c.escapes.rest.now c.length_before-at.ensures.place c.if-at-rest.true (omega arith)

pub returns-in_default : goal.returns-in_default
returns-in_default c =
    sym c.escapes.invariant.0
    ∙ measured_fault c.escapes.len _ c.escapes.rest.now c.length_before-at.ensures.place (omega arith) (ap behind_percent (sym c.bytes_from.ensures.rest) ∙ c.in_default.ensures.value)

pub escapes-preserved : goal.escapes-preserved
escapes-preserved c = (
  measured_cut c.escapes.len _ _ _ c.escapes.rest.now _ c.length_before-at.ensures.place (omega arith) (ap behind_percent (sym c.bytes_from.ensures.rest) ∙ c.in-Some.ensures.value) (omega arith)
      ∙ c.escapes.invariant.0,
  omega (arith, c.in-Some.ensures.shorter),
)
