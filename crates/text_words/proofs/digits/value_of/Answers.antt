use Rattle.std.proofs.Common.{arith}
use Rattle.text_words.proofs.NumberLaws.{value_past}
use Rattle.text_words.proofs.digits.value_of.Goals as goal

pub returns-in_default : goal.returns-in_default
returns-in_default c =
    value_past _ c.loop-b.b-index c.loop-b.value _ c.args.digits.now (omega arith) c.loop-b.invariant (omega (arith, c.in_default.ensures))

pub returns-in_default-checked_add : goal.returns-in_default-checked_add
returns-in_default-checked_add c =
    value_past _ c.loop-b.b-index c.loop-b.value _ c.args.digits.now (omega arith) c.loop-b.invariant (omega (arith, c.in_default-checked_add.ensures))
