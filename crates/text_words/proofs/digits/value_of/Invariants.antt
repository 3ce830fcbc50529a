use Rattle.std.proofs.Common.{◌≡◌, drop}
use Rattle.text_words.specs.Digits.{value_behind}
use Rattle.text_words.proofs.digits.value_of.Given as goal

-- the digits so far, and those that are left, write the number
abbrev pub invariant-loop-b : goal.invariant-loop-b
invariant-loop-b l = value_behind l.value (drop l.b-index l.digits) ≡ value_behind 0 l.digits
