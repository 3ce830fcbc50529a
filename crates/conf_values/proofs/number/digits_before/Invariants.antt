use Rattle.std.proofs.Common.{◌≡◌, ◌+◌, length}
use Rattle.conf_values.specs.Numbers.{digits_before}
use Rattle.conf_values.proofs.number.digits_before.Given as goal

-- the digits so far, and those that are left
abbrev pub invariant-loop-rest : goal.invariant-loop-rest
invariant-loop-rest l = (l.size + digits_before l.rest ≡ digits_before l.text) × (l.size + length l.rest ≡ length l.text)

abbrev pub decreases-loop-rest : goal.decreases-loop-rest
decreases-loop-rest l = length l.rest
