use Rattle.std.proofs.Common.{◌≡◌, ◌+◌, length, eqb}
use Rattle.std.specs.List.{position_or_len}
use Rattle.ngx_variables.proofs.compile.literal_size.Given as goal

abbrev pub invariant-loop-rest : goal.invariant-loop-rest
invariant-loop-rest l = (l.size + position_or_len (λ b. eqb b 36) l.rest ≡ position_or_len (λ b. eqb b 36) l.text) × (l.size + length l.rest ≡ length l.text)

abbrev pub decreases-loop-rest : goal.decreases-loop-rest
decreases-loop-rest l = length l.rest
