use Rattle.std.proofs.Common.{◌≡◌, length, map, eqb}
use Rattle.std.specs.List.{slice_split}
use Rattle.ngx_variables.specs.Pairs.{first_value, trimmed}
use Rattle.ngx_variables.proofs.argument.cookie_in.Given as goal

abbrev pub invariant-loop-size : goal.invariant-loop-size
invariant-loop-size l = first_value l.name (map trimmed (slice_split (λ b. eqb b 59) l.rest)) ≡ first_value l.name (map trimmed (slice_split (λ b. eqb b 59) l.field))

abbrev pub decreases-loop-size : goal.decreases-loop-size
decreases-loop-size l = length l.rest
