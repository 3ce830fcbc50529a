use Rattle.std.proofs.Common.{◌≡◌, length}
use Rattle.std.specs.List.{slice_split}
use Rattle.std.proofs.Common.{eqb}
use Rattle.ngx_variables.specs.Pairs.{first_value}
use Rattle.ngx_variables.proofs.argument.argument.Given as goal

abbrev pub invariant-loop-size : goal.invariant-loop-size
invariant-loop-size l = first_value l.name (slice_split (λ b. eqb b 38) l.rest) ≡ first_value l.name (slice_split (λ b. eqb b 38) l.args)

abbrev pub decreases-loop-size : goal.decreases-loop-size
decreases-loop-size l = length l.rest
