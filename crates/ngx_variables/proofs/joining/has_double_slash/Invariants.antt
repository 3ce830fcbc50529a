use Rattle.std.proofs.Common.{◌≡◌, length}
use Rattle.ngx_variables.specs.Paths.{merged}
use Rattle.ngx_variables.proofs.joining.has_double_slash.Given as goal

abbrev pub invariant-loop-rest : goal.invariant-loop-rest
invariant-loop-rest l = merged l.rest ≡ l.rest → merged l.path ≡ l.path

abbrev pub decreases-loop-rest : goal.decreases-loop-rest
decreases-loop-rest l = length l.rest
