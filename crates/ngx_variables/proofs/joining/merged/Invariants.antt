use Rattle.std.proofs.Common.{◌≡◌, ◌++◌, length}
use Rattle.ngx_variables.specs.Paths.{merged}
use Rattle.ngx_variables.proofs.joining.merged.Given as goal

abbrev pub invariant-loop-rest : goal.invariant-loop-rest
invariant-loop-rest l = l.text ++ merged l.rest ≡ merged l.fn.path

abbrev pub decreases-loop-rest : goal.decreases-loop-rest
decreases-loop-rest l = length l.rest
