use Rattle.std.proofs.Common.{◌≡◌, length}
use Rattle.ngx_variables.specs.Words.{behind_host}
use Rattle.ngx_variables.proofs.eval.behind_host.Given as goal

abbrev pub invariant-loop-rest : goal.invariant-loop-rest
invariant-loop-rest l = behind_host l.rest ≡ behind_host l.target

abbrev pub decreases-loop-rest : goal.decreases-loop-rest
decreases-loop-rest l = length l.rest
