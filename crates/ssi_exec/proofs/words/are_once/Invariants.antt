use Rattle.std.proofs.Common.{◌≡◌, length}
use Rattle.request_meaning.specs.Commands.{are_once}
use Rattle.ssi_exec.proofs.words.are_once.Given as goal

abbrev pub invariant-loop-rest : goal.invariant-loop-rest
invariant-loop-rest l = are_once l.rest ≡ are_once l.ps

abbrev pub decreases-loop-rest : goal.decreases-loop-rest
decreases-loop-rest l = length l.rest
