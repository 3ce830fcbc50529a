use Rattle.std.proofs.Common.{◌≡◌, length}
use Rattle.request_meaning.specs.Commands.{folder_of}
use Rattle.ssi_exec.proofs.includes.folder_of.Given as goal

abbrev pub invariant-loop-rest : goal.invariant-loop-rest
invariant-loop-rest l = folder_of l.rest ≡ folder_of l.path

abbrev pub decreases-loop-rest : goal.decreases-loop-rest
decreases-loop-rest l = length l.rest
