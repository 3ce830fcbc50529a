use Rattle.std.proofs.Common.{◌≡◌, drop}
use Rattle.request_meaning.specs.Commands.{param}
use Rattle.ssi_exec.proofs.words.param.Given as goal

abbrev pub invariant-loop-p : goal.invariant-loop-p
invariant-loop-p l = param l.name (drop l.p-index l.ps) ≡ param l.name l.ps
