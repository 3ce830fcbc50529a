use Rattle.std.proofs.Common.{◌≡◌, ◌≤◌, ◌-◌, drop, length}
use Rattle.ssi_text.specs.Commands.{params}
use Rattle.ssi_text.proofs.Insides.{with_all}
use Rattle.ssi_text.proofs.command.params.Given as goal

abbrev pub invariant-loop-at : goal.invariant-loop-at
invariant-loop-at l = (l.at ≤ length l.bytes) × (with_all l.found (params (drop l.at l.bytes)) ≡ params l.bytes)

abbrev pub decreases-loop-at : goal.decreases-loop-at
decreases-loop-at l = length l.bytes - l.at
