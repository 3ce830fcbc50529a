use Rattle.std.proofs.Common.{◌≡◌, ◌≤◌, ◌-◌, drop, length}
use Rattle.ssi_text.specs.Commands.{Outside, size}
use Rattle.ssi_text.proofs.Scans.{add}
use Rattle.ssi_text.proofs.place.size_of_command.Given as goal

abbrev pub invariant-loop-at : goal.invariant-loop-at
invariant-loop-at l = (l.at ≤ length l.bytes) × (add l.at (size Outside (drop l.at l.bytes)) ≡ size Outside l.bytes)

abbrev pub decreases-loop-at : goal.decreases-loop-at
decreases-loop-at l = length l.bytes - l.at
