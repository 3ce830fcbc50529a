use Rattle.std.proofs.Common.{◌≤◌, ◌-◌, drop, length}
use Rattle.ssi_text.specs.Marks.{marks}
use Rattle.ssi_text.specs.Moves.{Moved}
use Rattle.ssi_text.proofs.scan.split_bytes.Given as goal

abbrev pub invariant-loop-at : goal.invariant-loop-at
invariant-loop-at l = (l.at ≤ length l.bytes) × Moved (marks l.initial.out.items) (marks l.out.items) l.bytes (drop l.at l.bytes)

abbrev pub decreases-loop-at : goal.decreases-loop-at
decreases-loop-at l = length l.bytes - l.at
