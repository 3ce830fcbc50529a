use Rattle.std.proofs.Common.{◌≤◌, ◌-◌, length}
use Rattle.ssi_text.proofs.Onward.{Reading}
use Rattle.ssi_text.proofs.read.read_params.Given as goal

abbrev pub invariant-loop-at : goal.invariant-loop-at
invariant-loop-at l = (l.at ≤ length l.bytes) × Reading l.found l.at l.bytes

abbrev pub decreases-loop-at : goal.decreases-loop-at
decreases-loop-at l = length l.bytes - l.at
