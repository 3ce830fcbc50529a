use Rattle.std.proofs.Common.{◌≡◌, ◌-◌, drop, length}
use Rattle.ssi_text.specs.Commands.{quoted}
use Rattle.ssi_text.proofs.Scans.{add}
use Rattle.ssi_text.proofs.place.quoted_len.Given as goal

abbrev pub invariant-loop-at : goal.invariant-loop-at
invariant-loop-at l = add l.at (quoted l.quote (drop l.at l.bytes)) ≡ quoted l.quote l.bytes

abbrev pub decreases-loop-at : goal.decreases-loop-at
decreases-loop-at l = length l.bytes - l.at
