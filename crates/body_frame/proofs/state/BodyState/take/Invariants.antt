use Rattle.std.proofs.Common.{◌≡◌, ◌-◌, ◌≤◌, length, drop}
use Rattle.body_frame.specs.Position.{Skips}
use Rattle.body_frame.proofs.state.BodyState.take.Given as goal

-- the bytes so far lead to the place
abbrev pub invariant-loop-count : goal.invariant-loop-count
invariant-loop-count l = record {
  within : length l.rest ≤ length l.fn.bytes;
  left : l.rest ≡ drop (length l.fn.bytes - length l.rest) l.fn.bytes;
  skips : Skips l.fn.self.place l.fn.bytes (length l.fn.bytes - length l.rest) l.place;
}

abbrev pub decreases-loop-count : goal.decreases-loop-count
decreases-loop-count l = length l.rest
