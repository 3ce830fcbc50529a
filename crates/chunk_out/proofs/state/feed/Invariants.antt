use Rattle.std.proofs.Common.{◌≡◌, ◌+◌, ◌-◌, ◌<◌, ◌≤◌, length, drop, vec_len, vec_capacity}
use Rattle.chunk_out.specs.State.{Feeds}
use Rattle.chunk_out.proofs.state.feed.Given as goal

-- what was written so far and what waits go on with the bytes left
abbrev pub invariant-loop-rest : goal.invariant-loop-rest
invariant-loop-rest l = record {
  within : length l.rest ≤ length l.fn.bytes;
  left : l.rest ≡ drop (length l.fn.bytes - length l.rest) l.fn.bytes;
  waits : vec_len l.block < 4096;
  kept : 4096 ≤ vec_capacity l.block;
  fed : Feeds l.fn.block.items l.fn.bytes (length l.fn.bytes - length l.rest) l.block.items l.fn.out.items l.out.items;
  capacity : vec_capacity l.fn.out ≤ vec_capacity l.out;
  limit : vec_len l.out + l.left ≡ vec_len l.fn.out + l.fn.room;
}

abbrev pub decreases-loop-rest : goal.decreases-loop-rest
decreases-loop-rest l = length l.rest
