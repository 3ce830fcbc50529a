use Rattle.std.proofs.Common.{◌≡◌, ◌++◌, drop}
use Rattle.resp_head.specs.Values.{location_text}
use Rattle.resp_head.proofs.values.put_location.Given as goal

abbrev pub invariant-loop-byte : goal.invariant-loop-byte
invariant-loop-byte l = l.out ++ location_text (drop l.byte-index l.bytes) ≡ l.initial.out ++ location_text l.bytes
