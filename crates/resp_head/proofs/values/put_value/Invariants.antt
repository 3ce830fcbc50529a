use Rattle.std.proofs.Common.{◌≡◌, ◌++◌, drop}
use Rattle.resp_head.specs.Values.{value_text}
use Rattle.resp_head.proofs.values.put_value.Given as goal

abbrev pub invariant-loop-byte : goal.invariant-loop-byte
invariant-loop-byte l = l.out ++ value_text (drop l.byte-index l.bytes) ≡ l.initial.out ++ value_text l.bytes
