use Rattle.std.proofs.Common.{◌≡◌, ◌+◌, ◌≤◌, length, drop}
use Rattle.req_head.specs.Lines.{lines}
use Rattle.req_head.proofs.lines.count_lines.Given as goal

abbrev pub invariant-loop-byte : goal.invariant-loop-byte
invariant-loop-byte l = (l.count ≤ l.byte-index) × (l.count + length (lines (drop l.byte-index l.bytes)) ≡ length (lines l.bytes))
