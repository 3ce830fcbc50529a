use Rattle.std.proofs.Common.{◌≡◌, length}
use Rattle.req_head.specs.FirstLine.{asks_head}
use Rattle.req_head.specs.Lines.{lines, after_empty}
use Rattle.req_head.proofs.lines.after_blanks.Given as goal

abbrev pub invariant-loop-next : goal.invariant-loop-next
invariant-loop-next l = (asks_head l.rest ≡ asks_head l.bytes) × (after_empty (lines l.rest) ≡ after_empty (lines l.bytes))

abbrev pub decreases-loop-next : goal.decreases-loop-next
decreases-loop-next l = length l.rest
