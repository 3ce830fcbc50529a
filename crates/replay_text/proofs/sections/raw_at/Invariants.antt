use Rattle.std.proofs.Common.{◌≡◌, length}
use Rattle.replay_text.specs.Steps.{raw_at, with_raw}
use Rattle.replay_text.proofs.sections.raw_at.Given as goal

-- the text so far, and that of the lines that are left
abbrev pub invariant-lines : goal.invariant-lines
invariant-lines l = with_raw l.text (raw_at l.spot.number l.spot.lines) ≡ raw_at l.fn.spot.number l.fn.spot.lines

abbrev pub decreases-lines : goal.decreases-lines
decreases-lines l = length l.spot.lines
