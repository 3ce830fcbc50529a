use Rattle.std.proofs.Common.{◌≡◌, length}
use Rattle.replay_text.specs.Grammar.{behind_events}
use Rattle.replay_text.proofs.sections.behind_events.Given as goal

-- the lines so far are passed over
abbrev pub invariant-lines : goal.invariant-lines
invariant-lines l = behind_events l.spot.number l.spot.lines ≡ behind_events l.fn.spot.number l.fn.spot.lines

abbrev pub decreases-lines : goal.decreases-lines
decreases-lines l = length l.spot.lines
