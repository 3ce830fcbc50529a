use Rattle.std.proofs.Common.{◌≡◌, ◌≤◌, length}
use Rattle.replay_text.specs.Grammar.{events_of}
use Rattle.replay_words.specs.Sums.{most_bytes}
use Rattle.replay_text.specs.Steps.{with_events}
use Rattle.replay_text.proofs.sections.events_of.Given as goal

-- the events so far, and those that are left
abbrev pub invariant-lines : goal.invariant-lines
invariant-lines l =
    (with_events l.events (events_of l.total l.spot.number l.spot.lines) ≡ events_of l.fn.used l.fn.spot.number l.fn.spot.lines) × (l.total ≤ most_bytes)

abbrev pub decreases-lines : goal.decreases-lines
decreases-lines l = length l.spot.lines
