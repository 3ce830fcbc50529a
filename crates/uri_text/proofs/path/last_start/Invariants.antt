use Rattle.std.proofs.Common.{◌≢◌, ◌<◌, ◌≤◌, ◌+◌, ℕ, get_or, length}
use Rattle.uri_text.proofs.path.last_start.Given as goal

abbrev pub invariant-loop-at : goal.invariant-loop-at
invariant-loop-at l = (0 < l.at) × (l.at < length l.text) × ((k : ℕ) → l.at ≤ k → k + 1 < length l.text → get_or l.text k 0 ≢ 47)

abbrev pub decreases-loop-at : goal.decreases-loop-at
decreases-loop-at l = l.at
