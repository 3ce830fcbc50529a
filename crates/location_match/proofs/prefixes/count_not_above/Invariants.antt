use Rattle.std.proofs.Common.{◌-◌, ◌≡◌, ℕ, ◌<◌, ◌≤◌, true, false, length}
use Rattle.location_match.specs.Prefixes.{text_at, is_at_most}
use Rattle.location_match.specs.Entries.{texts_of}
use Rattle.location_match.proofs.Halves.{IsHalving}
use Rattle.location_match.proofs.Nearest.{Bounds}
use Rattle.location_match.proofs.prefixes.count_not_above.Given as goal

abbrev pub invariant-loop-low : goal.invariant-loop-low
invariant-loop-low g l = record {
  ordered : l.low ≤ l.high;
  inside : l.high ≤ length l.entries;
  below : (i : ℕ) → i < l.low → is_at_most (text_at (texts_of l.entries) i) l.path ≡ true;
  above : (i : ℕ) → l.high ≤ i → i < length l.entries → is_at_most (text_at (texts_of l.entries) i) l.path ≡ false;
  bounds : Bounds (texts_of l.entries) l.path l.low l.high l.below l.above l.floor;
  halved : IsHalving (length l.entries) (l.high - l.low) l.fn.steps l.steps;
}

abbrev pub decreases-loop-low : goal.decreases-loop-low
decreases-loop-low g l = l.high - l.low
