use Rattle.std.proofs.Common.{◌+◌, ◌<◌, ◌≤◌, length}
use Rattle.location_match.specs.Prefixes.{depth_at, Covers}
use Rattle.location_match.specs.Entries.{texts_of}
use Rattle.location_match.proofs.prefixes.longest_from.Given as goal

abbrev pub invariant-loop-entry : goal.invariant-loop-entry
invariant-loop-entry g l = record {
  inside : l.place < length l.entries;
  covers : Covers (texts_of l.entries) l.path l.place;
  counted : l.fn.steps ≤ l.steps;
  cost : l.steps + depth_at (texts_of l.entries) l.place ≤ l.fn.steps + depth_at (texts_of l.entries) l.from;
}

abbrev pub decreases-loop-entry : goal.decreases-loop-entry
decreases-loop-entry g l = l.place
