use Rattle.std.proofs.Common.{◌≤◌, length, drop}
use Rattle.location_search.specs.Building.{IsBuilt}
use Rattle.location_search.proofs.build.tree_of.Given as goal

abbrev pub invariant-loop-at : goal.invariant-loop-at
invariant-loop-at l = record {
  inside : l.at ≤ length l.locations;
  built : IsBuilt l.nodes.items l.waiting.items (drop l.at l.locations);
}

abbrev pub decreases-loop-at : goal.decreases-loop-at
decreases-loop-at l = l.at
