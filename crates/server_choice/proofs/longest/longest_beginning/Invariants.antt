use Rattle.std.proofs.Common.{◌≤◌, length}
use Rattle.server_choice.specs.Names.{number_of}
use Rattle.server_choice.proofs.Stars.{NonePast}
use Rattle.server_choice.proofs.longest.longest_beginning.Given as goal

abbrev pub invariant-loop-at : goal.invariant-loop-at
invariant-loop-at l = record {
  inside : l.at ≤ length l.host;
  none : NonePast l.host (number_of l.beginnings) l.at;
}

abbrev pub decreases-loop-at : goal.decreases-loop-at
decreases-loop-at l = l.at
