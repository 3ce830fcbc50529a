use Rattle.std.proofs.Common.{◌≡◌, ◌++◌, List, drop}
use Rattle.race_places.specs.Index.{at}
use Rattle.race_places.specs.Places.{ArePlaced}
use Rattle.race_places.specs.declared.told.Conflict.{Conflict}
use Rattle.race_places.proofs.told.push_placed.Given as goal

abbrev pub invariant-loop-named : goal.invariant-loop-named
invariant-loop-named l =
    (later : List Conflict) → ArePlaced (at l.sets) (at l.reads) (drop l.named-index l.all) later →
    (here : List Conflict) × ArePlaced (at l.sets) (at l.reads) l.all here × (l.conflicts.items ++ later ≡ l.fn.conflicts.items ++ here)
