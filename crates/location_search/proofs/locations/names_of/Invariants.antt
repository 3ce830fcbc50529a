use Rattle.std.proofs.Common.{◌≡◌, ◌++◌, drop}
use Rattle.location_search.proofs.Named.{texts_named}
use Rattle.location_search.proofs.locations.names_of.Given as goal

abbrev pub invariant-loop-location : goal.invariant-loop-location
invariant-loop-location l = l.names.items ++ texts_named (drop l.location-index l.locations) ≡ texts_named l.locations
