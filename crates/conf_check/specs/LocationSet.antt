-- What the locations before one are found by.
use Rattle.std.specs.Prelude.{ℕ, List, Bool}
use Rattle.conf_values.specs.TextSet.{holds}
use Rattle.conf_block.specs.declared.location.Kind.{Kind}
use Rattle.conf_block.specs.declared.location.Kind.TheVariants.{Prefix, Exact, Named}
use Rattle.conf_check.specs.declared.locations.LocationSet.{LocationSet}

-- a location like it is in the set
abbrev pub has_location : LocationSet → Kind → List ℕ → Bool
has_location set Prefix text = holds set.prefix.keys text
has_location set Exact text = holds set.exact.keys text
has_location set Named text = holds set.named.keys text
