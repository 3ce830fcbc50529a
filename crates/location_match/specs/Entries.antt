-- What the entries of a list of prefixes show.
use Rattle.std.specs.Prelude.{ℕ, List, Option, map}
use Rattle.location_match.specs.Prefixes.{PrefixList, AreSorted, AreNested}
use Rattle.location_match.specs.Shared.{AllShare}
use Rattle.location_match.specs.declared.prefixes.PrefixEntry.{PrefixEntry}

abbrev pub texts_of : List PrefixEntry → List (List ℕ)
texts_of = map (λ e. e.text)

abbrev pub list_of : List PrefixEntry → PrefixList
list_of entries = record { texts = texts_of entries; locations = map (λ e. e.location) entries }

abbrev pub nearest_of : List PrefixEntry → List (Option ℕ)
nearest_of = map (λ e. e.nearest)

-- they are in order, each with its nearest place
pub record AreSound (entries : List PrefixEntry) : Type 0 where
  pub sorted : AreSorted (texts_of entries)
  pub nested : AreNested (texts_of entries) (nearest_of entries)

-- and share this many bytes
pub record IsSoundList (entries : List PrefixEntry) (common : ℕ) : Type 0 where
  pub sound : AreSound entries
  pub shared : AllShare (texts_of entries) common
