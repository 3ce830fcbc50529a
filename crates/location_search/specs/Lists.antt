-- The locations of a server by lists: those that are in no other, and those in each. A location's number here is how many
-- locations come after it in the text, so what is in a location has a lower number.
use Rattle.std.specs.Prelude.{ℕ, nat_lt, Bool, true, false, List, [], ◌∷◌, length, flat_map, if◌then◌else◌}
use Rattle.pattern_search.specs.site_model.declared.site.LocationKind.{LocationKind}
use Rattle.pattern_search.specs.site_model.declared.site.LocationKind.TheVariants as kinds
use Rattle.pattern_search.specs.site_model.declared.site.Location.{Location as CodeLocation}
use Rattle.location_match.specs.declared.texts.NumberedText.{NumberedText}
use Rattle.location_search.specs.declared.node.PatternLocation.{PatternLocation}

-- a location of a list, with its number
pub record Member : Type 0 where
  pub number : ℕ
  pub here : CodeLocation

-- those of a level with those in them
pub data Numbered : Type 0 where
  NoneLeft : Numbered
  Nest : (number : ℕ) → (here : CodeLocation) → (inner later : Numbered) → Numbered

-- of the locations after one of this depth: those in it, up to the first that is no deeper; and those after them
unfoldable pub inside : (depth : ℕ) → Numbered → Numbered
inside depth NoneLeft = NoneLeft
inside depth (Nest n l inner later) = if nat_lt depth l.depth then Nest n l inner (inside depth later) else NoneLeft

unfoldable pub outside : (depth : ℕ) → Numbered → Numbered
outside depth NoneLeft = NoneLeft
outside depth (Nest n l inner later) = if nat_lt depth l.depth then outside depth later else Nest n l inner later

unfoldable pub numbered : List CodeLocation → Numbered
numbered [] = NoneLeft
numbered (l ∷ ls) = Nest (length ls) l (inside l.depth (numbered ls)) (outside l.depth (numbered ls))

-- the locations of the first level, in the order of the text
unfoldable pub members : Numbered → List Member
members NoneLeft = []
members (Nest n l inner later) = record { number = n; here = l } ∷ members later

-- ---- what a list is searched by

abbrev pub is_exactly : LocationKind → Bool
is_exactly kinds.Exactly = true
is_exactly kinds.Prefix = false
is_exactly kinds.FirmPrefix = false
is_exactly (kinds.Regex pattern) = false

abbrev pub is_prefix : LocationKind → Bool
is_prefix kinds.Exactly = false
is_prefix kinds.Prefix = true
is_prefix kinds.FirmPrefix = true
is_prefix (kinds.Regex pattern) = false

abbrev pub is_firm : LocationKind → Bool
is_firm kinds.Exactly = false
is_firm kinds.Prefix = false
is_firm kinds.FirmPrefix = true
is_firm (kinds.Regex pattern) = false

-- the text of a location of such a kind, with its number
abbrev pub text_of : (LocationKind → Bool) → Member → List NumberedText
text_of test m = if test m.here.kind then record { text = m.here.text; number = m.number } ∷ [] else []

abbrev pub pattern_in : LocationKind → ℕ → List PatternLocation
pattern_in kinds.Exactly number = []
pattern_in kinds.Prefix number = []
pattern_in kinds.FirmPrefix number = []
pattern_in (kinds.Regex pattern) number = record { pattern = pattern; number = number } ∷ []

abbrev pub pattern_of : Member → List PatternLocation
pattern_of m = pattern_in m.here.kind m.number

abbrev pub texts_in : (LocationKind → Bool) → List Member → List NumberedText
texts_in test ms = flat_map (text_of test) ms

abbrev pub patterns_in : List Member → List PatternLocation
patterns_in ms = flat_map pattern_of ms
