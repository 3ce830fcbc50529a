-- What a search of locations finds, as the meaning sees it, and the steps that it takes.
use Rattle.std.specs.Prelude.{◌≡◌, ℕ, nat_lt, Bool, true, false, not, List, Option, None, Some, option_map, slice_get, length, find, is_some, IfSome, if◌then◌else◌}
use Rattle.pattern_search.specs.site_model.declared.site.Site.{Site}
use Rattle.ngx_pattern.specs.Pattern.{Pattern as SetPattern, AllLieWithin}
use Rattle.pattern_search.specs.Found.{found_at}
use Rattle.pattern_search.specs.site_views.Pattern.{Pattern, Span, groups_in}
use Rattle.pattern_search.specs.site_views.Views.{Locations as LocationsView}
use Rattle.pattern_search.specs.site_views.Views.Locations.{NoMore, Location}
use Rattle.pattern_search.specs.site_views.Search.{Found, Sought, plain}
use Rattle.pattern_search.specs.site_whole.Whole.{level_whole, location_whole}
use Rattle.location_search.specs.Lists.{Numbered}
use Rattle.location_search.specs.Lists.Numbered.{NoneLeft, Nest}
use Rattle.location_search.specs.declared.node.PatternLocation.{PatternLocation}
use Rattle.location_search.specs.declared.node.Node.{Node}
use Rattle.location_search.specs.declared.search.FoundLocation.{FoundLocation}
use Rattle.location_search.specs.declared.search.Sought.{Sought as CodeSought}
use Rattle.location_search.specs.declared.search.Sought.TheVariants.{Ends, Remembers}

-- the locations, as the meaning sees them
unfoldable pub locations_in : List Pattern → Site → Numbered → LocationsView
locations_in patterns site NoneLeft = NoMore
locations_in patterns site (Nest n l inner later) =
    Location (location_whole patterns site l) (locations_in patterns site inner) (locations_in patterns site later)

-- ---- what was found

-- these are where groups of a match are in bytes
pub record AreSpans (bytes : List ℕ) (spans : List Span) : Type 0 where
  pub within : AllLieWithin (length bytes) spans
  pub ten : length spans ≡ 10

abbrev pub found_seen : List Pattern → Site → List ℕ → List Span → FoundLocation → Found
found_seen patterns site path spans f =
    record { level = level_whole patterns site f.level; groups = if f.matched then Some (groups_in path spans) else None }

-- where a regular expression matched, these are where its groups are
abbrev pub HasSpans : List ℕ → CodeSought → List Span → Type 0
HasSpans path (Ends f) spans = f.matched ≡ true → AreSpans path spans
HasSpans path (Remembers level) spans = Unit {0}

-- where the search ends, and where it goes on with what is remembered
abbrev pub sought_seen : List Pattern → Site → List ℕ → List Span → CodeSought → Sought
sought_seen patterns site path spans (Ends f) = record { ends = true; found = Some (found_seen patterns site path spans f) }
sought_seen patterns site path spans (Remembers level) =
    record { ends = false; found = option_map (λ n. plain (level_whole patterns site n)) level }

abbrev pub found_of : CodeSought → Option FoundLocation
found_of (Ends f) = Some f
found_of (Remembers level) = option_map (λ n. record { level = n; matched = false }) level

-- ---- the steps

-- the level of a location, and whether it is `^~`
abbrev pub level_at : List Node → ℕ → Option ℕ
level_at nodes number = option_map (λ (n : Node). n.level) (slice_get nodes number)

abbrev pub firm_of : Option Node → Bool
firm_of None = false
firm_of (Some n) = n.firm

abbrev pub is_firm_at : List Node → Option ℕ → Bool
is_firm_at nodes None = false
is_firm_at nodes (Some number) = firm_of (slice_get nodes number)

abbrev pub below : ℕ → Option ℕ → Option ℕ
below bound None = None
below bound (Some number) = if nat_lt number bound then Some number else None

-- this is the number of the first location whose pattern finds something, where that is below the bound, and the spans are
-- what it finds
pub record IsFirstMatch (patterns : List SetPattern) (path : List ℕ) (bound : ℕ) (list : List PatternLocation) (number : Option ℕ) (spans : List Span) : Type 0 where
  pub first : Option PatternLocation
  pub is : first ≡ find (λ l. is_some (found_at patterns l.pattern path)) list
  pub number_is : number ≡ below bound (option_map (λ l. l.number) first)
  pub finds : IfSome first (λ l. found_at patterns l.pattern path ≡ Some spans)

abbrev pub level_or : Option ℕ → ℕ → ℕ
level_or None own = own
level_or (Some level) own = level

-- what is remembered of a prefix: what its inner list comes to, or itself
abbrev pub remembering : Option ℕ → CodeSought → CodeSought
remembering prefix (Ends f) = Ends f
remembering None (Remembers level) = Remembers level
remembering (Some own) (Remembers level) = Remembers (Some (level_or level own))

-- regular expressions are tried
abbrev pub goes_on : CodeSought → Bool → Bool
goes_on (Ends f) firm = false
goes_on (Remembers level) firm = not firm

-- what a regular expression's location and its inner list give, and the spans whose groups hold
abbrev pub with_groups : ℕ → CodeSought → List Span → List Span → FoundLocation × List Span
with_groups own (Remembers level) spans inner = (record { level = level_or level own; matched = true }, spans)
with_groups own (Ends f) spans inner = (record { level = f.level; matched = true }, if f.matched then inner else spans)
