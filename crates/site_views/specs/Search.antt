-- Which location holds for a path (https://nginx.org/en/docs/http/ngx_http_core_module.html#location).
use Rattle.std.specs.Prelude.{ℕ, nat_eq, nat_le, Bool, true, false, List, length, Option, None, Some, bytes_eq, if◌then◌else◌, option_map}
use Rattle.std.specs.List.{starts_with, find}
use Rattle.site_views.specs.Pattern.{Finds, Span, groups_in}
use Rattle.site_views.specs.Views.{LevelView, Locations, Matching, ServerView}
use Rattle.site_views.specs.Views.Locations.{NoMore, Location}
use Rattle.site_views.specs.Views.Matching.{Exactly, Prefix, FirmPrefix, Regex}
use Rattle.site_views.specs.Choice.{or_else}

-- a location that was found, and the groups that a regular expression set, if one matched
pub record Found : Type 0 where
  pub level : LevelView
  pub groups : Option (List (List ℕ))

-- what the search of one list comes to: whether it ends all searching, and what it found
pub record Sought : Type 0 where
  pub ends : Bool
  pub found : Option Found

-- of one list: what matches exactly; the longest prefix, whether it is firm, and what its inner list comes to; and the first
-- regular expression that matches, with what its inner list gives
pub record LongestPrefix : Type 0 where
  pub size : ℕ
  pub firm : Bool
  pub level : LevelView
  pub inner : Sought

pub record Candidates : Type 0 where
  pub exact : Option Found
  pub prefix : Option LongestPrefix
  pub regex : Option Found

abbrev pub plain : LevelView → Found
plain level = record { level = level; groups = None }

-- what the inner list found, or else the location itself
abbrev pub inner_or : Option Found → Found → Found
inner_or None own = own
inner_or (Some found) own = found

-- a location by a regular expression: its inner list's location, whose groups hold where it set some
abbrev pub matched : LevelView → List (List ℕ) → Option Found → Found
matched level groups None = record { level = level; groups = Some groups }
matched level groups (Some inner) = record { level = inner.level; groups = or_else inner.groups (Some groups) }

abbrev pub longer : LongestPrefix → Option LongestPrefix → LongestPrefix
longer p None = p
longer p (Some q) = if nat_le q.size p.size then p else q

abbrev pub with_prefix : List ℕ → List ℕ → LongestPrefix → Candidates → Candidates
with_prefix path text p c = if starts_with nat_eq path text then record c { prefix = Some (longer p c.prefix) } else c

abbrev pub with_regex : List ℕ → LevelView → Option Found → Option (List Span) → Candidates → Candidates
with_regex path level inner None c = c
with_regex path level inner (Some spans) c = record c { regex = Some (matched level (groups_in path spans) inner) }

-- the candidates of a list whose first location is this one
abbrev pub with_location : Finds → List ℕ → LevelView → Matching → Sought → Candidates → Candidates
with_location finds path level (Exactly text) inner c = if bytes_eq text path then record c { exact = Some (plain level) } else c
with_location finds path level (Prefix text) inner c = with_prefix path text (record { size = length text; firm = false; level = level; inner = inner }) c
with_location finds path level (FirmPrefix text) inner c = with_prefix path text (record { size = length text; firm = true; level = level; inner = inner }) c
with_location finds path level (Regex pattern) inner c = with_regex path level inner.found (finds pattern path) c

-- what is remembered of the longest prefix: its inner list's location, or itself
abbrev pub remembered : LongestPrefix → Found
remembered p = inner_or p.inner.found (plain p.level)

-- the first regular expression ends the search; else what is remembered stays
abbrev pub by_regex : Option Found → Option Found → Sought
by_regex (Some found) other = record { ends = true; found = Some found }
by_regex None other = record { ends = false; found = other }

abbrev pub by_prefix : Option LongestPrefix → Option Found → Sought
by_prefix None regex = by_regex regex None
by_prefix (Some p) regex =
    if p.inner.ends then p.inner
    else (if p.firm then record { ends = false; found = Some (remembered p) } else by_regex regex (Some (remembered p)))

-- An equal `=` ends the search. The longest prefix's inner list is searched; an `=` or a regular expression found there ends
-- it. Unless that prefix is `^~`, the first regular expression is taken. Else what is remembered.
abbrev pub decided : Candidates → Sought
decided c = elim c.exact [
  | Some found ↦ record { ends = true; found = Some found }
  | None ↦ by_prefix c.prefix c.regex
]

abbrev pub nothing : Candidates
nothing = record { exact = None; prefix = None; regex = None }

unfoldable pub candidates : Finds → List ℕ → Locations → Candidates
candidates finds path NoMore = nothing
candidates finds path (Location here inner later) =
    with_location finds path here.level here.matching (decided (candidates finds path inner)) (candidates finds path later)

-- The location that holds for a path; none where the server's own level does.
unfoldable pub search : Finds → Locations → List ℕ → Option Found
search finds locations path = (decided (candidates finds path locations)).found

-- the level of a location `@name`
unfoldable pub named : ServerView → List ℕ → Option LevelView
named server name = option_map (λ n. n.level) (find (λ n. bytes_eq n.name name) server.named)
