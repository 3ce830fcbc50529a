-- What the patterns of a site find: the meaning of regular expressions, as the recursive meaning asks for it.
use Rattle.std.specs.Prelude.{ℕ, Bool, true, false, List, map, Option, None, Some}
use Rattle.regex.specs.Patterns.{Match}
use Rattle.ngx_pattern.specs.Pattern.{Pattern as SetPattern, as_pattern, match_of, spans_of}
use Rattle.site_views.specs.Pattern.{Pattern, Span, Finds}
use Rattle.site_whole.specs.Whole.{pattern_at}

-- the pattern of a set as a site has it
abbrev pub pattern_seen : SetPattern → Pattern
pattern_seen p = record { text = p.text; nocase = p.nocase }

abbrev pub patterns_seen : List SetPattern → List Pattern
patterns_seen patterns = map pattern_seen patterns

-- the spans of a match, where there is one
abbrev pub spans_found : Option Match → Option (List Span)
spans_found None = None
spans_found (Some m) = Some (spans_of (Some m))

-- the leftmost match of a pattern, by the first way that works, and its groups 1 to 9
unfoldable pub found : Finds
found p bytes = spans_found (match_of (as_pattern p.text p.nocase) bytes)

-- what the pattern with this number finds
abbrev pub found_at : List SetPattern → ℕ → List ℕ → Option (List Span)
found_at patterns number bytes = found (pattern_at (patterns_seen patterns) number) bytes

-- the spans of a search, where it found something
abbrev pub spans_if : Bool → List Span → Option (List Span)
spans_if true spans = Some spans
spans_if false spans = None
