-- Patterns, and what a search for one finds. Nothing here depends on how patterns are read: the search is a parameter.
use Rattle.std.specs.Prelude.{ℕ, ◌-◌, Bool, List, [], take, drop, map, Option, None, Some}

-- a pattern as it is written: its text, and whether letters match in either case
pub record Pattern : Type 0 where
  pub text : List ℕ
  pub nocase : Bool

-- where something is in bytes, by its start and its end; none where it took no part in a match
abbrev pub Span : Type 0
Span = Option (ℕ × ℕ)

-- what a search for a pattern finds in bytes: none, or the spans of the match and of its groups 1 to 9
abbrev pub Finds : Type 0
Finds = Pattern → List ℕ → Option (List Span)

abbrev pub text_at : List ℕ → Span → List ℕ
text_at bytes None = []
text_at bytes (Some (start, end)) = take (end - start) (drop start bytes)

-- the texts of the groups of a match, the first group first; one that took no part is empty
-- (https://nginx.org/en/docs/http/ngx_http_rewrite_module.html#if)
unfoldable pub groups_in : List ℕ → List Span → List (List ℕ)
groups_in bytes spans = map (text_at bytes) (drop 1 spans)
