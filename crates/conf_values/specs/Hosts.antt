-- The words of `server_name` (https://nginx.org/en/docs/http/server_names.html).
use Rattle.std.specs.Prelude.{ℕ, ◌-◌, List, [], length, take, drop, ◌==◌, nat_eq, Bool, false, not, ◌&&◌, ◌||◌, Option, None, Some, codes, bytes_eq, if◌then◌else◌}
use Rattle.std.specs.List.{starts_with, ends_with, list_any}
use Rattle.conf_values.specs.Words.{begins_with}

-- the name without its `*.`, `.*` or `.`; a name has one star at most, and no point with a star after it
abbrev pub front_body : List ℕ → Option (List ℕ)
front_body text = if begins_with 46 text then None else Some text

abbrev pub name_body : List ℕ → Option (List ℕ)
name_body word =
    if starts_with nat_eq word (codes "*.") then Some (drop 2 word)
    else (if ends_with nat_eq word (codes ".*") then front_body (take (length word - 2) word)
    else (if begins_with 46 word then Some (drop 1 word) else Some word))

-- some bytes, and no star
abbrev pub is_body : Option (List ℕ) → Bool
is_body None = false
is_body (Some text) = not (bytes_eq text []) && not (list_any (λ b. b == 42) text)

-- A name, `*.x`, `x.*`, `.x` or the empty name; or a pattern, which isn't looked at yet.
unfoldable pub is_server_name : List ℕ → Bool
is_server_name word = begins_with 126 word || (bytes_eq word [] || is_body (name_body word))
