-- The name of a variable as a word of a directive (nginx's `set`).
use Rattle.std.specs.Prelude.{ℕ, List, [], ◌∷◌, Bool, false, ◌&&◌, ◌||◌, ◌==◌, Option, None, Some, if◌then◌else◌}
use Rattle.std.specs.List.{list_all}
use Rattle.site_model.specs.ngx_variables.Grammar.{is_name_byte, lowercase}
use Rattle.site_model.specs.ngx_variables.Names.{is_builtin}

-- bytes of a name, at least one
abbrev pub is_name : List ℕ → Bool
is_name [] = false
is_name (b ∷ bs) = list_all is_name_byte (b ∷ bs)

-- the variable of a word `$NAME`, in lower case
unfoldable pub variable_in : List ℕ → Option (List ℕ)
variable_in [] = None
variable_in (b ∷ bs) = if (b == 36) && is_name bs then Some (lowercase bs) else None

-- a variable that is built in, or one of the known names
abbrev pub is_known_name : (known : List ℕ → Bool) → Option (List ℕ) → Bool
is_known_name known None = false
is_known_name known (Some name) = is_builtin name || known name
