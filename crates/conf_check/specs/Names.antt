-- The variables that a configuration sets (nginx's `set` and `auth_request_set`).
use Rattle.std.specs.Prelude.{ℕ, List, [], ◌∷◌, Bool, false, ◌||◌, Option, None, Some, bytes_eq, if◌then◌else◌}
use Rattle.conf_values.specs.Variables.{variable_in}
use Rattle.conf_text.specs.declared.directive.Directive.{Directive}
use Rattle.conf_table.specs.declared.role.Role.{Role}
use Rattle.conf_table.specs.declared.role.Role.TheVariants as roles
use Rattle.conf_block.specs.declared.role.Content.{Content}
use Rattle.conf_block.specs.Forest.{Forest, End, Branch}
use Rattle.conf_block.specs.Roles.{role_of, content_inside, are_directives}

abbrev pub first_variable : List (List ℕ) → Option (List ℕ)
first_variable [] = None
first_variable (word ∷ words) = variable_in word

abbrev pub set_with : Role → Directive → Option (List ℕ)
set_with roles.Set d = if d.block then None else first_variable d.args
set_with _ d = None

-- the variable that a directive sets that is among these
abbrev pub set_by : Content → Directive → Option (List ℕ)
set_by here d = if are_directives here then set_with (role_of d.name) d else None

-- a name, or none
abbrev pub is_it : Option (List ℕ) → List ℕ → Bool
is_it None name = false
is_it (Some other) name = bytes_eq name other

-- one of the directives sets the variable, wherever it is
unfoldable pub is_set_in : Content → Forest → List ℕ → Bool
is_set_in here End name = false
is_set_in here (Branch d block beside) name =
    is_it (set_by here d) name || (is_set_in (content_inside here d) block name || is_set_in here beside name)
