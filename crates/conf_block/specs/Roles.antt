-- What a directive is by its name, and what its block holds.
use Rattle.std.specs.Prelude.{ℕ, List, [], ◌∷◌, Bool, true, false, ◌==◌, Option, None, Some, codes, bytes_eq, if◌then◌else◌}
use Rattle.conf_table.specs.declared.rule.Context.{Context}
use Rattle.conf_table.specs.declared.rule.Context.TheVariants as places
use Rattle.conf_text.specs.declared.directive.Directive.{Directive}
use Rattle.conf_table.specs.declared.role.Role.{Role}
use Rattle.conf_table.specs.declared.role.Role.TheVariants as roles
use Rattle.conf_table.specs.declared.rule.DirectiveRule.{DirectiveRule}
use Rattle.conf_table.specs.Table.{entry_of}
use Rattle.conf_block.specs.declared.role.Content.{Content}
use Rattle.conf_block.specs.declared.role.Content.TheVariants.{Directives, Closed, Lines}

-- a word by which a location is named: one that begins with `@`
abbrev pub is_named : List ℕ → Bool
is_named [] = false
is_named (b ∷ bs) = b == 64

abbrev pub role_by : Option DirectiveRule → Role
role_by None = roles.Other
role_by (Some rule) = rule.role

-- what a directive is by its name
unfoldable pub role_of : List ℕ → Role
role_of name = role_by (entry_of name)

-- the place in the block of an `if` that is here
abbrev pub place_in_if : Context → Context
place_in_if places.Top = places.ServerIf
place_in_if places.Events = places.ServerIf
place_in_if places.Http = places.ServerIf
place_in_if places.Server = places.ServerIf
place_in_if places.Location = places.LocationIf
place_in_if places.ServerIf = places.ServerIf
place_in_if places.LocationIf = places.LocationIf

-- A location with `=` or of a name holds no location.
abbrev pub is_closed : List (List ℕ) → Bool
is_closed [] = false
is_closed (word ∷ []) = is_named word
is_closed (modifier ∷ word ∷ words) = bytes_eq modifier (codes "=")

-- What the block of a directive that is here holds: directives in a place of their own, or the lines of `types`. Those
-- that have no block leave the place as it is.
abbrev pub content_of : Role → Context → List (List ℕ) → Content
content_of roles.Http here args = Directives places.Http
content_of roles.Events here args = Directives places.Events
content_of roles.Server here args = Directives places.Server
content_of roles.Location here args = if is_closed args then Closed else Directives places.Location
content_of roles.If here args = Directives (place_in_if here)
content_of roles.Types here args = Lines
content_of _ here args = Directives here

-- the place of directives that are among these
abbrev pub place_of : Content → Context
place_of (Directives here) = here
place_of Closed = places.Location
place_of Lines = places.Location

-- the directives of a level, and not the lines of `types`
abbrev pub are_directives : Content → Bool
are_directives (Directives here) = true
are_directives Closed = true
are_directives Lines = false

-- what the block of a directive holds that is among these
unfoldable pub content_inside : Content → Directive → Content
content_inside (Directives here) d = content_of (role_of d.name) here d.args
content_inside Closed d = content_of (role_of d.name) places.Location d.args
content_inside Lines d = Lines
