-- The words of `location` (nginx's core module): a text, after a modifier or alone.
use Rattle.std.specs.Prelude.{ℕ, List, [], ◌∷◌, Bool, true, false, not, ◌&&◌, ◌||◌, Option, None, Some, bytes_eq, codes, if◌then◌else◌}
use Rattle.conf_table.specs.declared.rule.Context.{Context}
use Rattle.conf_table.specs.declared.rule.Context.TheVariants as places
use Rattle.conf_table.specs.declared.role.Role.{Role}
use Rattle.conf_table.specs.declared.role.Role.TheVariants as roles
use Rattle.conf_block.specs.declared.role.Content.{Content}
use Rattle.conf_block.specs.declared.role.Content.TheVariants.{Directives, Closed}
use Rattle.conf_block.specs.declared.location.Kind.{Kind}
use Rattle.conf_block.specs.declared.location.Kind.TheVariants.{Prefix, Exact, Named}
use Rattle.conf_text.specs.declared.directive.Directive.{Directive}
use Rattle.conf_block.specs.Roles.{is_named, role_of}

-- what a location is found by: no two locations of a level may have the same
abbrev pub Key : Type 0
Key = Kind × List ℕ

abbrev pub kind_by : (modifier : List ℕ) → Option Kind
kind_by modifier =
    if bytes_eq modifier (codes "=") then Some Exact
    else (if bytes_eq modifier (codes "^~") then Some Prefix else None)

abbrev pub key_with : Option Kind → List ℕ → Option Key
key_with None text = None
key_with (Some kind) text = Some (kind, text)

-- Those with a prefix, with `^~` or without, are of one kind, those with `=` of another, and those of a name of a
-- third; of those with a regular expression a level may have several that are alike.
unfoldable pub key_of : List (List ℕ) → Option Key
key_of [] = None
key_of (word ∷ []) = Some (if is_named word then Named else Prefix, word)
key_of (modifier ∷ word ∷ []) = key_with (kind_by modifier) word
key_of (modifier ∷ word ∷ other ∷ words) = None

-- a word alone, or a text after one of the modifiers
unfoldable pub has_modifier : List (List ℕ) → Bool
has_modifier [] = false
has_modifier (word ∷ []) = true
has_modifier (modifier ∷ words) =
    bytes_eq modifier (codes "=") || (bytes_eq modifier (codes "^~") || (bytes_eq modifier (codes "~") || bytes_eq modifier (codes "~*")))

-- the one word is the location's name
abbrev pub has_name : List (List ℕ) → Bool
has_name [] = false
has_name (word ∷ []) = is_named word
has_name (modifier ∷ word ∷ words) = false

-- the one word is a prefix
abbrev pub is_plain : List (List ℕ) → Bool
is_plain [] = false
is_plain (word ∷ []) = if is_named word then false else true
is_plain (modifier ∷ word ∷ words) = false

abbrev pub is_location : Context → Bool
is_location places.Location = true
is_location _ = false

-- A location that may not be here, though others may: a location of a name in another, and any in one that is closed.
abbrev pub is_misplaced : Content → Role → List (List ℕ) → Bool
is_misplaced Closed roles.Location args = true
is_misplaced (Directives here) roles.Location args = is_location here && has_name args
is_misplaced _ _ args = false

-- the text of a location
abbrev pub text_in : List (List ℕ) → List ℕ
text_in [] = []
text_in (word ∷ []) = word
text_in (modifier ∷ word ∷ words) = word

-- The text that is taken off a path under `alias`: the location's own, none in one of a name; with a regular expression `alias`
-- is the whole path.
unfoldable pub alias_prefix : List (List ℕ) → Option (List ℕ)
alias_prefix [] = Some []
alias_prefix (word ∷ []) = Some (if is_named word then [] else word)
alias_prefix (modifier ∷ word ∷ words) = if bytes_eq modifier (codes "~") || bytes_eq modifier (codes "~*") then None else Some word

abbrev pub is_location_as : Role → (named : Bool) → List (List ℕ) → Bool
is_location_as roles.Location named args = if named then has_name args else not (has_name args)
is_location_as _ named args = false

-- a location: of a name, or one that a path finds
abbrev pub is_found : (named : Bool) → Directive → Bool
is_found named d = is_location_as (role_of d.name) named d.args
