-- Where a set variable is read: each place of a value that has it.
use Rattle.std.specs.Prelude.{ℕ, zero, suc, ◌-◌, ◌&&◌, ◌||◌, max, Bool, true, false, not, List, [], ◌∷◌, bytes_eq, Option, None, Some}
use Rattle.std.specs.List.{list_any}
use Rattle.ngx_variables.specs.declared.value.Piece.{Piece}
use Rattle.ngx_variables.specs.declared.value.Piece.TheVariants.{Literal, Group, Builtin, Argument, Field, Cookie, Set as Variable}
use Rattle.ngx_variables.specs.Paths.{text_of}
use Rattle.family_meaning.specs.site_views.Values.{Values, Text, IndexName, Tries, LastTry, PageRule, PageTarget}
use Rattle.family_meaning.specs.site_views.Values.LastTry.{ToPath, ToLocation, ToCode}
use Rattle.family_meaning.specs.site_views.Values.PageTarget.{AtPath, AtLocation, AtUrl}
use Rattle.family_meaning.specs.site_views.Rewrites.{Test, Directive, Program}
use Rattle.family_meaning.specs.site_views.Rewrites.Test.{IsSet, Equals, Matches, OnFile}
use Rattle.family_meaning.specs.site_views.Rewrites.Directive.{Set, If, Rewrite, Return, Stop}

abbrev pub is_piece : List ℕ → Piece → Bool
is_piece name (Variable other) = bytes_eq other name
is_piece name (Literal bytes) = false
is_piece name (Group number) = false
is_piece name (Builtin variable) = false
is_piece name (Argument argument) = false
is_piece name (Field field) = false
is_piece name (Cookie cookie) = false

-- the variable is in the text
unfoldable pub in_text : List ℕ → Text → Bool
in_text name text = list_any (is_piece name) text

abbrev pub in_some : List ℕ → Option Text → Bool
in_some name None = false
in_some name (Some text) = in_text name text

-- ---- in values

abbrev pub in_last : List ℕ → LastTry → Bool
in_last name (ToPath text) = in_text name text
in_last name (ToLocation location) = false
in_last name (ToCode code) = false

abbrev pub in_tries : List ℕ → Option Tries → Bool
in_tries name None = false
in_tries name (Some t) = list_any (in_text name) t.names || in_last name t.last

abbrev pub in_target : List ℕ → PageTarget → Bool
in_target name (AtPath text) = in_text name text
in_target name (AtLocation location) = false
in_target name (AtUrl text) = in_text name text

-- it is read where files are sought, where names are tried, where errors go, and where `auth_request_set` sets another
unfoldable pub in_values : List ℕ → Values → Bool
in_values name v =
    in_text name (text_of v.place)
    || list_any (λ (i : IndexName). in_text name i.text) v.index
    || in_tries name v.tries
    || list_any (λ (r : PageRule). in_target name r.target) v.pages
    || list_any (λ (s : List ℕ × Text). in_text name s.1) v.auth_sets

-- ---- in programs

abbrev pub in_test : List ℕ → Test → Bool
in_test name (IsSet variable) = is_piece name variable
in_test name (Equals variable text) = is_piece name variable || in_text name text
in_test name (Matches variable pattern) = is_piece name variable
in_test name (OnFile test path) = in_text name path

-- the directive itself reads it
unfoldable pub in_directive : List ℕ → Directive → Bool
in_directive name (Set other text) = in_text name text
in_directive name (If test negated block values) = in_test name test
in_directive name (Rewrite pattern to is_url flag) = in_text name to
in_directive name (Return code text) = in_some name text
in_directive name Stop = false

-- how many more directives are in an `if` block after this one
abbrev pub block_after : ℕ → Directive → ℕ
block_after block (Set name text) = block - 1
block_after block (If test negated size values) = max size (block - 1)
block_after block (Rewrite pattern to is_url flag) = block - 1
block_after block (Return code text) = block - 1
block_after block Stop = block - 1

-- after this directive it was set whatever happened, and no file was tested since
abbrev pub settled_after : List ℕ → (settled : Bool) → (block : ℕ) → Directive → Bool
settled_after name settled zero (Set other text) = bytes_eq other name || settled
settled_after name settled (suc block) (Set other text) = settled
settled_after name settled block (If (OnFile test path) negated size values) = false
settled_after name settled block (If (IsSet variable) negated size values) = settled
settled_after name settled block (If (Equals variable text) negated size values) = settled
settled_after name settled block (If (Matches variable pattern) negated size values) = settled
settled_after name settled block (Rewrite pattern to is_url flag) = settled
settled_after name settled block (Return code text) = settled
settled_after name settled block Stop = settled

-- Each read of it in the program comes after an unconditional `set` of it there, with no file test between.
unfoldable pub is_private_in : List ℕ → (settled : Bool) → (block : ℕ) → Program → Bool
is_private_in name settled block [] = true
is_private_in name settled block (d ∷ program) =
    (settled || not (in_directive name d))
    && is_private_in name (settled_after name settled block d) (block_after block d) program
