-- Which variables the race check names.
use Rattle.std.specs.Prelude.{◌≡◌, ℕ, ◌==◌, ◌&&◌, ◌||◌, Bool, true, false, not, List, [], ◌∷◌, bytes_eq, flat_map, is_some, if◌then◌else◌}
use Rattle.std.specs.List.{list_any, list_all}
use Rattle.ngx_variables.specs.declared.variable.Variable.{Variable}
use Rattle.ngx_variables.specs.declared.variable.Variable.TheVariants.{Uri, DocumentUri, Args, QueryString, IsArgs, DocumentRoot, RequestFilename}
use Rattle.ngx_variables.specs.declared.value.Piece.{Piece}
use Rattle.ngx_variables.specs.declared.value.Piece.TheVariants.{Literal, Group, Builtin, Argument, Field, Cookie, Set as SetVariable}
use Rattle.ngx_variables.specs.Names.{name_of}
use Rattle.family_meaning.specs.request_meaning.Documents.{is_visible}
use Rattle.family_meaning.specs.site_views.Values.{Values, Text}
use Rattle.family_meaning.specs.site_views.Rewrites.{Directive, Program}
use Rattle.family_meaning.specs.site_views.Rewrites.Directive.{Set, If, Rewrite, Return, Stop}
use Rattle.family_meaning.specs.site_views.Views.{ServerView}
use Rattle.race_meaning.specs.Levels.{programs, all_values}
use Rattle.race_meaning.specs.Reads.{in_values, is_private_in}

-- ---- open servers

abbrev pub has_parts : Values → Bool
has_parts v = v.ssi || is_some v.before || is_some v.after

-- one of its levels has server side includes or additions
unfoldable pub is_open : ServerView → Bool
is_open server = list_any has_parts (all_values server)

-- ---- fixed variables

-- the texts that the server's `set`s give it
abbrev pub set_text : List ℕ → Directive → List Text
set_text name (Set other text) = if bytes_eq other name then text ∷ [] else []
set_text name (If test negated block values) = []
set_text name (Rewrite pattern to is_url flag) = []
set_text name (Return code text) = []
set_text name Stop = []

unfoldable pub set_texts : ServerView → List ℕ → List Text
set_texts server name = flat_map (λ program. flat_map (set_text name) program) (programs server)

-- the `set`s that begin a program set it
unfoldable pub begins_with_set : List ℕ → Program → Bool
begins_with_set name [] = false
begins_with_set name (Set other text ∷ program) = bytes_eq other name || begins_with_set name program
begins_with_set name (If test negated block values ∷ program) = false
begins_with_set name (Rewrite pattern to is_url flag ∷ program) = false
begins_with_set name (Return code text ∷ program) = false
begins_with_set name (Stop ∷ program) = false

-- a built-in variable that is the main request's in every subrequest
abbrev pub is_of_main : Variable → Bool
is_of_main Uri = false
is_of_main DocumentUri = false
is_of_main Args = false
is_of_main QueryString = false
is_of_main IsArgs = false
is_of_main DocumentRoot = false
is_of_main RequestFilename = false
is_of_main other = true

abbrev pub is_steady_piece : Piece → Bool
is_steady_piece (Literal bytes) = true
is_steady_piece (Group number) = false
is_steady_piece (Builtin variable) = is_of_main variable
is_steady_piece (Argument name) = false
is_steady_piece (Field name) = true
is_steady_piece (Cookie name) = true
is_steady_piece (SetVariable name) = false

abbrev pub same_piece : Piece → Piece → Bool
same_piece (Literal a) (Literal b) = bytes_eq a b
same_piece (Group a) (Group b) = a == b
same_piece (Builtin a) (Builtin b) = bytes_eq (name_of a) (name_of b)
same_piece (Argument a) (Argument b) = bytes_eq a b
same_piece (Field a) (Field b) = bytes_eq a b
same_piece (Cookie a) (Cookie b) = bytes_eq a b
same_piece (SetVariable a) (SetVariable b) = bytes_eq a b
same_piece a b = false

unfoldable pub same_text : Text → Text → Bool
same_text [] [] = true
same_text (a ∷ s) (b ∷ t) = same_piece a b && same_text s t
same_text [] (b ∷ t) = false
same_text (a ∷ s) [] = false

-- one text of literals and variables of the main request
abbrev pub is_one_text : List Text → Bool
is_one_text [] = false
is_one_text (text ∷ texts) = list_all is_steady_piece text && list_all (same_text text) texts

abbrev pub auth_sets_it : List ℕ → Values → Bool
auth_sets_it name v = list_any (λ (s : List ℕ × Text). bytes_eq s.0 name) v.auth_sets

-- No `auth_request_set` of the server names it, all its `set`s have one such text, and one of them is in the run of `set`s
-- that begins the server's program.
unfoldable pub is_fixed : ServerView → List ℕ → Bool
is_fixed server name =
    not (list_any (auth_sets_it name) (all_values server))
    && is_one_text (set_texts server name)
    && begins_with_set name server.level.program

-- ---- reads that others can change

-- every read of it is in a program, after a `set` of its own
unfoldable pub is_private : ServerView → List ℕ → Bool
is_private server name =
    not (list_any (in_values name) (all_values server)) && list_all (is_private_in name false 0) (programs server)

-- documents may read it
unfoldable pub is_shown : ServerView → List ℕ → Bool
is_shown server name = list_any (λ (v : Values). v.ssi) (all_values server) && is_visible server.visible name

-- a `set` of the server sets it
abbrev pub is_some_text : List Text → Bool
is_some_text [] = false
is_some_text (text ∷ texts) = true

unfoldable pub is_set : ServerView → List ℕ → Bool
is_set server name = is_some_text (set_texts server name)

-- The check names it: the server is open, a `set` sets it, it isn't fixed, and documents may read it or some read isn't private.
unfoldable pub is_named : ServerView → List ℕ → Bool
is_named server name = is_open server && is_set server name && not (is_fixed server name) && (is_shown server name || not (is_private server name))

-- no variable is named
abbrev pub IsRaceless : ServerView → Type 0
IsRaceless server = (name : List ℕ) → is_named server name ≡ false
