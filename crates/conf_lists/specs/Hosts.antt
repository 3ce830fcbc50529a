-- The names of a server (https://nginx.org/en/docs/http/server_names.html), and the addresses whose default server it is.
use Rattle.std.specs.Prelude.{ℕ, ◌-◌, true, List, [], ◌∷◌, ◌++◌, map, length, take, drop, nat_eq, codes, if◌then◌else◌, Option, None, Some}
use Rattle.std.specs.List.{starts_with, ends_with}
use Rattle.http_types.specs.declared.words.Addr.{Addr}
use Rattle.ngx_variables.specs.Grammar.{lowercase}
use Rattle.site_views.specs.Views.{ServerName}
use Rattle.site_views.specs.Views.ServerName.{Whole, Ending, Beginning, WithSubdomains, Like}
use Rattle.conf_text.specs.declared.directive.Directive.{Directive}
use Rattle.conf_values.specs.Words.{begins_with}
use Rattle.conf_values.specs.Listening.{is_marked}
use Rattle.conf_table.specs.declared.role.Role.{Role}
use Rattle.conf_block.specs.Roles.{role_of}
use Rattle.conf_block.specs.Listening.{address_by, in_front}
use Rattle.conf_block.specs.Blocks.{Block}

-- a name in lower case: `*.x` by `.x`, `x.*` by `x.`, `.x`, or a whole name
abbrev pub plain_name : List ℕ → ServerName
plain_name text =
    if starts_with nat_eq text (codes "*.") then Ending (drop 1 text)
    else (if ends_with nat_eq text (codes ".*") then Beginning (take (length text - 1) text)
    else (if begins_with 46 text then WithSubdomains text else Whole text))

-- A word of `server_name`: a pattern after a `~`, in which letters match in either case, or a name.
unfoldable pub name_of : List ℕ → ServerName
name_of word = if begins_with 126 word then Like (record { text = drop 1 word; nocase = true }) else plain_name (lowercase word)

-- the names of directives of this name, in the order of the text
abbrev pub names_in : List Block → List ServerName
names_in [] = []
names_in (b ∷ blocks) = map name_of b.head.args ++ names_in blocks

-- the empty name, where none is stated
abbrev pub or_empty : List ServerName → List ServerName
or_empty [] = Whole [] ∷ []
or_empty (name ∷ names) = name ∷ names

-- a name as it is shown: as it is written, without a leading dot
abbrev pub shown : List ℕ → List ℕ
shown word = if begins_with 46 word then drop 1 word else word

-- the first name as it is shown, the empty one where none is stated
abbrev pub first_shown : Option (List ℕ) → List ℕ
first_shown None = []
first_shown (Some word) = shown word

-- the address of a directive, where it is a `listen` that is marked as the address's default server
abbrev pub marked_by : Role → Directive → Option Addr
marked_by role d = if is_marked d.args then address_by role d else None

-- the addresses whose default server the server with these directives is
abbrev pub marked_in : List Directive → List Addr
marked_in [] = []
marked_in (d ∷ ds) = in_front (marked_by (role_of d.name) d) (marked_in ds)
