-- The addresses that the directives of a level listen on.
use Rattle.std.specs.Prelude.{List, [], ◌∷◌, Option, None, Some}
use Rattle.http_types.specs.declared.words.Addr.{Addr}
use Rattle.conf_text.specs.declared.directive.Directive.{Directive}
use Rattle.conf_values.specs.Listening.{wildcard, listened_by}
use Rattle.conf_table.specs.declared.role.Role.{Role}
use Rattle.conf_table.specs.declared.role.Role.TheVariants as roles
use Rattle.conf_block.specs.Roles.{role_of}

abbrev pub in_front : Option Addr → List Addr → List Addr
in_front None addrs = addrs
in_front (Some addr) addrs = addr ∷ addrs

-- a directive's address, where it is a `listen`
abbrev pub address_by : Role → Directive → Option Addr
address_by roles.Listen d = listened_by d.args
address_by _ d = None

-- the addresses of the `listen` directives among these
abbrev pub listens_of : List Directive → List Addr
listens_of [] = []
listens_of (d ∷ ds) = in_front (address_by (role_of d.name) d) (listens_of ds)

-- a server without a `listen` listens on port 80 of every IPv4 address
abbrev pub or_default : List Addr → List Addr
or_default [] = record { ip = wildcard; port = 80 } ∷ []
or_default (addr ∷ addrs) = addr ∷ addrs
