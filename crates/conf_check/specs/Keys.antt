-- Which locations are alike.
use Rattle.std.specs.Prelude.{ℕ, List, [], ◌∷◌, Bool, true, false, ◌&&◌, Option, None, Some, bytes_eq}
use Rattle.conf_text.specs.declared.directive.Directive.{Directive}
use Rattle.conf_table.specs.declared.role.Role.{Role}
use Rattle.conf_table.specs.declared.role.Role.TheVariants as roles
use Rattle.conf_block.specs.declared.location.Kind.{Kind}
use Rattle.conf_block.specs.declared.location.Kind.TheVariants.{Prefix, Exact, Named}
use Rattle.conf_block.specs.Roles.{role_of}
use Rattle.conf_block.specs.Locations.{Key, key_of}

abbrev pub same_kind : Kind → Kind → Bool
same_kind Prefix Prefix = true
same_kind Exact Exact = true
same_kind Named Named = true
same_kind _ _ = false

abbrev pub same_key : Kind → List ℕ → Key → Bool
same_key kind text key = same_kind kind key.0 && bytes_eq text key.1

abbrev pub key_by : Role → Directive → Option Key
key_by roles.Location d = key_of d.args
key_by _ d = None

abbrev pub in_front_key : Option Key → List Key → List Key
in_front_key None keys = keys
in_front_key (Some key) keys = key ∷ keys

-- what the locations among these are found by
abbrev pub keys_of : List Directive → List Key
keys_of [] = []
keys_of (d ∷ ds) = in_front_key (key_by (role_of d.name) d) (keys_of ds)
