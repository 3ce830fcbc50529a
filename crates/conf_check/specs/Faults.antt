-- The faults of a directive alone, in the order in which they are looked for.
use Rattle.std.specs.Prelude.{ℕ, List, [], ◌∷◌, length, Bool, true, false, not, ◌&&◌, ◌||◌, nat_le, Option, None, Some, is_some, bytes_eq, codes, if◌then◌else◌}
use Rattle.std.specs.List.{list_any}
use Rattle.conf_text.specs.declared.directive.Directive.{Directive}
use Rattle.conf_text.specs.declared.fault.FaultKind.{FaultKind}
use Rattle.conf_text.specs.declared.fault.FaultKind.TheVariants.{Unknown, NotHere, Count, Duplicate, BadValue, BuiltinSet}
use Rattle.http_types.specs.declared.words.Addr.{Addr}
use Rattle.conf_table.specs.declared.rule.DirectiveRule.{DirectiveRule}
use Rattle.conf_table.specs.Rules.{has_place}
use Rattle.conf_table.specs.Table.{entry_of}
use Rattle.conf_table.specs.declared.role.Role.{Role}
use Rattle.conf_table.specs.declared.role.Role.TheVariants as roles
use Rattle.conf_block.specs.declared.role.Content.{Content}
use Rattle.ngx_variables.specs.Names.{is_builtin}
use Rattle.conf_values.specs.Settings.{are_values}
use Rattle.conf_values.specs.Listing.{are_listed}
use Rattle.conf_values.specs.Variables.{variable_in}
use Rattle.conf_values.specs.Listening.{listened_by, has_known_parameters, is_marked}
use Rattle.conf_values.specs.Texts.{is_text, is_folder_text}
use Rattle.conf_values.specs.Returning.{is_return}
use Rattle.rewrite_compile.specs.Conditions.{condition_of}
use Rattle.conf_block.specs.Roles.{role_of, place_of}
use Rattle.conf_check.specs.Ends.{same_addr}
use Rattle.conf_block.specs.Listening.{listens_of}
use Rattle.conf_block.specs.Locations.{Key, key_of, has_modifier, is_misplaced}
use Rattle.conf_check.specs.Keys.{same_key, keys_of}

-- no more words than the bound, if there is one
abbrev pub within : ℕ → Option ℕ → Bool
within n None = true
within n (Some most) = nat_le n most

abbrev pub same_bool : Bool → Bool → Bool
same_bool true b = b
same_bool false b = not b

-- as many words as the rule says, and a block exactly where one is due
abbrev pub is_counted : DirectiveRule → Directive → Bool
is_counted rule d =
    nat_le rule.least (length d.args) && (within (length d.args) rule.greatest && same_bool rule.block d.block)

-- one of these directives has the name
abbrev pub is_named : List ℕ → List Directive → Bool
is_named name ds = list_any (λ d. bytes_eq d.name name) ds

-- the same address again, no address, or a parameter that is none
abbrev pub listen_fault : (marked : Addr → Bool) → Option Addr → (earlier : List Addr) → List (List ℕ) → Option FaultKind
listen_fault marked None earlier args = Some BadValue
listen_fault marked (Some addr) earlier args =
    if list_any (λ a. same_addr a addr) earlier || (is_marked args && marked addr) then Some Duplicate
    else (if has_known_parameters args then None else Some BadValue)

-- a location like one before it, or a modifier that is none
abbrev pub location_fault : Option Key → (earlier : List Key) → List (List ℕ) → Option FaultKind
location_fault None earlier args = if has_modifier args then None else Some BadValue
location_fault (Some key) earlier args = if list_any (same_key key.0 key.1) earlier then Some Duplicate else None

-- values that are right, or not
abbrev pub unless : Bool → Option FaultKind
unless right = if right then None else Some BadValue

-- the first word has a value
abbrev pub first_word : (List ℕ → Bool) → List (List ℕ) → Bool
first_word test [] = false
first_word test (word ∷ words) = test word

abbrev pub begins_with_digit : List ℕ → Bool
begins_with_digit [] = false
begins_with_digit (b ∷ bs) = nat_le 49 b && nat_le b 57

-- a variable that is built in isn't set
abbrev pub named_fault : (known : List ℕ → Bool) → Option (List ℕ) → (text : List (List ℕ)) → Option FaultKind
named_fault known None text = Some BadValue
named_fault known (Some name) text =
    if is_builtin name then Some BuiltinSet
    else (if begins_with_digit name then Some BadValue else unless (first_word (is_text known) text))

abbrev pub set_fault : (known : List ℕ → Bool) → List (List ℕ) → Option FaultKind
set_fault known [] = Some BadValue
set_fault known (word ∷ words) = named_fault known (variable_in word) words

-- What is wrong with the values of a directive that comes after these of its level, where these names are those of the
-- variables that are set, and these addresses have a default server.
abbrev pub value_fault : (known : List ℕ → Bool) → (marked : Addr → Bool) → Role → (earlier : List Directive) → Directive → Option FaultKind
value_fault known marked roles.Listen earlier d = listen_fault marked (listened_by d.args) (listens_of earlier) d.args
value_fault known marked roles.Location earlier d = location_fault (key_of d.args) (keys_of earlier) d.args
value_fault known marked roles.Return earlier d = unless (is_return known d.args)
value_fault known marked roles.Root earlier d = unless (first_word (is_folder_text known) d.args)
value_fault known marked roles.Alias earlier d = unless (first_word (is_folder_text known) d.args)
value_fault known marked (roles.Setting setting) earlier d = unless (are_values setting d.args)
value_fault known marked (roles.Listing listing) earlier d = unless (are_listed known listing d.args)
value_fault known marked roles.Set earlier d = set_fault known d.args
value_fault known marked roles.If earlier d = unless (is_some (condition_of known d.args))
value_fault known marked _ earlier d = None

-- `root` and `alias` may not be beside each other
abbrev pub is_beside : Role → (earlier : List Directive) → Bool
is_beside roles.Root earlier = is_named (codes "alias") earlier
is_beside roles.Alias earlier = is_named (codes "root") earlier
is_beside _ earlier = false

abbrev pub rule_fault : (known : List ℕ → Bool) → (marked : Addr → Bool) → Option DirectiveRule → Content → (earlier : List Directive) → Directive → Option FaultKind
rule_fault known marked None here earlier d = Some Unknown
rule_fault known marked (Some rule) here earlier d =
    if not (has_place rule.places (place_of here)) || is_misplaced here (role_of d.name) d.args then Some NotHere
    else (if not (is_counted rule d) then Some Count
    else (if (not rule.many && is_named d.name earlier) || is_beside (role_of d.name) earlier then Some Duplicate
    else value_fault known marked (role_of d.name) earlier d))

-- What is wrong with a directive that is here, after these of its level: an unknown name, a place where it may not be,
-- a wrong number of words or a block, a second of its name where one alone may be, a wrong value.
unfoldable pub own_fault : (known : List ℕ → Bool) → (marked : Addr → Bool) → Content → (earlier : List Directive) → Directive → Option FaultKind
own_fault known marked here earlier d = rule_fault known marked (entry_of d.name) here earlier d
