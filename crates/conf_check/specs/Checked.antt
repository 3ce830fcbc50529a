-- The first fault of directives and of those in their blocks, in text order.
use Rattle.std.specs.Prelude.{ℕ, List, [], ◌∷◌, ◌++◌, Bool, true, false, Option, None, Some, Result, Ok, if◌then◌else◌}
use Rattle.conf_text.specs.declared.directive.Directive.{Directive}
use Rattle.conf_text.specs.declared.fault.FaultKind.{FaultKind}
use Rattle.conf_text.specs.declared.fault.FaultKind.TheVariants.{Count}
use Rattle.conf_text.specs.declared.fault.ConfFault.{ConfFault}
use Rattle.conf_block.specs.declared.role.Content.{Content}
use Rattle.conf_block.specs.declared.role.Content.TheVariants.{Directives, Closed, Lines}
use Rattle.conf_block.specs.Forest.{Forest, End, Branch}
use Rattle.conf_check.specs.Gives.{faulty, ◌>>=◌, ◌>>◌}
use Rattle.http_types.specs.declared.words.Addr.{Addr}
use Rattle.conf_values.specs.Listening.{listened_by, is_marked}
use Rattle.conf_table.specs.declared.role.Role.{Role}
use Rattle.conf_table.specs.declared.role.Role.TheVariants as roles
use Rattle.conf_block.specs.Roles.{role_of, content_inside, are_directives}
use Rattle.conf_check.specs.Ends.{with_end}
use Rattle.conf_check.specs.Faults.{own_fault}
use Rattle.conf_check.specs.Patterns.{pattern_fault}

-- a line of `types` has a type and its extensions, and no block
abbrev pub is_type_line : Directive → Bool
is_type_line d = elim d.args [ [] ↦ false | word ∷ words ↦ if d.block then false else true ]

abbrev pub line_fault : Directive → Option FaultKind
line_fault d = if is_type_line d then None else Some Count

-- what is wrong with a directive alone that is here, after these of its level
unfoldable pub fault_in : (known : List ℕ → Bool) → (marked : Addr → Bool) → Content → (earlier : List Directive) → Directive → Option FaultKind
fault_in known marked (Directives here) earlier d = own_fault known marked (Directives here) earlier d
fault_in known marked Closed earlier d = own_fault known marked Closed earlier d
fault_in known marked Lines earlier d = line_fault d

-- the address that a directive has a default server for
abbrev pub default_with : Role → Directive → Option Addr
default_with roles.Listen d = if is_marked d.args then listened_by d.args else None
default_with _ d = None

abbrev pub default_by : Content → Directive → Option Addr
default_by here d = if are_directives here then default_with (role_of d.name) d else None

-- The directives of a level that is here, after these of the same level, and those in their blocks, in text order: each
-- has no fault of its own, and then none of its patterns. `marked` are the addresses that have a default server before,
-- and what is answered are those that have one then.
unfoldable pub checked : (known : List ℕ → Bool) → (marked : Addr → Bool) → Content → (earlier : List Directive) → Forest → Result (Addr → Bool) ConfFault
checked known marked here earlier End = Ok marked
checked known marked here earlier (Branch d block beside) = do
  faulty d (fault_in known marked here earlier d)
  faulty d (pattern_fault known here d)
  inner ← checked known (with_end (default_by here d) marked) (content_inside here d) [] block
  checked known inner here (earlier ++ d ∷ []) beside
