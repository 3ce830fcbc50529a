-- What a level has of patterns and of the levels around it, row by row: each is computed by the check.
use Rattle.std.specs.Prelude.{◌≡◌, ℕ, List, [], ◌∷◌, true, false, None, Some, Err, codes, refl}
use Rattle.ngx_variables.specs.declared.request.FileRoot.TheVariants.{Rest}
use Rattle.conf_text.specs.declared.directive.Directive.{Directive}
use Rattle.conf_text.specs.declared.fault.FaultKind.TheVariants.{Unknown, NotHere}
use Rattle.conf_table.specs.declared.role.Role.TheVariants as roles
use Rattle.conf_table.specs.declared.rule.Context.TheVariants.{Top}
use Rattle.conf_table.specs.Table.{entry_of, rule_in, rows, same_text}
use Rattle.conf_values.specs.Texts.{pieces_of}
use Rattle.conf_values.specs.Variables.{variable_in}
use Rattle.conf_block.specs.declared.role.Content.TheVariants.{Directives}
use Rattle.conf_block.specs.Forest.{End, forest_of, inside, outside}
use Rattle.conf_block.specs.Blocks.{blocks_of}
use Rattle.conf_check.specs.Gives.{fault_of, faulty, ◌>>=◌, ◌>>◌}
use Rattle.conf_check.specs.Names.{set_with}
use Rattle.conf_check.specs.Faults.{own_fault}
use Rattle.conf_check.specs.Checked.{checked, fault_in}
use Rattle.conf_check.specs.Faultless.{faultless, no_fault, no_server}
use Rattle.conf_check.specs.Patterns.{regex_case}
use Rattle.conf_lists.specs.Words.{index_name}
use Rattle.conf_lists.specs.Lists.{no_lists}
use Rattle.conf_inherit.specs.Values.{defaults, default_lists, auth_by, added_by, lists_over, over, stated}

-- ---- how locations are found by patterns

regex-1 : regex_case (codes "~" ∷ codes "/a" ∷ []) ≡ Some false
unfolding regex_case
regex-1 = refl

regex-2 : regex_case (codes "~*" ∷ codes "/a" ∷ []) ≡ Some true
unfolding regex_case
regex-2 = refl

regex-3 : regex_case (codes "^~" ∷ codes "/a" ∷ []) ≡ None
unfolding regex_case
regex-3 = refl

regex-4 : regex_case (codes "~" ∷ []) ≡ None
unfolding regex_case
regex-4 = refl

-- ---- a level over those around it

over-1 : lists_over (record no_lists { index = index_name (codes "b") ∷ [] }) default_lists ≡ record default_lists { index = index_name (codes "b") ∷ [] }
over-1 = refl

over-2 : lists_over (record no_lists { ssi_types = record { every = true; types = [] } }) (record default_lists { ssi_types = record { every = false; types = codes "a/b" ∷ [] } })
    ≡ record default_lists { ssi_types = record { every = true; types = [] } }
over-2 = refl

auth-1 : auth_by (codes "off") ≡ None
auth-1 = refl

auth-2 : auth_by (codes "/q?a=b") ≡ Some (codes "/q?a=b")
auth-2 = refl

added-1 : added_by [] ≡ None
added-1 = refl

added-2 : added_by (codes "off") ≡ Some (codes "off")
added-2 = refl

-- an `alias` around a level takes off the prefix of its own location there too
place-1 : (over (stated (Some (codes "/b/")) End) (record defaults { place = Rest (pieces_of (codes "/w/")) (codes "/a/") })).place ≡ Rest (pieces_of (codes "/w/")) (codes "/a/")
unfolding stated blocks_of
place-1 = refl

-- ---- faults

-- a directive on line 1
abbrev line : List ℕ → List (List ℕ) → Directive
line name args = record { name = name; args = args; file = 0; line = 1; depth = 0; block = false }

-- what a `set` sets is known
set-1 : set_with roles.Set (line (codes "set") (codes "$A" ∷ codes "1" ∷ [])) ≡ Some (codes "a")
unfolding variable_in
set-1 = refl

-- the place comes before the number of words
fault-1 : own_fault (λ name. false) (λ addr. false) (Directives Top) [] (line (codes "listen") []) ≡ Some NotHere
unfolding own_fault entry_of rule_in rows same_text
fault-1 = refl

-- the faults of directives come before that there is no server
fault-2 : faultless (line (codes "nothing") [] ∷ []) ≡ Err (fault_of (line (codes "nothing") []) Unknown)
unfolding faultless no_fault checked fault_in own_fault faulty ◌>>=◌ ◌>>◌ forest_of inside outside entry_of rule_in rows same_text
fault-2 = refl

fault-3 : faultless [] ≡ Err no_server
unfolding faultless no_fault checked ◌>>=◌ ◌>>◌ forest_of blocks_of
fault-3 = refl
