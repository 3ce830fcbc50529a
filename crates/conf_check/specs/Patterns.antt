-- The patterns of directives (nginx's regular expressions): of a location, of the names of a server, and of a rewrite program.
use Rattle.std.specs.Prelude.{◌≡◌, ℕ, Bool, true, false, List, [], ◌∷◌, ◌++◌, Option, None, Some, bytes_eq, codes, drop, Result, Ok, Err, if◌then◌else◌}
use Rattle.std.specs.List.{list_any}
use Rattle.conf_text.specs.declared.directive.Directive.{Directive}
use Rattle.conf_text.specs.declared.fault.FaultKind.{FaultKind}
use Rattle.conf_text.specs.declared.fault.FaultKind.TheVariants as kinds
use Rattle.conf_table.specs.declared.role.Role.{Role}
use Rattle.conf_table.specs.declared.role.Role.TheVariants as roles
use Rattle.conf_table.specs.declared.role.Listing.{Listing}
use Rattle.conf_table.specs.declared.role.Listing.TheVariants.{ServerName}
use Rattle.conf_values.specs.Words.{begins_with}
use Rattle.conf_block.specs.declared.role.Content.{Content}
use Rattle.conf_block.specs.Locations.{text_in}
use Rattle.conf_block.specs.Roles.{role_of, are_directives}
use Rattle.ngx_pattern.specs.Pattern.{Pattern, as_pattern}
use Rattle.ngx_pattern.specs.Makers.{Rose}
use Rattle.rewrite_compile.specs.declared.raw.Reading.{Reading}
use Rattle.rewrite_compile.specs.Readings.{reading_by}
use Rattle.rewrite_compile.specs.Programs.{patterns_by}
use Rattle.rewrite_compile.specs.Numbered.{is_bad}
use Rattle.conf_text.specs.declared.fault.ConfFault.{ConfFault}
use Rattle.conf_check.specs.declared.error.ReadError.{ReadError}
use Rattle.conf_check.specs.Gives.{FailsBy}
use Rattle.conf_check.specs.declared.patterns.Flaw.{Flaw}
use Rattle.conf_check.specs.declared.patterns.Flaw.TheVariants.{Bad, TooBig}

-- whether letters match in either case, where a location of these words is found by a regular expression
unfoldable pub regex_case : List (List ℕ) → Option Bool
regex_case [] = None
regex_case (word ∷ []) = None
regex_case (modifier ∷ word ∷ words) =
    if bytes_eq modifier (codes "~") then Some false
    else (if bytes_eq modifier (codes "~*") then Some true else None)

abbrev pub with_case : Option Bool → List ℕ → List Pattern
with_case None text = []
with_case (Some nocase) text = as_pattern text nocase ∷ []

abbrev pub location_patterns : List (List ℕ) → List Pattern
location_patterns args = with_case (regex_case args) (text_in args)

-- a name of a server that begins with `~` is a regular expression, in either case
abbrev pub name_pattern : List ℕ → Option (List ℕ)
name_pattern word = if begins_with 126 word then Some (drop 1 word) else None

abbrev pub patterns_of_name : Option (List ℕ) → List Pattern
patterns_of_name None = []
patterns_of_name (Some text) = as_pattern text true ∷ []

unfoldable pub name_patterns : List (List ℕ) → List Pattern
name_patterns [] = []
name_patterns (word ∷ words) = patterns_of_name (name_pattern word) ++ name_patterns words

abbrev pub reading_patterns : Option Reading → List Pattern
reading_patterns None = []
reading_patterns (Some reading) = patterns_by reading

abbrev pub listing_patterns : (known : List ℕ → Bool) → Listing → Directive → List Pattern
listing_patterns known ServerName d = name_patterns d.args
listing_patterns known _ d = reading_patterns (reading_by known d.name d.args)

-- the patterns of a directive, in their order
abbrev pub patterns_with : (known : List ℕ → Bool) → Role → Directive → List Pattern
patterns_with known roles.Location d = location_patterns d.args
patterns_with known (roles.Listing listing) d = listing_patterns known listing d
patterns_with known _ d = reading_patterns (reading_by known d.name d.args)

-- one of them has no expression
abbrev pub bad_among : List Pattern → Option FaultKind
bad_among patterns = if list_any is_bad patterns then Some kinds.Pattern else None

-- what is wrong with the patterns of a directive that is here
unfoldable pub pattern_fault : (known : List ℕ → Bool) → Content → Directive → Option FaultKind
pattern_fault known here d =
    if are_directives here then bad_among (patterns_with known (role_of d.name) d) else None

-- What was found wrong with patterns, by the maker's refusals before and after: none has no expression, and none was refused;
-- one has none; or the maker refused one.
abbrev pub Flawed : (before after : ℕ) → List Pattern → Option Flaw → Type 0
Flawed before after patterns None = (list_any is_bad patterns ≡ false) × (after ≡ before)
Flawed before after patterns (Some Bad) = list_any is_bad patterns ≡ true
Flawed before after patterns (Some TooBig) = Rose before after

-- what was said of a fault by a maker: all is right and none was refused, or it is the fault, or the maker refused a pattern
abbrev pub IsFlaw : (before after : ℕ) → Result (Unit {0}) ConfFault → Result (Unit {0}) ReadError → Type 0
IsFlaw before after meant (Ok u) = (meant ≡ Ok tt) × (after ≡ before)
IsFlaw before after meant (Err e) = FailsBy (Rose before after) e meant
