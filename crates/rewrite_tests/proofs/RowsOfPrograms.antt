-- What levels make, row by row. Each is computed by the check.
use Rattle.std.specs.Prelude.{◌≡◌, ℕ, Bool, true, false, List, [], ◌∷◌, codes, bytes_eq, map, Option, None, Some, refl}
use Rattle.conf_text.specs.declared.directive.Directive.{Directive}
use Rattle.conf_text.specs.declared.fault.ConfFault.{ConfFault}
use Rattle.conf_text.specs.declared.fault.FaultKind.{FaultKind}
use Rattle.conf_text.specs.declared.fault.FaultKind.TheVariants.{BadValue, BuiltinSet}
use Rattle.ngx_variables.specs.Grammar.{name_size, bare_reference, braced_reference, tokens_behind, piece_named, compiled}
use Rattle.ngx_variables.specs.Names.{name_of, variables, variable_named, behind, is_builtin}
use Rattle.ngx_variables.specs.declared.value.Piece.TheVariants.{Literal, Group, Builtin, Set as Variable}
use Rattle.ngx_variables.specs.declared.variable.Variable.TheVariants.{Uri, Args}
use Rattle.site_model.specs.declared.program.FileTest.TheVariants.{IsFile}
use Rattle.site_model.specs.declared.program.Flag.TheVariants.{Last}
use Rattle.site_model.specs.declared.program.RewriteStep.{RewriteStep}
use Rattle.site_model.specs.declared.program.RewriteStep.TheVariants.{Set, If, Rewrite, Return, Stop}
use Rattle.site_model.specs.declared.program.Test.TheVariants.{Matches, OnFile}
use Rattle.conf_values.specs.Texts.{pieces_of, is_text}
use Rattle.conf_values.specs.Returning.{code_of, is_url}
use Rattle.conf_block.specs.Forest.{forest_of, inside, outside}
use Rattle.source_lines.specs.declared.line.Line.{Line}
use Rattle.rewrite_compile.specs.Words.{joined, trim_front, trim_back, within}
use Rattle.rewrite_compile.specs.Conditions.{text_in, file_word, operator, condition_in, condition_of}
use Rattle.rewrite_compile.specs.Readings.{name_in, flag_of, reading_by}
use Rattle.rewrite_compile.specs.Programs.{parts_of, first_fault, steps_from, line_at}

-- `$a` alone is set
abbrev known : List ℕ → Bool
known name = bytes_eq name (codes "a")

-- directives on lines of their own; those with a block at this depth
abbrev at : (depth line : ℕ) → List ℕ → List (List ℕ) → Directive
at depth line name args = record { name = name; args = args; file = 0; line = line; depth = depth; block = false }

abbrev with_block : (depth line : ℕ) → List ℕ → List (List ℕ) → Directive
with_block depth line name args = record { name = name; args = args; file = 0; line = line; depth = depth; block = true }

-- the program of a level whose patterns are numbered from 3 on, and its blocks from 7 on
abbrev in_location : List Directive → List RewriteStep
in_location ds = steps_from 3 (Some 7) (parts_of known (forest_of ds))

abbrev in_server : List Directive → List RewriteStep
in_server ds = steps_from 3 None (parts_of known (forest_of ds))

abbrev lines_in : List Directive → List Line
lines_in ds = map line_at (parts_of known (forest_of ds))

abbrev faulty : List Directive → Option ConfFault
faulty ds = first_fault (parts_of known (forest_of ds))

abbrev fault : FaultKind → (line : ℕ) → List ℕ → ConfFault
fault kind line name = record { kind = kind; file = 0; line = line; word = Some name }

-- ---- programs

rewrites : in_location (at 0 1 (codes "rewrite") (codes "^/o/(.*)$" ∷ codes "/n?x=$1" ∷ codes "last" ∷ []) ∷ [])
    ≡ Rewrite 3 (Literal (codes "/n?x=") ∷ Group 1 ∷ []) false Last ∷ []
unfolding steps_from parts_of forest_of inside outside reading_by flag_of is_url text_in is_text pieces_of compiled tokens_behind piece_named bare_reference braced_reference name_size variable_named variables name_of behind
rewrites = refl

returns : in_location (at 0 1 (codes "return") (codes "200" ∷ codes "$uri?$args" ∷ []) ∷ [])
    ≡ Return 200 (Some (Builtin Uri ∷ Literal (codes "?") ∷ Builtin Args ∷ [])) ∷ []
unfolding steps_from parts_of forest_of inside outside reading_by code_of is_url text_in is_text pieces_of compiled tokens_behind piece_named bare_reference braced_reference name_size variable_named variables name_of behind
returns = refl

closes : in_server (at 0 1 (codes "listen") (codes "80" ∷ []) ∷ at 0 1 (codes "return") (codes "444" ∷ []) ∷ []) ≡ Return 444 None ∷ []
unfolding steps_from parts_of forest_of inside outside reading_by code_of is_url
closes = refl

sets : in_location (at 0 1 (codes "set") (codes "$a" ∷ codes "xx" ∷ []) ∷ at 0 1 (codes "return") (codes "200" ∷ codes "$a$a" ∷ []) ∷ [])
    ≡ Set (codes "a") (Literal (codes "xx") ∷ []) ∷ Return 200 (Some (Variable (codes "a") ∷ Variable (codes "a") ∷ [])) ∷ []
unfolding steps_from parts_of forest_of inside outside reading_by name_in code_of is_url text_in is_text pieces_of compiled tokens_behind piece_named bare_reference braced_reference name_size variable_named variables name_of behind is_builtin
sets = refl

-- the block of an `if` comes after it, with its number; a location in the level is a level of its own
tests : in_server (with_block 0 1 (codes "if") (codes "(-f" ∷ codes "/w/up)" ∷ []) ∷ at 1 2 (codes "return") (codes "503" ∷ []) ∷ with_block 0 3 (codes "location") (codes "/" ∷ []) ∷ at 1 4 (codes "return") (codes "200" ∷ []) ∷ [])
    ≡ If (OnFile IsFile (Literal (codes "/w/up") ∷ [])) false 1 None ∷ Return 503 None ∷ []
unfolding steps_from parts_of forest_of inside outside reading_by condition_of condition_in joined within trim_front trim_back file_word operator code_of is_url text_in is_text pieces_of compiled tokens_behind piece_named bare_reference braced_reference name_size variable_named variables name_of behind
tests = refl

-- in a location each block has the next number, and each pattern
abbrev two_blocks : List Directive
two_blocks =
    with_block 0 1 (codes "if") (codes "($uri" ∷ codes "~" ∷ codes "^/a)" ∷ [])
    ∷ at 1 2 (codes "set") (codes "$a" ∷ codes "1" ∷ [])
    ∷ at 1 3 (codes "root") (codes "/w" ∷ [])
    ∷ at 1 4 (codes "break") []
    ∷ with_block 0 5 (codes "if") (codes "($uri" ∷ codes "!~*" ∷ codes "b$)" ∷ [])
    ∷ []

numbers : in_location two_blocks
    ≡ If (Matches (Builtin Uri) 3) false 2 (Some 7) ∷ Set (codes "a") (Literal (codes "1") ∷ []) ∷ Stop ∷ If (Matches (Builtin Uri) 4) true 0 (Some 8) ∷ []
unfolding steps_from parts_of forest_of inside outside reading_by name_in condition_of condition_in joined within trim_front trim_back file_word operator text_in is_text pieces_of compiled tokens_behind piece_named bare_reference braced_reference name_size variable_named variables name_of behind is_builtin
numbers = refl

lines : lines_in two_blocks ≡ record { file = 0; line = 1 } ∷ record { file = 0; line = 2 } ∷ record { file = 0; line = 4 } ∷ record { file = 0; line = 5 } ∷ []
unfolding parts_of forest_of inside outside reading_by name_in condition_of condition_in joined within trim_front trim_back file_word operator text_in is_text pieces_of compiled tokens_behind piece_named bare_reference braced_reference name_size variable_named variables name_of behind is_builtin
lines = refl

-- ---- faults

-- the first of two
first : faulty (at 0 1 (codes "set") (codes "$uri" ∷ codes "x" ∷ []) ∷ at 0 2 (codes "set") (codes "b" ∷ codes "x" ∷ []) ∷ []) ≡ Some (fault BuiltinSet 1 (codes "set"))
unfolding first_fault parts_of forest_of inside outside reading_by name_in text_in is_text pieces_of compiled tokens_behind piece_named bare_reference braced_reference name_size variable_named variables name_of behind is_builtin
first = refl

-- in one directive a value before a pattern
value_first : faulty (at 0 1 (codes "rewrite") ((0xFF ∷ []) ∷ codes "$none" ∷ []) ∷ []) ≡ Some (fault BadValue 1 (codes "rewrite"))
unfolding first_fault parts_of forest_of inside outside reading_by flag_of is_url text_in is_text pieces_of compiled tokens_behind piece_named bare_reference braced_reference name_size variable_named variables name_of behind is_builtin
value_first = refl

-- in a block
inner : faulty (with_block 0 1 (codes "if") (codes "($a)" ∷ []) ∷ at 1 2 (codes "return") (codes "99" ∷ []) ∷ at 0 3 (codes "return") (codes "1" ∷ []) ∷ []) ≡ Some (fault BadValue 2 (codes "return"))
unfolding first_fault parts_of forest_of inside outside reading_by condition_of condition_in joined within trim_front trim_back file_word operator code_of is_url text_in is_text pieces_of compiled tokens_behind piece_named bare_reference braced_reference name_size variable_named variables name_of behind is_builtin
inner = refl
