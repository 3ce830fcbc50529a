-- What the words of rewrite directives say, row by row. Each is computed by the check.
use Rattle.std.specs.Prelude.{◌≡◌, ℕ, Bool, true, false, List, [], ◌∷◌, codes, bytes_eq, None, Some, refl}
use Rattle.conf_text.specs.declared.fault.FaultKind.TheVariants.{BadValue, BuiltinSet}
use Rattle.ngx_variables.specs.Grammar.{name_size, bare_reference, braced_reference, tokens_behind, piece_named, compiled}
use Rattle.ngx_variables.specs.Names.{name_of, variables, variable_named, behind, is_builtin}
use Rattle.ngx_variables.specs.declared.value.Piece.TheVariants.{Literal, Group, Builtin, Set as Variable}
use Rattle.ngx_variables.specs.declared.variable.Variable.TheVariants.{Uri, Host, Scheme}
use Rattle.site_model.specs.declared.program.FileTest.TheVariants.{IsFile, IsThere}
use Rattle.site_model.specs.declared.program.Flag.TheVariants.{NoFlag, Last}
use Rattle.conf_values.specs.Texts.{pieces_of, is_text}
use Rattle.conf_values.specs.Returning.{code_of, is_url}
use Rattle.rewrite_compile.specs.declared.raw.Reading.{Reading}
use Rattle.rewrite_compile.specs.declared.raw.Reading.TheVariants.{Step, Wrong}
use Rattle.rewrite_compile.specs.declared.raw.RawStep.TheVariants.{Set, If, Rewrite, Return, Stop}
use Rattle.rewrite_compile.specs.declared.raw.RawTest.TheVariants.{IsSet, Equals, Matches, OnFile}
use Rattle.rewrite_compile.specs.Words.{joined, trim_front, trim_back, within}
use Rattle.rewrite_compile.specs.Conditions.{text_in, file_word, operator, condition_in, condition_of}
use Rattle.rewrite_compile.specs.Readings.{name_in, flag_of, set_reading, if_reading, rewrite_reading, return_reading, break_reading}

-- `$x` alone is set
abbrev known : List ℕ → Bool
known name = bytes_eq name (codes "x")

abbrev sets : List (List ℕ) → Reading
sets words = set_reading known words

set-1 : sets (codes "$X" ∷ codes "a$x" ∷ []) ≡ Step (Set (codes "x") (Literal (codes "a") ∷ Variable (codes "x") ∷ []))
unfolding name_in text_in is_text pieces_of compiled tokens_behind piece_named bare_reference braced_reference name_size variable_named variables name_of behind is_builtin
set-1 = refl

-- built in; no name; like a group; a variable that nothing sets
set-2 : sets (codes "$host" ∷ codes "a" ∷ []) ≡ Wrong BuiltinSet
unfolding name_in text_in is_text pieces_of compiled tokens_behind piece_named bare_reference braced_reference name_size variable_named variables name_of behind is_builtin
set-2 = refl

set-3 : sets (codes "$1" ∷ codes "a" ∷ []) ≡ Wrong BuiltinSet
unfolding name_in text_in is_text pieces_of compiled tokens_behind piece_named bare_reference braced_reference name_size variable_named variables name_of behind is_builtin
set-3 = refl

set-4 : sets (codes "x" ∷ codes "a" ∷ []) ≡ Wrong BadValue
unfolding name_in
set-4 = refl

set-5 : sets (codes "$10" ∷ codes "a" ∷ []) ≡ Wrong BadValue
unfolding name_in text_in is_text pieces_of compiled tokens_behind piece_named bare_reference braced_reference name_size variable_named variables name_of behind is_builtin
set-5 = refl

set-6 : sets (codes "$x" ∷ codes "$y" ∷ []) ≡ Wrong BadValue
unfolding name_in text_in is_text pieces_of compiled tokens_behind piece_named bare_reference braced_reference name_size variable_named variables name_of behind is_builtin
set-6 = refl

-- ---- conditions

if-1 : if_reading known (codes "($x)" ∷ []) ≡ Step (If (record { test = IsSet (Variable (codes "x")); negated = false }))
unfolding condition_of condition_in joined within trim_front trim_back file_word operator text_in is_text pieces_of compiled tokens_behind piece_named bare_reference braced_reference name_size variable_named variables name_of behind
if-1 = refl

if-2 : if_reading known (codes "(" ∷ codes "$uri" ∷ codes "!=" ∷ codes "/a b" ∷ codes ")" ∷ []) ≡ Step (If (record { test = Equals (Builtin Uri) (Literal (codes "/a b") ∷ []); negated = true }))
unfolding condition_of condition_in joined within trim_front trim_back file_word operator text_in is_text pieces_of compiled tokens_behind piece_named bare_reference braced_reference name_size variable_named variables name_of behind
if-2 = refl

if-3 : if_reading known (codes "($uri" ∷ codes "!~*" ∷ codes "^/a" ∷ codes ")" ∷ []) ≡ Step (If (record { test = Matches (Builtin Uri) (record { text = codes "^/a"; nocase = true }); negated = true }))
unfolding condition_of condition_in joined within trim_front trim_back file_word operator text_in is_text pieces_of compiled tokens_behind piece_named bare_reference braced_reference name_size variable_named variables name_of behind
if-3 = refl

if-4 : if_reading known (codes "(!-e" ∷ codes "$uri)" ∷ []) ≡ Step (If (record { test = OnFile IsThere (Builtin Uri ∷ []); negated = true }))
unfolding condition_of condition_in joined within trim_front trim_back file_word operator text_in is_text pieces_of compiled tokens_behind piece_named bare_reference braced_reference name_size variable_named variables name_of behind
if-4 = refl

-- no parentheses; no variable; no operator
if-5 : if_reading known (codes "$x" ∷ []) ≡ Wrong BadValue
unfolding condition_of joined within
if-5 = refl

if-6 : if_reading known (codes "(x" ∷ codes "=" ∷ codes "y)" ∷ []) ≡ Wrong BadValue
unfolding condition_of condition_in joined within trim_front trim_back file_word operator text_in is_text pieces_of compiled tokens_behind piece_named bare_reference braced_reference name_size variable_named variables name_of behind
if-6 = refl

if-7 : if_reading known (codes "($uri" ∷ codes "===" ∷ codes "y)" ∷ []) ≡ Wrong BadValue
unfolding condition_of condition_in joined within trim_front trim_back file_word operator text_in is_text pieces_of compiled tokens_behind piece_named bare_reference braced_reference name_size variable_named variables name_of behind
if-7 = refl

-- ---- rewrite, return, break

rewrite-1 : rewrite_reading known (codes "^/o/(.*)$" ∷ codes "/n?x=$1" ∷ codes "last" ∷ []) ≡ Step (Rewrite (record { text = codes "^/o/(.*)$"; nocase = false }) (Literal (codes "/n?x=") ∷ Group 1 ∷ []) false Last)
unfolding flag_of is_url text_in is_text pieces_of compiled tokens_behind piece_named bare_reference braced_reference name_size variable_named variables name_of behind
rewrite-1 = refl

rewrite-2 : rewrite_reading known (codes "^" ∷ codes "http://h" ∷ []) ≡ Step (Rewrite (record { text = codes "^"; nocase = false }) (Literal (codes "http://h") ∷ []) true NoFlag)
unfolding flag_of is_url text_in is_text pieces_of compiled tokens_behind piece_named bare_reference braced_reference name_size variable_named variables name_of behind
rewrite-2 = refl

rewrite-3 : rewrite_reading known (codes "(" ∷ codes "$uri" ∷ codes "bad" ∷ []) ≡ Wrong BadValue
unfolding flag_of is_url text_in is_text pieces_of compiled tokens_behind piece_named bare_reference braced_reference name_size variable_named variables name_of behind
rewrite-3 = refl

return-1 : return_reading known (codes "301" ∷ codes "/n" ∷ []) ≡ Step (Return 301 (Some (Literal (codes "/n") ∷ [])))
unfolding code_of is_url text_in is_text pieces_of compiled tokens_behind piece_named
return-1 = refl

return-2 : return_reading known (codes "$scheme://h" ∷ []) ≡ Step (Return 302 (Some (Builtin Scheme ∷ Literal (codes "://h") ∷ [])))
unfolding code_of is_url text_in is_text pieces_of compiled tokens_behind piece_named bare_reference braced_reference name_size variable_named variables name_of behind
return-2 = refl

return-3 : return_reading known (codes "444" ∷ []) ≡ Step (Return 444 None)
unfolding code_of is_url
return-3 = refl

return-4 : return_reading known (codes "600" ∷ []) ≡ Wrong BadValue
unfolding code_of is_url
return-4 = refl

break-1 : break_reading [] ≡ Step Stop
break-1 = refl
