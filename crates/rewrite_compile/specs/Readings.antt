-- What the words of a rewrite directive say (https://nginx.org/en/docs/http/ngx_http_rewrite_module.html).
use Rattle.std.specs.Prelude.{ℕ, ◌==◌, ◌&&◌, nat_le, Bool, false, List, [], ◌∷◌, bytes_eq, codes, Option, None, Some, if◌then◌else◌}
use Rattle.std.specs.List.{list_all}
use Rattle.conf_text.specs.declared.fault.FaultKind.TheVariants.{BadValue, BuiltinSet}
use Rattle.ngx_variables.specs.declared.value.Piece.{Piece}
use Rattle.ngx_variables.specs.Grammar.{is_name_byte, lowercase}
use Rattle.ngx_variables.specs.Names.{is_builtin}
use Rattle.site_model.specs.declared.program.Flag.{Flag}
use Rattle.site_model.specs.declared.program.Flag.TheVariants.{NoFlag, Last, Break, Redirect, Permanent}
use Rattle.conf_values.specs.Returning.{code_of, is_url}
use Rattle.rewrite_compile.specs.declared.raw.RawStep.TheVariants.{Set, If, Rewrite, Return, Stop}
use Rattle.rewrite_compile.specs.declared.raw.RawCondition.{RawCondition}
use Rattle.rewrite_compile.specs.declared.raw.Reading.{Reading}
use Rattle.rewrite_compile.specs.declared.raw.Reading.TheVariants.{Step, Wrong}
use Rattle.rewrite_compile.specs.Conditions.{text_in, condition_of}

-- ---- `set $NAME text`

abbrev pub is_name : List ℕ → Bool
is_name [] = false
is_name (b ∷ bs) = list_all is_name_byte (b ∷ bs)

-- the variable of a word `$NAME`, in lower case
unfoldable pub name_in : List ℕ → Option (List ℕ)
name_in [] = None
name_in (b ∷ bs) = if (b == 36) && is_name bs then Some (lowercase bs) else None

-- a name that begins like a group of a match
abbrev pub is_numbered : List ℕ → Bool
is_numbered [] = false
is_numbered (b ∷ bs) = nat_le 49 b && nat_le b 57

abbrev pub sets : List ℕ → Option (List Piece) → Reading
sets name None = Wrong BadValue
sets name (Some text) = Step (Set name text)

abbrev pub set_named : (List ℕ → Bool) → Option (List ℕ) → List ℕ → Reading
set_named known None text = Wrong BadValue
set_named known (Some name) text =
    if is_builtin name then Wrong BuiltinSet else (if is_numbered name then Wrong BadValue else sets name (text_in known text))

abbrev pub set_reading : (List ℕ → Bool) → List (List ℕ) → Reading
set_reading known (variable ∷ text ∷ []) = set_named known (name_in variable) text
set_reading known words = Wrong BadValue

-- ---- `if (condition)`

abbrev pub if_by : Option RawCondition → Reading
if_by None = Wrong BadValue
if_by (Some condition) = Step (If condition)

abbrev pub if_reading : (List ℕ → Bool) → List (List ℕ) → Reading
if_reading known words = if_by (condition_of known words)

-- ---- `rewrite regex text [flag]`

unfoldable pub flag_of : List ℕ → Option Flag
flag_of word =
    if bytes_eq word (codes "last") then Some Last
    else (if bytes_eq word (codes "break") then Some Break
    else (if bytes_eq word (codes "redirect") then Some Redirect
    else (if bytes_eq word (codes "permanent") then Some Permanent else None)))

abbrev pub rewrites : List ℕ → List ℕ → Option (List Piece) → Option Flag → Reading
rewrites pattern text None flag = Wrong BadValue
rewrites pattern text (Some to) None = Wrong BadValue
rewrites pattern text (Some to) (Some flag) = Step (Rewrite (record { text = pattern; nocase = false }) to (is_url text) flag)

abbrev pub rewrite_reading : (List ℕ → Bool) → List (List ℕ) → Reading
rewrite_reading known (pattern ∷ text ∷ []) = rewrites pattern text (text_in known text) (Some NoFlag)
rewrite_reading known (pattern ∷ text ∷ flag ∷ []) = rewrites pattern text (text_in known text) (flag_of flag)
rewrite_reading known words = Wrong BadValue

-- ---- `return code [text]`, `return URL`

abbrev pub moves : Option (List Piece) → Reading
moves None = Wrong BadValue
moves (Some text) = Step (Return 302 (Some text))

abbrev pub answers : Option ℕ → Reading
answers None = Wrong BadValue
answers (Some code) = Step (Return code None)

abbrev pub answers_with : Option ℕ → Option (List Piece) → Reading
answers_with None text = Wrong BadValue
answers_with (Some code) None = Wrong BadValue
answers_with (Some code) (Some text) = Step (Return code (Some text))

abbrev pub return_reading : (List ℕ → Bool) → List (List ℕ) → Reading
return_reading known (word ∷ []) = if is_url word then moves (text_in known word) else answers (code_of word)
return_reading known (code ∷ text ∷ []) = answers_with (code_of code) (text_in known text)
return_reading known words = Wrong BadValue

-- ---- `break`

abbrev pub break_reading : List (List ℕ) → Reading
break_reading [] = Step Stop
break_reading (word ∷ words) = Wrong BadValue

-- ---- a directive by its name

-- what it says; none of one that has no part in a program
unfoldable pub reading_by : (List ℕ → Bool) → (name : List ℕ) → List (List ℕ) → Option Reading
reading_by known name words =
    if bytes_eq name (codes "set") then Some (set_reading known words)
    else (if bytes_eq name (codes "if") then Some (if_reading known words)
    else (if bytes_eq name (codes "rewrite") then Some (rewrite_reading known words)
    else (if bytes_eq name (codes "return") then Some (return_reading known words)
    else (if bytes_eq name (codes "break") then Some (break_reading words) else None))))
