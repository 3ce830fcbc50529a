-- The condition of an `if` (https://nginx.org/en/docs/http/ngx_http_rewrite_module.html#if).
use Rattle.std.specs.Prelude.{ℕ, Bool, true, false, List, [], ◌∷◌, bytes_eq, codes, Option, None, Some, if◌then◌else◌}
use Rattle.ngx_variables.specs.declared.value.Piece.{Piece}
use Rattle.ngx_variables.specs.declared.value.Piece.TheVariants.{Literal}
use Rattle.site_model.specs.declared.program.FileTest.{FileTest}
use Rattle.site_model.specs.declared.program.FileTest.TheVariants.{IsFile, IsFolder, IsThere}
use Rattle.conf_values.specs.Texts.{pieces_of, is_text}
use Rattle.rewrite_compile.specs.declared.raw.RawCondition.{RawCondition}
use Rattle.rewrite_compile.specs.declared.raw.RawTest.TheVariants.{IsSet, Equals, Matches, OnFile}
use Rattle.rewrite_compile.specs.declared.condition.FileWord.{FileWord}
use Rattle.rewrite_compile.specs.declared.condition.Comparison.{Comparison}
use Rattle.rewrite_compile.specs.declared.condition.Comparison.TheVariants.{Equal, Match}
use Rattle.rewrite_compile.specs.Words.{joined, trimmed, first_word, other_words, within}

-- a text with variables, each built in or of a known name
unfoldable pub text_in : (List ℕ → Bool) → List ℕ → Option (List Piece)
text_in known text = if is_text known text then Some (pieces_of text) else None

-- one variable and nothing else
abbrev pub variable_alone : List Piece → Option Piece
variable_alone [] = None
variable_alone (Literal bytes ∷ pieces) = None
variable_alone (piece ∷ []) = Some piece
variable_alone (piece ∷ other ∷ pieces) = None

abbrev pub alone : Option (List Piece) → Option Piece
alone None = None
alone (Some pieces) = variable_alone pieces

-- `-f`, `-d`, `-e`, each with or without `!`
abbrev pub on_file : FileTest → Bool → Option FileWord
on_file test negated = Some (record { test = test; negated = negated })

unfoldable pub file_word : List ℕ → Option FileWord
file_word word =
    if bytes_eq word (codes "-f") then on_file IsFile false
    else (if bytes_eq word (codes "-d") then on_file IsFolder false
    else (if bytes_eq word (codes "-e") then on_file IsThere false
    else (if bytes_eq word (codes "!-f") then on_file IsFile true
    else (if bytes_eq word (codes "!-d") then on_file IsFolder true
    else (if bytes_eq word (codes "!-e") then on_file IsThere true else None)))))

-- `=`, `~`, `~*`, each with or without `!`
unfoldable pub operator : List ℕ → Option Comparison
operator word =
    if bytes_eq word (codes "=") then Some (Equal false)
    else (if bytes_eq word (codes "!=") then Some (Equal true)
    else (if bytes_eq word (codes "~") then Some (Match false false)
    else (if bytes_eq word (codes "~*") then Some (Match true false)
    else (if bytes_eq word (codes "!~") then Some (Match false true)
    else (if bytes_eq word (codes "!~*") then Some (Match true true) else None)))))

abbrev pub looks : FileWord → Option (List Piece) → Option RawCondition
looks word None = None
looks word (Some path) = Some (record { test = OnFile word.test path; negated = word.negated })

abbrev pub equals : Piece → Bool → Option (List Piece) → Option RawCondition
equals variable negated None = None
equals variable negated (Some text) = Some (record { test = Equals variable text; negated = negated })

abbrev pub compares : (List ℕ → Bool) → Piece → Option Comparison → (right : List ℕ) → Option RawCondition
compares known variable None right = None
compares known variable (Some (Equal negated)) right = equals variable negated (text_in known right)
compares known variable (Some (Match nocase negated)) right =
    Some (record { test = Matches variable (record { text = right; nocase = nocase }); negated = negated })

abbrev pub asks : (List ℕ → Bool) → Option Piece → (rest : List ℕ) → Option RawCondition
asks known None rest = None
asks known (Some variable) [] = Some (record { test = IsSet variable; negated = false })
asks known (Some variable) (b ∷ bs) = compares known variable (operator (first_word (b ∷ bs))) (other_words (b ∷ bs))

abbrev pub tests : (List ℕ → Bool) → Option FileWord → (text : List ℕ) → Option RawCondition
tests known (Some word) text = looks word (text_in known (other_words text))
tests known None text = asks known (alone (text_in known (first_word text))) (other_words text)

unfoldable pub condition_in : (List ℕ → Bool) → List ℕ → Option RawCondition
condition_in known text = tests known (file_word (first_word text)) text

abbrev pub condition_within : (List ℕ → Bool) → Option (List ℕ) → Option RawCondition
condition_within known None = None
condition_within known (Some text) = condition_in known (trimmed text)

-- The words are in parentheses: a file test and a text, a variable alone, or a variable, a comparison, and a text or a
-- regular expression.
unfoldable pub condition_of : (List ℕ → Bool) → List (List ℕ) → Option RawCondition
condition_of known words = condition_within known (within (joined words))
