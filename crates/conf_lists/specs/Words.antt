-- Words of directives as the values of a level: index names, names that are tried, pages of errors, rules of access, variables
-- that a subrequest sets, and media types of filters (nginx's modules core, index, access, auth_request, ssi and addition).
use Rattle.std.specs.Prelude.{ℕ, List, [], ◌∷◌, ◌++◌, map, drop, true, Bool, codes, bytes_eq, if◌then◌else◌, Option, None, Some, option_map, unwrap_or}
use Rattle.access_rules.specs.declared.rule.Rule.{Rule}
use Rattle.access_rules.specs.declared.rule.Source.{Source}
use Rattle.site_views.specs.Values.{Text, IndexName, Tries, LastTry, Shown, PageRule, PageTarget, MediaTypes}
use Rattle.site_views.specs.Values.LastTry.{ToPath, ToLocation, ToCode}
use Rattle.site_views.specs.Values.Shown.{OwnCode, Fixed, ByAnswer}
use Rattle.site_views.specs.Values.PageTarget.{AtPath, AtLocation, AtUrl}
use Rattle.conf_values.specs.Words.{begins_with}
use Rattle.conf_values.specs.Texts.{pieces_of}
use Rattle.conf_values.specs.Returning.{code_of}
use Rattle.conf_values.specs.Sources.{source_of}
use Rattle.conf_values.specs.Variables.{variable_in}

-- a name of `index`; one that begins with `/` is a path of the site
abbrev pub index_name : List ℕ → IndexName
index_name word = record { text = pieces_of word; is_path = begins_with 47 word }

-- all words but the last, and the last
unfoldable pub front_of : List (List ℕ) → List (List ℕ)
front_of [] = []
front_of (word ∷ []) = []
front_of (word ∷ next ∷ words) = word ∷ front_of (next ∷ words)

unfoldable pub last_of : List (List ℕ) → Option (List ℕ)
last_of [] = None
last_of (word ∷ []) = Some word
last_of (word ∷ next ∷ words) = last_of (next ∷ words)

-- what `try_files` comes to where it finds none of its names: `=CODE`, `@NAME` or a path
abbrev pub last_try : List ℕ → LastTry
last_try word =
    if begins_with 61 word then ToCode (unwrap_or (code_of (drop 1 word)) 500)
    else (if begins_with 64 word then ToLocation word else ToPath (pieces_of word))

-- the names of `try_files`, and what comes after them
abbrev pub tries_with : List (List ℕ) → List ℕ → Tries
tries_with names last = record { names = map pieces_of names; last = last_try last }

abbrev pub tries_of : List (List ℕ) → Option Tries
tries_of words = option_map (tries_with (front_of words)) (last_of words)

-- one or none
abbrev pub one : {A : Type 0} → Option A → List A
one None = []
one (Some item) = item ∷ []

-- the codes among words
abbrev pub codes_in : List (List ℕ) → List ℕ
codes_in [] = []
codes_in (word ∷ words) = one (code_of word) ++ codes_in words

-- the status that is shown: `=N`, `=` for the answer's, or the error's own
abbrev pub shown_with : Option ℕ → Shown
shown_with None = ByAnswer
shown_with (Some code) = Fixed code

abbrev pub shown_by : Option (List ℕ) → Shown
shown_by None = OwnCode
shown_by (Some word) = if begins_with 61 word then shown_with (code_of (drop 1 word)) else OwnCode

-- where the page is: `@NAME`, a path, or another address
abbrev pub target_of : List ℕ → PageTarget
target_of word = if begins_with 64 word then AtLocation word else
    (if begins_with 47 word then AtPath (pieces_of word) else AtUrl (pieces_of word))

-- A rule of `error_page`: codes, a status to show or none, and the page.
abbrev pub page_with : (front : List (List ℕ)) → List ℕ → PageRule
page_with front target =
    record { codes = codes_in front; shown = shown_by (last_of front); target = target_of target }

abbrev pub page_of : List (List ℕ) → Option PageRule
page_of words = option_map (page_with (front_of words)) (last_of words)

-- a rule of `allow` or `deny`
abbrev pub rule_with : (allow : Bool) → Source → Rule
rule_with allow source = record { allow = allow; source = source }

abbrev pub rule_of : (allow : Bool) → List (List ℕ) → Option Rule
rule_of allow [] = None
rule_of allow (word ∷ words) = option_map (rule_with allow) (source_of word)

-- a variable that is set by what decides on access, and its text
abbrev pub set_with : Option (List ℕ) → List ℕ → Option (List ℕ × Text)
set_with None text = None
set_with (Some name) text = Some (name, pieces_of text)

abbrev pub set_of : List (List ℕ) → Option (List ℕ × Text)
set_of [] = None
set_of (word ∷ []) = None
set_of (word ∷ text ∷ words) = set_with (variable_in word) text

-- media types, and one more; `*` is every one
abbrev pub with_type : MediaTypes → List ℕ → MediaTypes
with_type m word = if bytes_eq word (codes "*") then record { every = true; types = m.types }
    else record { every = m.every; types = m.types ++ word ∷ [] }

abbrev pub with_types : MediaTypes → List (List ℕ) → MediaTypes
with_types m [] = m
with_types m (word ∷ words) = with_types (with_type m word) words

-- the variables that documents see
abbrev pub variables_in : List (List ℕ) → List (List ℕ)
variables_in [] = []
variables_in (word ∷ words) = one (variable_in word) ++ variables_in words
