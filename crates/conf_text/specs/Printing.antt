-- Directives as a text, each word in quotes and each directive on a line of its own.
use Rattle.std.specs.Prelude.{◌≡◌, ℕ, zero, suc, ◌-◌, ◌≤◌, ⊤, Bool, ◌||◌, ◌==◌, List, [], ◌∷◌, ◌++◌, Ok, length, map, if◌then◌else◌}
use Rattle.conf_text.specs.declared.directive.Directive.{Directive}
use Rattle.conf_text.specs.Reading.{reading, depth_behind, IsNested}

-- a byte of a word within quotes: `"` and the backslash have a backslash before them
abbrev pub escaped : ℕ → List ℕ
escaped b = if (b == 34) || (b == 92) then 92 ∷ b ∷ [] else b ∷ []

unfoldable pub escaped_text : List ℕ → List ℕ
escaped_text [] = []
escaped_text (b ∷ bs) = escaped b ++ escaped_text bs

-- a word in quotes, in front of what follows
abbrev pub print_word : List ℕ → List ℕ → List ℕ
print_word word rest = 34 ∷ (escaped_text word ++ 34 ∷ rest)

-- words with a space before each
unfoldable pub print_words : List (List ℕ) → List ℕ → List ℕ
print_words [] rest = rest
print_words (word ∷ words) rest = 32 ∷ print_word word (print_words words rest)

-- the ends of this many blocks, each on a line of its own
unfoldable pub print_ends : ℕ → List ℕ → List ℕ
print_ends zero rest = rest
print_ends (suc n) rest = 125 ∷ 10 ∷ print_ends n rest

-- `{` where a block follows, else `;`
abbrev pub mark_of : Bool → ℕ
mark_of block = if block then 123 else 59

-- directives, the first within `depth` blocks at most: the blocks that it is not in are ended before it
unfoldable pub print : (depth : ℕ) → List Directive → List ℕ
print depth [] = print_ends depth []
print depth (d ∷ more) =
    print_ends (depth - d.depth) (print_word d.name (print_words d.args (mark_of d.block ∷ 10 ∷ print (depth_behind d) more)))

-- each word is within the bound of words
abbrev pub WordsFit : List (List ℕ) → Type 0
WordsFit [] = ⊤
WordsFit (word ∷ words) = (length word ≤ 4096) × WordsFit words

abbrev pub AllFit : List Directive → Type 0
AllFit [] = ⊤
AllFit (d ∷ more) = (length d.name ≤ 4096) × WordsFit d.args × AllFit more

-- a directive apart from where it is
abbrev pub without_place : Directive → Directive
without_place d = record d { file = 0; line = 0 }

-- directives that are printed are read as the same, apart from their lines
abbrev pub PrintedIsRead : Type 0
PrintedIsRead = (file : ℕ) (ds : List Directive) → IsNested 0 ds → AllFit ds
    → (read : List Directive) × (reading file (print 0 ds) ≡ Ok read) × (map without_place read ≡ map without_place ds)
