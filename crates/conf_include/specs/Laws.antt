-- What holds of each expansion.
use Rattle.std.specs.Prelude.{◌≡◌, ℕ, ◌<◌, ◌≤◌, Bool, ◌==◌, List, [], ◌∷◌, length, filter, is_none, slice_index_or, Ok}
use Rattle.file_tree.specs.Tree.{Tree, AFile}
use Rattle.conf_text.specs.declared.directive.Directive.{Directive}
use Rattle.conf_text.specs.Reading.{reading}
use Rattle.conf_include.specs.Listings.{Names}
use Rattle.conf_include.specs.Expansion.{include_word, deeper, expansion}

-- a directive of the file of this number
abbrev pub is_of : ℕ → Directive → Bool
is_of number d = d.file == number

-- no include
abbrev pub is_plain : Directive → Bool
is_plain d = is_none (include_word d)

-- The file of a number is whole in an expansion: its own directives, without its includes, in their order, each within
-- as many blocks more as its include.
pub record StandsWhole (tree : Tree) (paths : List (List ℕ)) (lines : List Directive) (number : ℕ) : Type 0 where
  pub bytes : List ℕ
  pub date : ℕ
  pub own : List Directive
  pub around : ℕ
  pub there : tree (slice_index_or paths number []) ≡ AFile bytes date
  pub read : reading number bytes ≡ Ok own
  pub whole : filter (is_of number) lines ≡ deeper around (filter is_plain own)

-- an expansion has its files whole, and nothing else; the main file is the first
pub record HasFilesWhole (tree : Tree) (main : List ℕ) (lines : List Directive) (paths : List (List ℕ)) : Type 0 where
  pub others : List (List ℕ)
  pub first : paths ≡ main ∷ others
  pub whole : (number : ℕ) → number < length paths → StandsWhole tree paths lines number
  pub nothing : (number : ℕ) → length paths ≤ number → filter (is_of number) lines ≡ []

abbrev pub FilesStandWhole : Type 0
FilesStandWhole =
    (tree : Tree) (names : Names) (main : List ℕ) (lines : List Directive) (paths : List (List ℕ))
    → expansion tree names main ≡ Ok (lines, paths) → HasFilesWhole tree main lines paths
