-- The names of a folder in byte order.
use Rattle.std.specs.Prelude.{◌≡◌, ◌≢◌, ℕ, List, [], Contains, ◌↔◌}
use Rattle.std.specs.declared.cmp.Ordering.{Ordering}
use Rattle.std.specs.Ordering.{nat_cmp}
use Rattle.std.specs.Cmp.Lexicographic.{slice_cmp}
use Rattle.std.specs.List.Sorted.{IsStrictlySortedBy}
use Rattle.file_tree.specs.Tree.{Tree, AFolder, IsChild}

-- the order of texts by their first byte that differs
abbrev pub byte_order : List ℕ → List ℕ → Ordering
byte_order = slice_cmp nat_cmp

-- the names of a folder, each once, in byte order; where there is no folder there are none
pub record IsListing (tree : Tree) (folder : List ℕ) (listed : List (List ℕ)) : Type 0 where
  pub order : IsStrictlySortedBy byte_order listed
  pub names : tree folder ≡ AFolder → (name : List ℕ) → Contains listed name ↔ IsChild tree folder name
  pub none : tree folder ≢ AFolder → listed ≡ []

-- the names of each folder
abbrev pub Names : Type 0
Names = List ℕ → List (List ℕ)

-- these are the names of each folder of the tree that can be listed
abbrev pub IsNaming : Tree → Names → Type 0
IsNaming tree names = (folder : List ℕ) (found : List (List ℕ)) → IsListing tree folder found → names folder ≡ found
