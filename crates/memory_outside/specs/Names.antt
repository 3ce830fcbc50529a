-- The names of a folder of a tree.
use Rattle.std.specs.Prelude.{◌≡◌, ◌≢◌, ℕ, ◌==◌, ◌≤◌, List, [], ◌∷◌, ◌++◌, Contains, ◌↔◌, length, drop, if◌then◌else◌, ◌⊎◌}
use Rattle.file_tree.specs.Tree.{Tree, IsChild, child_path}
use Rattle.memory_outside.specs.declared.files.Stored.{Stored}

-- what is before the slash of a folder's children: the root's path is a slash alone
abbrev pub front_of : List ℕ → List ℕ
front_of [] = []
front_of (b ∷ []) = if b == 47 then [] else b ∷ []
front_of (b ∷ c ∷ bytes) = b ∷ c ∷ bytes

-- one name: not empty, and with no slash
pub record IsName (name : List ℕ) : Type 0 where
  pub some : name ≢ []
  pub one : ¬ Contains name 47

-- exactly the names of the folder were added
pub record AddsNames (tree : Tree) (folder : List ℕ) (old new : List (List ℕ)) : Type 0 where
  pub added : List (List ℕ)
  pub all : new ≡ old ++ added
  pub names : (name : List ℕ) → Contains added name ↔ IsChild tree folder name

-- After the start, names of the folder were added, those of this path among them.
pub record AddsName (tree : Tree) (folder path : List ℕ) (start : ℕ)
    (old new : List (List ℕ)) : Type 0 where
  pub added : List (List ℕ)
  pub all : new ≡ old ++ added
  pub children : (name : List ℕ) → Contains added name → IsChild tree folder name
  pub own : start ≤ length old → (name : List ℕ) → IsChild tree folder name →
      path ≡ child_path folder name → Contains (drop start new) name

-- something is stored under this path
abbrev pub HasPath : List Stored → List ℕ → Type 0
HasPath [] path = ⊥
HasPath (s ∷ items) path = (s.path ≡ path) ⊎ HasPath items path

-- What was added while the first entries were looked at: names of the folder, and each whose path
-- isn't one of the rest.
pub record Adding (tree : Tree) (folder : List ℕ) (rest : List Stored)
    (old new : List (List ℕ)) : Type 0 where
  pub added : List (List ℕ)
  pub all : new ≡ old ++ added
  pub children : (name : List ℕ) → Contains added name → IsChild tree folder name
  pub left : (name : List ℕ) → IsChild tree folder name →
      Contains added name ⊎ HasPath rest (child_path folder name)
