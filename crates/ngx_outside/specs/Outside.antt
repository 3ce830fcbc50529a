-- What files and sinks tell of their calls.
use Rattle.std.specs.Prelude.{◌≡◌, ◌≢◌, ℕ, ◌≤◌, Bool, true, List, ◌++◌, length, Contains, ◌↔◌, Result, OnOk, OnErr, IfOk}
use Rattle.file_tree.specs.Tree.{Tree, Trees, AFolder, node_of, text_of, HoldsBytes, IsChild}
use Rattle.file_tree.specs.declared.job.Node.{Node}
use Rattle.ngx_outside.specs.declared.files.Look.{Look}
use Rattle.ngx_outside.specs.declared.files.Listing.{Listing}
use Rattle.ngx_outside.specs.declared.files.Listing.TheVariants as listing

-- The trees that are told grow: each number up to the version keeps its tree.
pub record Grow (version later : ℕ) (old new : Trees) : Type 0 where
  pub rises : version ≤ later
  pub same : (of : ℕ) → of ≤ version → (path : List ℕ) → new of path ≡ old of path

-- a stat answers what the tree has there, where files tell
abbrev pub Stats : {E : Type 0} → Bool → Tree → List ℕ → Result Node E → Type 0
Stats tells tree path result = IfOk result (λ node. tells ≡ true → node ≡ node_of (tree path))

-- what a look tells of what the tree has there, where files tell: what it is, and where it says so all
-- bytes of the file, which are lent
abbrev pub Found : Tree → List ℕ → List ℕ → Look → Type 0
Found tree path block look = (look.node ≡ node_of (tree path)) ×
    (look.whole ≡ true → text_of (tree path) ≡ block)

abbrev pub Looks : {E : Type 0} → Bool → Tree → List ℕ → List ℕ → Result Look E → Type 0
Looks tells tree path block result = IfOk result (λ look. tells ≡ true →
    Found tree path block look)

-- the block that a read lends has exactly `count` bytes, those that the file has there where files
-- tell
abbrev pub Lends : {E : Type 0} → Bool → Tree → List ℕ → ℕ → ℕ → List ℕ →
    Result (Unit {0}) E → Type 0
Lends tells tree path start count block result = OnOk result ((length block ≡ count) ×
    (tells ≡ true → HoldsBytes (tree path) start count block))

-- A read adds exactly `count` bytes, those that the file has there where files tell; one that fails
-- adds nothing.
pub record Reads {E : Type 0} (tells : Bool) (tree : Tree) (path : List ℕ) (start count : ℕ)
    (old new : List ℕ) (result : Result (Unit {0}) E) : Type 0 where
  pub done : OnOk result
      ((added : List ℕ) × (new ≡ old ++ added) × (length added ≡ count) ×
      (tells ≡ true → HoldsBytes (tree path) start count added))
  pub failed : OnErr result (new ≡ old)

-- the names of a folder
pub record Names (tells : Bool) (tree : Tree) (folder : List ℕ)
    (old new : List (List ℕ)) : Type 0 where
  pub added : List (List ℕ)
  pub all : new ≡ old ++ added
  pub there : tells ≡ true → tree folder ≡ AFolder
  pub names : tells ≡ true → (name : List ℕ) → Contains added name ↔ IsChild tree folder name

-- no folder is there
pub record NoFolder (tells : Bool) (tree : Tree) (folder : List ℕ)
    (old new : List (List ℕ)) : Type 0 where
  pub same : new ≡ old
  pub missing : tells ≡ true → tree folder ≢ AFolder

abbrev pub Lists : {E : Type 0} → Bool → Tree → List ℕ → List (List ℕ) → List (List ℕ) →
    Result Listing E → Type 0
Lists tells tree folder old new result = IfOk result (λ l. ListsAs l)
  where
    ListsAs : Listing → Type 0
    ListsAs listing.Done = Names tells tree folder old new
    ListsAs listing.Missing = NoFolder tells tree folder old new

-- What a put does to what a sink has taken, where it tells: the whole piece, or a front of it and a
-- failure.
pub record Puts {E : Type 0} (tells : Bool) (old new piece : List ℕ)
    (result : Result (Unit {0}) E) : Type 0 where
  pub whole : tells ≡ true → OnOk result (new ≡ old ++ piece)
  pub front : tells ≡ true →
      OnErr result ((part : List ℕ) × (rest : List ℕ) × (piece ≡ part ++ rest) ×
      (new ≡ old ++ part))
