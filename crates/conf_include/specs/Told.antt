-- What files tell while they are read.
use Rattle.std.specs.Prelude.{◌≡◌, ℕ, ◌≤◌, true, List}
use Rattle.file_tree.specs.Tree.{Tree}
use Rattle.ngx_outside.specs.Seen.{FilesSeen}

-- a later moment, at which the number of the newest tree wasn't asked for again: each tree that was told is still told
pub record Later (old new : FilesSeen) : Type 0 where
  pub tells : new.tells ≡ old.tells
  pub newest : old.newest ≤ new.newest
  pub faults : old.faults ≤ new.faults
  pub same : (of : ℕ) → of ≤ old.newest → (path : List ℕ) → new.trees of path ≡ old.trees of path
  pub versions : new.versions ≡ old.versions

-- the files tell that this tree is their newest, and that its number is this
pub record IsTold (of : ℕ) (tree : Tree) (t : FilesSeen) : Type 0 where
  pub tells : t.tells ≡ true
  pub newest : t.newest ≡ of
  pub same : (path : List ℕ) → t.trees of path ≡ tree path
