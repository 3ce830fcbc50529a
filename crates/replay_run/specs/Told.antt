-- What the files of a script tell: the first tree is that of its tree lines, and each line that
-- changes it makes one more.
use Rattle.std.specs.Prelude.{ℕ, ◌+◌, ◌-◌, ◌^◌, ◌&&◌, min, max, nat_le, nat_lt, bytes_eq, List, [], ◌∷◌, if◌then◌else◌}
use Rattle.file_tree.specs.Tree.{Item, AFile, AFolder, ALocked, Nothing, Tree, Trees}
use Rattle.memory_outside.specs.declared.files.MemoryFiles.{MemoryFiles}
use Rattle.memory_outside.specs.Stored.{trees_of, newest_of}
use Rattle.replay_text.specs.declared.parts.TreeLine.{TreeLine}
use Rattle.replay_text.specs.declared.parts.TreeLine.TheVariants as entry
use Rattle.replay_text.specs.declared.parts.EventLine.{EventLine}
use Rattle.replay_text.specs.declared.parts.EventLine.TheVariants as line

-- the path of a tree line, and what it puts there
abbrev pub path_of : TreeLine → List ℕ
path_of (entry.File path date bytes) = path
path_of (entry.Folder path) = path
path_of (entry.Locked path) = path

abbrev pub item_of : TreeLine → Item
item_of (entry.File path date bytes) = AFile bytes date
item_of (entry.Folder path) = AFolder
item_of (entry.Locked path) = ALocked

-- what is at a path by these lines: what the last of them puts there, or what was there
-- before
abbrev pub item_by : Item → List TreeLine → List ℕ → Item
item_by below [] path = below
item_by below (l ∷ lines) path = item_by
    (if bytes_eq (path_of l) path then item_of l else below) lines path

-- the tree of these lines: what they don't list isn't there, folders too
abbrev pub tree_by : List TreeLine → Tree
tree_by lines path = item_by Nothing lines path

-- What the files tell: the tree of each number, and the number of the newest.
pub record Told : Type 0 where
  pub trees : Trees
  pub newest : ℕ

abbrev pub told_of : MemoryFiles → Told
told_of f = record { trees = trees_of f; newest = newest_of f }

-- before the first event line
abbrev pub told_first : List TreeLine → Told
told_first lines = record { trees = λ of. tree_by lines; newest = 0 }

-- the number after this one, or this one at its type's end
unfoldable pub next_number : ℕ → ℕ
next_number n = max n (min (n + 1) (2 ^ 64 - 1))

-- from this number on the item is at the path, and all else stays
abbrev pub changed : ℕ → List ℕ → Item → Trees → Trees
changed from path item old of q = if nat_le from of && bytes_eq path q then item else old of q

-- the newest tree with this item at this path is the next one, where there is a next number
abbrev pub told_next : List ℕ → Item → Told → Told
told_next path item told =
    if nat_lt told.newest (next_number told.newest)
    then record {
      trees = changed
          (next_number told.newest) path item told.trees;
      newest = next_number told.newest;
    }
    else told

-- what the files tell after a line
abbrev pub told_after : EventLine → Told → Told
told_after (line.Tree change) told = told_next (path_of change) (item_of change) told
told_after (line.TreeGone path) told = told_next path Nothing told
told_after l told = told

-- and after all lines
abbrev pub told_in : List EventLine → Told → Told
told_in [] told = told
told_in (l ∷ lines) told = told_in lines (told_after l told)
