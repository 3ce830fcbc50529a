-- What is where in the files of memory.
use Rattle.std.specs.Prelude.{◌≡◌, ℕ, nat_le, Bool, true, ◌&&◌, List, [], ◌∷◌, Option, if◌then◌else◌}
use Rattle.std.specs.Str.{bytes_eq}
use Rattle.ngx_outside.specs.Records.{FileAnswer}
use Rattle.ngx_outside.specs.Seen.{FilesSeen}
use Rattle.memory_outside.specs.Answered.{files_told, numbers_told}
use Rattle.file_tree.specs.Tree.{Item, AFile, AFolder, ALocked, Nothing, Trees}
use Rattle.memory_outside.specs.declared.files.StoredItem.{StoredItem}
use Rattle.memory_outside.specs.declared.files.Stored.{Stored}
use Rattle.memory_outside.specs.declared.files.MemoryFiles.{MemoryFiles}
use Rattle.memory_outside.specs.declared.files.FileCall.{FileCall}
use Rattle.memory_outside.specs.declared.files.StoredItem.TheVariants as stored

abbrev pub item_of : StoredItem → Item
item_of (stored.File bytes date) = AFile bytes date
item_of stored.Folder = AFolder
item_of stored.Locked = ALocked
item_of stored.Missing = Nothing

-- it is at this path in the tree of this number
abbrev pub is_at : ℕ → List ℕ → Stored → Bool
is_at of path s = nat_le s.from of && bytes_eq s.path path

-- the last of a path that is as old as the number, or what was there before; the newest are
-- last
unfoldable pub item_over : Item → List Stored → ℕ → List ℕ → Item
item_over below [] of path = below
item_over below (s ∷ items) of path = item_over
    (if is_at of path s then item_of s.item else below) items of path

-- the trees of a list of what was stored; what isn't listed isn't there
abbrev pub item_in : List Stored → Trees
item_in items = item_over Nothing items

-- from this number on the item is at the path, and all else stays
abbrev pub Replaces : ℕ → List ℕ → StoredItem → Trees → Trees → Type 0
Replaces from path item old new = (of : ℕ) (q : List ℕ) →
    new of q ≡ (if nat_le from of && bytes_eq path q then item_of item else old of q)

-- the trees that files in memory tell, the number of the newest and how often a call has failed
abbrev pub trees_of : MemoryFiles → Trees
trees_of f = item_in f.items.items

abbrev pub newest_of : MemoryFiles → ℕ
newest_of f = f.version

abbrev pub file_faults_of : MemoryFiles → ℕ
file_faults_of f = f.faults

-- what was answered, as far as it is told
abbrev pub file_answers_of : MemoryFiles → Option (List FileAnswer)
file_answers_of f = files_told f.answers

-- the calls that are to fail
abbrev pub failing_of : MemoryFiles → List FileCall
failing_of f = f.failing.items

-- the numbers that were told as the newest, as far as they are told
abbrev pub versions_of : MemoryFiles → Option (List ℕ)
versions_of f = numbers_told f.versions

-- the bytes that were read last
abbrev pub block_of : MemoryFiles → List ℕ
block_of f = f.block

-- all that they show
abbrev pub files_shown : MemoryFiles → FilesSeen
files_shown f =
    record {
      tells = true;
      trees = trees_of f;
      newest = newest_of f;
      block = block_of f;
      versions = versions_of f;
      answers = file_answers_of f;
      faults = file_faults_of f;
    }
