-- The names of the folders of a script's configurations, in byte order.
use Rattle.std.specs.Prelude.{ℕ, List, [], ◌∷◌}
use Rattle.std.specs.declared.cmp.Ordering.{Ordering}
use Rattle.std.specs.declared.cmp.Ordering.TheVariants.{Less, Equal, Greater}
use Rattle.file_tree.specs.Tree.{Item, AFile, AFolder, ALocked, Nothing}
use Rattle.replay_text.specs.declared.parts.Conf.{Conf}
use Rattle.replay_confs.specs.Confs.{conf_tree, names_in}
use Rattle.conf_include.specs.Listings.{Names, IsListing, IsNaming, byte_order}

-- a name before the first of others, in its place, or after it
abbrev pub placed : Ordering → (name other : List ℕ) → (others behind : List (List ℕ)) →
    List (List ℕ)
placed Less name other others behind = name ∷ other ∷ others
placed Equal name other others behind = other ∷ others
placed Greater name other others behind = other ∷ behind

-- names in byte order with one more, unless it is among them
unfoldable pub put_name : List ℕ → List (List ℕ) → List (List ℕ)
put_name name [] = name ∷ []
put_name name (other ∷ others) = placed (byte_order name other) name other others
    (put_name name others)

-- names in byte order, each once
unfoldable pub in_order : List (List ℕ) → List (List ℕ)
in_order [] = []
in_order (name ∷ names) = put_name name (in_order names)

-- only a folder has names
abbrev pub names_at : Item → List (List ℕ) → List (List ℕ)
names_at AFolder names = names
names_at (AFile bytes date) names = []
names_at ALocked names = []
names_at Nothing names = []

-- the names of each folder of a script's configurations
abbrev pub conf_names : List Conf → Names
conf_names confs folder = names_at (conf_tree confs folder) (in_order (names_in confs folder))

-- they are the folders' listings, and the only ones
abbrev pub FoldersHaveTheirNames : Type 0
FoldersHaveTheirNames = (confs : List Conf) → IsNaming (conf_tree confs) (conf_names confs) ×
    ((folder : List ℕ) → IsListing (conf_tree confs) folder (conf_names confs folder))
