-- The configuration files of a script.
use Rattle.std.specs.Prelude.{ℕ, Bool, true, false, is_some, List, [], ◌∷◌, ◌++◌, Option, None, Some, if◌then◌else◌}
use Rattle.std.specs.List.{list_any}
use Rattle.std.specs.Str.{bytes_eq}
use Rattle.file_tree.specs.Tree.{Item, AFile, AFolder, Nothing, Tree, Trees}
use Rattle.ngx_outside.specs.Seen.{FilesSeen}
use Rattle.replay_text.specs.declared.parts.Conf.{Conf}
use Rattle.replay_confs.specs.declared.files.ConfFiles.{ConfFiles}
use Rattle.replay_confs.specs.Paths.{below, first_name}

-- the text of the `conf` section of a path
abbrev pub text_at : List Conf → List ℕ → Option (List ℕ)
text_at [] path = None
text_at (conf ∷ confs) path = if bytes_eq conf.path path then Some conf.bytes else text_at confs path

-- a section's path lies below this one
abbrev pub has_below : List Conf → List ℕ → Bool
has_below confs folder = list_any (λ (conf : Conf). is_some (below folder conf.path)) confs

abbrev pub item_at : Option (List ℕ) → Bool → Item
item_at (Some bytes) folder = AFile bytes 0
item_at None true = AFolder
item_at None false = Nothing

-- What is where in a script's configuration: at the path of each `conf` section a file of its text, with date 0; at each
-- other path below which one lies, a folder; and nothing else.
abbrev pub conf_tree : List Conf → Tree
conf_tree confs path = item_at (text_at confs path) (has_below confs path)

-- a name that isn't empty
abbrev pub some_name : List ℕ → List (List ℕ)
some_name [] = []
some_name (b ∷ bs) = (b ∷ bs) ∷ []

-- the name in a folder with which a path goes on below it
abbrev pub next_name : Option (List ℕ) → List (List ℕ)
next_name None = []
next_name (Some rest) = some_name (first_name rest)

-- the names in a folder, one for each section below it
abbrev pub names_in : List Conf → List ℕ → List (List ℕ)
names_in [] folder = []
names_in (conf ∷ confs) folder = next_name (below folder conf.path) ++ names_in confs folder

-- the sections, the trees that they tell, of which there is one, and how often a read has failed
abbrev pub confs_of : ConfFiles → List Conf
confs_of f = f.confs.now

abbrev pub trees_of : ConfFiles → Trees
trees_of f of = conf_tree (confs_of f)

abbrev pub faults_of : ConfFiles → ℕ
faults_of f = f.faults

-- all that they show: there is one tree
abbrev pub confs_shown : ConfFiles → FilesSeen
confs_shown f = record { tells = true; trees = trees_of f; newest = 0; block = f.block.now; versions = None; answers = None; faults = faults_of f }
