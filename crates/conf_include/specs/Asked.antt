-- Where the files are asked while a configuration is read, which is told where they fail.
use Rattle.std.specs.Prelude.{◌≡◌, ℕ, ◌<◌, true, List, Contains, Some, Ok}
use Rattle.file_tree.specs.Tree.{Tree, AFile}
use Rattle.conf_text.specs.declared.directive.Directive.{Directive}
use Rattle.conf_text.specs.declared.fault.ConfFault.{ConfFault}
use Rattle.conf_text.specs.declared.fault.FaultKind.TheVariants.{ReadFault}
use Rattle.conf_text.specs.Reading.{reading}
use Rattle.conf_include.specs.Paths.{path_of, is_mask}
use Rattle.conf_include.specs.Listings.{Names}
use Rattle.conf_include.specs.Expansion.{spot, fault_about, include_word, named_by}

-- a directive of the text of a file, which is read under this number
pub record IsIn (tree : Tree) (number : ℕ) (path : List ℕ) (d : Directive) : Type 0 where
  pub bytes : List ℕ
  pub date : ℕ
  pub own : List Directive
  pub there : tree path ≡ AFile bytes date
  pub read : reading number bytes ≡ Ok own
  pub among : Contains own d

-- The files of a configuration, each with its number: the main file has 0, and each other one is named by an include of a
-- file of a lower number.
pub data IsPart (tree : Tree) (names : Names) (main : List ℕ) : ℕ → List ℕ → Type 0 where
  TheMain : IsPart tree names main 0 main
  Included : {number : ℕ} {by path : List ℕ} (d : Directive) (word : List ℕ) →
      IsPart tree names main d.file by → IsIn tree d.file by d → include_word d ≡ Some word →
      Contains (named_by names main word) path → d.file < number →
      IsPart tree names main number path

-- an include with this word, in the file of the configuration at this path
pub record IsInclude (tree : Tree) (names : Names) (main at : List ℕ) (d : Directive)
    (word : List ℕ) : Type 0 where
  pub part : IsPart tree names main d.file at
  pub among : IsIn tree d.file at d
  pub says : include_word d ≡ Some word

-- What is told where the files fail, and the path of the file that it is told of. The main file is asked for at its own
-- line 1. At an include's line its files are asked for, or the names of its mask's folder. The word of what is told is
-- the path that was asked for; of a folder, the mask's.
pub data IsAskedAt (tree : Tree) (names : Names) (main : List ℕ) (fault : ConfFault)
    (at : List ℕ) : Type 0 where
  ForMain : fault ≡ fault_about ReadFault (spot 0 1) main → at ≡ main →
      IsAskedAt tree names main fault at
  ForFile : (d : Directive) (word path : List ℕ) → IsInclude tree names main at d word →
      Contains (named_by names main word) path →
      fault ≡ fault_about ReadFault (spot d.file d.line) path →
      IsAskedAt tree names main fault at
  ForFolder : (d : Directive) (word : List ℕ) → IsInclude tree names main at d word →
      is_mask (path_of main word) ≡ true →
      fault ≡ fault_about ReadFault (spot d.file d.line) (path_of main word) →
      IsAskedAt tree names main fault at
