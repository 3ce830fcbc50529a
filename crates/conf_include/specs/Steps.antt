-- What the functions that read files compute, a step at a time.
use Rattle.std.specs.Prelude.{◌≡◌, ◌≢◌, ℕ, zero, suc, ◌+◌, ◌≤◌, ◌<◌, Bool, false, List, [], ◌++◌, length, Some, drop, slice_index_or, Contains, ◌↔◌, Result, Ok, Err}
use Rattle.std.specs.List.{AllByRecursion}
use Rattle.file_tree.specs.Tree.{Tree, Item, AFile, AFolder, IsChild, HoldsBytes}
use Rattle.ngx_outside.specs.Causes.{Rose}
use Rattle.conf_text.specs.declared.fault.FaultKind.TheVariants.{ReadFault, TooDeep}
use Rattle.conf_text.specs.declared.directive.Directive.{Directive}
use Rattle.conf_include.specs.declared.stop.Stop.{Stop}
use Rattle.conf_include.specs.declared.stop.Stop.TheVariants as stop
use Rattle.conf_include.specs.declared.include.Reading.{Reading}
use Rattle.conf_include.specs.declared.main_file.Expanded.{Expanded}
use Rattle.conf_include.specs.declared.main_file.ExpandError.{ExpandError}
use Rattle.conf_include.specs.declared.main_file.ExpandError.TheVariants as error
use Rattle.conf_text.specs.declared.fault.ConfFault.{ConfFault}
use Rattle.conf_include.specs.Masks.{matches}
use Rattle.conf_include.specs.Listings.{Names, IsNaming}
use Rattle.ngx_outside.specs.Seen.{FilesSeen}
use Rattle.conf_include.specs.Told.{IsTold}
use Rattle.conf_include.specs.Expansion.{Tally, tally, Faulty, Expansion, Spot, spot, fault_about, text_in, deeper, include_word, named_by}
use Rattle.conf_include.specs.Asked.{IsIn, IsPart, IsAskedAt}

-- a row tells of each end of a name, the longest first, whether a mask matches it
pub record IsRow (mask name : List ℕ) (row : List Bool) : Type 0 where
  pub len : length row ≡ length name + 1
  pub told : (i : ℕ) → i ≤ length name → slice_index_or row i false ≡ matches mask (drop i name)

-- the names of a folder were found, in any order
pub record FindsNames (tree : Tree) (folder : List ℕ) (found : List (List ℕ)) : Type 0 where
  pub names : tree folder ≡ AFolder → (name : List ℕ) → Contains found name ↔ IsChild tree folder name
  pub none : tree folder ≢ AFolder → (name : List ℕ) → ¬ Contains found name

-- A stop is the fault that reading gives, unless the files failed or memory ran out. These are the paths of the files that
-- were read.
abbrev pub StopsAs : {Y : Type 0} → Stop → Faulty Y → List (List ℕ) → Type 0
StopsAs (stop.Fault fault) outcome paths = outcome ≡ Err (fault, paths)
StopsAs (stop.Failed fault) outcome paths = Unit {0}
StopsAs stop.OutOfMemory outcome paths = Unit {0}

-- What a call answered, seen by view, is what reading gives, or it stopped so.
abbrev pub Answers : {X Y : Type 0} → (X → Y) → Result X Stop → Faulty Y → List (List ℕ) → Type 0
Answers view (Ok x) outcome paths = outcome ≡ Ok (view x)
Answers view (Err e) outcome paths = StopsAs e outcome paths

-- The same of a call, unless the files failed or memory ran out.
abbrev pub NamesFound : Tree → List ℕ → Result (List (List ℕ)) Stop → Type 0
NamesFound tree folder (Ok names) = FindsNames tree folder names
NamesFound tree folder (Err (stop.Fault fault)) = ⊥
NamesFound tree folder (Err (stop.Failed fault)) = Unit {0}
NamesFound tree folder (Err stop.OutOfMemory) = Unit {0}

abbrev pub AreNamed : List (List ℕ) → Result (List (List ℕ)) Stop → Type 0
AreNamed expected (Ok paths) = paths ≡ expected
AreNamed expected (Err (stop.Fault fault)) = ⊥
AreNamed expected (Err (stop.Failed fault)) = Unit {0}
AreNamed expected (Err stop.OutOfMemory) = Unit {0}

-- the length of a file that is to be read, or why it isn't
abbrev pub IsLenOf : Item → Spot → List ℕ → Tally → Result ℕ Stop → Type 0
IsLenOf item at path t (Ok len) = (bytes : List ℕ) × (date : ℕ) × (item ≡ AFile bytes date) × (len ≡ length bytes) × (text_in item at path t ≡ Ok bytes)
IsLenOf item at path t (Err e) = StopsAs e (text_in item at path t) t.paths

-- the first bytes of a file
abbrev pub AreBytesOf : Item → ℕ → Result (List ℕ) Stop → Type 0
AreBytesOf item len (Ok bytes) = HoldsBytes item 0 len bytes
AreBytesOf item len (Err (stop.Fault fault)) = ⊥
AreBytesOf item len (Err (stop.Failed fault)) = Unit {0}
AreBytesOf item len (Err stop.OutOfMemory) = Unit {0}

-- one include more encloses those after it
abbrev pub one_less : ℕ → Spot → List ℕ → List (List ℕ) → Faulty ℕ
one_less zero at path paths = Err (fault_about TooDeep at path, paths)
one_less (suc left) at path paths = Ok left

-- no directive is within more blocks than one text may nest
abbrev pub AreShallow : List Directive → Type 0
AreShallow lines = AllByRecursion (λ d. d.depth ≤ 32) lines

-- the files are said to have failed only where their count of faults rose
abbrev pub IsCaused : {X : Type 0} → Result X Stop → ℕ → ℕ → Type 0
IsCaused (Ok x) before now = Unit {0}
IsCaused (Err (stop.Fault fault)) before now = Unit {0}
IsCaused (Err (stop.Failed fault)) before now = (fault.kind ≡ ReadFault) × Rose before now
IsCaused (Err stop.OutOfMemory) before now = Unit {0}

-- what holds of the fault that is told where the files failed
abbrev pub OnFailed : {X : Type 0} → Result X Stop → (ConfFault → Type 0) → Type 0
OnFailed (Ok x) P = Unit {0}
OnFailed (Err (stop.Fault fault)) P = Unit {0}
OnFailed (Err (stop.Failed fault)) P = P fault
OnFailed (Err stop.OutOfMemory) P = Unit {0}

-- it is about this path, and is there
abbrev pub FailsAbout : {X : Type 0} → Spot → List ℕ → Result X Stop → Type 0
FailsAbout at path result = OnFailed result (λ fault. fault ≡ fault_about ReadFault at path)

-- these files aren't asked
abbrev pub NeverFails : {X : Type 0} → Result X Stop → Type 0
NeverFails result = OnFailed result (λ fault. ⊥)

-- what holds of the tree that the files tell, and of its names
abbrev pub WhereTold : ℕ → FilesSeen → (Tree → Names → Type 0) → Type 0
WhereTold of t P = (tree : Tree) (names : Names) → IsTold of tree t → IsNaming tree names → P tree names

-- a directive of a file that was read, where these are the paths of all by their numbers
pub record IsRead (tree : Tree) (names : Names) (main : List ℕ) (paths : List (List ℕ)) (d : Directive) : Type 0 where
  pub within : d.file < length paths
  pub part : IsPart tree names main d.file (slice_index_or paths d.file [])
  pub among : IsIn tree d.file (slice_index_or paths d.file []) d

-- a path that an include of such a file names, and where that include is
pub record IsNamed (tree : Tree) (names : Names) (main : List ℕ) (paths : List (List ℕ)) (at : Spot) (path : List ℕ) : Type 0 where
  pub line : Directive
  pub word : List ℕ
  pub read : IsRead tree names main paths line
  pub says : include_word line ≡ Some word
  pub stands : at ≡ spot line.file line.line
  pub named : Contains (named_by names main word) path

-- paths of files with those of more files
abbrev pub IsLonger : List (List ℕ) → List (List ℕ) → Type 0
IsLonger old new = (more : List (List ℕ)) × (new ≡ old ++ more)

abbrev pub tally_of : Reading → Tally
tally_of r = tally r.paths r.size

-- directives within `depth` blocks after others
abbrev pub onto : List Directive → ℕ → Expansion → Expansion
onto lines depth (Ok x) = Ok (lines ++ deeper depth x.0, x.1)
onto lines depth (Err e) = Err e

-- What was put after the directives is what a tree and its names make of it, where the files tell that tree.
abbrev pub Puts : (Tree → Names → Expansion) → ℕ → FilesSeen → ℕ → Reading → Reading → Result (Unit {0}) Stop → Type 0
Puts what of t depth old new result =
    (tree : Tree) (names : Names) → IsTold of tree t → IsNaming tree names
    → Answers (λ _. (new.lines, tally_of new)) result (onto old.lines depth (what tree names)) new.paths

-- Where the files failed, what is told is where they were asked.
abbrev pub FailsWhere : ℕ → (main : List ℕ) → FilesSeen → Reading → Result (Unit {0}) Stop → Type 0
FailsWhere of main t new result =
    OnFailed result (λ fault. WhereTold of t (λ tree names. IsAskedAt tree names main fault (slice_index_or new.paths fault.file [])))

-- What was answered of a whole configuration is its expansion, unless the files failed or memory ran out. Where the files
-- failed, what is told is where they were asked.
abbrev pub Expands : (ConfFault → List ℕ → Type 0) → Result Expanded ExpandError → Result (List Directive × List (List ℕ)) (ConfFault × List ℕ) → Type 0
Expands asked (Ok e) outcome = outcome ≡ Ok (e.directives, e.paths)
Expands asked (Err (error.Fault placed)) outcome = outcome ≡ Err (placed.fault, placed.path)
Expands asked (Err (error.Failed placed)) outcome = asked placed.fault placed.path
Expands asked (Err error.OutOfMemory) outcome = Unit {0}

-- the files are said to have failed only where their count of faults rose
abbrev pub FailsIf : Result Expanded ExpandError → ℕ → ℕ → Type 0
FailsIf (Ok e) before now = Unit {0}
FailsIf (Err (error.Fault placed)) before now = Unit {0}
FailsIf (Err (error.Failed placed)) before now = (placed.fault.kind ≡ ReadFault) × Rose before now
FailsIf (Err error.OutOfMemory) before now = Unit {0}
