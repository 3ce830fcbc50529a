-- The site that a configuration describes.
use Rattle.std.specs.Prelude.{◌≡◌, ℕ, List, [], ◌∷◌, ◌++◌, map, slice_index_or, Some, Result, Ok, Err, Contains}
use Rattle.file_tree.specs.Tree.{Tree}
use Rattle.ngx_outside.specs.Causes.{Rose}
use Rattle.ngx_outside.specs.Seen.{FilesSeen}
use Rattle.link_service.specs.Seen.{Grown}
use Rattle.conf_text.specs.declared.directive.Directive.{Directive}
use Rattle.conf_text.specs.declared.fault.ConfFault.{ConfFault}
use Rattle.conf_text.specs.declared.fault.FaultKind.TheVariants.{ReadFault, PatternTooBig}
use Rattle.conf_include.specs.Listings.{Names}
use Rattle.conf_include.specs.Expansion.{expansion}
use Rattle.conf_include.specs.declared.main_file.ExpandError.{ExpandError}
use Rattle.conf_include.specs.declared.main_file.ExpandError.TheVariants as expand
use Rattle.conf_include.specs.Paths.{folder_of}
use Rattle.conf_inherit.specs.Built.{built}
use Rattle.site_views.specs.Views.{ServerView, SiteView}
use Rattle.conf_inherit.specs.Pools.{site_built}
use Rattle.conf_inherit.specs.declared.site.Built.{Built}
use Rattle.race_meaning.specs.Named.{IsRaceless}
use Rattle.race_meaning.specs.Conflicts.{Conflict}
use Rattle.conf_races.specs.Races.{RacesOf, conflicts_seen}
use Rattle.ngx_cli.specs.declared.site.ReadSite.{ReadSite}
use Rattle.ngx_cli.specs.declared.site.SiteError.{SiteError}
use Rattle.ngx_cli.specs.declared.site.SiteError.TheVariants as error

-- a configuration: its site, its directives with those of the files that it includes, and the paths of its files by their
-- numbers
pub record Configuration : Type 0 where
  pub site : SiteView
  pub directives : List Directive
  pub paths : List (List ℕ)

abbrev pub with_files : (read : List Directive × List (List ℕ)) → Result SiteView ConfFault →
    Result Configuration ConfFault
with_files read (Ok site) = Ok (record { site = site; directives = read.0; paths = read.1 })
with_files read (Err fault) = Err fault

-- a fault with the path of its file, which is one of these by its number
abbrev pub placed_in : {A : Type 0} → List (List ℕ) → Result A ConfFault →
    Result A (ConfFault × List ℕ)
placed_in paths (Ok value) = Ok value
placed_in paths (Err fault) = Err (fault, slice_index_or paths fault.file [])

-- the site of a configuration's directives, whose relative paths start at this folder, or the first fault
abbrev pub site_in : (folder : List ℕ) →
    Result (List Directive × List (List ℕ)) (ConfFault × List ℕ) →
    Result Configuration (ConfFault × List ℕ)
site_in folder (Ok read) = placed_in read.1 (with_files read (built folder read.0))
site_in folder (Err fault) = Err fault

-- the site of a main file and what it includes, or the first fault, with the path of its file
unfoldable pub site_at : Tree → Names → List ℕ →
    Result Configuration (ConfFault × List ℕ)
site_at tree names main = site_in (folder_of main) (expansion tree names main)

-- A configuration was read: the number of the newest tree was told when the reading began and when
-- it was over.
pub record Reading (files files' : FilesSeen) : Type 0 where
  pub tells : files'.tells ≡ files.tells
  pub grown : Grown files files'
  pub told : (told : List ℕ) → files'.versions ≡ Some told →
      (before : List ℕ) × (files.versions ≡ Some before) ×
      (told ≡ before ++ files.newest ∷ files'.newest ∷ [])

-- ---- what the race check names

-- the path of a file by its number
abbrev pub path_in : List (List ℕ) → ℕ → List ℕ
path_in paths number = slice_index_or paths number []

-- the variables that were found to be named, with the paths of their places
abbrev pub conflicts_of : ReadSite → List Conflict
conflicts_of found = conflicts_seen (path_in found.paths) found.races

-- they are those of these directives
abbrev pub AreRacesOf : ReadSite → List Directive → Type 0
AreRacesOf found ds = RacesOf (path_in found.paths) ds (site_built found.built).servers
    (conflicts_of found)

-- no variable of a server is named
abbrev pub AreRaceless : Built → Type 0
AreRaceless b = (server : ServerView) → Contains (site_built b).servers server → IsRaceless server

-- ---- what was read

abbrev pub configuration_of : ReadSite → List Directive → Configuration
configuration_of found ds =
    record { site = site_built found.built; directives = ds; paths = found.paths }

-- A site is the one that is described, with exactly the named variables of its directives, and a fault is the first one,
-- unless the files failed, the maker refused a pattern, or memory ran out. Where the files failed, what is told is where they
-- were asked.
abbrev pub Describes : (asked : ConfFault → List ℕ → Type 0) → Result ReadSite SiteError →
    Result Configuration (ConfFault × List ℕ) → Type 0
Describes asked (Ok found) outcome = (ds : List Directive) ×
    (outcome ≡ Ok (configuration_of found ds)) × AreRacesOf found ds
Describes asked (Err (error.Fault placed)) outcome = outcome ≡ Err (placed.fault, placed.path)
Describes asked (Err (error.Failed placed)) outcome = asked placed.fault placed.path
Describes asked (Err (error.TooBig placed)) outcome = Unit {0}
Describes asked (Err error.OutOfMemory) outcome = Unit {0}

abbrev pub unread_by : ExpandError → SiteError
unread_by (expand.Fault placed) = error.Fault placed
unread_by (expand.Failed placed) = error.Failed placed
unread_by expand.OutOfMemory = error.OutOfMemory

-- what holds of a fault, if the error is one
abbrev pub OnFault : SiteError → (ConfFault → List ℕ → Type 0) → Type 0
OnFault (error.Fault placed) P = P placed.fault placed.path
OnFault (error.Failed placed) P = Unit {0}
OnFault (error.TooBig placed) P = Unit {0}
OnFault error.OutOfMemory P = Unit {0}

-- and of a pattern that the maker refused
abbrev pub OnRefused : SiteError → (made made' : ℕ) → Type 0
OnRefused (error.TooBig placed) made made' = (placed.fault.kind ≡ PatternTooBig) × Rose made made'
OnRefused (error.Fault placed) made made' = Unit {0}
OnRefused (error.Failed placed) made made' = Unit {0}
OnRefused error.OutOfMemory made made' = Unit {0}

-- the files are said to have failed only where their count of faults rose, and a pattern is said to be refused only where the
-- maker's count of refusals did
abbrev pub FailsIf : {A : Type 0} → Result A SiteError → (before now : ℕ) → (made made' : ℕ) → Type 0
FailsIf (Ok found) before now made made' = Unit {0}
FailsIf (Err (error.Fault placed)) before now made made' = Unit {0}
FailsIf (Err (error.Failed placed)) before now made made' =
    (placed.fault.kind ≡ ReadFault) × Rose before now
FailsIf (Err (error.TooBig placed)) before now made made' =
    (placed.fault.kind ≡ PatternTooBig) × Rose made made'
FailsIf (Err error.OutOfMemory) before now made made' = Unit {0}
