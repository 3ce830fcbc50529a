-- What a suspended search of names still does, in the acts of the meaning
-- (https://nginx.org/en/docs/http/ngx_http_core_module.html#try_files, ngx_http_index_module.html).
use Rattle.std.specs.Prelude.{◌≡◌, ℕ, Bool, ◌+◌, ◌≤◌, true, false, List, [], ◌++◌, length, slice_get, drop, None, Some, if◌then◌else◌, ◌⊎◌}
use Rattle.acts.specs.Vars.{Vars}
use Rattle.acts.specs.Act.{Done, Stat}
use Rattle.file_tree.specs.Tree.{Item}
use Rattle.file_tree.specs.declared.job.Node.{Node}
use Rattle.file_tree.specs.declared.job.Node.TheVariants.{File, Folder, Locked, Missing}
use Rattle.target_text.specs.ngx_variables.declared.request.Main.{Main}
use Rattle.target_text.specs.ngx_variables.declared.request.FileRoot.{FileRoot}
use Rattle.target_text.specs.ngx_variables.declared.request.Request.{Request}
use Rattle.target_text.specs.ngx_variables.Texts.{value_text, is_too_long}
use Rattle.target_text.specs.file_path.Located.{located_at}
use Rattle.target_text.specs.file_path.Located.Located.{TooLong, NotThere, At}
use Rattle.site_whole.specs.site_views.Values.{Text, IndexName, LastTry, Tries}
use Rattle.site_whole.specs.site_views.Values.LastTry.{ToPath, ToLocation, ToCode}
use Rattle.target_text.specs.request_meaning.Serving.{Serving, Standing}
use Rattle.target_text.specs.request_meaning.Errors.{Decided, decided}
use Rattle.target_text.specs.request_meaning.Errors.Outcome.{GoesTo, GoesToNamed}
use Rattle.target_text.specs.request_meaning.Contents.{content, tried, try_at, with_path, last_code, indexed, index_at, no_index, goes_to, ends_in_slash}
use Rattle.target_text.specs.Settled.{fit, target_text}
use Rattle.try_index.specs.declared.probe.Turn.{Turn}
use Rattle.try_index.specs.declared.tries.TryState.{TryState}
use Rattle.try_index.specs.declared.tries.TryStep.{TryStep}
use Rattle.try_index.specs.declared.tries.TryStep.TheVariants as steps
use Rattle.try_index.specs.declared.index.IndexState.{IndexState}
use Rattle.try_index.specs.declared.index.IndexStep.{IndexStep}
use Rattle.try_index.specs.declared.index.IndexStep.TheVariants as turns

-- where this request is in a level whose files are at this place
pub record IsAt (request : Request) (place : FileRoot) (s : Standing) : Type 0 where
  pub of_request : s.request ≡ request
  pub at_place : s.values.place ≡ place

-- ---- nodes

abbrev pub is_file : Node → Bool
is_file (File len date) = true
is_file Folder = false
is_file Locked = true
is_file Missing = false

abbrev pub is_folder : Node → Bool
is_folder (File len date) = false
is_folder Folder = true
is_folder Locked = false
is_folder Missing = false

abbrev pub is_found : List ℕ → Node → Bool
is_found name node = if ends_in_slash name then is_folder node else is_file node

-- ---- the turn of a name

-- it fits, and no file can be at its path
pub record IsNotThere (main : Main) (request : Request) (vars : Vars) (place : FileRoot) (front : List ℕ) (name : Text) : Type 0 where
  pub fits : is_too_long (value_text main request vars name) ≡ false
  pub nowhere : located_at main request vars place (front ++ value_text main request vars name) ≡ NotThere

-- it fits, and its file is asked for
pub record IsThere (main : Main) (request : Request) (vars : Vars) (place : FileRoot) (front : List ℕ) (name : Text) (turn : Turn) : Type 0 where
  pub fits : is_too_long (value_text main request vars name) ≡ false
  pub named : turn.uri ≡ front ++ value_text main request vars name
  pub at : located_at main request vars place (front ++ value_text main request vars name) ≡ At turn.path

-- it is too long, or the text of `root` or `alias` is
abbrev pub IsUnfit : Main → Request → Vars → FileRoot → List ℕ → Text → Type 0
IsUnfit main request vars place front name =
    (is_too_long (value_text main request vars name) ≡ true)
    ⊎ ((is_too_long (value_text main request vars name) ≡ false) × (located_at main request vars place (front ++ value_text main request vars name) ≡ TooLong))

-- ---- try_files

-- what a search does after the names that were taken up
abbrev pub tried_from : Main → Standing → Tries → (passed : ℕ) → Serving Decided
tried_from main s t passed = tried main s (drop passed t.names) t.last

-- what a search still does once the node is known that it asks for; before its first name it asks for none
abbrev pub try_told : Main → Standing → Tries → TryState → Item → Serving Decided
try_told main s t state item = elim state.asked [
  | None ↦ tried_from main s t state.passed
  | Some name ↦ try_at main s name item (tried_from main s t state.passed)
]

-- what is left after a step
abbrev pub try_left : Main → Standing → Tries → TryState → TryStep → Serving Decided
try_left main s t state (steps.Probe path) = Stat path (λ item. try_told main s t state item)
try_left main s t state (steps.Use path) = content main (with_path path s)
try_left main s t state (steps.Redirect path args) = Done (decided s (GoesTo path args))
try_left main s t state (steps.Named name) = Done (decided s (GoesToNamed name))
try_left main s t state (steps.Status code) = Done (decided s (last_code code))

-- ---- index

abbrev pub indexed_from : Main → Standing → List IndexName → (passed : ℕ) → Serving Decided
indexed_from main s names passed = indexed main s (drop passed names)

abbrev pub index_told : Main → Standing → List IndexName → IndexState → Item → Serving Decided
index_told main s names state item = elim state.asked [
  | None ↦ indexed_from main s names state.passed
  | Some path ↦ index_at s path item (indexed_from main s names state.passed)
]

abbrev pub index_left : Main → Standing → List IndexName → IndexState → IndexStep → Serving Decided
index_left main s names state (turns.Probe path) = Stat path (λ item. index_told main s names state item)
index_left main s names state (turns.Redirect path) = goes_to s path
index_left main s names state turns.NoneFound = no_index main s

-- ---- when a text is too long

-- the last word names a path, which with its arguments is too long
abbrev pub IsLastUnfit : Main → Request → Vars → LastTry → Type 0
IsLastUnfit main request vars (ToPath text) = target_text main request vars text ≡ None
IsLastUnfit main request vars (ToLocation name) = ⊥
IsLastUnfit main request vars (ToCode code) = ⊥

-- of the names that were taken up the last one is unfit, or all are taken up, and the last word is
abbrev pub IsTryUnfit : Main → Request → Vars → FileRoot → Tries → (passed : ℕ) → Type 0
IsTryUnfit main request vars place t passed =
    ((at : ℕ) × (name : Text) × (passed ≡ at + 1) × (slice_get t.names at ≡ Some name) × IsUnfit main request vars place [] name)
    ⊎ ((length t.names ≤ passed) × IsLastUnfit main request vars t.last)

-- a name of `index` is unfit
abbrev pub IsNameUnfit : Main → Request → Vars → FileRoot → IndexName → Type 0
IsNameUnfit main request vars place name =
    ((name.is_path ≡ true) × (fit (value_text main request vars name.text) ≡ None))
    ⊎ ((name.is_path ≡ false) × IsUnfit main request vars place request.path name.text)

-- of the names that were taken up the last one is so
abbrev pub IsIndexUnfit : Main → Request → Vars → FileRoot → List IndexName → (passed : ℕ) → Type 0
IsIndexUnfit main request vars place names passed =
    (at : ℕ) × (name : IndexName) × (passed ≡ at + 1) × (slice_get names at ≡ Some name) × IsNameUnfit main request vars place name
