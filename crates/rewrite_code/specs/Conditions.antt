-- What the condition of an `if` says (https://nginx.org/en/docs/http/ngx_http_rewrite_module.html#if).
use Rattle.std.specs.Prelude.{ℕ, Bool, true, false, List, [], ◌∷◌, Option, None, Some}
use Rattle.acts.specs.Vars.{Vars}
use Rattle.acts.specs.Act.{Done, Stat}
use Rattle.file_tree.specs.declared.job.Node.{Node}
use Rattle.file_tree.specs.declared.job.Node.TheVariants as nodes
use Rattle.request_meaning.specs.file_path.Located.{Located, located}
use Rattle.request_meaning.specs.file_path.Located.Located.{TooLong, NotThere, At}
use Rattle.ngx_pattern.specs.Pattern.{Pattern as SetPattern}
use Rattle.ngx_variables.specs.declared.value.Piece.{Piece}
use Rattle.ngx_variables.specs.declared.request.Main.{Main}
use Rattle.ngx_variables.specs.declared.request.Request.{Request}
use Rattle.ngx_variables.specs.declared.request.FileRoot.TheVariants.{Whole}
use Rattle.ngx_variables.specs.Texts.{value_text}
use Rattle.site_whole.specs.site_model.declared.program.Test.{Test as CodeTest}
use Rattle.site_whole.specs.site_model.declared.program.Test.TheVariants as tests
use Rattle.site_whole.specs.site_model.declared.program.FileTest.{FileTest as CodeFileTest}
use Rattle.site_whole.specs.site_model.declared.program.FileTest.TheVariants as file_tests
use Rattle.site_whole.specs.site_views.Rewrites.{Test}
use Rattle.request_meaning.specs.Serving.{Serving}
use Rattle.request_meaning.specs.Rewriting.{Tested, says, is_true, equals, matching}
use Rattle.request_meaning.specs.Rewriting.Tested.{Says, Unfit}
use Rattle.rewrite_code.specs.declared.condition.Condition.{Condition}
use Rattle.rewrite_code.specs.declared.condition.Condition.TheVariants as conditions
use Rattle.pattern_search.specs.Found.{found_at}
use Rattle.rewrite_code.specs.Texts.{fit_of}
use Rattle.rewrite_code.specs.Runs.{test_passes}

-- what a condition says, or the path at which a file test looks
pub data Checked : Type 0 where
  Knows : Tested → Checked
  Asks : (path : List ℕ) → Checked

abbrev pub looks_at : Located → Checked
looks_at TooLong = Knows Unfit
looks_at NotThere = Knows (says false)
looks_at (At path) = Asks path

abbrev pub looks : Main → Option (List ℕ) → Checked
looks main None = Knows Unfit
looks main (Some text) = looks_at (located (Whole []) text [] main.folder)

-- the variable that a condition looks at; a file test has none
abbrev pub variable_of : CodeTest → Option Piece
variable_of (tests.IsSet variable) = Some variable
variable_of (tests.Equals variable text) = Some variable
variable_of (tests.Matches variable pattern) = Some variable
variable_of (tests.OnFile test path) = None

abbrev pub left_text : Main → Request → Vars → Option Piece → List ℕ
left_text main request vars None = []
left_text main request vars (Some variable) = value_text main request vars (variable ∷ [])

-- what a condition says where its variable has this text
unfoldable pub checked_text : List SetPattern → Main → Request → Vars → List ℕ → CodeTest → Checked
checked_text patterns main request vars left (tests.IsSet variable) = Knows (says (is_true left))
checked_text patterns main request vars left (tests.Equals variable text) = Knows (equals left (fit_of main request vars text))
checked_text patterns main request vars left (tests.Matches variable pattern) = Knows (matching left (found_at patterns pattern left))
checked_text patterns main request vars left (tests.OnFile test path) = looks main (fit_of main request vars path)

abbrev pub checked : List SetPattern → Main → Request → Vars → CodeTest → Checked
checked patterns main request vars test = checked_text patterns main request vars (left_text main request vars (variable_of test)) test

-- the same as an act: a file test asks what is at its path
abbrev pub checked_act : Test → Checked → Serving Tested
checked_act test (Knows tested) = Done tested
checked_act test (Asks path) = Stat path (λ item. Done (says (test_passes test item)))

-- a condition as the code answers it
abbrev pub condition_seen : Condition → Checked
condition_seen (conditions.Says holds groups) = Knows (Says holds groups)
condition_seen conditions.Unfit = Knows Unfit
condition_seen (conditions.Asks path) = Asks path

-- whether a file test holds of a node; a file that may not be read counts as a file
abbrev pub node_passes : CodeFileTest → Node → Bool
node_passes file_tests.IsFile (nodes.File len date) = true
node_passes file_tests.IsFile nodes.Folder = false
node_passes file_tests.IsFile nodes.Locked = true
node_passes file_tests.IsFile nodes.Missing = false
node_passes file_tests.IsFolder (nodes.File len date) = false
node_passes file_tests.IsFolder nodes.Folder = true
node_passes file_tests.IsFolder nodes.Locked = false
node_passes file_tests.IsFolder nodes.Missing = false
node_passes file_tests.IsThere (nodes.File len date) = true
node_passes file_tests.IsThere nodes.Folder = true
node_passes file_tests.IsThere nodes.Locked = true
node_passes file_tests.IsThere nodes.Missing = false
