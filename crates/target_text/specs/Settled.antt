-- What the meaning's acts of evaluating texts, and of looking for a file, come to: they read variables and change none.
use Rattle.std.specs.Prelude.{◌≡◌, ℕ, List, Option, None, Some, option_map, if◌then◌else◌}
use Rattle.std.specs.List.{list_any, before_first}
use Rattle.acts.specs.Vars.{Vars}
use Rattle.acts.specs.Act.{Done, settled}
use Rattle.ngx_variables.specs.declared.value.Piece.{Piece}
use Rattle.ngx_variables.specs.declared.value.Piece.TheVariants.{Literal}
use Rattle.ngx_variables.specs.declared.request.Main.{Main}
use Rattle.ngx_variables.specs.declared.request.Request.{Request}
use Rattle.ngx_variables.specs.Texts.{is_too_long, value_text}
use Rattle.file_path.specs.Located.{located_at}
use Rattle.request_meaning.specs.site_views.Values.{Text}
use Rattle.request_meaning.specs.Serving.{Standing}
use Rattle.request_meaning.specs.Cuts.{Target, cut, fitting, fit_value, target, is_question}
use Rattle.request_meaning.specs.Contents.{item, item_at}
use Rattle.target_text.specs.declared.target.Target.{Target as CodeTarget}

-- what is before the first `?`, if there is one
abbrev pub bytes_before_question : List ℕ → Option (List ℕ)
bytes_before_question bytes = if list_any is_question bytes then Some (before_first is_question bytes) else None

abbrev pub before_question : Piece → Option (List ℕ)
before_question (Literal bytes) = bytes_before_question bytes
before_question other = None

-- ---- texts

-- a text, unless it is too long
abbrev pub fit : List ℕ → Option (List ℕ)
fit bytes = if is_too_long bytes then None else Some bytes

-- the path and the arguments that a text evaluates to, unless it is too long
unfoldable pub target_text : Main → Request → Vars → Text → Option Target
target_text main request vars text =
    fitting (value_text main request vars (cut text).path) (option_map (value_text main request vars) (cut text).args)

abbrev pub target_seen : CodeTarget → Target
target_seen t = record { path = t.path; args = t.args }

-- ---- acts

abbrev pub FitValueSettles : Type 0
FitValueSettles =
    (main : Main) (request : Request) (vars : Vars) (text : Text) → settled (fit_value main request text) vars ≡ (Done (fit (value_text main request vars text)), vars)

abbrev pub TargetSettles : Type 0
TargetSettles =
    (main : Main) (request : Request) (vars : Vars) (text : Text) → settled (target main request text) vars ≡ (Done (target_text main request vars text), vars)

abbrev pub ItemSettles : Type 0
ItemSettles =
    (main : Main) (s : Standing) (vars : Vars) (uri : List ℕ) → settled (item main s uri) vars ≡ (item_at (located_at main s.request vars s.values.place uri), vars)
