-- What texts with variables come to in a program, with the variables that were set.
use Rattle.std.specs.Prelude.{ℕ, List, Option, None, Some, option_map, if◌then◌else◌}
use Rattle.std.specs.List.{list_any, before_first}
use Rattle.acts.specs.Vars.{Vars}
use Rattle.ngx_variables.specs.declared.value.Piece.{Piece}
use Rattle.ngx_variables.specs.declared.value.Piece.TheVariants.{Literal}
use Rattle.ngx_variables.specs.declared.request.Main.{Main}
use Rattle.ngx_variables.specs.declared.request.Request.{Request}
use Rattle.ngx_variables.specs.Texts.{is_too_long, value_text}
use Rattle.site_whole.specs.site_views.Values.{Text}
use Rattle.request_meaning.specs.Cuts.{Cut, Target, cut, fitting, is_question}
use Rattle.rewrite_code.specs.declared.target.Aim.{Aim}

-- a text that isn't too long
abbrev pub fitted : List ℕ → Option (List ℕ)
fitted bytes = if is_too_long bytes then None else Some bytes

-- what a text evaluates to; none where it is too long
unfoldable pub fit_of : Main → Request → Vars → Text → Option (List ℕ)
fit_of main request vars text = fitted (value_text main request vars text)

-- a text in two evaluates to two; none where both are too long together
abbrev pub cut_text : Main → Request → Vars → Cut → Option Target
cut_text main request vars c = fitting (value_text main request vars c.path) (option_map (value_text main request vars) c.args)

unfoldable pub target_of : Main → Request → Vars → Text → Option Target
target_of main request vars text = cut_text main request vars (cut text)

-- a target as it is kept
abbrev pub aim_seen : Aim → Target
aim_seen a = record { path = a.path; args = a.args }

-- what comes before the first `?`, if there is one; and the same in a piece that is taken as it is
abbrev pub before_question : List ℕ → Option (List ℕ)
before_question bytes = if list_any is_question bytes then Some (before_first is_question bytes) else None

abbrev pub path_in : Piece → Option (List ℕ)
path_in (Literal bytes) = before_question bytes
path_in other = None
