-- Texts with variables that name a path and arguments: the first literal `?` divides them
-- (https://nginx.org/en/docs/http/ngx_http_rewrite_module.html#rewrite).
use Rattle.std.specs.Prelude.{ℕ, ◌-◌, ◌==◌, Bool, false, List, [], ◌∷◌, ◌++◌, length, take, Option, None, Some, if◌then◌else◌}
use Rattle.std.specs.List.{list_any, before_first, after_first, ends_with}
use Rattle.std.specs.Prelude.{nat_eq}
use Rattle.acts.specs.Act.{Done, ◌>>=◌}
use Rattle.file_path.specs.ngx_variables.declared.value.Piece.{Piece}
use Rattle.file_path.specs.ngx_variables.declared.value.Piece.TheVariants.{Literal}
use Rattle.file_path.specs.ngx_variables.declared.request.Main.{Main}
use Rattle.file_path.specs.ngx_variables.declared.request.Request.{Request}
use Rattle.file_path.specs.ngx_variables.Texts.{is_too_long}
use Rattle.file_path.specs.ngx_variables.Acts.{value}
use Rattle.site_views.specs.Values.{Text}
use Rattle.request_meaning.specs.Serving.{Serving}

abbrev pub is_question : ℕ → Bool
is_question b = b == 63

-- a text in two: what comes before its first literal `?`, and what comes after it, if there is one
pub record Cut : Type 0 where
  pub path : Text
  pub args : Option Text

abbrev pub onto_path : Piece → Cut → Cut
onto_path p c = record { path = p ∷ c.path; args = c.args }

unfoldable pub cut : Text → Cut
cut [] = record { path = []; args = None }
cut (Literal bytes ∷ text) =
    if list_any is_question bytes
    then record { path = Literal (before_first is_question bytes) ∷ []; args = Some (Literal (after_first is_question bytes) ∷ text) }
    else onto_path (Literal bytes) (cut text)
cut (p ∷ text) = onto_path p (cut text)

-- the text ends with a literal `?`
unfoldable pub ends_in_question : Text → Bool
ends_in_question [] = false
ends_in_question (Literal bytes ∷ []) = ends_with nat_eq bytes (63 ∷ [])
ends_in_question (p ∷ text) = ends_in_question text

-- a path and its arguments, if a `?` is between them
pub record Target : Type 0 where
  pub path : List ℕ
  pub args : Option (List ℕ)

-- both with the `?` between them
abbrev pub whole : List ℕ → Option (List ℕ) → List ℕ
whole path None = path
whole path (Some args) = path ++ 63 ∷ args

abbrev pub fitting : List ℕ → Option (List ℕ) → Option Target
fitting path args = if is_too_long (whole path args) then None else Some (record { path = path; args = args })

unfoldable pub some_value : Main → Request → Option Text → Serving (Option (List ℕ))
some_value main request None = Done None
some_value main request (Some text) = do
  bytes ← value main request text
  Done (Some bytes)

-- what such a text evaluates to; none where it is too long
unfoldable pub target : Main → Request → Text → Serving (Option Target)
target main request text = do
  path ← value main request (cut text).path
  args ← some_value main request (cut text).args
  Done (fitting path args)

-- what a text evaluates to; none where it is too long
unfoldable pub fit_value : Main → Request → Text → Serving (Option (List ℕ))
fit_value main request text = do
  bytes ← value main request text
  Done (if is_too_long bytes then None else Some bytes)

-- `path?args`, or the path where there are no arguments
abbrev pub with_args : List ℕ → List ℕ → List ℕ
with_args path [] = path
with_args path (b ∷ args) = path ++ 63 ∷ b ∷ args

abbrev pub or_none : Option (List ℕ) → List ℕ
or_none None = []
or_none (Some args) = args

abbrev pub joined_args : List ℕ → List ℕ → List ℕ
joined_args new [] = new
joined_args new (b ∷ old) = new ++ 38 ∷ b ∷ old

-- The arguments after a `rewrite`: the old ones come after the new ones, unless the text ends with `?`, which is dropped;
-- without a `?` the old ones stay.
unfoldable pub rewritten_args : (old : List ℕ) → Option (List ℕ) → (ends : Bool) → List ℕ
rewritten_args old None ends = old
rewritten_args old (Some new) ends = if ends then take (length new - 1) new else joined_args new old
