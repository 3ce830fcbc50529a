-- What the phases decide, and what becomes of it: an answer, or a change by which the phases begin again; errors go by
-- `error_page` (https://nginx.org/en/docs/http/ngx_http_core_module.html#error_page).
use Rattle.std.specs.Prelude.{ℕ, ◌==◌, ◌&&◌, ◌||◌, nat_le, Bool, true, not, List, Option, None, Some, is_some, find, if◌then◌else◌}
use Rattle.std.specs.List.{list_any}
use Rattle.acts.specs.Act.{Done, ◌>>=◌}
use Rattle.http_types.specs.declared.words.Method.{Method}
use Rattle.http_types.specs.declared.words.Method.TheVariants.{Get}
use Rattle.file_path.specs.ngx_variables.declared.request.Main.{Main}
use Rattle.file_path.specs.ngx_variables.declared.request.Request.{Request}
use Rattle.site_views.specs.Values.{Values, Shown, PageRule, PageTarget}
use Rattle.site_views.specs.Values.Shown.{OwnCode, Fixed, ByAnswer}
use Rattle.site_views.specs.Values.PageTarget.{AtPath, AtLocation, AtUrl}
use Rattle.request_meaning.specs.Serving.{World, Serving, Asked, Standing, Prepared, is_main, is_head}
use Rattle.request_meaning.specs.Serving.From.{Start, Find, Named}
use Rattle.request_meaning.specs.Cuts.{Target, target, fit_value, or_none}
use Rattle.request_meaning.specs.Rewriting.{is_redirect}
use Rattle.request_meaning.specs.Answering.{closes_by, page, moved, closed, sent}

-- what the phases decide for a request
pub data Outcome : Type 0 where
  -- a text with a status, a file with its date
  Text : (code : ℕ) → (bytes : List ℕ) → Outcome
  File : (bytes : List ℕ) → (date : ℕ) → Outcome
  -- an error, which goes by `error_page`; and one that is answered by the built-in page at once
  Fails : (code : ℕ) → Outcome
  Gives : (code : ℕ) → Outcome
  -- a redirect of the client
  Moves : (code : ℕ) → (to : Option (List ℕ)) → Outcome
  -- the connection is closed
  Closes : Outcome
  -- a location is sought again for the path as it was rewritten; a redirect inside, to a path and to a location `@name`
  Seeks : Outcome
  GoesTo : (path args : List ℕ) → Outcome
  GoesToNamed : (name : List ℕ) → Outcome

pub record Decided : Type 0 where
  pub at : Standing
  pub outcome : Outcome

abbrev pub decided : Standing → Outcome → Decided
decided s outcome = record { at = s; outcome = outcome }

-- what a round of phases comes to: an answer, or a change with which they begin again, and where it was made
pub data Next : Type 0 where
  Answered : Prepared → Next
  Changed : Standing → Asked → Next

-- ---- changes

-- a location is sought again
abbrev pub sought : Asked → Standing → Asked
sought a s = record a { request = s.request; from = Find; inside = s.inside }

abbrev pub to_path : Request → List ℕ → List ℕ → Request
to_path request path args = record request { path = path; args = args }

-- the phases begin at the server's program, from inside
abbrev pub inside_to : Asked → Standing → List ℕ → List ℕ → Asked
inside_to a s path args = record a { request = to_path s.request path args; from = Start; inside = true }

abbrev pub named_to : Asked → Standing → List ℕ → Asked
named_to a s name = record a { request = s.request; from = Named s.values name; inside = true }

-- ---- errors

-- the first rule that names the code; codes below 400 never have one
unfoldable pub rule_for : List PageRule → ℕ → Option PageRule
rule_for rules code = if nat_le 400 code then find (λ (r : PageRule). list_any (λ c. c == code) r.codes) rules else None

-- a rule applies while a change is left, and once for each request unless `recursive_error_pages` is on
abbrev pub may_apply : (left : ℕ) → Asked → Values → Bool
may_apply left a values = not (left == 0) && (values.recursive || not (is_some a.error))

-- the page of an error is asked for with GET, unless with HEAD
abbrev pub page_method : Method → Method
page_method method = if is_head method then method else Get

abbrev pub with_method : Request → Method → Request
with_method request method = record request { method = method }

abbrev pub main_with : (main_too : Bool) → Main → Method → Main
main_with main_too main method = if main_too then record main { method = method } else main

-- the change to an error's page at a path
abbrev pub page_asked : Asked → Standing → ℕ → Shown → List ℕ → List ℕ → Asked
page_asked a s code shown path args =
    record a {
      main = main_with (is_main s.request) a.main (page_method s.request.method);
      request = with_method (to_path s.request path args) (page_method s.request.method);
      from = Start;
      inside = true;
      error = Some (code, shown);
      closes = closes_by a code;
    }

abbrev pub page_named : Asked → Standing → ℕ → Shown → List ℕ → Asked
page_named a s code shown name = record (named_to a s name) { error = Some (code, shown); closes = closes_by a code }

-- the code of a redirect to a whole address: that of `=N` where it is one, else 302
abbrev pub url_code : Shown → ℕ
url_code OwnCode = 302
url_code (Fixed n) = if is_redirect n then n else 302
url_code ByAnswer = 302

-- as the error closes
abbrev pub closing : Asked → ℕ → Asked
closing a code = record a { closes = closes_by a code }

abbrev pub page_at : Asked → Standing → ℕ → Shown → Option Target → Next
page_at a s code shown None = Answered (page (closing a code) s 500)
page_at a s code shown (Some t) = Changed s (page_asked a s code shown t.path (or_none t.args))

abbrev pub page_moved : Asked → Standing → ℕ → Shown → Option (List ℕ) → Next
page_moved a s code shown None = Answered (page (closing a code) s 500)
page_moved a s code shown (Some to) = Answered (moved (closing a code) s (url_code shown) (Some to))

-- an error goes to its page
unfoldable pub error_page : Asked → Standing → ℕ → Shown → PageTarget → Serving Next
error_page a s code shown (AtPath text) = do
  t ← target a.main s.request text
  Done (page_at a s code shown t)
error_page a s code shown (AtLocation name) = Done (Changed s (page_named a s code shown name))
error_page a s code shown (AtUrl text) = do
  to ← fit_value a.main s.request text
  Done (page_moved a s code shown to)

abbrev pub by_rule : Asked → Standing → ℕ → Option PageRule → Serving Next
by_rule a s code None = Done (Answered (page a s code))
by_rule a s code (Some r) = error_page a s code r.shown r.target

-- an error with this many changes left
unfoldable pub failed : (left : ℕ) → Asked → Standing → ℕ → Serving Next
failed left a s code = by_rule a s code (if may_apply left a s.values then rule_for s.values.pages code else None)

-- what becomes of what the phases decide
unfoldable pub outcome_next : World → (left : ℕ) → Asked → Standing → Outcome → Serving Next
outcome_next w left a s (Text code bytes) = Done (Answered (sent w a s code bytes None))
outcome_next w left a s (File bytes date) = Done (Answered (sent w a s 200 bytes (Some date)))
outcome_next w left a s (Fails code) = failed left a s code
outcome_next w left a s (Gives code) = Done (Answered (page a s code))
outcome_next w left a s (Moves code to) = Done (Answered (moved a s code to))
outcome_next w left a s Closes = Done (Answered (closed a s))
outcome_next w left a s Seeks = Done (Changed s (sought a s))
outcome_next w left a s (GoesTo path args) = Done (Changed s (inside_to a s path args))
outcome_next w left a s (GoesToNamed name) = Done (Changed s (named_to a s name))
