-- The access phase of a main request (https://nginx.org/en/docs/http/ngx_http_access_module.html,
-- ngx_http_auth_request_module.html, and ngx_http_core_module.html#satisfy).
use Rattle.std.specs.Prelude.{ℕ, ◌==◌, ◌&&◌, ◌||◌, nat_le, nat_lt, Bool, true, false, List, [], ◌∷◌, Option, None, Some, if◌then◌else◌}
use Rattle.acts.specs.Act.{Done, ◌>>=◌, ◌>>◌}
use Rattle.file_path.specs.ngx_variables.declared.request.Main.{Main}
use Rattle.file_path.specs.ngx_variables.declared.request.Request.{Request}
use Rattle.file_path.specs.ngx_variables.declared.request.Role.TheVariants.{Auth}
use Rattle.access_rules.specs.Rule.{decision}
use Rattle.site_views.specs.Values.{Values, Text}
use Rattle.request_meaning.specs.Serving.{Serving, Child, asks, puts}
use Rattle.request_meaning.specs.Cuts.{fit_value}

-- whether the request is let in; if not, the error's code
pub data Verdict : Type 0 where
  LetsIn : Verdict
  Denies : (code : ℕ) → Verdict

-- what an auth subrequest's status says: 2xx lets in, 401 and 403 deny, any other is an error
abbrev pub status_verdict : ℕ → Verdict
status_verdict status =
    if nat_le 200 status && nat_lt status 300 then LetsIn
    else (if (status == 401) || (status == 403) then Denies status else Denies 500)

abbrev pub auth_child : Main → List ℕ → Child
auth_child main path = record { main = main; role = Auth; path = path; args = []; ssi = []; stub = None; waited = true }

-- The texts of `auth_request_set` are evaluated on the subrequest's own values, whatever it answered; false where one is too
-- long.
abbrev pub set_fit : List ℕ → Option (List ℕ) → Serving Bool → Serving Bool
set_fit name None rest = Done false
set_fit name (Some text) rest = do
  puts name text
  rest

unfoldable pub sets : Main → Request → List (List ℕ × Text) → Serving Bool
sets main request [] = Done true
sets main request (s ∷ others) = do
  text ← fit_value main request s.1
  set_fit s.0 text (sets main request others)

abbrev pub fit_verdict : Bool → Verdict → Verdict
fit_verdict fit v = if fit then v else Denies 500

-- the verdict of the subrequest, if one is to be asked; without one the list's denial holds
unfoldable pub auth_verdict : Main → Values → (denied : Bool) → Option (List ℕ) → Serving Verdict
auth_verdict main values denied None = Done (if denied then Denies 403 else LetsIn)
auth_verdict main values denied (Some path) = do
  reply ← asks (auth_child main path)
  fit ← sets main reply.answer.request values.auth_sets
  Done (fit_verdict fit (status_verdict reply.answer.status))

abbrev pub is_said : Option Bool → Bool → Bool
is_said None b = false
is_said (Some true) b = b
is_said (Some false) b = if b then false else true

-- Address rules come first. With `satisfy all` a denial ends; with `satisfy any` a rule that allows ends, and the subrequest
-- decides where one is asked.
unfoldable pub verdict : Main → Values → Serving Verdict
verdict main values =
    let said = decision values.rules main.peer.ip in
    if is_said said true && values.any then Done LetsIn
    else (if is_said said false && (if values.any then false else true) then Done (Denies 403) else auth_verdict main values (is_said said false) values.auth)
