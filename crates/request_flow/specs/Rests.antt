-- What is still to come of the response to a request that asks for no subrequest.
use Rattle.std.specs.Prelude.{◌≡◌, ℕ, Bool, true, List, [], ◌∷◌, ◌++◌, Option, None, Some, if◌then◌else◌}
use Rattle.acts.specs.Vars.{Vars}
use Rattle.acts.specs.Act.{Done, ◌>>=◌, ◌>>◌}
use Rattle.file_tree.specs.Tree.{Tree}
use Rattle.ngx_outside.specs.Views.{Log}
use Rattle.ngx_variables.specs.declared.request.Main.{Main}
use Rattle.ngx_variables.specs.declared.request.Request.{Request}
use Rattle.site_model.specs.Levels.{raw_level}
use Rattle.site_model.specs.declared.site.Site.{Site}
use Rattle.site_views.specs.Values.{Values}
use Rattle.reply_out.specs.site_whole.Whole.{values_seen}
use Rattle.request_meaning.specs.Serving.{World, Serving, Answer, Prepared}
use Rattle.request_meaning.specs.Bodies.{written}
use Rattle.request_meaning.specs.Phases.{rounds}
use Rattle.request_meaning.specs.Replies.{Came, run, reply, reply_with, most_depth, most_changes, outside}
use Rattle.request_meaning.specs.Responses.{response, log_of}
use Rattle.family_meaning.specs.Flight.{Terms, stays_after}
use Rattle.family_meaning.specs.Left.{act_subs}

-- The bytes that are still to come; whether the connection stays open after them; what is logged of the response, if it isn't
-- yet; the values of the level that answers, until the head is put; and how many subrequests are still asked for.
pub record Rest : Type 0 where
  pub bytes : List ℕ
  pub stays : Bool
  pub logs : List Log
  pub values : Option Values
  pub subs : ℕ

-- nothing of a response is to come
abbrev pub no_rest : Rest
no_rest = record { bytes = []; stays = true; logs = []; values = None; subs = 0 }

-- ---- a request within its phases

-- the phases, and then the body
unfoldable pub finished : World → Serving Prepared → Serving Answer
finished w m = do
  p ← m
  written w most_depth [] p.answer p.body
  Done p.answer

-- the whole response to what a request comes to
abbrev pub came_rest : Terms → Came Answer → (subs : ℕ) → Rest
came_rest t came subs =
    record {
      bytes = response (reply_with came) t.moment t.version t.no_body (stays_after t came.result);
      stays = stays_after t came.result;
      logs = log_of (reply_with came) t.no_body ∷ [];
      values = Some came.result.values;
      subs = subs;
    }

-- where these acts of its phases are left, with this table of variables
unfoldable pub act_rest : World → Tree → Terms → Serving Prepared → Vars → Rest
act_rest w tree t m vars =
    let act = finished w m in
    came_rest t (run tree (reply w tree most_depth) act vars) (act_subs w tree most_depth act vars)

-- before its phases
abbrev pub opened_rest : World → Tree → Terms → Main → Request → Rest
opened_rest w tree t main request =
    act_rest w tree t (rounds w most_changes (outside main request)) []

-- ---- how it goes on

-- whether the connection closes, by what is still to come of a response
abbrev pub closes_after : Rest → (closing : Bool) → Bool
closes_after r closing = if r.stays then closing else true

abbrev pub logged_by : Option Log → List Log
logged_by None = []
logged_by (Some log) = log ∷ []

-- the values of the level with this number, where there is one
abbrev pub values_by : Site → Option ℕ → Option Values → Option Values
values_by site None other = other
values_by site (Some number) other = Some (values_seen site (raw_level site number))

-- A request goes on: what is kept for the peer and what is still to come stay the same, and so does whether the connection
-- closes after it; what is logged now and what will be is what was to be; the level of which the number is told is the one
-- that answers; and subrequests are asked for as before.
pub record Follows (site : Site) (before after : Rest) (out out' : List ℕ) (closing closing' : Bool)
    (log : Option Log) (number : Option ℕ) : Type 0 where
  pub bytes : out' ++ after.bytes ≡ out ++ before.bytes
  pub closes : closes_after after closing' ≡ closes_after before closing
  pub logged : logged_by log ++ after.logs ≡ before.logs
  pub level : values_by site number after.values ≡ before.values
  pub subs : after.subs ≡ before.subs
