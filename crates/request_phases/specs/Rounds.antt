-- A request within its phases, as the recursive meaning sees it.
use Rattle.std.specs.Prelude.{◌≡◌, ℕ, false, List, map, drop, Option, None, Some, if◌then◌else◌}
use Rattle.acts.specs.Act.{Done, Stat, Call, ◌>>=◌}
use Rattle.file_tree.specs.Tree.{Item, node_of}
use Rattle.filter_api.specs.Members.{Member}
use Rattle.ngx_pattern.specs.Pattern.{Pattern as SetPattern}
use Rattle.ngx_variables.specs.declared.request.Main.{Main}
use Rattle.site_model.specs.Levels.{raw_level}
use Rattle.site_model.specs.declared.site.Site.{Site}
use Rattle.request_meaning.specs.site_views.Values.{Shown, Tries}
use Rattle.try_index.specs.site_whole.Whole.{shown_seen, server_whole, index_seen, default_index}
use Rattle.static_content.specs.Content.{content_for}
use Rattle.request_meaning.specs.Serving.{World, Serving, Asked, Standing, From, Prepared}
use Rattle.request_meaning.specs.Serving.From.{Start, Find, Named}
use Rattle.request_meaning.specs.Rewriting.{passes}
use Rattle.request_meaning.specs.site_views.Rewrites.FileTest.{IsFolder}
use Rattle.request_meaning.specs.Errors.{Decided, decided, Outcome}
use Rattle.request_meaning.specs.Answering.{sent, page, moved, closed}
use Rattle.request_meaning.specs.Access.{auth_child}
use Rattle.request_meaning.specs.Contents.{content, content_outcome, fails}
use Rattle.request_meaning.specs.Phases.{after_program, by_verdict}
use Rattle.family_meaning.specs.Suspended.{follows, heard_verdict, rounds_rest}
use Rattle.try_index.specs.Searches.{try_told, index_told}
use Rattle.try_index.specs.declared.tries.TryState.{TryState}
use Rattle.location_search.specs.pattern_search.Found.{patterns_seen, found}
use Rattle.rewrite_code.specs.Places.{standing_seen, progress_seen}
use Rattle.rewrite_code.specs.Runs.{program_of, resumed}
use Rattle.rewrite_code.specs.declared.place.Progress.{Progress}
use Rattle.location_search.specs.Served.{AreOf}
use Rattle.request_phases.specs.declared.ground.Ground.{Ground}
use Rattle.request_phases.specs.declared.state.Handled.{Handled}
use Rattle.request_phases.specs.declared.state.Phases.{Phases}
use Rattle.request_phases.specs.declared.state.Wait.{Wait}
use Rattle.request_phases.specs.declared.state.Wait.TheVariants.{Test, Try, Index, Folder, File}
use Rattle.request_phases.specs.declared.state.From.{From as CodeFrom}
use Rattle.request_phases.specs.declared.state.From.TheVariants as begins
use Rattle.request_phases.specs.declared.state.Decision.{Decision}
use Rattle.request_phases.specs.declared.state.Decision.TheVariants as decisions
use Rattle.request_phases.specs.declared.state.Reached.{Reached}
use Rattle.request_phases.specs.declared.state.Reached.TheVariants as reached
use Rattle.request_phases.specs.declared.state.Conclusion.{Conclusion}
use Rattle.request_phases.specs.declared.state.Conclusion.TheVariants as outcomes
use Rattle.request_phases.specs.declared.state.Step.{Step}
use Rattle.request_phases.specs.declared.state.Step.TheVariants as steps

-- ---- what a request is served over

-- the world of its main request, with any body filters
abbrev pub world_in : List SetPattern → Ground → List Member → World
world_in patterns g members =
    record { server = server_whole (patterns_seen patterns) g.site.now g.server.now; finds = found; members = members; length = g.length }

-- The locations are the server's, and the names of `index` are those that hold where none are stated.
pub record IsGround (g : Ground) : Type 0 where
  pub located : AreOf g.locations.now g.server.now
  pub indexed : map index_seen g.index.now ≡ default_index

-- the same main request, with another method it may be
abbrev pub IsOfMain : Main → Main → Type 0
IsOfMain old new = new ≡ record old { method = new.method }

-- ---- where a request is

abbrev pub handled_seen : Option Handled → Option (ℕ × Shown)
handled_seen None = None
handled_seen (Some h) = Some (h.code, shown_seen h.shown)

-- what a round of its phases is asked, where it begins here
abbrev pub from_seen : Site → Progress → CodeFrom → From
from_seen site at begins.Start = Start
from_seen site at begins.Find = Find
from_seen site at (begins.Named name) = Named (standing_seen site at).values name

abbrev pub asked_from : Phases → From → Asked
asked_from p from =
    record {
      main = p.main;
      request = p.at.request;
      from = from;
      inside = p.at.inside;
      error = handled_seen p.error;
      closes = p.closes;
    }

-- Of the request with which it began a round looks no more but at its role, so that the present one may take its place.
abbrev pub asked_in : Phases → Asked
asked_in p = record (asked_from p Find) { request = record (p.at.request) { role = p.role } }

-- ---- what a round came to

-- what phases decide, where these are the bytes of the file
abbrev pub decision_seen : List ℕ → Decision → Outcome
decision_seen bytes (decisions.Text code text) = Outcome.Text code text
decision_seen bytes (decisions.File len date) = Outcome.File bytes date
decision_seen bytes (decisions.Error code) = Outcome.Fails code
decision_seen bytes (decisions.Page code) = Outcome.Gives code
decision_seen bytes (decisions.Redirect code to) = Outcome.Moves code to
decision_seen bytes decisions.Close = Outcome.Closes
decision_seen bytes decisions.Seek = Outcome.Seeks
decision_seen bytes (decisions.Inside path args) = Outcome.GoesTo path args
decision_seen bytes (decisions.Named name) = Outcome.GoesToNamed name

abbrev pub tries_told : Main → Standing → Option Tries → TryState → Item → Serving Decided
tries_told main s None state item = content main s
tries_told main s (Some t) state item = try_told main s t state item

-- what a round still does once it is told what is at the path for which it asked
unfoldable pub told_in : World → List SetPattern → Site → Asked → Progress → Wait → Item → Serving Decided
told_in w patterns site a at (Test level place at_server) item = do
  r ← resumed w a.main (drop place (program_of patterns site (raw_level site level).program)) (progress_seen site at) item
  after_program at_server r (follows w a at_server)
told_in w patterns site a at (Try state) item =
    let s = standing_seen site at in tries_told a.main s s.values.tries state item
told_in w patterns site a at (Index state) item =
    let s = standing_seen site at in index_told a.main s s.values.index state item
told_in w patterns site a at Folder item = fails (standing_seen site at) (if passes IsFolder item then 403 else 404)
told_in w patterns site a at File item =
    let s = standing_seen site at in
    Done (decided s (content_outcome s.request item (content_for (node_of item) s.request.method false)))

-- what a round still does from where it came to
abbrev pub reached_in : World → List SetPattern → Site → Asked → List ℕ → Progress → Reached → Serving Decided
reached_in w patterns site a bytes at (reached.Waits wait path) = Stat path (λ item. told_in w patterns site a at wait item)
reached_in w patterns site a bytes at (reached.Calls path) = Call (auth_child a.main path) (λ reply. (do
  v ← heard_verdict a (standing_seen site at) reply
  by_verdict a (standing_seen site at) v))
reached_in w patterns site a bytes at (reached.Decides decision) = Done (decided (standing_seen site at) (decision_seen bytes decision))

-- ---- what the rounds came to

-- what is answered, where these are the bytes of the file
abbrev pub prepared_as : World → Asked → Standing → List ℕ → Conclusion → Prepared
prepared_as w a s bytes (outcomes.Text code text) = sent w a s code text None
prepared_as w a s bytes (outcomes.File len date) = sent w a s 200 bytes (Some date)
prepared_as w a s bytes (outcomes.Page code) = page a s code
prepared_as w a s bytes (outcomes.Redirect code to) = moved a s code to
prepared_as w a s bytes outcomes.Close = closed a s

-- what a request still does once it is told what is at the path for which it asked
unfoldable pub phases_told : World → List SetPattern → Site → Phases → Wait → Item → Serving Prepared
phases_told w patterns site p wait item = rounds_rest w p.changes (asked_in p) (told_in w patterns site (asked_in p) p.at wait item)

-- what it still does after a step
abbrev pub phases_left : World → List SetPattern → Site → List ℕ → Phases → Step → Serving Prepared
phases_left w patterns site bytes p (steps.Asks wait path) = Stat path (λ item. phases_told w patterns site p wait item)
phases_left w patterns site bytes p (steps.Calls path) = rounds_rest w p.changes (asked_in p) (Call (auth_child p.main path) (λ reply. (do
  v ← heard_verdict (asked_in p) (standing_seen site p.at) reply
  by_verdict (asked_in p) (standing_seen site p.at) v)))
phases_left w patterns site bytes p (steps.Answers outcome) = Done (prepared_as w (asked_in p) (standing_seen site p.at) bytes outcome)
