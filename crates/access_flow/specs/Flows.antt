-- A main request that asks a subrequest whether it is let in: what is still to come of its response, and how far it is.
use Rattle.std.specs.Prelude.{◌≡◌, ℕ, ◌+◌, ◌*◌, Bool, true, false, List, []}
use Rattle.acts.specs.Vars.{Vars}
use Rattle.acts.specs.Act.{Done, ◌>>=◌, ◌>>◌}
use Rattle.file_tree.specs.Tree.{Item, Tree, Trees, tree_of}
use Rattle.ngx_pattern.specs.Pattern.{Pattern as SetPattern}
use Rattle.site_model.specs.declared.site.Site.{Site}
use Rattle.request_meaning.specs.Bodies.{written}
use Rattle.request_meaning.specs.Counts.{child_subs, subs_in}
use Rattle.request_meaning.specs.Phases.{rounds}
use Rattle.request_meaning.specs.Replies.{reply, run}
use Rattle.request_meaning.specs.Serving.{World, Serving, Answer, Prepared}
use Rattle.request_meaning.specs.Serving.Body.{NoBody}
use Rattle.request_meaning.specs.Serving.From.{Start}
use Rattle.family_meaning.specs.Flight.{Terms}
use Rattle.node_turn.specs.Nodes.{lent}
use Rattle.node_turn.specs.request_phases.Admitted.{phases_admitted}
use Rattle.node_turn.specs.request_phases.Rounds.{asked_from, phases_told}
use Rattle.node_turn.specs.request_phases.declared.state.Phases.{Phases}
use Rattle.request_flow.specs.Flows.{flow_most, is_stat, item_asked, told_item}
use Rattle.request_flow.specs.Pages.{GoesTo}
use Rattle.request_flow.specs.Rests.{Rest, act_rest}
use Rattle.request_flow.specs.Terms.{terms_seen}
use Rattle.request_flow.specs.declared.page.Went.{Went as FlowWent}
use Rattle.std.specs.Global.{Box}
use Rattle.access_flow.specs.declared.flow.AccessFlow.{AccessFlow}
use Rattle.access_flow.specs.declared.flow.Stage.{Stage}
use Rattle.access_flow.specs.declared.flow.Stage.TheVariants.{Begins, Asked, Told, Replied}
use Rattle.access_flow.specs.declared.run.Ran.{Ran}
use Rattle.access_flow.specs.declared.run.Ran.TheVariants.{Rests, Went}

-- ---- what is still to come

-- the phases of the main request, with what its variables mean
abbrev pub outer_of : AccessFlow → Phases
outer_of f = lent f.inner.main f.request.value.phases

-- a subrequest of it may open a level less
abbrev pub inner_depth : ℕ
inner_depth = 49

-- the subrequest's phases, and then its body
unfoldable pub inner_script : World → Serving Prepared → Serving Answer
inner_script w m = do
  p ← m
  written w inner_depth [] p.answer p.body
  Done p.answer

-- where the subrequest still does this, and the main request goes on so by its answer
unfoldable pub inner_rest : World → Tree → Terms → Serving Prepared → (Answer → Serving Prepared) → Vars → Rest
inner_rest w tree t m k vars =
    let act = inner_script w m in
    let r = run tree (reply w tree inner_depth) act vars in
    let q = act_rest w tree t (k r.result) r.vars in
    record {
      bytes = q.bytes;
      stays = q.stays;
      logs = q.logs;
      values = q.values;
      subs = subs_in tree (reply w tree inner_depth) (child_subs w tree inner_depth) act vars + q.subs;
    }

-- what the main request does by a reply
abbrev pub by_answer : World → Site → AccessFlow → Answer → Serving Prepared
by_answer w site f a = phases_admitted w site (outer_of f) a.status a.request

abbrev pub inner_left : World → Site → Tree → AccessFlow → Serving Prepared → Rest
inner_left w site tree f m = inner_rest w tree (terms_seen f.request.value.terms) m (by_answer w site f) f.request.value.vars

abbrev pub stage_rest : World → List SetPattern → Site → Tree → AccessFlow → Stage → Item → Rest
stage_rest w patterns site tree f Begins item = inner_left w site tree f (rounds w f.inner.changes (asked_from f.inner Start))
stage_rest w patterns site tree f (Asked wait) item = inner_left w site tree f (phases_told w patterns site f.inner wait item)
stage_rest w patterns site tree f (Told wait node) item = inner_left w site tree f (phases_told w patterns site f.inner wait (told_item node item))
stage_rest w patterns site tree f (Replied status) item =
    act_rest w tree (terms_seen f.request.value.terms) (phases_admitted w site (outer_of f) status f.inner.at.request) f.request.value.vars

-- what is still to come of it
abbrev pub access_left : World → List SetPattern → Site → Trees → AccessFlow → Rest
access_left w patterns site trees f = stage_rest w patterns site (trees f.of) f f.stage (item_asked trees f.ask)

-- what is answered with this status and without a body
pub record IsBare (status : ℕ) (p : Prepared) : Type 0 where
  pub status_is : p.answer.status ≡ status
  pub bare : p.body ≡ NoBody

-- One subrequest less is asked for, since it is asked now; else as much is still to come as before.
pub record IsOpened (after before : Rest) : Type 0 where
  pub bytes : after.bytes ≡ before.bytes
  pub stays : after.stays ≡ before.stays
  pub logs : after.logs ≡ before.logs
  pub values : after.values ≡ before.values
  pub subs : after.subs + 1 ≡ before.subs

-- ---- how far it is

-- the subrequest's job waits for an answer
abbrev pub waits : Stage → Bool
waits Begins = false
waits (Asked wait) = true
waits (Told wait node) = false
waits (Replied status) = false

-- it is the subrequest that runs, and not the main request
abbrev pub is_inner : Stage → Bool
is_inner Begins = true
is_inner (Asked wait) = true
is_inner (Told wait node) = true
is_inner (Replied status) = false

-- its job asks what is at a path of the tree of its number
abbrev pub IsOfTree : AccessFlow → Type 0
IsOfTree f = (is_stat f.ask ≡ true) × (tree_of f.ask ≡ f.of)

-- what is left to do is less than this: two steps for each question, and what a response takes
abbrev pub stage_steps : Stage → ℕ
stage_steps Begins = 2
stage_steps (Asked wait) = 2
stage_steps (Told wait node) = 1
stage_steps (Replied status) = 1

abbrev pub steps_left : AccessFlow → ℕ
steps_left f = flow_most + 2 * f.request.value.questions + stage_steps f.stage

-- ---- what became of it

-- by what it is served, and how many subrequests were asked
pub record IsSameRequest (before after : AccessFlow) : Type 0 where
  pub server : after.request.value.server ≡ before.request.value.server
  pub length : after.request.value.length ≡ before.request.value.length
  pub opened : after.request.value.opened ≡ before.request.value.opened
  pub tree : after.of ≡ before.of

-- as much is still to come as before
abbrev pub RunsTo : World → List SetPattern → Site → Trees → Rest → (out out' : List ℕ) → (closing : Bool) → Ran → Type 0
RunsTo w patterns site trees before out out' closing (Rests f) = (access_left w patterns site trees f.value ≡ before) × (out' ≡ out)
RunsTo w patterns site trees before out out' closing (Went went) = GoesTo w patterns site trees before out out' closing went

abbrev pub IfRests : Ran → (Box AccessFlow → Type 0) → Type 0
IfRests (Rests f) P = P f
IfRests (Went went) P = Unit {0}

abbrev pub IfWent : Ran → (FlowWent → Type 0) → Type 0
IfWent (Rests f) P = Unit {0}
IfWent (Went went) P = P went
