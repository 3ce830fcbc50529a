-- Main requests that steps have led to, from their start on, whatever trees answered them.
use Rattle.std.specs.Global.{Box}
use Rattle.std.specs.Prelude.{◌≡◌, ℕ, List, Option, None, Some}
use Rattle.acts.specs.Act.{Stat, settled}
use Rattle.acts.specs.Vars.{Vars}
use Rattle.file_tree.specs.declared.job.Ask.{Ask}
use Rattle.file_tree.specs.declared.job.Ask.TheVariants as asks
use Rattle.ngx_pattern.specs.Pattern.{Pattern as SetPattern}
use Rattle.site_model.specs.declared.site.Site.{Site}
use Rattle.request_meaning.specs.Replies.{most_depth}
use Rattle.request_meaning.specs.Serving.{World, Serving, Answer}
use Rattle.family_rest.specs.family_order.Items.{alone}
use Rattle.family_rest.specs.family_order.Items.Stance.{Going}
use Rattle.family_rest.specs.Reached.{Reached}
use Rattle.reply_out.specs.request_phases.Rounds.{phases_left, phases_told}
use Rattle.reply_out.specs.request_phases.declared.state.Step.{Step}
use Rattle.reply_out.specs.request_phases.declared.state.Step.TheVariants.{Calls}
use Rattle.request_flow.specs.declared.flow.Flow.{Flow}
use Rattle.reply_out.specs.declared.terms.InPhases.{InPhases}
use Rattle.request_flow.specs.declared.flow.Stage.{Stage}
use Rattle.request_flow.specs.declared.flow.Stage.TheVariants.{Asked, Told, Reading, Came}
use Rattle.request_flow.specs.declared.page.PageStart.{PageStart}
use Rattle.request_flow.specs.declared.page.Went.{Went}
use Rattle.request_flow.specs.declared.page.Went.TheVariants as went
use Rattle.request_flow.specs.Flows.{told_text_item}
use Rattle.request_flow.specs.Padded.{padded}
use Rattle.request_flow.specs.Pages.{page_act}
use Rattle.request_flow.specs.Rests.{finished}
use Rattle.request_flow.specs.Sents.{known_len}

-- steps have led to a main request that still does this, with this table of variables
abbrev pub IsReachedAt : World → Serving Answer → Vars → Type 0
IsReachedAt w act vars = Reached w (alone 0 1 (Going most_depth act)) vars

-- or to one that settles as this does
pub record Settles (w : World) (act : Serving Answer) (vars : Vars) : Type 0 where
  pub first : Serving Answer
  pub table : Vars
  pub reached : IsReachedAt w first table
  pub same : settled first table ≡ settled act vars

abbrev pub path_asked : Ask → List ℕ
path_asked (asks.Stat path of) = path
path_asked (asks.Read path start count of) = path

-- steps have led to a request in its phases; after them it doesn't matter
abbrev pub StageReached : World → List SetPattern → Site → (path : List ℕ) → Stage → Type 0
StageReached w patterns site path (Asked request wait) =
    IsReachedAt w (finished w (Stat path (λ item. phases_told w patterns site request.value.phases wait item))) request.value.vars
StageReached w patterns site path (Told request wait found) =
    (text : List ℕ) → IsReachedAt w (finished w (phases_told w patterns site request.value.phases wait (told_text_item found.node text))) request.value.vars
StageReached w patterns site path (Reading sending left) = Unit {0}
StageReached w patterns site path (Came sending left placed) = Unit {0}

abbrev pub OneReached : World → List SetPattern → Site → Flow → Type 0
OneReached w patterns site flow = StageReached w patterns site (path_asked flow.ask) flow.stage

abbrev pub FlowReached : World → List SetPattern → Site → Option (Box Flow) → Type 0
FlowReached w patterns site None = Unit {0}
FlowReached w patterns site (Some flow) = OneReached w patterns site flow.value

-- steps have led to a request that made this step of its phases, whatever text the file has that was told
abbrev pub StepReached : World → List SetPattern → Site → InPhases → Step → (len : ℕ) → Type 0
StepReached w patterns site request step len =
    (text : List ℕ) → Settles w (finished w (phases_left w patterns site (padded len text) request.phases step)) request.vars

-- and to one on whose body filters act
abbrev pub PageReached : World → List SetPattern → Site → PageStart → Type 0
PageReached w patterns site p =
    (text : List ℕ) → Settles w (page_act w patterns site p.request.value p.page (padded (known_len p.page.known) text)) p.request.value.vars

abbrev pub WentReached : World → List SetPattern → Site → Went → Type 0
WentReached w patterns site (went.On o) = FlowReached w patterns site o.flow
WentReached w patterns site (went.Asks a) = StepReached w patterns site a.request.value (Calls a.path) 0
WentReached w patterns site (went.Page p) = PageReached w patterns site p.value
