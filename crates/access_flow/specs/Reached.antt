-- Main requests that steps have led to, which ask a subrequest whether they are let in.
use Rattle.std.specs.Prelude.{ℕ, List}
use Rattle.acts.specs.Vars.{Vars}
use Rattle.acts.specs.Act.{Stat}
use Rattle.ngx_pattern.specs.Pattern.{Pattern as SetPattern}
use Rattle.site_model.specs.declared.site.Site.{Site}
use Rattle.request_meaning.specs.Phases.{rounds}
use Rattle.request_meaning.specs.Replies.{most_depth}
use Rattle.request_meaning.specs.Serving.{World, Serving, Answer, Prepared}
use Rattle.request_meaning.specs.Serving.From.{Start}
use Rattle.family_meaning.specs.Line.Line.{Nil, Gives}
use Rattle.request_flow.specs.family_order.Items.{alone}
use Rattle.request_flow.specs.family_order.Items.Stance.{Waiting}
use Rattle.request_flow.specs.family_rest.Reached.{Reached}
use Rattle.node_turn.specs.request_phases.Admitted.{phases_admitted}
use Rattle.node_turn.specs.request_phases.Rounds.{asked_from, phases_told}
use Rattle.request_flow.specs.Flows.{told_text_item}
use Rattle.request_flow.specs.Reached.{IsReachedAt, WentReached, path_asked}
use Rattle.request_flow.specs.Rests.{finished}
use Rattle.access_flow.specs.declared.flow.AccessFlow.{AccessFlow}
use Rattle.access_flow.specs.declared.flow.Stage.{Stage}
use Rattle.access_flow.specs.declared.flow.Stage.TheVariants.{Begins, Asked, Told, Replied}
use Rattle.access_flow.specs.declared.run.Ran.{Ran}
use Rattle.access_flow.specs.declared.run.Ran.TheVariants.{Rests, Went}
use Rattle.access_flow.specs.Flows.{by_answer, inner_depth, inner_script, outer_of}

-- steps have led to a main request that waits for a subrequest which still does this, with this table of variables
abbrev pub IsInnerAt : World → (Answer → Serving Prepared) → Serving Prepared → Vars → Type 0
IsInnerAt w k m vars = Reached w (alone 0 1 (Waiting (Gives 1 inner_depth (inner_script w m) Nil) most_depth (λ reply. finished w (k reply.answer)))) vars

abbrev pub StageReached : World → List SetPattern → Site → AccessFlow → Stage → Type 0
StageReached w patterns site f Begins = IsInnerAt w (by_answer w site f) (rounds w f.inner.changes (asked_from f.inner Start)) f.request.value.vars
StageReached w patterns site f (Asked wait) =
    IsInnerAt w (by_answer w site f) (Stat (path_asked f.ask) (λ item. phases_told w patterns site f.inner wait item)) f.request.value.vars
StageReached w patterns site f (Told wait node) =
    (text : List ℕ) → IsInnerAt w (by_answer w site f) (phases_told w patterns site f.inner wait (told_text_item node text)) f.request.value.vars
StageReached w patterns site f (Replied status) = IsReachedAt w (finished w (phases_admitted w site (outer_of f) status f.inner.at.request)) f.request.value.vars

abbrev pub AccessReached : World → List SetPattern → Site → AccessFlow → Type 0
AccessReached w patterns site f = StageReached w patterns site f f.stage

abbrev pub RanReached : World → List SetPattern → Site → Ran → Type 0
RanReached w patterns site (Rests f) = AccessReached w patterns site f.value
RanReached w patterns site (Went went) = WentReached w patterns site went
