-- Steps lead to a main request that asks a subrequest whether it is let in.
use Rattle.std.proofs.Common.{◌≡◌, ℕ, true, List, [], refl, sym, ap, ◌∙◌, subst}
use Rattle.acts.specs.Vars.{Vars}
use Rattle.acts.specs.Act.{Done, Stat, Call, ◌>>=◌, settled}
use Rattle.file_tree.specs.Tree.{Item, Nothing, Tree}
use Rattle.file_tree.specs.declared.job.Ask.{Ask}
use Rattle.file_tree.specs.declared.job.Ask.TheVariants as ask
use Rattle.ngx_variables.specs.declared.request.Main.{Main}
use Rattle.ngx_variables.specs.declared.request.Request.{Request}
use Rattle.node_turn.specs.Nodes.{lent}
use Rattle.node_turn.specs.rewrite_code.Places.{standing_seen}
use Rattle.postpone_filter.specs.Row.{is_open}
use Rattle.request_meaning.specs.Bodies.{written}
use Rattle.request_meaning.specs.Replies.{child_asked, most_changes, most_depth, script}
use Rattle.request_meaning.specs.Serving.{World, Serving, Answer, Asked, Body, Prepared}
use Rattle.request_meaning.specs.Serving.From.{Start}
use Rattle.request_meaning.specs.Serving.Body.{NoBody}
use Rattle.family_meaning.specs.Line.{Line, ended, joined, opened}
use Rattle.family_meaning.specs.Line.Line.{Nil, Gives}
use Rattle.family_meaning.specs.Moves.Moves.{Quietly, ByTable}
use Rattle.family_meaning.specs.Moves.Quiet.{Learns}
use Rattle.family_meaning.specs.Moves.Thinks.{Here}
use Rattle.request_flow.specs.family_order.Acts.{Does}
use Rattle.request_flow.specs.family_order.Acts.Acts.{Asks, Hears, Thinks, Within}
use Rattle.request_flow.specs.family_order.Items.{IsAlike, Stance, alone, doing, row_items, is_shown}
use Rattle.request_flow.specs.family_order.Items.Stance.{Going, Waiting}
use Rattle.request_flow.specs.family_rest.Reached.{Reached}
use Rattle.request_flow.specs.family_rest.Reached.Reached.{Acted, Likened}
use Rattle.ngx_pattern.specs.Pattern.{Pattern as SetPattern}
use Rattle.site_model.specs.declared.site.Site.{Site}
use Rattle.request_meaning.specs.Access.{auth_child}
use Rattle.request_meaning.specs.Phases.{rounds}
use Rattle.family_meaning.specs.Suspended.{heard_verdict, round_rest, rounds_rest}
use Rattle.node_turn.specs.request_phases.Admitted.{phases_admitted}
use Rattle.node_turn.specs.request_phases.Rounds.{IsOfMain, asked_from, asked_in, phases_left, phases_told, prepared_as}
use Rattle.node_turn.specs.request_phases.declared.state.Phases.{Phases}
use Rattle.node_turn.specs.request_phases.declared.state.Step.TheVariants.{Answers, Asks, Calls}
use Rattle.node_turn.specs.request_phases.declared.state.Conclusion.{Conclusion}
use Rattle.node_turn.specs.request_phases.declared.state.Wait.{Wait}
use Rattle.access_flow.proofs.Told.{same_outcome}
use Rattle.request_flow.specs.Sents.{with_length}
use Rattle.request_flow.specs.reply_out.declared.terms.InPhases.{InPhases}
use Rattle.request_flow.specs.Reached.{IsReachedAt, Settles}
use Rattle.request_flow.specs.Rests.{finished}
use Rattle.access_flow.specs.Flows.{IsBare, by_answer, inner_depth, inner_script, outer_of}
use Rattle.access_flow.specs.Reached.{AccessReached, IsInnerAt}
use Rattle.access_flow.specs.declared.flow.AccessFlow.{AccessFlow}
use Rattle.access_flow.specs.declared.flow.Stage.{Stage}
use Rattle.access_flow.specs.declared.flow.Stage.TheVariants.{Asked as AskedStage, Replied}
use Rattle.access_flow.proofs.Inner.{flow_as, request_of, same_outer, script_as, script_settles}

-- one node that does something else now
alike : (s r : Stance) → is_shown s ≡ true → IsAlike (doing 0 s (alone 0 1 r)) (alone 0 1 s)
unfolding row_items
alike s r e = record {
  items_are = refl;
  output_is = refl;
  well = λ h. record { row_is = h.row_is; root_is_shown = e };
}

does : (s : Stance) → Does (alone 0 1 s) 0 s
unfolding is_open
does s = record { goes_on = refl; stands = refl }

no_files : Tree
no_files path = Nothing

-- what waits for a subrequest that still does this
abbrev waiting : World → (Answer → Serving Prepared) → Serving Answer → Stance
waiting w k act = Waiting (Gives 1 inner_depth act Nil) most_depth (λ reply. finished w (k reply.answer))

-- it settles
thinks : (w : World) (k : Answer → Serving Prepared) (first act : Serving Answer) (table vars : Vars) →
    Reached w (alone 0 1 (waiting w k first)) table → settled first table ≡ (act, vars) → Reached w (alone 0 1 (waiting w k act)) vars
thinks w k first act table vars r e =
    subst (λ s. Reached w (alone 0 1 (waiting w k s.0)) s.1) e
    (Likened (alike (waiting w k (settled first table).0) (waiting w k first) refl) (Acted no_files r (Within 0 (does (waiting w k first)) (ByTable Here))))

pub goes_on : (w : World) (k : Answer → Serving Prepared) (m n : Serving Prepared) (old new : Vars) → IsInnerAt w k m old → settled m old ≡ (n, new) →
    settled (inner_script w n) new ≡ (inner_script w n, new) → IsInnerAt w k n new
goes_on w k m n old new r e stays = thinks w k (inner_script w m) (inner_script w n) old new r (script_settles w m n old new e ∙ stays)

pub asks_stay : (w : World) (path : List ℕ) (f : Item → Serving Prepared) (vars : Vars) → settled (inner_script w (Stat path f)) vars ≡ (inner_script w (Stat path f), vars)
unfolding inner_script ◌>>=◌ settled
asks_stay w path f vars = refl

-- its question is answered
pub learns : (w : World) (k : Answer → Serving Prepared) (path : List ℕ) (f : Item → Serving Prepared) (vars : Vars) → IsInnerAt w k (Stat path f) vars → (item : Item) → IsInnerAt w k (f item) vars
unfolding inner_script ◌>>=◌
learns w k path f vars r item =
    Likened (alike (waiting w k (inner_script w (f item))) (waiting w k (inner_script w (Stat path f))) refl)
    (Acted (λ path. item) r (Within 0 (does (waiting w k (inner_script w (Stat path f)))) (Quietly Learns)))

-- it has come to its answer, and the main request hears it
pub hears : (w : World) (k : Answer → Serving Prepared) (m : Serving Prepared) (answer : Answer) (old new : Vars) → IsInnerAt w k m old →
    settled m old ≡ (Done (record { answer = answer; body = NoBody }), new) → IsReachedAt w (finished w (k answer)) new
unfolding inner_script ◌>>=◌ written settled ended
hears w k m answer old new r e =
    Likened (alike (Going most_depth (finished w (k answer))) (waiting w k (Done answer)) refl)
    (Acted no_files (thinks w k (inner_script w m) (Done answer) old new r (script_settles w m (Done (record { answer = answer; body = NoBody })) old new e))
    (Hears 0 (record { answer = answer; body = [] }) (does (waiting w k (Done answer))) refl))

-- it is asked
module _ (w : World) (patterns : List SetPattern) (site : Site) (p : Phases) (path : List ℕ) (vars : Vars) where
  abbrev admitted : Answer → Serving Prepared
  admitted a = phases_admitted w site p a.status a.request

  abbrev call : Serving Answer
  call = Call (auth_child p.main path) (λ reply. finished w (admitted reply.answer))

  call_is : settled (finished w (phases_left w patterns site [] p (Calls path))) vars ≡ (call, vars)
  unfolding finished ◌>>=◌ settled rounds_rest round_rest heard_verdict phases_admitted
  call_is = refl

  called : Settles w (finished w (phases_left w patterns site [] p (Calls path))) vars → IsReachedAt w call vars
  called s =
      subst (λ x. Reached w (alone 0 1 (Going most_depth x.0)) x.1) (s.same ∙ call_is)
      (Likened (alike (Going most_depth (settled s.first s.table).0) (Going most_depth s.first) refl) (Acted no_files s.reached (Thinks 0 (does (Going most_depth s.first)))))

  line_is : opened w 1 inner_depth (auth_child p.main path) Nil ≡ Gives 1 inner_depth (script w inner_depth (auth_child p.main path)) Nil
  unfolding joined
  line_is = refl

  pub calls : (a : Asked) → a ≡ child_asked (auth_child p.main path) → Settles w (finished w (phases_left w patterns site [] p (Calls path))) vars →
      IsInnerAt w admitted (rounds w most_changes a) vars
  calls a e s =
      subst (λ (act : Serving Answer). Reached w (alone 0 1 (waiting w admitted act)) vars) (script_as w p.main path a e)
      (subst (λ (own : Line). Reached w (alone 0 1 (Waiting own most_depth (λ reply. finished w (admitted reply.answer)))) vars) line_is
      (Likened (alike (Waiting (opened w 1 inner_depth (auth_child p.main path) Nil) most_depth (λ reply. finished w (admitted reply.answer))) (Going most_depth call) refl)
      (Acted no_files (called s) (Asks 0 1 (does (Going most_depth call))))))

-- ---- it goes on by a step of its phases

pub asked_reached : (w : World) (patterns : List SetPattern) (site : Site) (bytes : List ℕ) (f : AccessFlow) (q : InPhases) (job : Ask) (stage : Stage) (wait : Wait) (path : List ℕ) (m : Serving Prepared) (old : Vars) →
    q ≡ f.request.value → job ≡ ask.Stat path f.of → stage ≡ AskedStage wait →
    IsInnerAt w (by_answer w site f) m old → settled m old ≡ (phases_left w patterns site bytes f.inner (Asks wait path), f.request.value.vars) →
    AccessReached w patterns site (flow_as f q job stage)
asked_reached w patterns site bytes f q job stage wait path m old eq ej es r e =
    let k : Item → Serving Prepared = λ item. phases_told w patterns site f.inner wait item in
    subst (λ (x : InPhases). AccessReached w patterns site (flow_as f x job stage)) (sym eq)
    (subst (λ (j : Ask). AccessReached w patterns site (flow_as f f.request.value j stage)) (sym ej)
    (subst (λ (s : Stage). AccessReached w patterns site (flow_as f f.request.value (ask.Stat path f.of) s)) (sym es)
    (goes_on w (by_answer w site f) m (Stat path k) old f.request.value.vars r e (asks_stay w path k f.request.value.vars))))

abbrev bare : Answer → Body → Prepared
bare answer body = record { answer = answer; body = body }

pub replied_reached : (w : World) (patterns : List SetPattern) (site : Site) (bytes : List ℕ) (len : ℕ) (f : AccessFlow) (q : InPhases) (stage : Stage) (status : ℕ) (o told : Conclusion) (m : Serving Prepared) (old : Vars) →
    q ≡ f.request.value → stage ≡ Replied status → told ≡ with_length len o → IsBare status (prepared_as w (asked_in f.inner) (standing_seen site f.inner.at) bytes told) →
    IsInnerAt w (by_answer w site f) m old → settled m old ≡ (phases_left w patterns site bytes f.inner (Answers o), f.request.value.vars) →
    AccessReached w patterns site (flow_as f q f.ask stage)
replied_reached w patterns site bytes len f q stage status o told m old eq es et b r e =
    let a = asked_in f.inner in
    let s = standing_seen site f.inner.at in
    let p = prepared_as w a s bytes told in
    let vars = f.request.value.vars in
    let heard = hears w (by_answer w site f) m p.answer old vars r
    (e ∙ (ap (λ (x : Prepared). (Done x, vars)) (sym (ap (prepared_as w a s bytes) et ∙ same_outcome w a s bytes len o))
    ∙ ap (λ body. (Done (bare p.answer body), vars)) b.bare)) in
    subst (λ (x : InPhases). AccessReached w patterns site (flow_as f x f.ask stage)) (sym eq)
    (subst (λ (s : Stage). AccessReached w patterns site (flow_as f f.request.value f.ask s)) (sym es)
    (subst (λ (x : Request). IsReachedAt w (finished w (phases_admitted w site (outer_of f) status x)) vars) (request_of w a s bytes told)
    (subst (λ c. IsReachedAt w (finished w (phases_admitted w site (outer_of f) c p.answer.request)) vars) b.status_is heard)))

-- where its main request has another method
pub other_method : (w : World) (site : Site) (p : Phases) (old new : Main) (m : Serving Prepared) (vars : Vars) → IsOfMain old new →
    IsInnerAt w (λ a. phases_admitted w site (lent old p) a.status a.request) m vars → IsInnerAt w (λ a. phases_admitted w site (lent new p) a.status a.request) m vars
other_method w site p old new m vars is r =
    subst (λ (q : Phases). IsInnerAt w (λ a. phases_admitted w site q a.status a.request) m vars) (sym (same_outer old new p is)) r

pub went_reached : (w : World) (site : Site) (q : AccessFlow) (r : InPhases) (m : Serving Prepared) (main : Main) → r ≡ q.request.value → IsOfMain q.inner.main main →
    IsInnerAt w (by_answer w site q) m q.request.value.vars → IsInnerAt w (λ a. phases_admitted w site (lent main r.phases) a.status a.request) m r.vars
went_reached w site q r m main eq is h =
    subst (λ (x : InPhases). IsInnerAt w (λ a. phases_admitted w site (lent main x.phases) a.status a.request) m x.vars) (sym eq)
    (other_method w site q.request.value.phases q.inner.main main m q.request.value.vars is h)

pub begins_reached : (w : World) (patterns : List SetPattern) (site : Site) (start : InPhases) (path : List ℕ) (f : AccessFlow) →
    outer_of f ≡ start.phases → asked_from f.inner Start ≡ child_asked (auth_child start.phases.main path) → f.inner.changes ≡ 10 → f.request.value.vars ≡ start.vars →
    Settles w (finished w (phases_left w patterns site [] start.phases (Calls path))) start.vars →
    IsInnerAt w (by_answer w site f) (rounds w f.inner.changes (asked_from f.inner Start)) f.request.value.vars
begins_reached w patterns site start path f outer asked changes vars s =
    subst (λ v. IsInnerAt w (by_answer w site f) (rounds w f.inner.changes (asked_from f.inner Start)) v) (sym vars)
    (subst (λ (p : Phases). IsInnerAt w (λ b. phases_admitted w site p b.status b.request) (rounds w f.inner.changes (asked_from f.inner Start)) start.vars) (sym outer)
    (subst (λ n. IsInnerAt w (λ b. phases_admitted w site start.phases b.status b.request) (rounds w n (asked_from f.inner Start)) start.vars) (sym changes)
    (subst (λ x. IsInnerAt w (λ b. phases_admitted w site start.phases b.status b.request) (rounds w 10 x) start.vars) (sym asked)
    (calls w patterns site start.phases path start.vars (child_asked (auth_child start.phases.main path)) refl s))))
