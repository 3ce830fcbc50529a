-- What is still to come while a subrequest is asked, act by act.
use Rattle.std.proofs.Common.{◌≡◌, ℕ, ◌+◌, Bool, true, false, List, [], Option, None, refl, sym, ap, ◌∙◌, subst, zero-add, arith, Bor}
use Rattle.acts.specs.Vars.{Vars}
use Rattle.acts.specs.Act.{Done, Stat, ◌>>=◌, ◌>>◌, settled, settled_then}
use Rattle.acts.proofs.ActLaws.{settles_in_turn, settled_stays}
use Rattle.file_tree.specs.Tree.{IsFrom, Item, Tree, Trees}
use Rattle.file_tree.specs.declared.job.Ask.{Ask}
use Rattle.file_tree.specs.declared.job.Ask.TheVariants as ask
use Rattle.file_tree.specs.declared.job.JobAnswer.{JobAnswer}
use Rattle.file_tree.specs.declared.job.JobAnswer.TheVariants as answer
use Rattle.file_tree.specs.declared.job.Node.{Node}
use Rattle.node_turn.specs.Nodes.{lent, of_method}
use Rattle.ngx_pattern.specs.Pattern.{Pattern as SetPattern}
use Rattle.ngx_variables.specs.declared.request.Main.{Main}
use Rattle.ngx_variables.specs.declared.request.Request.{Request}
use Rattle.site_model.specs.declared.site.Site.{Site}
use Rattle.request_meaning.specs.Access.{auth_child}
use Rattle.request_meaning.specs.Bodies.{written}
use Rattle.request_meaning.specs.Counts.{child_subs, subs_in}
use Rattle.request_meaning.specs.Phases.{rounds}
use Rattle.request_meaning.specs.Answering.{answer_with, closed_answer, moved, page, page_answer, page_to, sent}
use Rattle.request_meaning.specs.Replies.{Came, child_asked, child_request, most_changes, reply, run, script, served}
use Rattle.request_meaning.specs.Serving.{World, Serving, Answer, Asked, Body, Prepared, Standing}
use Rattle.request_meaning.specs.Serving.Body.{NoBody}
use Rattle.request_meaning.specs.Serving.From.{Start}
use Rattle.site_views.specs.Values.{Shown}
use Rattle.family_meaning.specs.Flight.{Terms}
use Rattle.family_meaning.specs.Suspended.{heard_verdict, round_rest, rounds_rest}
use Rattle.family_meaning.proofs.Exacts.{settled_run}
use Rattle.node_turn.specs.request_phases.Admitted.{phases_admitted}
use Rattle.node_turn.specs.request_phases.Rounds.{IsOfMain, asked_from, asked_in, handled_seen, phases_left, phases_told, prepared_as}
use Rattle.node_turn.specs.rewrite_code.Places.{standing_seen}
use Rattle.node_turn.specs.request_phases.declared.state.Conclusion.{Conclusion}
use Rattle.node_turn.specs.request_phases.declared.state.Conclusion.TheVariants as outcomes
use Rattle.node_turn.specs.request_phases.declared.state.Phases.{Phases}
use Rattle.node_turn.specs.request_phases.declared.state.Step.TheVariants.{Answers, Asks, Calls}
use Rattle.node_turn.specs.request_phases.declared.state.Wait.{Wait}
use Rattle.request_flow.specs.Flows.{item_asked}
use Rattle.access_flow.proofs.Told.{same_outcome, told_same}
use Rattle.request_flow.specs.Sents.{step_rest, with_length}
use Rattle.request_flow.specs.Terms.{terms_seen}
use Rattle.request_flow.specs.reply_out.declared.terms.InPhases.{InPhases}
use Rattle.request_flow.specs.Rests.{Rest, act_rest, finished}
use Rattle.request_flow.proofs.Turns.{subs_settled}
use Rattle.access_flow.specs.Flows.{IsBare, IsOpened, access_left, by_answer, inner_depth, inner_left, inner_rest, inner_script, outer_of, stage_rest}
use Rattle.access_flow.specs.declared.flow.AccessFlow.{AccessFlow}
use Rattle.access_flow.specs.declared.flow.Stage.{Stage}
use Rattle.access_flow.specs.declared.flow.Stage.TheVariants.{Asked as AskedStage, Replied, Told}

-- an act and what follows it settles as what the act settled as, and what follows
in_turn : {A B : Type 0} (m n : Serving A) (k : A → Serving B) (old new : Vars) → settled m old ≡ (n, new) → settled (m >>= k) old ≡ settled (n >>= k) new
in_turn m n k old new e =
    settles_in_turn m k old
    ∙ (ap (λ s. settled_then s.0 s.1 k) e
    ∙ sym (settles_in_turn n k new ∙ ap (λ s. settled_then s.0 s.1 k) (stays m n old new e)))
  where
    stays : {A : Type 0} (m n : Serving A) (old new : Vars) → settled m old ≡ (n, new) → settled n new ≡ (n, new)
    stays m n old new e = sym (ap (λ s. settled s.0 s.1) e) ∙ (settled_stays m old ∙ e)

after_phases : World → Prepared → Serving Answer
after_phases w p = written w inner_depth [] p.answer p.body >> Done p.answer

script_is : (w : World) (m : Serving Prepared) → inner_script w m ≡ (m >>= after_phases w)
unfolding inner_script after_phases
script_is w m = refl

-- what follows its phases settles with them
pub script_settles : (w : World) (m n : Serving Prepared) (old new : Vars) → settled m old ≡ (n, new) → settled (inner_script w m) old ≡ settled (inner_script w n) new
script_settles w m n old new e =
    ap (λ a. settled a old) (script_is w m) ∙ (in_turn m n (after_phases w) old new e ∙ ap (λ a. settled a new) (sym (script_is w n)))

-- what is still to come by what the subrequest comes to, and by how many it asks for
rest_by : World → Tree → Terms → (Answer → Serving Prepared) → Came Answer → (subs : ℕ) → Rest
rest_by w tree t k r subs =
    let q = act_rest w tree t (k r.result) r.vars in
    record { bytes = q.bytes; stays = q.stays; logs = q.logs; values = q.values; subs = subs + q.subs }

act_left : World → Tree → Terms → (Answer → Serving Prepared) → Serving Answer → Vars → Rest
act_left w tree t k act vars = rest_by w tree t k (run tree (reply w tree inner_depth) act vars) (subs_in tree (reply w tree inner_depth) (child_subs w tree inner_depth) act vars)

left_settled : (w : World) (tree : Tree) (t : Terms) (k : Answer → Serving Prepared) (act : Serving Answer) (vars : Vars) →
    act_left w tree t k act vars ≡ act_left w tree t k (settled act vars).0 (settled act vars).1
unfolding act_left
left_settled w tree t k act vars =
    ap (λ r. rest_by w tree t k r (subs_in tree (reply w tree inner_depth) (child_subs w tree inner_depth) act vars)) (settled_run tree (reply w tree inner_depth) act vars)
    ∙ ap (rest_by w tree t k (run tree (reply w tree inner_depth) (settled act vars).0 (settled act vars).1)) (subs_settled tree (reply w tree inner_depth) (child_subs w tree inner_depth) act vars)

rest_is : (w : World) (tree : Tree) (t : Terms) (m : Serving Prepared) (k : Answer → Serving Prepared) (vars : Vars) →
    inner_rest w tree t m k vars ≡ act_left w tree t k (inner_script w m) vars
unfolding inner_rest act_left rest_by
rest_is w tree t m k vars = refl

-- what settles is what is left
pub inner_settles : (w : World) (tree : Tree) (t : Terms) (m n : Serving Prepared) (k : Answer → Serving Prepared) (old new : Vars) → settled m old ≡ (n, new) →
    inner_rest w tree t m k old ≡ inner_rest w tree t n k new
inner_settles w tree t m n k old new e =
    rest_is w tree t m k old
    ∙ (left_settled w tree t k (inner_script w m) old
    ∙ (ap (λ s. act_left w tree t k s.0 s.1) (script_settles w m n old new e)
    ∙ (sym (left_settled w tree t k (inner_script w n) new) ∙ sym (rest_is w tree t n k new))))

-- a question to the files is answered by the tree
pub asks_inner : (w : World) (tree : Tree) (t : Terms) (path : List ℕ) (f : Item → Serving Prepared) (k : Answer → Serving Prepared) (vars : Vars) →
    inner_rest w tree t (Stat path f) k vars ≡ inner_rest w tree t (f (tree path)) k vars
unfolding inner_rest inner_script ◌>>=◌ run subs_in
asks_inner w tree t path f k vars = refl

abbrev counted : Rest → ℕ → Rest
counted q n = record { bytes = q.bytes; stays = q.stays; logs = q.logs; values = q.values; subs = n }

-- it has come to its answer, without a body
pub ends_inner : (w : World) (tree : Tree) (t : Terms) (answer : Answer) (k : Answer → Serving Prepared) (vars : Vars) →
    inner_rest w tree t (Done (record { answer = answer; body = NoBody })) k vars ≡ act_rest w tree t (k answer) vars
unfolding inner_rest inner_script ◌>>=◌ run subs_in written
ends_inner w tree t answer k vars =
    ap (counted (act_rest w tree t (k answer) vars)) (zero-add (act_rest w tree t (k answer) vars).subs)

-- ---- it is asked

pub script_as : (w : World) (main : Main) (path : List ℕ) (a : Asked) → a ≡ child_asked (auth_child main path) → script w inner_depth (auth_child main path) ≡ inner_script w (rounds w most_changes a)
unfolding script served inner_script
script_as w main path a e = ap (λ b. inner_script w (rounds w most_changes b)) (sym e)

module _ (w : World) (tree : Tree) (t : Terms) (patterns : List SetPattern) (site : Site) (p : Phases) (path : List ℕ) (vars : Vars) where
  abbrev admitted : Answer → Serving Prepared
  admitted a = phases_admitted w site p a.status a.request

  opens_as : IsOpened (inner_rest w tree t (rounds w most_changes (child_asked (auth_child p.main path))) admitted vars) (act_rest w tree t (phases_left w patterns site [] p (Calls path)) vars)
  unfolding inner_rest inner_script act_rest finished ◌>>=◌ run reply subs_in child_subs script served rounds_rest round_rest heard_verdict phases_admitted
  opens_as = record { bytes = refl; stays = refl; logs = refl; values = refl; subs = omega arith }

  pub opens : (a : Asked) → a ≡ child_asked (auth_child p.main path) →
      IsOpened (inner_rest w tree t (rounds w most_changes a) admitted vars) (act_rest w tree t (phases_left w patterns site [] p (Calls path)) vars)
  opens a e = subst (λ b. IsOpened (inner_rest w tree t (rounds w most_changes b) admitted vars) (act_rest w tree t (phases_left w patterns site [] p (Calls path)) vars)) (sym e) opens_as

-- ---- it goes on

-- the main request is the same, whatever method the one has that is lent
pub same_outer : (old new : Main) (p : Phases) → IsOfMain old new → lent new p ≡ lent old p
same_outer old new p e = ap (λ m. lent m p) e

-- what the subrequest does comes to as much, where it settles so and its main request has another method
pub settles_left : (w : World) (site : Site) (tree : Tree) (t : Terms) (p : Phases) (old new : Main) (m n : Serving Prepared) (vars vars' : Vars) → IsOfMain old new → settled m vars ≡ (n, vars') →
    inner_rest w tree t n (λ a. phases_admitted w site (lent new p) a.status a.request) vars' ≡ inner_rest w tree t m (λ a. phases_admitted w site (lent old p) a.status a.request) vars
settles_left w site tree t p old new m n vars vars' is e =
    ap (λ (q : Phases). inner_rest w tree t n (λ a. phases_admitted w site q a.status a.request) vars') (same_outer old new p is)
    ∙ sym (inner_settles w tree t m n (λ a. phases_admitted w site (lent old p) a.status a.request) vars vars' e)

-- its question is answered
pub told_left : {text : Bor (List ℕ)} (w : World) (patterns : List SetPattern) (site : Site) (trees : Trees) (f : AccessFlow) (stage : Stage) (job : Ask) (wait : Wait) (node : Node) (given : JobAnswer) →
    stage ≡ AskedStage wait → given ≡ answer.Stat node text → IsFrom trees job given →
    stage_rest w patterns site (trees f.of) f (Told wait node) (item_asked trees job) ≡ stage_rest w patterns site (trees f.of) f stage (item_asked trees job)
told_left w patterns site trees f stage (ask.Stat path of) wait node given es eg from =
    let same = told_same (trees of path) node (subst (λ a. IsFrom trees (ask.Stat path of) a) eg from).0 in
    ap (λ item. inner_left w site (trees f.of) f (phases_told w patterns site f.inner wait item)) same
    ∙ sym (ap (λ s. stage_rest w patterns site (trees f.of) f s (trees of path)) es)
told_left w patterns site trees f stage (ask.Read path start count of) wait node given es eg from =
    absurd (subst (λ a. IsFrom trees (ask.Read path start count of) a) eg from)

-- ---- it goes on by a step of its phases

-- with this of its request, its job and its stage
abbrev pub flow_as : AccessFlow → InPhases → Ask → Stage → AccessFlow
flow_as f q job stage = record { request = record f.request { value = q }; inner = f.inner; ask = job; of = f.of; stage = stage }

pub asked_left : (w : World) (patterns : List SetPattern) (site : Site) (trees : Trees) (bytes : List ℕ) (f : AccessFlow) (q : InPhases) (job : Ask) (stage : Stage) (wait : Wait) (path : List ℕ) →
    q ≡ f.request.value → job ≡ ask.Stat path f.of → stage ≡ AskedStage wait →
    access_left w patterns site trees (flow_as f q job stage) ≡ inner_left w site (trees f.of) f (phases_left w patterns site bytes f.inner (Asks wait path))
asked_left w patterns site trees bytes f q job stage wait path eq ej es =
    let left : Rest = inner_left w site (trees f.of) f (phases_left w patterns site bytes f.inner (Asks wait path)) in
    subst (λ (x : InPhases). access_left w patterns site trees (flow_as f x job stage) ≡ left) (sym eq)
    (subst (λ (j : Ask). access_left w patterns site trees (flow_as f f.request.value j stage) ≡ left) (sym ej)
    (subst (λ (s : Stage). access_left w patterns site trees (flow_as f f.request.value (ask.Stat path f.of) s) ≡ left) (sym es)
    (sym (asks_inner w (trees f.of) (terms_seen f.request.value.terms) path (λ item. phases_told w patterns site f.inner wait item) (by_answer w site f) f.request.value.vars))))

-- what is answered is of the request as it is then
pub request_of : (w : World) (a : Asked) (s : Standing) (bytes : List ℕ) (o : Conclusion) → (prepared_as w a s bytes o).answer.request ≡ s.request
unfolding sent answer_with page page_to page_answer moved closed_answer
request_of w a s bytes (outcomes.Text code text) = refl
request_of w a s bytes (outcomes.File told date) = refl
request_of w a s bytes (outcomes.Page code) = refl
request_of w a s bytes (outcomes.Redirect code to) = refl
request_of w a s bytes outcomes.Close = refl

abbrev bare : Answer → Body → Prepared
bare answer body = record { answer = answer; body = body }

-- it has come to an answer without a body
pub bare_left : (w : World) (tree : Tree) (t : Terms) (p : Prepared) (status : ℕ) (k : Answer → Serving Prepared) (vars : Vars) → IsBare status p →
    inner_rest w tree t (Done p) k vars ≡ act_rest w tree t (k p.answer) vars
bare_left w tree t p status k vars b =
    ap (λ body. inner_rest w tree t (Done (bare p.answer body)) k vars) b.bare ∙ ends_inner w tree t p.answer k vars

pub replied_left : (w : World) (patterns : List SetPattern) (site : Site) (trees : Trees) (bytes : List ℕ) (len : ℕ) (f : AccessFlow) (q : InPhases) (stage : Stage) (status : ℕ) (o told : Conclusion) →
    q ≡ f.request.value → stage ≡ Replied status → told ≡ with_length len o → IsBare status (prepared_as w (asked_in f.inner) (standing_seen site f.inner.at) bytes told) →
    access_left w patterns site trees (flow_as f q f.ask stage) ≡ inner_left w site (trees f.of) f (phases_left w patterns site bytes f.inner (Answers o))
replied_left w patterns site trees bytes len f q stage status o told eq es et b =
    let tree = trees f.of in
    let t = terms_seen f.request.value.terms in
    let vars = f.request.value.vars in
    let a = asked_in f.inner in
    let s = standing_seen site f.inner.at in
    let p = prepared_as w a s bytes told in
    let k = by_answer w site f in
    let left : Rest = inner_left w site tree f (phases_left w patterns site bytes f.inner (Answers o)) in
    subst (λ (x : InPhases). access_left w patterns site trees (flow_as f x f.ask stage) ≡ left) (sym eq)
    (subst (λ (s : Stage). access_left w patterns site trees (flow_as f f.request.value f.ask s) ≡ left) (sym es)
    (ap (λ (r : Request). act_rest w tree t (phases_admitted w site (outer_of f) status r) vars) (sym (request_of w a s bytes told))
    ∙ (ap (λ c. act_rest w tree t (phases_admitted w site (outer_of f) c p.answer.request) vars) (sym b.status_is)
    ∙ (sym (bare_left w tree t p status k vars b)
    ∙ ap (λ (x : Prepared). inner_rest w tree t (Done x) k vars) (ap (prepared_as w a s bytes) et ∙ same_outcome w a s bytes len o)))))

-- its phases went on, over its request as it is taken out
pub went_left : (w : World) (site : Site) (tree : Tree) (q : AccessFlow) (r : InPhases) (m n : Serving Prepared) (main : Main) (vars : Vars) → r ≡ q.request.value → IsOfMain q.inner.main main → settled m r.vars ≡ (n, vars) →
    inner_rest w tree (terms_seen r.terms) n (λ a. phases_admitted w site (lent main r.phases) a.status a.request) vars ≡ inner_left w site tree q m
went_left w site tree q r m n main vars eq is e =
    settles_left w site tree (terms_seen r.terms) r.phases q.inner.main main m n r.vars vars is e
    ∙ ap (λ (x : InPhases). inner_rest w tree (terms_seen x.terms) m (λ a. phases_admitted w site (lent q.inner.main x.phases) a.status a.request) x.vars) eq

-- it has replied, and its main request is given back
pub replied_is : (w : World) (patterns : List SetPattern) (site : Site) (trees : Trees) (q moved : AccessFlow) (r : InPhases) (main : Main) (inner : Phases) (stage : Stage) (status : ℕ) →
    moved ≡ record q { stage = stage } → r ≡ moved.request.value → main ≡ of_method r.phases.main.method moved.inner.main → inner ≡ lent r.phases.main moved.inner → q.stage ≡ Replied status →
    act_rest w (trees moved.of) (terms_seen r.terms) (phases_admitted w site (record r.phases { main = main }) status inner.at.request) r.vars ≡ access_left w patterns site trees q
replied_is w patterns site trees q moved r main inner stage status em er es ei eq =
    ap (λ (m : Main). act_rest w (trees moved.of) (terms_seen r.terms) (phases_admitted w site (record r.phases { main = m }) status inner.at.request) r.vars) es
    ∙ (ap (λ (i : Phases). act_rest w (trees moved.of) (terms_seen r.terms) (phases_admitted w site (lent moved.inner.main r.phases) status i.at.request) r.vars) ei
    ∙ (ap (λ (x : InPhases). act_rest w (trees moved.of) (terms_seen x.terms) (phases_admitted w site (lent moved.inner.main x.phases) status moved.inner.at.request) x.vars) er
    ∙ (ap (λ (f : AccessFlow). act_rest w (trees f.of) (terms_seen f.request.value.terms) (phases_admitted w site (outer_of f) status f.inner.at.request) f.request.value.vars) em
    ∙ sym (ap (λ s. stage_rest w patterns site (trees q.of) q s (item_asked trees q.ask)) eq))))

-- ---- it is asked

pub outer_is : (p first inner : Phases) (main : Main) → main ≡ of_method p.main.method first.main → inner ≡ lent p.main first → lent inner.main (record p { main = main }) ≡ p
outer_is p first inner main m i = rw m (rw i refl)

abbrev asked_with : Main → Request → (inside : Bool) → Option (ℕ × Shown) → (closes : Bool) → Asked
asked_with main request inside error closes = record { main = main; request = request; from = Start; inside = inside; error = error; closes = closes }

pub asked_is : (main : Main) (path : List ℕ) (first inner : Phases) → inner ≡ lent main first → first.main.method ≡ main.method → first.at.request ≡ child_request (auth_child main path) → first.at.inside ≡ true → first.error ≡ None → first.closes ≡ false →
    asked_from inner Start ≡ child_asked (auth_child main path)
asked_is main path first inner i m r s e c =
    ap (λ p. asked_from p Start) i
    ∙ (ap (λ k. asked_with (of_method k main) first.at.request first.at.inside (handled_seen first.error) first.closes) m
    ∙ (ap (λ x. asked_with main x first.at.inside (handled_seen first.error) first.closes) r
    ∙ (ap (λ x. asked_with main (child_request (auth_child main path)) x (handled_seen first.error) first.closes) s
    ∙ (ap (λ x. asked_with main (child_request (auth_child main path)) true (handled_seen x) first.closes) e
    ∙ ap (λ x. asked_with main (child_request (auth_child main path)) true None x) c))))

pub begins_open : (w : World) (patterns : List SetPattern) (site : Site) (tree : Tree) (start : InPhases) (path : List ℕ) (f : AccessFlow) →
    outer_of f ≡ start.phases → asked_from f.inner Start ≡ child_asked (auth_child start.phases.main path) → f.inner.changes ≡ 10 → f.request.value.vars ≡ start.vars → f.request.value.terms ≡ start.terms →
    IsOpened (inner_left w site tree f (rounds w f.inner.changes (asked_from f.inner Start))) (step_rest w patterns site tree start (Calls path) [])
begins_open w patterns site tree start path f outer asked changes vars terms =
    let a = child_asked (auth_child start.phases.main path) in
    let to = step_rest w patterns site tree start (Calls path) [] in
    subst (λ t. IsOpened (inner_rest w tree (terms_seen t) (rounds w f.inner.changes (asked_from f.inner Start)) (by_answer w site f) f.request.value.vars) to) (sym terms)
    (subst (λ v. IsOpened (inner_rest w tree (terms_seen start.terms) (rounds w f.inner.changes (asked_from f.inner Start)) (by_answer w site f) v) to) (sym vars)
    (subst (λ (p : Phases). IsOpened (inner_rest w tree (terms_seen start.terms) (rounds w f.inner.changes (asked_from f.inner Start)) (λ b. phases_admitted w site p b.status b.request) start.vars) to) (sym outer)
    (subst (λ n. IsOpened (inner_rest w tree (terms_seen start.terms) (rounds w n (asked_from f.inner Start)) (λ b. phases_admitted w site start.phases b.status b.request) start.vars) to) (sym changes)
    (subst (λ x. IsOpened (inner_rest w tree (terms_seen start.terms) (rounds w 10 x) (λ b. phases_admitted w site start.phases b.status b.request) start.vars) to) (sym asked)
    (opens w tree (terms_seen start.terms) patterns site start.phases path start.vars a refl)))))
