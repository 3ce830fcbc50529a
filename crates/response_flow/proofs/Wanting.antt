-- What a response waits for.
use Rattle.std.proofs.Common.{◌≡◌, ℕ, Bool, true, false, ◌&&◌, cond, List, [], ◌∷◌, slice_get, Option, None, Some, refl, sym, ap, ◌∙◌, subst}
use Rattle.std.specs.Prelude.{◌==◌, not, ◌||◌}
use Rattle.file_tree.specs.Tree.{IsFrom, Trees, is_fitting, tree_of}
use Rattle.file_tree.specs.declared.job.Ask.{Ask}
use Rattle.file_tree.specs.declared.job.JobAnswer.{JobAnswer}
use Rattle.ngx_outside.specs.Views.{ask_in}
use Rattle.access_flow.specs.node_turn.declared.node.Node.{Node}
use Rattle.access_flow.specs.node_turn.Stages.{is_asking, is_reading}
use Rattle.subrequests.specs.Moved.{IsFromAt, fits_at}
use Rattle.subrequests.specs.family_nodes.Runs.{is_waiting, job_of}
use Rattle.subrequests.specs.Wants.{is_among, jobs_from, ready_of}
use Rattle.subrequests.proofs.Numbers.{job_is}
use Rattle.page_response.specs.declared.pages.Pages.{Pages}
use Rattle.access_flow.specs.Flows.{waits}
use Rattle.access_flow.specs.declared.flow.AccessFlow.{AccessFlow}
use Rattle.request_flow.specs.Flows.{jobs_of, waits as flow_waits}
use Rattle.request_flow.specs.declared.flow.Flow.{Flow}
use Rattle.std.specs.Global.{Box}
use Rattle.response_flow.specs.Flights.{access_jobs, ends_first, page_ready}

-- ---- what can run

as_it_is : (b : Bool) → cond b true false ≡ b
as_it_is true = refl
as_it_is false = refl

one_ready : (at : ℕ) → is_among at (0 ∷ []) ≡ (0 == at)
unfolding is_among
one_ready at = as_it_is (0 == at)

no_ready : (at : ℕ) → is_among at [] ≡ false
unfolding is_among
no_ready at = refl

pub stuck_ready : (p : Pages) (at : ℕ) → ends_first p ≡ true → is_among at (page_ready p) ≡ (0 == at)
stuck_ready p at e = ap (λ b. is_among at (cond b (0 ∷ []) (ready_of p.family))) e ∙ one_ready at

pub none_ready : (at : ℕ) → false ≡ is_among at []
none_ready at = sym (no_ready at)

pub alone_ready : (runs : Bool) (at : ℕ) → ((0 == at) && runs) ≡ is_among at (cond runs (0 ∷ []) [])
alone_ready true at = both (0 == at) ∙ sym (one_ready at)
  where
    both : (b : Bool) → (b && true) ≡ b
    both true = refl
    both false = refl
alone_ready false at = both (0 == at) ∙ sym (no_ready at)
  where
    both : (b : Bool) → (b && false) ≡ false
    both true = refl
    both false = refl

pub alone_runs : (runs : Bool) (at : ℕ) → is_among at (cond runs (0 ∷ []) []) ≡ true → runs ≡ true
alone_runs true at e = refl
alone_runs false at e = absurd (never (sym (no_ready at) ∙ e))
  where
    never : false ≡ true → ⊥
    never h = cc

pub asking_runs : (waits : Bool) (next at : ℕ) → is_among at (cond waits [] (next ∷ [])) ≡ true → not waits ≡ true
asking_runs true next at e = absurd (never (sym (no_ready at) ∙ e))
  where
    never : false ≡ true → ⊥
    never h = cc
asking_runs false next at e = refl

pub asking_ready : (waits : Bool) (next at : ℕ) → ((next == at) && not waits) ≡ is_among at (cond waits [] (next ∷ []))
unfolding is_among
asking_ready true next at = none (next == at)
  where
    none : (b : Bool) → (b && false) ≡ false
    none true = refl
    none false = refl
asking_ready false next at = one (next == at)
  where
    one : (b : Bool) → (b && true) ≡ cond b true false
    one true = refl
    one false = refl

-- ---- jobs

-- the job of a subrequest that was asked whether a request is let in
pub record IsAsked (f : AccessFlow) (job : Ask) : Type 0 where
  pub waits : waits f.stage ≡ true
  pub own : f.ask ≡ job

pub access_asked : (f : AccessFlow) (at : ℕ) (job : Ask) → ask_in (access_jobs f) at ≡ Some job → IsAsked f job
access_asked f at job e = by (waits f.stage) refl e
  where
    named : (b : Bool) → cond b (Some f.ask) None ≡ Some job → f.ask ≡ job
    named true h = let s : f.ask ≡ job = cc in s
    named false h = cc

    by : (b : Bool) → waits f.stage ≡ b → ask_in (cond b (record { node = f.request.value.opened; ask = f.ask } ∷ []) []) at ≡ Some job → IsAsked f job
    by true w h = record { waits = w; own = named (f.request.value.opened == at) h }
    by false w h = cc

pub alone_waits : (flow : Box Flow) (at : ℕ) (job : Ask) → ask_in (jobs_of (Some flow)) at ≡ Some job → flow_waits flow.value.stage ≡ true
alone_waits flow at job e = by (flow_waits flow.value.stage) refl e
  where
    by : (b : Bool) → flow_waits flow.value.stage ≡ b → ask_in (cond b (record { node = 0; ask = flow.value.ask } ∷ []) []) at ≡ Some job → flow_waits flow.value.stage ≡ true
    by true w h = w
    by false w h = cc

pub alone_ask : (flow : Box Flow) (at : ℕ) (job : Ask) → ask_in (jobs_of (Some flow)) at ≡ Some job → flow.value.ask ≡ job
alone_ask flow at job e = by (flow_waits flow.value.stage) e
  where
    named : (b : Bool) → cond b (Some flow.value.ask) None ≡ Some job → flow.value.ask ≡ job
    named true h = let s : flow.value.ask ≡ job = cc in s
    named false h = cc

    by : (b : Bool) → ask_in (cond b (record { node = 0; ask = flow.value.ask } ∷ []) []) at ≡ Some job → flow.value.ask ≡ job
    by true h = named (0 == at) h
    by false h = cc

-- a job of a node is its own, and waits
pub record Asks (tree : ℕ) (g : Option Node) (job : Ask) : Type 0 where
  pub node : Node
  pub there : g ≡ Some node
  pub waits : is_waiting tree node ≡ true
  pub own : node.ask ≡ job

asks : (tree : ℕ) (g : Option Node) (job : Ask) → job_of tree g ≡ Some job → Asks tree g job
asks tree None job e = cc
asks tree (Some n) job e = by (is_waiting tree n) refl e
  where
    by : (b : Bool) → is_waiting tree n ≡ b → cond b (Some n.ask) None ≡ Some job → Asks tree (Some n) job
    by true w h = record { node = n; there = refl; waits = w; own = (let s : n.ask ≡ job = cc in s) }
    by false w h = cc

pub node_asks : (tree : ℕ) (nodes : List Node) (at : ℕ) (job : Ask) → ask_in (jobs_from tree 0 nodes) at ≡ Some job → Asks tree (slice_get nodes at) job
node_asks tree nodes at job e = asks tree (slice_get nodes at) job (sym (job_is tree nodes at) ∙ e)

all_true : (asking over same fitting : Bool) → ((asking && not over) && same) ≡ true → fitting ≡ true → (fitting && (not over && same)) ≡ true
all_true true false true true e f = refl
all_true true false true false e f = cc
all_true true false false fitting e f = cc
all_true true true same fitting e f = cc
all_true false over same fitting e f = cc

pub fits : (tree : ℕ) (nodes : List Node) (at : ℕ) (job : Ask) (answer : JobAnswer) → ask_in (jobs_from tree 0 nodes) at ≡ Some job → is_fitting job answer ≡ true → fits_at tree (slice_get nodes at) answer ≡ true
fits tree nodes at job answer e f =
    let a = node_asks tree nodes at job e in
    let n = a.node in
    subst (λ g. fits_at tree g answer ≡ true) (sym a.there)
    (all_true (is_asking n.stage || is_reading n.stage) n.over (tree_of n.ask == tree) (is_fitting n.ask answer) a.waits (ap (λ j. is_fitting j answer) a.own ∙ f))

pub from : (trees : Trees) (tree : ℕ) (nodes : List Node) (at : ℕ) (job : Ask) (answer : JobAnswer) → ask_in (jobs_from tree 0 nodes) at ≡ Some job → IsFrom trees job answer → IsFromAt trees (slice_get nodes at) answer
from trees tree nodes at job answer e f =
    let a = node_asks tree nodes at job e in
    subst (λ g. IsFromAt trees g answer) (sym a.there) (subst (λ j. IsFrom trees j answer) (sym a.own) f)
