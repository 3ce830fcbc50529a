-- What a family waits for, and which of its nodes can run.
use Rattle.std.specs.Prelude.{◌≡◌, ◌≢◌, ℕ, suc, ◌==◌, Bool, true, false, List, [], ◌∷◌, Option, None, Some, slice_get, if◌then◌else◌}
use Rattle.ngx_outside.specs.Views.{Job}
use Rattle.postpone_filter.specs.Row.{Row}
use Rattle.node_line.specs.node_turn.Stages.{is_ending, is_placing, is_serving, is_turning, may_fetch}
use Rattle.subrequests.specs.Families.{captured_at, gathers_at, in_row_at, stub_at}
use Rattle.subrequests.specs.Moved.{is_at}
use Rattle.family_nodes.specs.Runs.{can_go, is_waiting, runs_at}
use Rattle.subrequests.specs.declared.family.Family.{Family}
use Rattle.subrequests.specs.declared.next_step.Next.{Next}
use Rattle.subrequests.specs.declared.next_step.Next.TheVariants.{Turns, Fetches, Places, Comes, Takes, Gathers, Ends, Decides, Returns, Frees, Waits}
use Rattle.node_line.specs.node_turn.declared.node.Node.{Node}

-- the jobs of nodes, of which the first has this number
unfoldable pub jobs_from : (tree : ℕ) → ℕ → List Node → List Job
jobs_from tree at [] = []
jobs_from tree at (n ∷ nodes) = if is_waiting tree n then record { node = at; ask = n.ask } ∷ jobs_from tree (suc at) nodes else jobs_from tree (suc at) nodes

abbrev pub jobs_of : Family → List Job
jobs_of f = jobs_from f.tree 0 f.nodes

abbrev pub first_of : List ℕ → Option ℕ
first_of [] = None
first_of (n ∷ numbers) = Some n

abbrev pub first_job : List Job → Option ℕ
first_job [] = None
first_job (job ∷ jobs) = Some job.node

unfoldable pub ready_from : Row → ℕ → List Node → List ℕ
ready_from row at [] = []
ready_from row at (n ∷ nodes) = if can_go row at n then at ∷ ready_from row (suc at) nodes else ready_from row (suc at) nodes

unfoldable pub is_among : ℕ → List ℕ → Bool
is_among n [] = false
is_among n (m ∷ numbers) = if m == n then true else is_among n numbers

abbrev pub ready_of : Family → List ℕ
ready_of f = ready_from f.order 0 f.nodes

-- what a node with this number does next
abbrev pub StandsAt : Option Node → (at : ℕ) → Next → Type 0
StandsAt n at Turns = is_at is_turning n ≡ true
StandsAt n at Fetches = is_at may_fetch n ≡ true
StandsAt n at Places = (is_at is_placing n ≡ true) × (in_row_at n ≡ true)
StandsAt n at Comes = (is_at is_placing n ≡ true) × (in_row_at n ≡ false)
StandsAt n at Takes = is_at is_serving n ≡ true
StandsAt n at Ends = (is_at is_ending n ≡ true) × (in_row_at n ≡ true) × (at ≢ 0)
StandsAt n at Gathers = (is_at is_serving n ≡ true) × (stub_at n ≡ true)
StandsAt n at Decides = (is_at is_ending n ≡ true) × (stub_at n ≡ true) × (at ≢ 0)
StandsAt n at Frees = (is_at is_ending n ≡ true) × (gathers_at n ≡ true)
StandsAt n at Returns = (is_at is_ending n ≡ true) × (captured_at n ≡ true) × (at ≢ 0)
StandsAt n at Waits = (row : Row) → runs_at row at n ≡ false

abbrev pub Stands : Family → (at : ℕ) → Next → Type 0
Stands f at next = StandsAt (slice_get f.nodes at) at next
