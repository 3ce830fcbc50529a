-- The nodes of a family by their numbers: what each still does, and why one does not go on.
use Rattle.std.specs.Prelude.{◌≡◌, ℕ, ◌==◌, ◌&&◌, Bool, true, false, not, List, [], ◌∷◌, filter, map, find, Option, None, Some, is_some, if◌then◌else◌}
use Rattle.std.specs.List.{list_any, filter_map}
use Rattle.acts.specs.Act.{Done, Get, Put, Stat, Call, Write, Inner}
use Rattle.file_tree.specs.declared.job.Ask.{Ask}
use Rattle.file_tree.specs.declared.job.Ask.TheVariants as ask
use Rattle.request_meaning.specs.Serving.{Serving, Answer}

-- A node: its number and its parent's, how deep its subrequests may nest, what it still does, its job, the subrequest that it
-- waits for, whether its buffer holds as much as it can, and whether it was found over.
pub record NodeView : Type 0 where
  pub number : ℕ
  pub parent : Option ℕ
  pub left : ℕ
  pub act : Serving Answer
  pub job : Option Ask
  pub waits : Option ℕ
  pub full : Bool
  pub over : Bool

pub data Why : Type 0 where
  OwnJob : Why
  WaitsChild : (child : ℕ) → Why
  FullBuffer : Why
  EndsAfterChildren : Why
  Ready : Why
  Over : Why

abbrev pub node_at : List NodeView → ℕ → Option NodeView
node_at nodes number = find (λ (n : NodeView). n.number == number) nodes

abbrev pub is_over_in : Option NodeView → Bool
is_over_in None = true
is_over_in (Some n) = n.over

abbrev pub is_over : List NodeView → ℕ → Bool
is_over nodes number = is_over_in (node_at nodes number)

abbrev pub is_child_of : ℕ → Option ℕ → Bool
is_child_of number None = false
is_child_of number (Some parent) = parent == number

-- a subrequest of the node isn't over
abbrev pub has_open_child : List NodeView → ℕ → Bool
has_open_child nodes number = list_any (λ (n : NodeView). is_child_of number n.parent && not n.over) nodes

-- the node has bytes to place next; it has nothing left to do
abbrev pub has_bytes : Serving Answer → Bool
has_bytes (Write [] m) = false
has_bytes (Write (b ∷ bytes) m) = true
has_bytes (Done answer) = false
has_bytes (Get name k) = false
has_bytes (Put name value m) = false
has_bytes (Stat path k) = false
has_bytes (Call child k) = false
has_bytes (Inner child m) = false

abbrev pub is_done : Serving Answer → Bool
is_done (Done answer) = true
is_done (Get name k) = false
is_done (Put name value m) = false
is_done (Stat path k) = false
is_done (Call child k) = false
is_done (Write bytes m) = false
is_done (Inner child m) = false

abbrev pub waits_for : List NodeView → Option ℕ → Option ℕ
waits_for nodes None = None
waits_for nodes (Some child) = if is_over nodes child then None else Some child

abbrev pub why_after_waits : List NodeView → NodeView → Option ℕ → Why
why_after_waits nodes n (Some child) = WaitsChild child
why_after_waits nodes n None =
    if n.full && has_bytes n.act then FullBuffer
    else (if is_done n.act && has_open_child nodes n.number then EndsAfterChildren else Ready)

-- Why a node goes on or not: its job is asked; else it waits for a subrequest that isn't over; else it has bytes to place and
-- no room; else it has nothing left but a subrequest that isn't over; else it is ready, and over once it was found so.
unfoldable pub why : List NodeView → NodeView → Why
why nodes n =
    if n.over then Over
    else (if is_some n.job then OwnJob else why_after_waits nodes n (waits_for nodes n.waits))

abbrev pub is_ready : Why → Bool
is_ready OwnJob = false
is_ready (WaitsChild child) = false
is_ready FullBuffer = false
is_ready EndsAfterChildren = false
is_ready Ready = true
is_ready Over = false

-- the nodes that are ready, by number, and the jobs
unfoldable pub ready_nodes : List NodeView → List ℕ
ready_nodes nodes = map (λ (n : NodeView). n.number) (filter (λ (n : NodeView). is_ready (why nodes n)) nodes)

abbrev pub job_of : NodeView → Option (ℕ × Ask)
job_of n = elim n.job [
  | None ↦ None
  | Some ask ↦ Some (n.number, ask)
]

unfoldable pub jobs_of : List NodeView → List (ℕ × Ask)
jobs_of nodes = filter_map job_of nodes

-- A job is what the act asks next: what is at a path; or the next block of the file whose bytes are to be placed.
abbrev pub IsJobOf : (of : ℕ) → Serving Answer → Ask → Type 0
IsJobOf of (Stat path k) (ask.Stat asked tree) = (asked ≡ path) × (tree ≡ of)
IsJobOf of (Stat path k) (ask.Read asked start count tree) = ⊥
IsJobOf of m (ask.Read asked start count tree) = tree ≡ of
IsJobOf of m (ask.Stat asked tree) = ⊥
