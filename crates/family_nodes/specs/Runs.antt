-- Whether a node can run, and whether its job waits for an answer.
use Rattle.std.specs.Prelude.{ℕ, ◌==◌, ◌&&◌, ◌||◌, not, is_none, Bool, false, Option, None, Some, if◌then◌else◌}
use Rattle.file_tree.specs.Tree.{tree_of}
use Rattle.file_tree.specs.declared.job.Ask.{Ask}
use Rattle.postpone_filter.specs.Row.{Row}
use Rattle.node_line.specs.node_turn.Stages.{can_run, is_asking, is_ending, is_placing, is_reading, is_serving, is_turning}
use Rattle.node_line.specs.node_turn.declared.node.Node.{Node}

-- its job, which asks the tree with this number, waits for an answer
abbrev pub is_waiting : (tree : ℕ) → Node → Bool
is_waiting tree n = ((is_asking n.stage || is_reading n.stage) && not n.over) && (tree_of n.ask == tree)

abbrev pub waits_at : (tree : ℕ) → Option Node → Bool
waits_at tree None = false
waits_at tree (Some n) = is_waiting tree n

-- the job of a node
abbrev pub job_of : (tree : ℕ) → Option Node → Option Ask
job_of tree None = None
job_of tree (Some n) = if is_waiting tree n then Some n.ask else None

-- It has come to its answer, and so have all its subrequests: it can be over, if it isn't the main request.
abbrev pub can_end : (at : ℕ) → Node → Bool
can_end at n = not n.over && (is_ending n.stage && (n.children == 0 && not (at == 0)))

-- it can go on, or be over: it doesn't wait for a reply
abbrev pub can_go : Row → (at : ℕ) → Node → Bool
can_go row at n = is_none n.asks && (can_run row at n || can_end at n)

-- it can in some row
abbrev pub may_go : (at : ℕ) → Node → Bool
may_go at n = is_none n.asks && ((not n.over && ((is_turning n.stage || (is_serving n.stage && is_none n.waits)) || is_placing n.stage)) || can_end at n)

abbrev pub runs_at : Row → (at : ℕ) → Option Node → Bool
runs_at row at None = false
runs_at row at (Some n) = can_go row at n
