-- Marks beside nodes, which say where there is nothing to look for.
use Rattle.std.specs.Prelude.{◌≡◌, ◌≢◌, ◌<◌, ℕ, false, List, Option, None, Some, slice_get, slice_index_or}
use Rattle.postpone_filter.specs.Row.{Row}
use Rattle.family_nodes.specs.Runs.{can_go, is_waiting}
use Rattle.node_line.specs.node_turn.declared.node.Node.{Node}

-- 0 says nothing of a node; any other mark that it can't run, whatever the row; and one above 1 that it has no job that waits.
abbrev pub IsMarked : (mark at : ℕ) → Option Node → Type 0
IsMarked mark at None = mark ≡ 0
IsMarked mark at (Some n) = (mark ≢ 0 → (row : Row) → can_go row at n ≡ false) × (1 < mark → (tree : ℕ) → is_waiting tree n ≡ false)

abbrev pub AreMarked : (marks : List ℕ) → List Node → Type 0
AreMarked marks nodes = (at : ℕ) → IsMarked (slice_index_or marks at 0) at (slice_get nodes at)
