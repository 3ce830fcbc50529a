-- A family that steps by a schedule, and what is still to come of it at each step.
use Rattle.std.specs.Prelude.{ℕ, zero, suc, ◌+◌, ◌&&◌, Bool, List, [], ◌∷◌, bytes_eq, Option, None, Some, if◌then◌else◌}
use Rattle.file_tree.specs.Tree.{Tree}
use Rattle.acts.specs.Vars.{Vars}
use Rattle.acts.specs.Act.{Done, Get, Put, Stat, Call, Write, Inner, settled}
use Rattle.ngx_variables.specs.declared.request.Main.{Main}
use Rattle.ngx_variables.specs.declared.request.Request.{Request}
use Rattle.request_meaning.specs.Serving.{World, Serving, Reply, Answer}
use Rattle.request_meaning.specs.Replies.{main_came, main_script, most_depth, or_stub}
use Rattle.family_meaning.specs.Line.{Line, rest, opened, ended, has_node}
use Rattle.family_meaning.specs.Line.Line.{Nil, Bytes, Gives, Waits, Stubs}

pub record Stepped : Type 0 where
  pub line : Line
  pub vars : Vars

abbrev pub stepped : Line → Vars → Stepped
stepped line vars = record { line = line; vars = vars }

-- the next move of a node: one of the moves of a family
unfoldable pub node_moved : World → Tree → (number : ℕ) → (node left : ℕ) → Serving Answer → Line → Vars → Stepped
node_moved w tree number node left (Done answer) line vars = stepped (if has_node line then line else Gives node left (Done answer) line) vars
node_moved w tree number node left (Get name k) line vars = let s = settled (Get name k) vars in stepped (Gives node left s.0 line) s.1
node_moved w tree number node left (Put name value m) line vars = let s = settled (Put name value m) vars in stepped (Gives node left s.0 line) s.1
node_moved w tree number node left (Stat path k) line vars = stepped (Gives node left (k (tree path)) line) vars
node_moved w tree number node zero (Call child k) line vars = stepped (Gives node zero (Call child k) line) vars
node_moved w tree number node (suc left) (Call child k) line vars = stepped (Waits node (opened w number left child Nil) (suc left) k line) vars
node_moved w tree number node left (Write bytes m) line vars = stepped (Bytes bytes (Gives node left m line)) vars
node_moved w tree number node zero (Inner child m) line vars = stepped (Gives node zero (Inner child m) line) vars
node_moved w tree number node (suc left) (Inner child m) line vars = stepped (opened w number left child (Gives node (suc left) m line)) vars

abbrev pub past_bytes : List ℕ → Stepped → Stepped
past_bytes bytes s = stepped (Bytes bytes s.line) s.vars

abbrev pub past_node : ℕ → ℕ → Serving Answer → Stepped → Stepped
past_node node left m s = stepped (Gives node left m s.line) s.vars

abbrev pub heard : ℕ → ℕ → (Reply → Serving Answer) → Line → Vars → Option Reply → Stepped → Stepped
heard node left k line vars None s = stepped (Waits node s.line left k line) s.vars
heard node left k line vars (Some reply) s = stepped (Gives node left (k reply) line) vars

abbrev pub decided : List ℕ → Line → Vars → Option Reply → Stepped → Stepped
decided stub line vars None s = stepped (Stubs s.line stub line) s.vars
decided stub line vars (Some reply) s = stepped (Bytes (or_stub (Some stub) reply.answer.status reply.body) line) vars

-- a move at the place with this number in the line, or of its own line at this number
unfoldable pub moved : World → Tree → (number pick inner : ℕ) → Line → Vars → Stepped
moved w tree number pick inner Nil vars = stepped Nil vars
moved w tree number pick inner (Bytes bytes line) vars = past_bytes bytes (moved w tree number pick inner line vars)
moved w tree number zero inner (Gives node left m line) vars = node_moved w tree number node left m line vars
moved w tree number (suc pick) inner (Gives node left m line) vars = past_node node left m (moved w tree number pick inner line vars)
moved w tree number zero inner (Waits node own left k line) vars = heard node left k line vars (ended own None) (moved w tree number inner 0 own vars)
moved w tree number (suc pick) inner (Waits node own left k line) vars = let s = moved w tree number pick inner line vars in stepped (Waits node own left k s.line) s.vars
moved w tree number zero inner (Stubs own stub line) vars = decided stub line vars (ended own None) (moved w tree number inner 0 own vars)
moved w tree number (suc pick) inner (Stubs own stub line) vars = let s = moved w tree number pick inner line vars in stepped (Stubs own stub s.line) s.vars

-- what is still to come is the whole reply at each step of a schedule
unfoldable pub all_keep : World → Tree → (body : List ℕ) → (number : ℕ) → List (ℕ × ℕ) → Line → Vars → Bool
all_keep w tree body number [] line vars = bytes_eq (rest w tree line None vars).body body
all_keep w tree body number (e ∷ schedule) line vars =
    let s = moved w tree number e.0 e.1 line vars in
    bytes_eq (rest w tree line None vars).body body && all_keep w tree body (number + 1) schedule s.line s.vars

abbrev pub steps_keep : World → Tree → Main → Request → List (ℕ × ℕ) → Bool
steps_keep w tree main request schedule = all_keep w tree (main_came w tree main request).body 1 schedule (Gives 0 most_depth (main_script w main request) Nil) []

-- the line after a schedule: how many bytes wait, and how many nodes go on
unfoldable pub after : World → Tree → (number : ℕ) → List (ℕ × ℕ) → Line → Vars → Stepped
after w tree number [] line vars = stepped line vars
after w tree number (e ∷ schedule) line vars = let s = moved w tree number e.0 e.1 line vars in after w tree (number + 1) schedule s.line s.vars

unfoldable pub nodes_in : Line → ℕ
nodes_in Nil = 0
nodes_in (Bytes bytes line) = nodes_in line
nodes_in (Gives node left m line) = 1 + nodes_in line
nodes_in (Waits node own left k line) = 1 + nodes_in own + nodes_in line
nodes_in (Stubs own stub line) = nodes_in own + nodes_in line

abbrev pub nodes_after : World → Tree → Main → Request → List (ℕ × ℕ) → ℕ
nodes_after w tree main request schedule = nodes_in (after w tree 1 schedule (Gives 0 most_depth (main_script w main request) Nil) []).line

unfoldable pub step_words : ℕ
unfolding node_moved moved all_keep after nodes_in
step_words = 0
