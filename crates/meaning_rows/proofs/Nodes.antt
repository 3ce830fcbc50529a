-- Rows of nodes: why one doesn't go on, which are ready, the jobs, and the row of pieces.
use Rattle.std.specs.Prelude.{◌≡◌, ℕ, true, false, List, [], ◌∷◌, codes, refl, Option, Some, None}
use Rattle.acts.specs.Act.{Done, Stat, Write}
use Rattle.file_tree.specs.declared.job.Ask.TheVariants as ask
use Rattle.postpone_filter.specs.Row.{Piece}
use Rattle.meaning_rows.proofs.Opened.{opened}
use Rattle.meaning_rows.proofs.Cuts.{answer}
use Rattle.request_meaning.specs.Serving.{Serving, Answer}
use Rattle.family_meaning.specs.Line.{Line, front, used}
use Rattle.family_meaning.specs.Line.Line.{Nil, Bytes, Gives}
use Rattle.family_meaning.specs.Nodes.{NodeView, why, ready_nodes, jobs_of}
use Rattle.family_meaning.specs.Nodes.Why.{OwnJob, WaitsChild, FullBuffer, EndsAfterChildren, Ready, Over}
use Rattle.family_order.specs.Items.{Family, Stance, Shows, items, row_items}
use Rattle.family_order.specs.Items.Stance.{Going}

abbrev pub over : Serving Answer
over = Done answer

abbrev pub asks : Serving Answer
asks = Stat (codes "/w/a") (λ item. over)

abbrev pub places : Serving Answer
places = Write (codes "a") over

abbrev pub node : (number : ℕ) → (parent : Option ℕ) → Serving Answer → NodeView
node number parent act = record { number = number; parent = parent; left = 50; act = act; job = None; waits = None; full = false; over = false }

abbrev pub asking : NodeView
asking = record (node 1 (Some 0) asks) { job = Some (ask.Stat (codes "/w/a") 7) }

-- node 0 has a subrequest that asks for a file
abbrev pub nodes : NodeView → List NodeView
nodes first = first ∷ asking ∷ []

row_job : why (nodes (node 0 None places)) asking ≡ OwnJob
unfolding opened
row_job = refl

row_waits : why (nodes (node 0 None places)) (record (node 0 None places) { waits = Some 1 }) ≡ WaitsChild 1
unfolding opened
row_waits = refl

-- the subrequest that it waited for is over
row_waited : why (node 0 None places ∷ record asking { job = None; over = true } ∷ []) (record (node 0 None places) { waits = Some 1 }) ≡ Ready
unfolding opened
row_waited = refl

-- a full buffer stops a node that has bytes to place, and no other
row_full : why [] (record (node 0 None places) { full = true }) ≡ FullBuffer
unfolding opened
row_full = refl

row_full_asks : why [] (record (node 0 None asks) { full = true }) ≡ Ready
unfolding opened
row_full_asks = refl

row_ends : why (nodes (node 0 None over)) (node 0 None over) ≡ EndsAfterChildren
unfolding opened
row_ends = refl

row_ends_alone : why (node 0 None over ∷ []) (node 0 None over) ≡ Ready
unfolding opened
row_ends_alone = refl

row_over : why [] (record (node 0 None over) { over = true }) ≡ Over
unfolding opened
row_over = refl

row_ready : ready_nodes (nodes (node 0 None places)) ≡ 0 ∷ []
unfolding opened
row_ready = refl

row_jobs : jobs_of (nodes (node 0 None places)) ≡ (1, ask.Stat (codes "/w/a") 7) ∷ []
unfolding opened
row_jobs = refl

-- ---- the row of pieces

abbrev pub going : ℕ → Stance
going number = Going 49 asks

abbrev pub piece : ℕ → List ℕ → Piece
piece number bytes = record { node = number; bytes = bytes; grows = true }

-- a subrequest that placed B comes right before its parent, which placed AD before it was opened; A has left
abbrev pub family : Family
family = record { row = record { pieces = record (piece 0 (codes "D")) { grows = false } ∷ piece 1 (codes "B") ∷ piece 0 [] ∷ []; nodes = 2 }; output = codes "A"; stance = going; root = 0 }

row_pieces : Shows family (Bytes (codes "AD") (Bytes (codes "B") (Gives 1 49 asks (Gives 0 49 asks Nil))))
unfolding opened items row_items
row_pieces = refl

abbrev pub line : Line
line = Bytes (codes "A") (Bytes (codes "B") (Gives 1 49 asks (Bytes (codes "C") (Gives 0 49 asks Nil))))

row_front : front line ≡ codes "AB"
unfolding opened
row_front = refl

row_used : front (used 1 line) ≡ codes "B"
unfolding opened
row_used = refl
