-- Each step of a node, with what it does to the row, is a step of the line that the family shows.
use Rattle.std.specs.Prelude.{◌≡◌, ◌≢◌, ℕ, ◌<◌, ◌≤◌, true, List, [], ◌∷◌, ◌++◌, None, Some}
use Rattle.file_tree.specs.Tree.{Tree}
use Rattle.acts.specs.Vars.{Vars}
use Rattle.postpone_filter.specs.Row.{Row, fresh, is_open, front_of}
use Rattle.postpone_filter.specs.Runs.{Call, step, filled}
use Rattle.postpone_filter.specs.Runs.Call.{Append, AddChild, End, Use}
use Rattle.family_meaning.specs.request_meaning.Serving.{World, Serving, Answer}
use Rattle.family_meaning.specs.Line.{Line, front, ended, reply_of}
use Rattle.family_meaning.specs.Line.Line.{Nil, Bytes, Gives}
use Rattle.family_meaning.specs.Moves.{Moves, Runs, KeepsBody, AllEnd, IsGood}
use Rattle.family_order.specs.Items.{Stance, Family, Shows, IsWellRow, IsWell, IsAlike, alone, doing, placing, opening, ending, leaving}
use Rattle.family_order.specs.Items.Stance.{Going, Apart, Hidden}
use Rattle.family_order.specs.Acts.{Does, IsOver, Acts, Goes}

-- a call that doesn't end the root
abbrev pub KeepsRoot : (root : ℕ) → Call → Type 0
KeepsRoot root (Append n bytes) = Unit {0}
KeepsRoot root (AddChild n) = Unit {0}
KeepsRoot root (End n) = n ≢ root
KeepsRoot root (Use count) = Unit {0}

-- The operations of a row keep it well.
pub record RowStaysWell : Type 0 where
  pub begins : (root nodes : ℕ) → root < nodes → IsWellRow root (record { pieces = fresh root ∷ []; nodes = nodes })
  pub steps : (root : ℕ) (call : Call) (row : Row) → IsWellRow root row → KeepsRoot root call → IsWellRow root (step call row)

-- what a line becomes by one step, which a family shows then
pub record Moved (w : World) (tree : Tree) (line : Line) (vars : Vars) (f : Family) (vars' : Vars) : Type 0 where
  pub next : Line
  pub moves : Moves w tree line vars next vars'
  pub shows : Shows f next
  pub well : IsWell f

-- by any number of steps
pub record Ran (w : World) (tree : Tree) (line : Line) (vars : Vars) (f : Family) (vars' : Vars) : Type 0 where
  pub next : Line
  pub runs : Runs w tree line vars next vars'
  pub shows : Shows f next
  pub well : IsWell f

-- A step of a node is a step of the line that the family shows; and what leaves makes no difference to the line.
pub record RowShowsLine : Type 0 where
  pub begins : (root nodes left : ℕ) (m : Serving Answer) → root < nodes → Shows (alone root nodes (Going left m)) (Gives root left m Nil) × IsWell (alone root nodes (Going left m))
  pub acts : (w : World) (tree : Tree) (f : Family) (vars : Vars) (f' : Family) (vars' : Vars) (line : Line) → IsWell f → Acts w tree f vars f' vars' → Shows f line → Moved w tree line vars f' vars'
  pub leaves : (count : ℕ) (f : Family) (line : Line) → Shows f line → Shows (leaving count f) line
  pub alike : (f g : Family) (line : Line) → IsAlike f g → Shows f line → Shows g line
  pub goes : (w : World) (tree : Tree) (f : Family) (vars : Vars) (f' : Family) (vars' : Vars) (line : Line) → IsWell f → Goes w tree f vars f' vars' → Shows f line → Ran w tree line vars f' vars'
  -- a node with a stub joins the row where its own line is some bytes and the node alone
  pub joins : (w : World) (tree : Tree) (f : Family) (vars : Vars) (n left : ℕ) (bytes stub : List ℕ) (m : Serving Answer) → IsWell f → Does f n (Apart (Bytes bytes (Gives n left m Nil)) stub)
      → KeepsBody w tree (Bytes bytes (Gives n left m Nil)) → bytes ≢ [] → Acts w tree f vars (doing n (Going left m) (placing n bytes f)) vars
  -- steps and then others
  pub both : (w : World) (tree : Tree) (f : Family) (vars : Vars) (g : Family) (vars' : Vars) (h : Family) (vars'' : Vars) → Goes w tree f vars g vars' → Goes w tree g vars' h vars'' → Goes w tree f vars h vars''

-- What changes nothing of what a family shows: what is said of nodes that don't go on; how many numbers are given; and the place
-- that a hidden node gets, and the one that it loses.
pub record ShowsTheSame : Type 0 where
  pub others : (f : Family) (stance : ℕ → Stance) → ((n : ℕ) → is_open n f.row.pieces ≡ true → f.stance n ≡ stance n) →
      IsAlike f (record { row = f.row; output = f.output; stance = stance; root = f.root })
  pub numbers : (f : Family) (nodes : ℕ) → f.row.nodes ≤ nodes →
      IsAlike f (record { row = record { pieces = f.row.pieces; nodes = nodes }; output = f.output; stance = f.stance; root = f.root })
  pub opens : (f : Family) (n : ℕ) → IsWell f → is_open n f.row.pieces ≡ true → IsAlike f (opening n Hidden f)
  pub ends : (f : Family) (n : ℕ) → IsWell f → Does f n Hidden → IsAlike f (ending n f)

-- What the row tells of the line: what waits at its front; its reply, once its nodes are over; and that its body is kept, where the
-- root ends well however it goes on.
pub record RowTellsLine : Type 0 where
  pub front_is : (f : Family) (line : Line) → Shows f line → (later : List ℕ) × (front line ≡ (f.output ++ front_of f.row.pieces) ++ later)
  pub reply_is : (f : Family) (line : Line) (answer : Answer) → Shows f line → IsOver f answer → ended line None ≡ Some (reply_of answer (f.output ++ filled (λ _. []) f.row.pieces))
  pub is_kept : (w : World) (tree : Tree) (f : Family) (line : Line) (left : ℕ) (m : Serving Answer) → IsWell f → Shows f line → f.stance f.root ≡ Going left m → AllEnd IsGood m → KeepsBody w tree line
