-- A node of a family by where its bytes go: what it still does there.
use Rattle.std.specs.Prelude.{◌≡◌, ℕ, List, [], ◌∷◌, Option, None, Some}
use Rattle.file_tree.specs.Tree.{Tree}
use Rattle.acts.specs.Vars.{Vars}
use Rattle.family_meaning.specs.request_meaning.Serving.{World, Serving, Answer, Reply}
use Rattle.family_meaning.specs.Line.{Line, joined}
use Rattle.family_meaning.specs.Line.Line.{Nil, Bytes, Gives, Waits, Stubs}
use Rattle.family_order.specs.Acts.{Goes}
use Rattle.family_order.specs.Items.{Stance, Family}
use Rattle.family_order.specs.Items.Stance.{Going, Waiting, Apart, Hidden}
use Rattle.family_rest.specs.Opened.{opened_going}
use Rattle.node_turn.specs.declared.node.Place.{Place}
use Rattle.node_turn.specs.declared.node.Place.TheVariants.{Row, Stub, Gathers, Captured}

-- a line before which these bytes wait
unfoldable pub under : (bytes : List ℕ) → Line → Line
under [] line = line
under (b ∷ bytes) line = Bytes (b ∷ []) (under bytes line)

-- Where a line is within others: it is a whole; or is after bytes that wait, or after another line; or is the one for
-- whose reply a node waits, before more; or that of a subrequest with a stub, before more.
pub data Spot : Type 0 where
  Whole : Spot
  Behind : (bytes : List ℕ) → Spot → Spot
  After : (ahead : Line) → Spot → Spot
  For : (node left : ℕ) → (Reply → Serving Answer) → (rest : Line) → Spot → Spot
  Stubbed : (stub : List ℕ) → (rest : Line) → Spot → Spot

abbrev pub filling : Spot → Line → Line
filling Whole line = line
filling (Behind bytes spot) line = filling spot (under bytes line)
filling (After ahead spot) line = filling spot (joined ahead line)
filling (For node left k rest spot) line = filling spot (Waits node line left k rest)
filling (Stubbed stub rest spot) line = filling spot (Stubs line stub rest)

-- What a line of its own is for that the row doesn't show: a subrequest with a stub of which it isn't known yet whether
-- its body is shown; or a node that waits for a reply, has `left` levels left, and does this then.
pub data Own : Type 0 where
  Beside : (stub : List ℕ) → Own
  Below : (left : ℕ) → (Reply → Serving Answer) → Own

-- what is said there of the node that has such a line
abbrev pub owned : Own → Line → Stance
owned (Beside stub) line = Apart line stub
owned (Below left k) line = Waiting line left k

-- Where a node is that goes on: in the row; or in a line of its own or of another, with more of that line after it.
pub data Seat : Type 0 where
  InRow : Seat
  Inside : Own → Spot → (rest : Line) → Seat

-- what is said there of the node, or of the one that has the line
abbrev pub stance_so : Seat → (node left : ℕ) → Serving Answer → Stance
stance_so InRow node left m = Going left m
stance_so (Inside own spot rest) node left m = owned own (filling spot (Gives node left m rest))

-- What a node still does whose bytes go there: in the row; or apart; of one for which another waits that other says it.
abbrev pub stance_at : (node : ℕ) → Place → (left : ℕ) → Serving Answer → Stance
stance_at node Row left m = Going left m
stance_at node (Stub stub text) left m = Apart (under text (Gives node left m Nil)) stub
stance_at node (Gathers stub text) left m = Apart (under text (Gives node left m Nil)) stub
stance_at node (Captured stub text) left m = Hidden

-- where the bytes of a subrequest go that has this stub, or none
abbrev pub place_by : Option (List ℕ) → Place
place_by None = Row
place_by (Some stub) = Stub stub []

-- Steps lead from one family to another, by which this many subrequests are opened.
pub record Opening (w : World) (tree : Tree) (count : ℕ) (f : Family) (vars : Vars) (g : Family) (vars' : Vars) : Type 0 where
  pub goes : Goes w tree f vars g vars'
  pub opens : opened_going goes ≡ count
