-- Where the nodes of a family are, and what is said there of each.
use Rattle.std.specs.Prelude.{◌≡◌, ◌≤◌, ◌<◌, ℕ, zero, suc, ◌==◌, ◌&&◌, ◌||◌, nat_lt, Bool, true, false, not, List, [], Option, None, Some, is_none, slice_get, if◌then◌else◌}
use Rattle.ngx_pattern.specs.Pattern.{Pattern as SetPattern}
use Rattle.ngx_variables.specs.declared.request.Main.{Main}
use Rattle.site_model.specs.declared.site.Site.{Site}
use Rattle.postpone_filter.specs.Row.{Row as Order}
use Rattle.request_meaning.specs.Serving.{World, Serving, Answer, Reply}
use Rattle.family_meaning.specs.Line.{Line}
use Rattle.family_meaning.specs.Line.Line.{Nil, Gives, Waits, Stubs}
use Rattle.family_order.specs.Items.{Stance, Family}
use Rattle.family_order.specs.Items.Stance.{Going, Waiting, Apart, Hidden}
use Rattle.node_line.specs.node_turn.Stages.{is_capturing, node_act, node_heard}
use Rattle.node_line.specs.node_turn.declared.node.Node.{Node}
use Rattle.node_line.specs.node_turn.declared.node.Place.{Place}
use Rattle.node_line.specs.node_turn.declared.node.Place.TheVariants.{Row, Stub, Gathers, Captured}
use Rattle.node_line.specs.Stances.{under}

-- ---- by a node alone

-- the bytes of a node that are withheld
abbrev pub withheld_text : Place → List ℕ
withheld_text Row = []
withheld_text (Stub stub text) = text
withheld_text (Gathers stub text) = text
withheld_text (Captured stub text) = text

-- they come to its parent
abbrev pub is_captured : Place → Bool
is_captured Row = false
is_captured (Stub stub text) = false
is_captured (Gathers stub text) = false
is_captured (Captured stub text) = true

-- the bytes of its subrequests for which it doesn't wait come to it
abbrev pub takes_up : Place → Bool
takes_up Row = false
takes_up (Stub stub text) = false
takes_up (Gathers stub text) = true
takes_up (Captured stub text) = true

-- the stub that may yet come in the place of its body
abbrev pub stub_in : Place → Option (List ℕ)
stub_in Row = None
stub_in (Stub stub text) = Some stub
stub_in (Gathers stub text) = Some stub
stub_in (Captured stub text) = stub

-- What nodes still do by their numbers: by themselves, or once they hear the reply of the subrequest for which they wait.
pub record Doing : Type 0 where
  pub act : (node : ℕ) → Node → Serving Answer
  pub heard : (node : ℕ) → Node → Reply → Serving Answer

-- where the files that are read still have these texts, by node
abbrev pub doing_by : World → List SetPattern → Site → Main → (texts : ℕ → List ℕ) → Doing
doing_by w patterns site main texts = record {
  act = λ j n. node_act w patterns site main n (texts j);
  heard = λ j n reply. node_heard w patterns site main n (texts j) reply.body;
}

-- ---- subrequests

abbrev pub is_asked : (child : ℕ) → Option ℕ → Bool
is_asked child None = false
is_asked child (Some asked) = asked == child

-- The bytes of the second of these nodes, with their numbers, come to the first, which has opened it and doesn't wait for them; it
-- isn't over.
abbrev pub is_inner : (node : ℕ) → Node → (child : ℕ) → Node → Bool
is_inner node n child m = is_captured m.place && ((m.parent == node) && (nat_lt node child && (not m.over && not (is_asked child n.asks))))

-- no node has this number or a higher one
unfoldable pub most_nodes : ℕ
most_nodes = 1001

-- ---- lines

-- a line before more of another, or apart from it where there is a stub
abbrev pub put_by : Option (List ℕ) → (Line → Line) → (rest : Line) → Line
put_by None line rest = line rest
put_by (Some stub) line rest = Stubs (line Nil) stub rest

-- The line of the subrequest with a number, for whose bytes a node waits, before more of another: nothing of it, unless it is one of
-- that node whose bytes come to it.
abbrev pub waited_line : (below : ℕ → Node → Line → Line) → (parent child : ℕ) → Option Node → (rest : Line) → Line
waited_line below parent child None rest = rest
waited_line below parent child (Some n) rest =
    if is_captured n.place && (n.parent == parent) then put_by (stub_in n.place) (below child n) rest else rest

-- A node, and before it the subrequest for whose bytes it waits, or in it that for whose reply it waits.
abbrev pub asking_line : Doing → List Node → (below : ℕ → Node → Line → Line) → (node : ℕ) → Node → Option ℕ → (rest : Line) → Line
asking_line d nodes below node n None rest = Gives node n.left (d.act node n) rest
asking_line d nodes below node n (Some child) rest =
    if is_capturing n.stage then Waits node (waited_line below node child (slice_get nodes child) Nil) n.left (d.heard node n) rest
    else waited_line below node child (slice_get nodes child) (Gives node n.left (d.act node n) rest)

-- The line of a subrequest whose bytes come to a node, after those that the node has before it; nothing of any other node.
abbrev pub inner_line : (below : ℕ → Node → Line → Line) → (node : ℕ) → Node → (child : ℕ) → Option Node → (rest : Line) → Line
inner_line below node n child None rest = rest
inner_line below node n child (Some m) rest = if is_inner node n child m then under m.before (put_by (stub_in m.place) (below child m) rest) else rest

-- the lines of all such subrequests with a number below `count`, one after another
unfoldable pub inner_lines : (below : ℕ → Node → Line → Line) → List Node → (node : ℕ) → Node → (count : ℕ) → (rest : Line) → Line
inner_lines below nodes node n zero rest = rest
inner_lines below nodes node n (suc count) rest = inner_lines below nodes node n count (inner_line below node n count (slice_get nodes count) rest)

-- those that come before the bytes that a node withholds, where it takes them up
abbrev pub ahead_line : Place → (inner : Line → Line) → (rest : Line) → Line
ahead_line Row inner rest = rest
ahead_line (Stub stub text) inner rest = rest
ahead_line (Gathers stub text) inner rest = inner rest
ahead_line (Captured stub text) inner rest = inner rest

-- The line of a node with all that comes to it, from at most `levels` levels below, before more of another.
unfoldable pub line_from : Doing → List Node → (levels : ℕ) → (node : ℕ) → Node → (rest : Line) → Line
line_from d nodes zero node n rest = under (withheld_text n.place) (Gives node n.left (d.act node n) rest)
line_from d nodes (suc levels) node n rest =
    ahead_line n.place (inner_lines (line_from d nodes levels) nodes node n most_nodes)
    (under (withheld_text n.place) (asking_line d nodes (line_from d nodes levels) node n n.asks rest))

-- ---- stances

-- what is said of a node of the row, to which bytes come from at most `levels` levels below
abbrev pub row_stance : Doing → List Node → (levels node : ℕ) → Node → Option ℕ → Stance
row_stance d nodes levels node n None = Going n.left (d.act node n)
row_stance d nodes levels node n (Some child) =
    Waiting (waited_line (line_from d nodes levels) node child (slice_get nodes child) Nil) n.left (d.heard node n)

abbrev pub place_stance : Doing → List Node → (levels node : ℕ) → Node → Place → Stance
place_stance d nodes levels node n Row = row_stance d nodes levels node n n.asks
place_stance d nodes levels node n (Stub stub text) = Apart (line_from d nodes (suc levels) node n Nil) stub
place_stance d nodes levels node n (Gathers stub text) = Apart (line_from d nodes (suc levels) node n Nil) stub
place_stance d nodes levels node n (Captured stub text) = Hidden

abbrev pub stance_of : Doing → List Node → (levels node : ℕ) → Option Node → Stance
stance_of d nodes levels node None = Hidden
stance_of d nodes levels node (Some n) = place_stance d nodes levels node n n.place

abbrev pub stance_in : Doing → List Node → (levels : ℕ) → ℕ → Stance
stance_in d nodes levels j = stance_of d nodes levels j (slice_get nodes j)

-- No subrequest is more levels below: the numbers of nodes rise from level to level.
unfoldable pub most_levels : ℕ
most_levels = 1001

-- The family, where the files that are read still have these texts, by node.
abbrev pub seen : World → List SetPattern → Site → Main → Order → List Node → (texts : ℕ → List ℕ) → Family
seen w patterns site main row nodes texts = record { row = row; output = []; stance = stance_in (doing_by w patterns site main texts) nodes most_levels; root = 0 }

-- ---- seats

-- a node goes on, and waits for the bytes of the subrequest with this number, or takes them up beside its own
abbrev pub hears : (node : ℕ) → (child : ℕ) → Node → Bool
hears node child n = not n.over && (is_asked child n.asks || (takes_up n.place && (nat_lt node child && nat_lt child most_nodes)))

abbrev pub heard_by : (above : Node → Bool) → (node child : ℕ) → Option Node → Bool
heard_by above node child None = false
heard_by above node child (Some n) = hears node child n && above n

-- A node, at most `levels` levels below the main request, is in the row or in a line of its own; or its bytes come to
-- one that waits for them, of which the same holds.
unfoldable pub is_heard : (levels : ℕ) → List Node → (at : ℕ) → Node → Bool
is_heard zero nodes at n = not (is_captured n.place)
is_heard (suc levels) nodes at n = not (is_captured n.place) || heard_by (is_heard levels nodes n.parent) n.parent at (slice_get nodes n.parent)

-- a node goes on by itself
abbrev pub is_seated : List Node → (at : ℕ) → Option Node → Bool
is_seated nodes at None = false
is_seated nodes at (Some n) = is_none n.asks && is_heard most_levels nodes at n

-- ---- subrequests whose bytes come to a node

abbrev pub inner_in : (node : ℕ) → Option Node → (child : ℕ) → Option Node → Bool
inner_in node None child m = false
inner_in node (Some n) child None = false
inner_in node (Some n) child (Some m) = is_inner node n child m

-- none with a number from `from` on, below `to`
abbrev pub NoInner : List Node → (node from to : ℕ) → Type 0
NoInner nodes node from to = (child : ℕ) → from ≤ child → child < to → inner_in node (slice_get nodes node) child (slice_get nodes child) ≡ false

-- The first from this number on; none, where there is none.
abbrev pub IsNextInner : List Node → (node from : ℕ) → Option ℕ → Type 0
IsNextInner nodes node from None = NoInner nodes node from most_nodes
IsNextInner nodes node from (Some child) =
    (from ≤ child) × (child < most_nodes) × (inner_in node (slice_get nodes node) child (slice_get nodes child) ≡ true) × NoInner nodes node from child

-- the bytes of a node come so to its parent
abbrev pub inner_of_its : List Node → (at : ℕ) → Option Node → Bool
inner_of_its nodes at None = false
inner_of_its nodes at (Some n) = inner_in n.parent (slice_get nodes n.parent) at (Some n)
