-- A family as its nodes keep it.
use Rattle.std.specs.Prelude.{◌≡◌, ℕ, ◌-◌, ◌≤◌, ◌&&◌, Bool, true, false, not, List, [], ◌∷◌, ◌++◌, length, slice_get, Option, None, Some, is_none, nat_le, nat_lt, ◌==◌, ◌||◌}
use Rattle.std.specs.List.{list_all}
use Rattle.file_tree.specs.Tree.{Trees}
use Rattle.ngx_pattern.specs.Pattern.{Pattern as SetPattern}
use Rattle.ngx_variables.specs.declared.request.Main.{Main}
use Rattle.site_model.specs.declared.site.Site.{Site}
use Rattle.postpone_filter.specs.Row.{Row, fresh, is_open}
use Rattle.request_meaning.specs.Replies.{or_stub, script}
use Rattle.request_meaning.specs.Serving.{World}
use Rattle.family_order.specs.Items.{IsWellRow}
use Rattle.node_line.specs.ssi_exec.Scenes.{child_seen}
use Rattle.node_line.specs.ssi_exec.declared.document.Child.{Child}
use Rattle.node_line.specs.node_turn.Stages.{IsSameNode, is_capturing, is_ending, is_in_row, main_of, node_act, node_heard, text_in}
use Rattle.node_line.specs.node_turn.declared.node.Node.{Node}
use Rattle.node_line.specs.node_turn.declared.node.Stage.{Stage}
use Rattle.node_line.specs.node_turn.declared.node.Stage.TheVariants.{Begins, Asks, Told, Places, Serves, Reads, Captures, Ends}
use Rattle.node_line.specs.node_turn.declared.node.Place.{Place}
use Rattle.node_line.specs.node_turn.declared.node.Place.TheVariants.{Row as InRow, Stub, Gathers, Captured}
use Rattle.node_line.specs.Stances.{place_by}
use Rattle.node_seats.specs.Seats.{is_captured, takes_up, withheld_text}

-- where the bytes of a subrequest go whose body is captured, or that has this stub, or none
abbrev pub place_for : (captured : Bool) → Option (List ℕ) → Place
place_for true stub = Captured stub []
place_for false stub = place_by stub

-- those that they have in these trees
abbrev pub text_at : Trees → Option Node → List ℕ
text_at trees None = []
text_at trees (Some n) = text_in trees n

abbrev pub texts_of : Trees → List Node → ℕ → List ℕ
texts_of trees nodes j = text_at trees (slice_get nodes j)

abbrev pub goes_on_at : Option Node → Bool
goes_on_at None = false
goes_on_at (Some n) = not n.over

abbrev pub over_node : Node → Bool
over_node n = n.over

-- what the node does rests on the text of a file that it reads
abbrev pub reads_text : Stage → Bool
reads_text (Begins ssi) = false
reads_text (Asks wait ssi) = false
reads_text (Told wait file ssi) = true
reads_text (Places b) = true
reads_text (Serves b) = true
reads_text (Reads b) = true
reads_text (Captures c) = true
reads_text (Ends answered) = false

-- the bytes of a node go to the row
abbrev pub in_row_at : Option Node → Bool
in_row_at None = false
in_row_at (Some n) = is_in_row n.place

-- they come to its parent
abbrev pub captured_at : Option Node → Bool
captured_at None = false
captured_at (Some n) = is_captured n.place

-- it has a stub, and it isn't known yet whether that is shown: alone, or with bytes of its subrequests that come to it
abbrev pub has_stub : Place → Bool
has_stub InRow = false
has_stub (Stub stub text) = true
has_stub (Gathers stub text) = false
has_stub (Captured stub text) = false

abbrev pub is_gathering : Place → Bool
is_gathering InRow = false
is_gathering (Stub stub text) = false
is_gathering (Gathers stub text) = true
is_gathering (Captured stub text) = false

-- where its bytes go once bytes of its subrequests come to it, and once none of these is left
abbrev pub gathering_place : Place → Place
gathering_place InRow = InRow
gathering_place (Stub stub text) = Gathers stub text
gathering_place (Gathers stub text) = Gathers stub text
gathering_place (Captured stub text) = Captured stub text

abbrev pub freed_place : Place → Place
freed_place InRow = InRow
freed_place (Stub stub text) = Stub stub text
freed_place (Gathers stub text) = Stub stub text
freed_place (Captured stub text) = Captured stub text

abbrev pub stub_at : Option Node → Bool
stub_at None = false
stub_at (Some n) = has_stub n.place

abbrev pub gathers_at : Option Node → Bool
gathers_at None = false
gathers_at (Some n) = is_gathering n.place

-- the node has come to its answer, which goes to the row, and no subrequest of it goes on
abbrev pub is_last : Node → Bool
is_last n = is_ending n.stage && (not n.over && (is_in_row n.place && (is_none n.asks && n.children == 0)))

-- this is so of the first node, and all others are over
abbrev pub are_done : List Node → Bool
are_done [] = false
are_done (n ∷ nodes) = is_last n && list_all over_node nodes

-- the status of the answer to which the node has come, and 0 where it has come to none
abbrev pub end_status : Stage → ℕ
end_status (Begins ssi) = 0
end_status (Asks wait ssi) = 0
end_status (Told wait file ssi) = 0
end_status (Places b) = 0
end_status (Serves b) = 0
end_status (Reads b) = 0
end_status (Captures c) = 0
end_status (Ends b) = b.value.answered.status

-- the stub of a node takes the place of this body
abbrev pub is_stubbed : Stage → (body : List ℕ) → Bool
is_stubbed stage body = (length body == 0) || nat_le 400 (end_status stage)

-- The bytes that come to a node's parent are taken: its body, or its stub, if it has one that takes the place of that.
pub record IsTaken (stage : Stage) (text : List ℕ) (old new : Place) : Type 0 where
  pub stub : Option (List ℕ)
  pub body : List ℕ
  pub place : old ≡ Captured stub body
  pub then : new ≡ Captured None []
  pub chosen : text ≡ or_stub stub (end_status stage) body

-- A node has the body for which it waited as that of a reply, with which it goes on.
pub data HasReply (body : List ℕ) (old new : Node) : Type 0 where
  Hears : is_capturing old.stage ≡ true → IsSameNode (record old { asks = None }) new → new.place ≡ old.place → (new.ask ≡ old.ask) × (new.start ≡ old.start) →
      ((w : World) (patterns : List SetPattern) (site : Site) (main : Main) (text : List ℕ) → node_act w patterns site main new text ≡ node_heard w patterns site main old text body) →
      HasReply body old new

-- a place with other bytes that are withheld
abbrev pub with_text : List ℕ → Place → Place
with_text bytes InRow = InRow
with_text bytes (Stub stub text) = Stub stub bytes
with_text bytes (Gathers stub text) = Gathers stub bytes
with_text bytes (Captured stub text) = Captured stub bytes

-- More bytes come before those of a node that are withheld, to which bytes of its subrequests come.
pub record HasFirst (text : List ℕ) (old new : Node) : Type 0 where
  pub takes : takes_up old.place ≡ true
  pub is : new ≡ record old { place = with_text (text ++ withheld_text old.place) old.place }

-- A node to which bytes of its subrequests come has one more, whose bytes come after those that it has so far.
pub record IsInnerOpened (old new : Node) (before : List ℕ) : Type 0 where
  pub takes : takes_up old.place ≡ true
  pub bytes : before ≡ withheld_text old.place
  pub is : new ≡ record old { children = new.children; waits = new.waits; place = with_text [] old.place }

-- the node of a subrequest that is over, whose bytes don't come to its parent
abbrev pub is_past : Node → Bool
is_past n = n.over && is_in_row n.place

-- After these nodes come as many that are over.
pub record ArePast (old new : List Node) (count : ℕ) : Type 0 where
  pub past : List Node
  pub items : new ≡ old ++ past
  pub over : list_all is_past past ≡ true
  pub size : length past ≡ count

-- the row of this many nodes, of which the main request's alone goes on, which has placed nothing
abbrev pub first_row : (nodes : ℕ) → Row
first_row nodes = record { pieces = fresh 0 ∷ []; nodes = nodes }

abbrev pub rises_at : (number : ℕ) → Option Node → Bool
rises_at number None = true
rises_at number (Some n) = not (is_captured n.place) || nat_lt n.parent number

-- The row has a place for each node that isn't over, and for no other. The main request's place comes after all others. The number of a
-- node whose bytes come to its parent is above its parent's, so no other node takes up the main request's. And there are no more nodes than make one response.
pub record IsSound (row : Row) (nodes : List Node) : Type 0 where
  pub well : IsWellRow 0 row
  pub few : length nodes ≤ 1001
  pub count : row.nodes ≡ length nodes
  pub going : (j : ℕ) → is_open j row.pieces ≡ goes_on_at (slice_get nodes j)
  pub rises : (j : ℕ) → rises_at j (slice_get nodes j) ≡ true

-- The nodes have one more: that of a subrequest, for which the one with a number asks, and whose bytes go there, after these of that one.
pub record IsPushed (old new : List Node) (at : ℕ) (place : Place) (bytes : List ℕ) (asking : Node) (child : Child) : Type 0 where
  pub member : Node
  pub items : new ≡ old ++ member ∷ []
  pub left : member.left ≡ asking.left - 1
  pub over : member.over ≡ false
  pub goes : member.place ≡ place
  pub before : member.before ≡ bytes
  pub parent : member.parent ≡ at
  pub asks : member.asks ≡ None
  pub fresh : reads_text member.stage ≡ false
  pub acts : (w : World) (patterns : List SetPattern) (site : Site) (main : Main) (text : List ℕ) →
      node_act w patterns site main member text ≡ script w member.left (child_seen (main_of main asking) child)
