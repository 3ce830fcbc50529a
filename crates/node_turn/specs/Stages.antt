-- How far a node is, and what it still does from there.
use Rattle.std.specs.Prelude.{◌≡◌, ℕ, ◌==◌, ◌&&◌, ◌||◌, min, nat_lt, not, is_none, Bool, true, false, List, [], ◌++◌, length, drop, Option, None, Some}
use Rattle.file_tree.specs.Tree.{Item, Trees, text_of}
use Rattle.file_tree.specs.declared.job.Ask.{Ask}
use Rattle.file_tree.specs.declared.job.Ask.TheVariants as asks
use Rattle.ngx_pattern.specs.Pattern.{Pattern as SetPattern}
use Rattle.page_body.specs.ngx_variables.declared.request.Main.{Main}
use Rattle.page_body.specs.site_model.declared.site.Site.{Site}
use Rattle.postpone_filter.specs.Row.{Row as Order, room}
use Rattle.request_reply.specs.request_meaning.Serving.{World, Serving, Answer}
use Rattle.node_turn.specs.Nodes.{asked_path, hand, lent, stage_act, stage_heard}
use Rattle.node_turn.specs.declared.node.Node.{Node}
use Rattle.node_turn.specs.declared.node.Place.{Place}
use Rattle.node_turn.specs.declared.node.Place.TheVariants.{Row, Stub, Gathers, Captured}
use Rattle.node_turn.specs.declared.node.Stage.{Stage}
use Rattle.node_turn.specs.declared.node.Stage.TheVariants.{Begins, Asks, Told, Places, Serves, Reads, Captures, Ends}

-- ---- stages

-- the files are asked what is at a path
abbrev pub is_asking : Stage → Bool
is_asking (Begins ssi) = false
is_asking (Asks wait ssi) = true
is_asking (Told wait file ssi) = false
is_asking (Places b) = false
is_asking (Serves b) = false
is_asking (Reads b) = false
is_asking (Captures c) = false
is_asking (Ends b) = false

-- a block of its file is asked
abbrev pub is_reading : Stage → Bool
is_reading (Begins ssi) = false
is_reading (Asks wait ssi) = false
is_reading (Told wait file ssi) = false
is_reading (Places b) = false
is_reading (Serves b) = false
is_reading (Reads b) = true
is_reading (Captures c) = false
is_reading (Ends b) = false

-- its phases go on next
abbrev pub is_turning : Stage → Bool
is_turning (Begins ssi) = true
is_turning (Asks wait ssi) = false
is_turning (Told wait file ssi) = true
is_turning (Places b) = false
is_turning (Serves b) = false
is_turning (Reads b) = false
is_turning (Captures c) = false
is_turning (Ends b) = false

-- bytes are placed next
abbrev pub is_placing : Stage → Bool
is_placing (Begins ssi) = false
is_placing (Asks wait ssi) = false
is_placing (Told wait file ssi) = false
is_placing (Places b) = true
is_placing (Serves b) = false
is_placing (Reads b) = false
is_placing (Captures c) = false
is_placing (Ends b) = false

-- the bytes that are placed next
abbrev pub hand_at : Stage → List ℕ
hand_at (Begins ssi) = []
hand_at (Asks wait ssi) = []
hand_at (Told wait file ssi) = []
hand_at (Places b) = hand b.value
hand_at (Serves b) = []
hand_at (Reads b) = []
hand_at (Captures c) = []
hand_at (Ends b) = []

-- a block of its file may be asked next
abbrev pub may_fetch : Stage → Bool
may_fetch (Begins ssi) = false
may_fetch (Asks wait ssi) = false
may_fetch (Told wait file ssi) = false
may_fetch (Places b) = b.value.from == length b.value.bytes
may_fetch (Serves b) = true
may_fetch (Reads b) = false
may_fetch (Captures c) = false
may_fetch (Ends b) = false

-- the next part of its page is taken up next
abbrev pub is_serving : Stage → Bool
is_serving (Begins ssi) = false
is_serving (Asks wait ssi) = false
is_serving (Told wait file ssi) = false
is_serving (Places b) = false
is_serving (Serves b) = true
is_serving (Reads b) = false
is_serving (Captures c) = true
is_serving (Ends b) = false

-- the body of a subrequest goes into a variable of its page
abbrev pub is_capturing : Stage → Bool
is_capturing (Begins ssi) = false
is_capturing (Asks wait ssi) = false
is_capturing (Told wait file ssi) = false
is_capturing (Places b) = false
is_capturing (Serves b) = false
is_capturing (Reads b) = false
is_capturing (Captures c) = true
is_capturing (Ends b) = false

-- it has come to its answer
abbrev pub is_ending : Stage → Bool
is_ending (Begins ssi) = false
is_ending (Asks wait ssi) = false
is_ending (Told wait file ssi) = false
is_ending (Places b) = false
is_ending (Serves b) = false
is_ending (Reads b) = false
is_ending (Captures c) = false
is_ending (Ends b) = true

-- ---- where its bytes go

-- to the order
abbrev pub is_in_row : Place → Bool
is_in_row Row = true
is_in_row (Stub stub text) = false
is_in_row (Gathers stub text) = false
is_in_row (Captured stub text) = false

-- with more bytes of a body of which it isn't known whether it is shown
abbrev pub withheld_more : List ℕ → Place → Place
withheld_more bytes Row = Row
withheld_more bytes (Stub stub text) = Stub stub (text ++ bytes)
withheld_more bytes (Gathers stub text) = Gathers stub (text ++ bytes)
withheld_more bytes (Captured stub text) = Captured stub (text ++ bytes)

-- ---- what it still does

-- what a node still does, where the file that it reads still has this text
abbrev pub node_act : World → List SetPattern → Site → Main → Node → (text : List ℕ) → Serving Answer
node_act w patterns site main n text = stage_act w patterns site (lent main n.phases) n.left (asked_path n.ask) n.stage text

-- and after a subrequest for whose body it waits
abbrev pub node_heard : World → List SetPattern → Site → Main → Node → (text body : List ℕ) → Serving Answer
node_heard w patterns site main n text body = stage_heard w patterns site (lent main n.phases) n.left (asked_path n.ask) n.stage text body

-- ---- its job

-- the job of a node that asks for this path of the tree with this number, if it asks for one
abbrev pub ask_or : Option (List ℕ) → (of : ℕ) → Ask → Ask
ask_or None of ask = ask
ask_or (Some path) of ask = asks.Stat path of

-- and from where on its file is read next
abbrev pub start_or : Option (List ℕ) → ℕ → ℕ
start_or None start = start
start_or (Some path) start = 0

-- no more bytes of a file are asked at once
unfoldable pub block_most : ℕ
block_most = 16384

-- the job that asks for the next block of a file, of which this many bytes are left
abbrev pub block_of : Ask → (start left : ℕ) → Ask
block_of (asks.Stat path of) start left = asks.Read path start (min left block_most) of
block_of (asks.Read path begin count of) start left = asks.Read path start (min left block_most) of

-- a job asks for a block of its file from there on
abbrev pub asks_from : Ask → (start : ℕ) → Bool
asks_from (asks.Stat path of) start = false
asks_from (asks.Read path begin count of) start = begin == start

-- what is where a job asks
abbrev pub item_asked : Trees → Ask → Item
item_asked trees (asks.Stat path of) = trees of path
item_asked trees (asks.Read path start count of) = trees of path

-- the bytes of its file that are to be read
abbrev pub text_in : Trees → Node → List ℕ
text_in trees n = drop n.start (text_of (item_asked trees n.ask))

-- ---- the node

-- the main request to which a node belongs
abbrev pub main_of : Main → Node → Main
main_of main n = (lent main n.phases).main

-- The same node: as deep, and of the same parent, with as many subrequests.
pub record IsSameNode (old new : Node) : Type 0 where
  pub parent : new.parent ≡ old.parent
  pub left : new.left ≡ old.left
  pub children : new.children ≡ old.children
  pub over : new.over ≡ old.over
  pub asks : new.asks ≡ old.asks
  pub before : new.before ≡ old.before

-- ---- whether it can run

-- bytes of it can be placed, or none is left to place
abbrev pub can_place : (room : ℕ) → Stage → Bool
can_place room (Places b) = b.value.from == length b.value.bytes || nat_lt 0 room
can_place room other = true

-- It can run: it waits neither for its job nor for the end of a subrequest, it isn't at its end, and there is room for what it
-- places.
abbrev pub can_run : Order → (at : ℕ) → Node → Bool
can_run row at n =
    not n.over && ((is_turning n.stage || (is_serving n.stage && is_none n.waits)) || (is_placing n.stage && can_place (room at row.pieces) n.stage))
