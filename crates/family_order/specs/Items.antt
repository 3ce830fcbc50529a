-- A family as it is served: the row in which its bytes wait, what has left of it, and what each of its nodes still does; and the
-- line that it shows.
use Rattle.std.specs.Prelude.{◌≡◌, ℕ, ◌==◌, Bool, true, false, List, [], ◌∷◌, ◌++◌, map, take, Option, None, Some, if◌then◌else◌}
use Rattle.race_meaning.specs.ngx_variables.declared.request.Main.{Main}
use Rattle.race_meaning.specs.ngx_variables.declared.request.Request.{Request}
use Rattle.family_meaning.specs.request_meaning.Serving.{World, Serving, Child, Reply, Answer}
use Rattle.family_meaning.specs.request_meaning.Replies.{script, main_script, most_depth}
use Rattle.postpone_filter.specs.Row.{Piece, Row, is_place, is_open, fresh, front_of, appended, with_child, ended, used}
use Rattle.postpone_filter.specs.Buffers.{IsLawful}
use Rattle.family_meaning.specs.Line
use Rattle.family_meaning.specs.Line.{Line}
use Rattle.family_meaning.specs.Line.Line.{Nil, Bytes, Gives, Waits, Stubs}

-- What a node of a row still does. A subrequest with a stub of which it isn't known yet which of the two is put there has a line of
-- its own, which has all of its subrequests too: these have places in the row, but nothing in it is theirs.
pub data Stance : Type 0 where
  Going : (left : ℕ) → Serving Answer → Stance
  Waiting : (own : Line) → (left : ℕ) → (Reply → Serving Answer) → Stance
  Apart : (own : Line) → (stub : List ℕ) → Stance
  Hidden : Stance

abbrev pub is_shown : Stance → Bool
is_shown (Going left m) = true
is_shown (Waiting own left k) = true
is_shown (Apart own stub) = true
is_shown Hidden = false

-- how a subrequest begins that is opened in a place of its own
abbrev pub stance_by : Option (List ℕ) → World → (number left : ℕ) → Child → Stance
stance_by None w number left child = Going left (script w left child)
stance_by (Some stub) w number left child = Apart (Line.begun w number left child) stub

-- ---- what lines and rows have

-- What a line has, one after another: a byte that waits, a node by its number, a subrequest with a stub that isn't decided.
pub data Item : Type 0 where
  Byte : (byte : ℕ) → Item
  Node : (number : ℕ) → Stance → Item
  Stub : (own : Line) → (stub : List ℕ) → Item

unfoldable pub items : Line → List Item
items Nil = []
items (Bytes bytes line) = map Byte bytes ++ items line
items (Gives node left m line) = Node node (Going left m) ∷ items line
items (Waits node own left k line) = Node node (Waiting own left k) ∷ items line
items (Stubs own stub line) = Stub own stub ∷ items line

abbrev pub stance_items : ℕ → Stance → List Item
stance_items n (Going left m) = Node n (Going left m) ∷ []
stance_items n (Waiting own left k) = Node n (Waiting own left k) ∷ []
stance_items n (Apart own stub) = Stub own stub ∷ []
stance_items n Hidden = []

-- what a row has, where each node that goes on still does this
unfoldable pub row_items : (ℕ → Stance) → List Piece → List Item
row_items stance [] = []
row_items stance (p ∷ ps) = map Byte p.bytes ++ ((if p.grows then stance_items p.node (stance p.node) else []) ++ row_items stance ps)

-- A family: the row, the bytes that have left it, what each node still does; and its root, of which all others are subrequests:
-- the main request's node, or that of a subrequest with a line of its own.
pub record Family : Type 0 where
  pub row : Row
  pub output : List ℕ
  pub stance : ℕ → Stance
  pub root : ℕ

abbrev pub items_of : Family → List Item
items_of f = row_items f.stance f.row.pieces

-- The family shows the line: what has left, and then the row, is what the line has.
abbrev pub Shows : Family → Line → Type 0
Shows f line = items line ≡ map Byte f.output ++ items_of f

-- ---- rows in which this makes sense

-- a node goes on somewhere
unfoldable pub any_goes_on : List Piece → Bool
any_goes_on [] = false
any_goes_on (p ∷ ps) = if p.grows then true else any_goes_on ps

-- another node goes on after this one
unfoldable pub goes_on_behind : ℕ → List Piece → Bool
goes_on_behind n [] = false
goes_on_behind n (p ∷ ps) = if is_place n p then any_goes_on ps else goes_on_behind n ps

-- each node goes on in one place at most, and the root, which goes on, after all others
pub record IsWellRow (root : ℕ) (row : Row) : Type 0 where
  pub lawful : IsLawful row.nodes row.pieces
  pub root_is_last : goes_on_behind root row.pieces ≡ false
  pub root_goes_on : is_open root row.pieces ≡ true

pub record IsWell (f : Family) : Type 0 where
  pub row_is : IsWellRow f.root f.row
  pub root_is_shown : is_shown (f.stance f.root) ≡ true

-- ---- what may become of a family

-- another stance of one node
abbrev pub with_stance : ℕ → Stance → (ℕ → Stance) → ℕ → Stance
with_stance n s stance j = if j == n then s else stance j

-- how a family of `nodes` nodes begins whose root has this number; that of a main request
abbrev pub alone : (root nodes : ℕ) → Stance → Family
alone root nodes s = record { row = record { pieces = fresh root ∷ []; nodes = nodes }; output = []; stance = λ n. s; root = root }

abbrev pub begun : World → Main → Request → Family
begun w main request = alone 0 1 (Going most_depth (main_script w main request))

-- a node still does this
abbrev pub doing : ℕ → Stance → Family → Family
doing n s f = record { row = f.row; output = f.output; stance = with_stance n s f.stance; root = f.root }

-- a node has placed bytes
abbrev pub placing : ℕ → List ℕ → Family → Family
placing n bytes f = record { row = appended n bytes f.row; output = f.output; stance = f.stance; root = f.root }

-- a node has a child more, which still does this
abbrev pub opening : ℕ → Stance → Family → Family
opening n s f = record { row = with_child n f.row; output = f.output; stance = with_stance f.row.nodes s f.stance; root = f.root }

-- a node has ended
abbrev pub ending : ℕ → Family → Family
ending n f = record { row = ended n f.row; output = f.output; stance = f.stance; root = f.root }

-- the first `count` of the bytes that come first have left
abbrev pub leaving : ℕ → Family → Family
leaving count f = record { row = used count f.row; output = f.output ++ take count (front_of f.row.pieces); stance = f.stance; root = f.root }

-- families that have the same
pub record IsAlike (f g : Family) : Type 0 where
  pub items_are : items_of f ≡ items_of g
  pub output_is : f.output ≡ g.output
  pub well : IsWell f → IsWell g
