-- Nodes that come to the row together: one that has a stub, whose body is shown, and those whose bytes come to it.
use Rattle.std.specs.Prelude.{◌≡◌, ℕ, zero, suc, ◌==◌, ◌&&◌, ◌||◌, ◌≤◌, nat_lt, is_none, Bool, true, false, List, [], ◌∷◌, ◌++◌, Option, None, Some, slice_get, slice_set, if◌then◌else◌}
use Rattle.file_tree.specs.Tree.{Tree}
use Rattle.ngx_pattern.specs.Pattern.{Pattern as SetPattern}
use Rattle.ngx_variables.specs.declared.request.Main.{Main}
use Rattle.site_model.specs.declared.site.Site.{Site}
use Rattle.postpone_filter.specs.Row.{Row as Order, ended, is_open, reopened}
use Rattle.postpone_filter.specs.Buffers.{IsLawful}
use Rattle.request_meaning.specs.Serving.{World}
use Rattle.family_meaning.specs.Line.Line.{Nil}
use Rattle.family_meaning.specs.Moves.{KeepsBody, SomeBody}
use Rattle.node_line.specs.node_turn.Stages.{is_capturing}
use Rattle.node_line.specs.node_turn.declared.node.Node.{Node}
use Rattle.node_line.specs.node_turn.declared.node.Place.{Place}
use Rattle.node_line.specs.node_turn.declared.node.Place.TheVariants.{Row, Stub, Gathers, Captured}
use Rattle.node_line.specs.node_turn.declared.node.Stage.{Stage}
use Rattle.node_line.specs.node_turn.declared.node.Stage.TheVariants.{Ends}
use Rattle.node_line.specs.Stubs.{good}
use Rattle.node_seats.specs.Seats.{doing_by, is_captured, is_inner, line_from, most_levels, most_nodes, put_by, stub_in, withheld_text}

-- ---- which come with a node

-- the number of a subrequest, after those that come with it where it has no stub
abbrev pub number_with : (below : ℕ → Node → List ℕ) → (child : ℕ) → Node → Option (List ℕ) → List ℕ
number_with below child m None = below child m ++ child ∷ []
number_with below child m (Some stub) = child ∷ []

-- none, unless its bytes come to the node
abbrev pub numbers_at : (below : ℕ → Node → List ℕ) → (node : ℕ) → Node → (child : ℕ) → Option Node → List ℕ
numbers_at below node n child None = []
numbers_at below node n child (Some m) = if is_inner node n child m then number_with below child m (stub_in m.place) else []

-- of all with a number below `count`
unfoldable pub numbers_below : (below : ℕ → Node → List ℕ) → List Node → (node : ℕ) → Node → (count : ℕ) → List ℕ
numbers_below below nodes node n zero = []
numbers_below below nodes node n (suc count) = numbers_below below nodes node n count ++ numbers_at below node n count (slice_get nodes count)

-- The numbers of those that come to the row with a node, from at most `levels` levels below, in the order of their bytes. What comes to
-- one that has a stub of its own doesn't.
unfoldable pub numbers_from : List Node → (levels : ℕ) → (node : ℕ) → Node → List ℕ
numbers_from nodes zero node n = []
numbers_from nodes (suc levels) node n = numbers_below (numbers_from nodes levels) nodes node n most_nodes

-- ---- what waits of them

-- a node waits for no body but one that goes into a variable
abbrev pub waits_well : Node → Bool
waits_well n = is_none n.asks || is_capturing n.stage

-- no bytes wait before those of a subrequest, and none of its own that are shown in any case
abbrev pub IsClearBy : (below : ℕ → Node → Type 0) → (child : ℕ) → Node → Option (List ℕ) → Type 0
IsClearBy below child m None = (m.before ≡ []) × (withheld_text m.place ≡ []) × (waits_well m ≡ true) × below child m
IsClearBy below child m (Some stub) = m.before ≡ []

-- so it is of all that come with a node
unfoldable pub AreClear : List Node → (levels : ℕ) → (node : ℕ) → Node → Type 0
AreClear nodes zero node n = ⊥
AreClear nodes (suc levels) node n = (child : ℕ) (m : Node) → slice_get nodes child ≡ Some m → is_inner node n child m ≡ true → IsClearBy (AreClear nodes levels) child m (stub_in m.place)

-- the numbers of those that come with the node with this number, of which no byte waits
abbrev pub AreInner : List Node → (at : ℕ) → (numbers : List ℕ) → Type 0
AreInner nodes at numbers = (n : Node) → slice_get nodes at ≡ Some n → (numbers ≡ numbers_from nodes (suc most_levels) at n) × AreClear nodes (suc most_levels) at n

-- ---- what they are then

-- where the bytes of a node go that came to its parent, once that is in the row
abbrev pub joined_place : Place → Place
joined_place Row = Row
joined_place (Stub stub text) = Stub stub text
joined_place (Gathers stub text) = Gathers stub text
joined_place (Captured None text) = Row
joined_place (Captured (Some stub) text) = Gathers stub text

-- One of them goes on in the row, right before the place of the node with the number `at`.
pub record JoinsOne (at number : ℕ) (row : Order) (nodes : List Node) (row' : Order) (nodes' : List Node) : Type 0 where
  pub node : Node
  pub there : slice_get nodes number ≡ Some node
  pub captured : is_captured node.place ≡ true
  pub goes_on : node.over ≡ false
  pub row_is : row' ≡ reopened at number (ended number row)
  pub lawful : IsLawful row'.nodes row'.pieces
  pub opened : (j : ℕ) → is_open j row'.pieces ≡ (if j == number then true else is_open j (ended number row).pieces)
  pub nodes_are : nodes' ≡ slice_set nodes number (record node { place = joined_place node.place })

-- One after another does. None does twice, since it is captured before.
pub data Joins (at : ℕ) : (numbers : List ℕ) → Order → List Node → Order → List Node → Type 0 where
  None_more : {row : Order} {nodes : List Node} → Joins at [] row nodes row nodes
  One_more : {number : ℕ} {numbers : List ℕ} {row row' row'' : Order} {nodes nodes' nodes'' : List Node} →
      JoinsOne at number row nodes row' nodes' → Joins at numbers row' nodes' row'' nodes'' → Joins at (number ∷ numbers) row nodes row'' nodes''

-- ---- whether a body is shown

-- The body of a node with a stub is shown, whatever the files have and whatever is set: some bytes of it, or that come to it, are certain,
-- and its answer has a status below 400. It withholds none of its own.
pub record IsShown (nodes : List Node) (at : ℕ) (n : Node) : Type 0 where
  pub stub : List ℕ
  pub place : n.place ≡ Gathers stub []
  pub waits : waits_well n ≡ true
  pub keeps : (w : World) (patterns : List SetPattern) (site : Site) (main : Main) (texts : ℕ → List ℕ) (tree : Tree) →
      KeepsBody w tree (line_from (doing_by w patterns site main texts) nodes (suc most_levels) at n Nil)
  pub some : (w : World) (patterns : List SetPattern) (site : Site) (main : Main) (texts : ℕ → List ℕ) (tree : Tree) →
      SomeBody w tree (line_from (doing_by w patterns site main texts) nodes (suc most_levels) at n Nil)

abbrev pub IsShownAt : List Node → (at : ℕ) → Type 0
IsShownAt nodes at = (n : Node) → slice_get nodes at ≡ Some n → IsShown nodes at n

-- each node that a node waits for is there, and its bytes come to it
abbrev pub answered_by : (below : ℕ → Node → Bool) → (node : ℕ) → (child : ℕ) → Option Node → Bool
answered_by below node child None = false
answered_by below node child (Some m) = is_captured m.place && ((m.parent == node) && below child m)

abbrev pub answers_asked : (below : ℕ → Node → Bool) → List Node → (node : ℕ) → Option ℕ → Bool
answers_asked below nodes node None = true
answers_asked below nodes node (Some child) = answered_by below node child (slice_get nodes child)

unfoldable pub is_answered : (levels : ℕ) → List Node → (node : ℕ) → Node → Bool
is_answered zero nodes node n = false
is_answered (suc levels) nodes node n = answers_asked (is_answered levels nodes) nodes node n.asks

-- its answer has a status below 400, however it goes on
abbrev pub ends_well : List Node → (at : ℕ) → Node → Bool
ends_well nodes at n = good n.stage && is_answered most_levels nodes at n

-- some bytes of its line are certain, where it is looked at to at least this depth
abbrev pub IsCertain : List Node → (depth at : ℕ) → Node → Type 0
IsCertain nodes depth at n = (w : World) (patterns : List SetPattern) (site : Site) (main : Main) (texts : ℕ → List ℕ) (tree : Tree) (levels : ℕ) → depth ≤ levels →
    SomeBody w tree (line_from (doing_by w patterns site main texts) nodes levels at n Nil)

-- some bytes are certain that come from it to its parent: of its body, or of its stub
abbrev pub IsComing : List Node → (depth at : ℕ) → Node → Type 0
IsComing nodes depth at n = (w : World) (patterns : List SetPattern) (site : Site) (main : Main) (texts : ℕ → List ℕ) (tree : Tree) (levels : ℕ) → depth ≤ levels →
    SomeBody w tree (put_by (stub_in n.place) (line_from (doing_by w patterns site main texts) nodes levels at n) Nil)

-- a node that has come to its answer has a body that comes to its parent, or a stub in its place
abbrev pub has_some : List ℕ → Bool
has_some [] = false
has_some (b ∷ bytes) = true

abbrev pub gives_by : (status : ℕ) → Place → Bool
gives_by status Row = false
gives_by status (Stub stub text) = false
gives_by status (Gathers stub text) = false
gives_by status (Captured None text) = has_some text
gives_by status (Captured (Some stub) text) = has_some stub || (has_some text && nat_lt status 400)

abbrev pub gives_at : Stage → Place → Bool
gives_at (Ends b) place = gives_by b.value.answered.status place
gives_at other place = false
