-- What comes out over any calls.
use Rattle.std.specs.Prelude.{◌≡◌, ℕ, ◌+◌, ◌==◌, List, [], ◌∷◌, ◌++◌, take, if◌then◌else◌}
use Rattle.postpone_filter.specs.Row.{Piece, Row, appended, with_child, ended, used, front_of, begun}

-- all that comes out of the pieces, where each node goes on with what it still gives
unfoldable pub filled : (ℕ → List ℕ) → List Piece → List ℕ
filled gives [] = []
filled gives (p ∷ ps) = p.bytes ++ ((if p.grows then gives p.node else []) ++ filled gives ps)

-- with another text for one node, made of what it gives
abbrev pub giving : ℕ → (List ℕ → List ℕ) → (ℕ → List ℕ) → ℕ → List ℕ
giving id change gives j = if j == id then change (gives j) else gives j

-- A call: bytes that a node has placed, a child at its parent's place, a node's end, bytes that have left.
pub data Call : Type 0 where
  Append : (node : ℕ) → (bytes : List ℕ) → Call
  AddChild : (parent : ℕ) → Call
  End : (node : ℕ) → Call
  Use : (count : ℕ) → Call

abbrev pub step : Call → Row → Row
step (Append id bytes) row = appended id bytes row
step (AddChild parent) row = with_child parent row
step (End id) row = ended id row
step (Use count) row = used count row

-- the row after the calls
unfoldable pub behind : List Call → Row → Row
behind [] row = row
behind (c ∷ cs) row = behind cs (step c row)

-- what leaves at a call
abbrev pub leaves : Call → Row → List ℕ
leaves (Use count) row = take count (front_of row.pieces)
leaves _ row = []

-- what leaves over the calls
unfoldable pub output : List Call → Row → List ℕ
output [] row = []
output (c ∷ cs) row = leaves c row ++ output cs (step c row)

-- What a node gives by the calls from its first on, where the next child gets the number `next`: its bytes in the order
-- of its calls up to its end, and a child's whole text where the child was added.
unfoldable pub text_of : ℕ → List Call → ℕ → List ℕ
text_of next [] id = []
text_of next (Append j bytes ∷ cs) id = if id == j then bytes ++ text_of next cs id else text_of next cs id
text_of next (AddChild j ∷ cs) id = if id == j then text_of (next + 1) cs next ++ text_of (next + 1) cs id else text_of (next + 1) cs id
text_of next (End j ∷ cs) id = if id == j then [] else text_of next cs id
text_of next (Use count ∷ cs) id = text_of next cs id

-- Whatever the calls and their order: what has left, and then all bytes that wait, is the text of the main request.
abbrev pub TreeOrder : Type 0
TreeOrder = (calls : List Call) → output calls begun ++ filled (λ _. []) (behind calls begun).pieces ≡ text_of 1 calls 0
