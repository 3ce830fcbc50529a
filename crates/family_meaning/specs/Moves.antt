-- The steps of a family: each is a step of any one node, by the table as it is then, and they may come in any order.
use Rattle.std.specs.Prelude.{◌≡◌, ◌≢◌, ℕ, suc, nat_le, true, false, List, [], ◌++◌, Option, None, Some}
use Rattle.file_tree.specs.Tree.{Tree, Item}
use Rattle.acts.specs.Vars.{Vars, look}
use Rattle.acts.specs.Act.{Done, Get, Put, Stat, Call, Write, Inner, settled}
use Rattle.request_meaning.specs.Serving.{World, Serving, Child, Reply, Answer}
use Rattle.request_meaning.specs.Replies.{or_stub}
use Rattle.family_meaning.specs.Line.{Line, Left, rest, opened, has_node, ended, joined}
use Rattle.family_meaning.specs.Line.Line.{Nil, Bytes, Gives, Waits, Stubs}

-- each way in which an act may end gives an answer of which this is so
abbrev pub AllEnd : (Answer → Type 0) → Serving Answer → Type 0
AllEnd P (Done answer) = P answer
AllEnd P (Get name k) = (value : Option (List ℕ)) → AllEnd P (k value)
AllEnd P (Put name value m) = AllEnd P m
AllEnd P (Stat path k) = (item : Item) → AllEnd P (k item)
AllEnd P (Call child k) = (reply : Reply) → AllEnd P (k reply)
AllEnd P (Write bytes m) = AllEnd P m
AllEnd P (Inner child m) = AllEnd P m

-- an answer whose body is kept, if it isn't empty
abbrev pub IsGood : Answer → Type 0
IsGood answer = nat_le 400 answer.status ≡ false

pub record IsGoodLeft (left : Left) : Type 0 where
  pub answer : Answer
  pub there : left.answer ≡ Some answer
  pub good : IsGood answer

-- the line has a node, and comes to such an answer whatever the table
pub record KeepsBody (w : World) (tree : Tree) (own : Line) : Type 0 where
  pub node : has_node own ≡ true
  pub good : (vars : Vars) → IsGoodLeft (rest w tree own None vars)

-- it comes to some bytes, whatever the table
abbrev pub SomeBody : World → Tree → (own : Line) → Type 0
SomeBody w tree own = (vars : Vars) → (rest w tree own None vars).body ≢ []

-- A step of one node, at any place of the line, that neither reads nor writes a variable.
pub data Quiet (w : World) (tree : Tree) : Line → Line → Type 0 where
  -- its question is answered
  Learns : {node left : ℕ} {path : List ℕ} {k : Item → Serving Answer} {line : Line} →
      Quiet w tree (Gives node left (Stat path k) line) (Gives node left (k (tree path)) line)
  -- it places bytes, all at once or some of them
  Places : {node left : ℕ} {some more : List ℕ} {m : Serving Answer} {line : Line} →
      Quiet w tree (Gives node left (Write (some ++ more) m) line) (Bytes some (Gives node left (Write more m) line))
  Placed : {node left : ℕ} {m : Serving Answer} {line : Line} → Quiet w tree (Gives node left (Write [] m) line) (Gives node left m line)
  -- two texts that it places next are one
  Merges : {node left : ℕ} {first second : List ℕ} {m : Serving Answer} {line : Line} →
      Quiet w tree (Gives node left (Write first (Write second m)) line) (Gives node left (Write (first ++ second) m) line)
  -- it opens a subrequest whose body is put here, which may open a level less
  Opens : {node left : ℕ} {child : Child} {m : Serving Answer} {line : Line} (number : ℕ) →
      Quiet w tree (Gives node (suc left) (Inner child m) line) (opened w number left child (Gives node (suc left) m line))
  -- it asks for a subrequest's reply, and hears it once every node of that is over
  Asks : {node left : ℕ} {child : Child} {k : Reply → Serving Answer} {line : Line} (number : ℕ) →
      Quiet w tree (Gives node (suc left) (Call child k) line) (Waits node (opened w number left child Nil) (suc left) k line)
  Hears : {node left : ℕ} {own line : Line} {k : Reply → Serving Answer} (reply : Reply) → ended own None ≡ Some reply →
      Quiet w tree (Waits node own left k line) (Gives node left (k reply) line)
  -- a node that is over leaves, where its parent comes after it
  Leaves : {node left : ℕ} {answer : Answer} {line : Line} → has_node line ≡ true → Quiet w tree (Gives node left (Done answer) line) line
  -- A body takes the place of its stub as soon as it is certain that it isn't empty and that its status is below 400; a stub is
  -- decided where every node of the subrequest is over.
  Keeps : {own line : Line} {stub : List ℕ} → KeepsBody w tree own → SomeBody w tree own → Quiet w tree (Stubs own stub line) (joined own line)
  Decides : {own line : Line} {stub : List ℕ} (reply : Reply) → ended own None ≡ Some reply → has_node line ≡ true →
      Quiet w tree (Stubs own stub line) (Bytes (or_stub (Some stub) reply.answer.status reply.body) line)
  -- so it is where the answer of its last node stays, which a node may wait for
  Chooses : {own line : Line} {stub : List ℕ} (node left : ℕ) (reply : Reply) → ended own None ≡ Some reply →
      Quiet w tree (Stubs own stub line) (Bytes (or_stub (Some stub) reply.answer.status reply.body) (Gives node left (Done reply.answer) line))
  -- bytes that wait are taken apart, and where none are left nothing waits
  Parts : {some more : List ℕ} {line : Line} → Quiet w tree (Bytes (some ++ more) line) (Bytes some (Bytes more line))
  Gone : {line : Line} → Quiet w tree (Bytes [] line) line
  -- at another place of the line
  PastBytes : {bytes : List ℕ} {line line' : Line} → Quiet w tree line line' → Quiet w tree (Bytes bytes line) (Bytes bytes line')
  PastNode : {node left : ℕ} {m : Serving Answer} {line line' : Line} → Quiet w tree line line' → Quiet w tree (Gives node left m line) (Gives node left m line')
  PastWait : {node left : ℕ} {own line line' : Line} {k : Reply → Serving Answer} →
      Quiet w tree line line' → Quiet w tree (Waits node own left k line) (Waits node own left k line')
  Within : {node left : ℕ} {own own' line : Line} {k : Reply → Serving Answer} →
      Quiet w tree own own' → Quiet w tree (Waits node own left k line) (Waits node own' left k line)
  PastStub : {own line line' : Line} {stub : List ℕ} → Quiet w tree line line' → Quiet w tree (Stubs own stub line) (Stubs own stub line')
  WithinStub : {own own' line : Line} {stub : List ℕ} → Quiet w tree own own' → Quiet w tree (Stubs own stub line) (Stubs own' stub line)

-- A node, at any place of the line, reads and writes variables, up to the next act that others may come between; or it reads one
-- variable alone.
pub data Thinks : Line → Vars → Line → Vars → Type 0 where
  Here : {node left : ℕ} {m : Serving Answer} {line : Line} {vars : Vars} →
      Thinks (Gives node left m line) vars (Gives node left (settled m vars).0 line) (settled m vars).1
  Reads : {node left : ℕ} {name : List ℕ} {k : Option (List ℕ) → Serving Answer} {line : Line} {vars : Vars} →
      Thinks (Gives node left (Get name k) line) vars (Gives node left (k (look vars name)) line) vars
  ThereBytes : {bytes : List ℕ} {line line' : Line} {vars vars' : Vars} → Thinks line vars line' vars' → Thinks (Bytes bytes line) vars (Bytes bytes line') vars'
  ThereNode : {node left : ℕ} {m : Serving Answer} {line line' : Line} {vars vars' : Vars} →
      Thinks line vars line' vars' → Thinks (Gives node left m line) vars (Gives node left m line') vars'
  ThereWait : {node left : ℕ} {own line line' : Line} {k : Reply → Serving Answer} {vars vars' : Vars} →
      Thinks line vars line' vars' → Thinks (Waits node own left k line) vars (Waits node own left k line') vars'
  InWait : {node left : ℕ} {own own' line : Line} {k : Reply → Serving Answer} {vars vars' : Vars} →
      Thinks own vars own' vars' → Thinks (Waits node own left k line) vars (Waits node own' left k line) vars'
  ThereStub : {own line line' : Line} {stub : List ℕ} {vars vars' : Vars} →
      Thinks line vars line' vars' → Thinks (Stubs own stub line) vars (Stubs own stub line') vars'
  InStub : {own own' line : Line} {stub : List ℕ} {vars vars' : Vars} →
      Thinks own vars own' vars' → Thinks (Stubs own stub line) vars (Stubs own' stub line) vars'

-- a step of a family, by the table as it is then
pub data Moves (w : World) (tree : Tree) : Line → Vars → Line → Vars → Type 0 where
  Quietly : {line line' : Line} {vars : Vars} → Quiet w tree line line' → Moves w tree line vars line' vars
  ByTable : {line line' : Line} {vars vars' : Vars} → Thinks line vars line' vars' → Moves w tree line vars line' vars'

-- any number of quiet steps, of any nodes, in any order
pub data Quiets (w : World) (tree : Tree) : Line → Line → Type 0 where
  Rests : {line : Line} → Quiets w tree line line
  Goes : {first next last : Line} → Quiet w tree first next → Quiets w tree next last → Quiets w tree first last

-- any number of steps, of any nodes, in any order
pub data Runs (w : World) (tree : Tree) : Line → Vars → Line → Vars → Type 0 where
  Ends : {line : Line} {vars : Vars} → Runs w tree line vars line vars
  Steps : {first next last : Line} {vars vars' vars'' : Vars} →
      Moves w tree first vars next vars' → Runs w tree next vars' last vars'' → Runs w tree first vars last vars''
