-- The steps of a family as it is served: those of its nodes, in any order, and the bytes that leave.
use Rattle.std.specs.Prelude.{◌≡◌, ◌≢◌, ℕ, suc, true, List, [], ◌∷◌, ◌++◌, Option, None, Some}
use Rattle.file_tree.specs.Tree
use Rattle.file_tree.specs.Tree.{Tree}
use Rattle.acts.specs.Vars.{Vars, look}
use Rattle.acts.specs.Act.{Done, Get, Stat, Call, Write, Inner, settled}
use Rattle.postpone_filter.specs.Row.{is_open}
use Rattle.family_meaning.specs.request_meaning.Serving.{World, Serving, Child, Reply, Answer}
use Rattle.family_meaning.specs.request_meaning.Replies.{or_stub}
use Rattle.family_meaning.specs.Line.{Line, opened, ended}
use Rattle.family_meaning.specs.Line.Line.{Nil}
use Rattle.family_meaning.specs.Moves.{Moves, KeepsBody, SomeBody}
use Rattle.family_order.specs.Items.{Stance, stance_by, Item, items, Family, items_of, IsWell, IsAlike, doing, placing, opening, ending, leaving}
use Rattle.family_order.specs.Items.Stance.{Going, Waiting, Apart}
use Rattle.family_order.specs.Items.Item.{Stub}

-- the node has not ended, and still does this
pub record Does (f : Family) (n : ℕ) (s : Stance) : Type 0 where
  pub goes_on : is_open n f.row.pieces ≡ true
  pub stands : f.stance n ≡ s

-- no node goes on but the root, which has come to its answer
pub record IsOver (f : Family) (answer : Answer) : Type 0 where
  pub left : ℕ
  pub stands : f.stance f.root ≡ Going left (Done answer)
  pub goes_on : is_open f.root f.row.pieces ≡ true
  pub alone : (n : ℕ) → is_open n f.row.pieces ≡ true → n ≡ f.root

-- A step of one node, by the table as it is then.
pub data Acts (w : World) (tree : Tree) : Family → Vars → Family → Vars → Type 0 where
  -- it reads and writes variables, up to the next act that others may come between
  Thinks : {f : Family} {vars : Vars} {left : ℕ} {m : Serving Answer} (n : ℕ) → Does f n (Going left m) →
      Acts w tree f vars (doing n (Going left (settled m vars).0) f) (settled m vars).1
  -- it reads one variable
  Reads : {f : Family} {vars : Vars} {left : ℕ} {name : List ℕ} {k : Option (List ℕ) → Serving Answer} (n : ℕ) → Does f n (Going left (Get name k)) →
      Acts w tree f vars (doing n (Going left (k (look vars name))) f) vars
  -- its question is answered
  Learns : {f : Family} {vars : Vars} {left : ℕ} {path : List ℕ} {k : Tree.Item → Serving Answer} (n : ℕ) → Does f n (Going left (Stat path k)) →
      Acts w tree f vars (doing n (Going left (k (tree path))) f) vars
  -- it places bytes, all at once or some of them
  Places : {f : Family} {vars : Vars} {left : ℕ} {m : Serving Answer} (n : ℕ) (some more : List ℕ) → Does f n (Going left (Write (some ++ more) m)) →
      Acts w tree f vars (doing n (Going left (Write more m)) (placing n some f)) vars
  Placed : {f : Family} {vars : Vars} {left : ℕ} {m : Serving Answer} (n : ℕ) → Does f n (Going left (Write [] m)) →
      Acts w tree f vars (doing n (Going left m) f) vars
  -- two texts that it places next are one
  Merges : {f : Family} {vars : Vars} {left : ℕ} {first second : List ℕ} {m : Serving Answer} (n : ℕ) → Does f n (Going left (Write first (Write second m))) →
      Acts w tree f vars (doing n (Going left (Write (first ++ second) m)) f) vars
  -- it opens a subrequest whose body is put here
  Opens : {f : Family} {vars : Vars} {left : ℕ} {child : Child} {m : Serving Answer} (n : ℕ) → Does f n (Going (suc left) (Inner child m)) →
      Acts w tree f vars (doing n (Going (suc left) m) (opening n (stance_by child.stub w f.row.nodes left child) f)) vars
  -- it asks for a subrequest's reply, which has a line of its own; waits while that line takes steps; and hears it
  Asks : {f : Family} {vars : Vars} {left : ℕ} {child : Child} {k : Reply → Serving Answer} (n number : ℕ) → Does f n (Going (suc left) (Call child k)) →
      Acts w tree f vars (doing n (Waiting (opened w number left child Nil) (suc left) k) f) vars
  Within : {f : Family} {vars vars' : Vars} {own own' : Line} {left : ℕ} {k : Reply → Serving Answer} (n : ℕ) → Does f n (Waiting own left k) →
      Moves w tree own vars own' vars' → Acts w tree f vars (doing n (Waiting own' left k) f) vars'
  Hears : {f : Family} {vars : Vars} {own : Line} {left : ℕ} {k : Reply → Serving Answer} (n : ℕ) (reply : Reply) → Does f n (Waiting own left k) →
      ended own None ≡ Some reply → Acts w tree f vars (doing n (Going left (k reply)) f) vars
  -- it has come to its answer
  Ends : {f : Family} {vars : Vars} {left : ℕ} {answer : Answer} (n : ℕ) → Does f n (Going left (Done answer)) → n ≢ f.root →
      Acts w tree f vars (ending n f) vars
  -- The line of a subrequest with a stub takes a step. It is decided that its body is kept: then the row has that line in its
  -- place. Or its nodes are over, and one of the two is placed.
  WithinStub : {f : Family} {vars vars' : Vars} {own own' : Line} {stub : List ℕ} (n : ℕ) → Does f n (Apart own stub) →
      Moves w tree own vars own' vars' → Acts w tree f vars (doing n (Apart own' stub) f) vars'
  Keeps : {f g : Family} {vars : Vars} (own : Line) (stub : List ℕ) (ahead behind : List Item) →
      items_of f ≡ ahead ++ (Stub own stub ∷ behind) → items_of g ≡ ahead ++ (items own ++ behind) → f.output ≡ g.output → IsWell g →
      KeepsBody w tree own → SomeBody w tree own → Acts w tree f vars g vars
  Decides : {f : Family} {vars : Vars} {own : Line} {stub : List ℕ} (n : ℕ) (reply : Reply) → Does f n (Apart own stub) →
      ended own None ≡ Some reply → n ≢ f.root → Acts w tree f vars (ending n (placing n (or_stub (Some stub) reply.answer.status reply.body) f)) vars

-- any number of steps of any nodes, while bytes leave
pub data Goes (w : World) (tree : Tree) : Family → Vars → Family → Vars → Type 0 where
  Stays : {f : Family} {vars : Vars} → Goes w tree f vars f vars
  Acting : {f g h : Family} {vars vars' vars'' : Vars} →
      Acts w tree f vars g vars' → Goes w tree g vars' h vars'' → Goes w tree f vars h vars''
  Leaving : {f h : Family} {vars vars' : Vars} (count : ℕ) → Goes w tree (leaving count f) vars h vars' → Goes w tree f vars h vars'
  -- what shows the same is as good
  Alike : {f g h : Family} {vars vars' : Vars} → IsAlike f g → Goes w tree g vars h vars' → Goes w tree f vars h vars'
