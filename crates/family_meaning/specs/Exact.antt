-- The steps of the node that comes first: they need no condition, since none runs before it.
use Rattle.std.specs.Prelude.{◌≡◌, ℕ, suc, List, [], ◌++◌, Option, None, Some, true}
use Rattle.file_tree.specs.Tree.{Tree, Item}
use Rattle.acts.specs.Vars.{Vars, look}
use Rattle.acts.specs.Act.{Done, Get, Stat, Call, Write, Inner, settled}
use Rattle.request_meaning.specs.Serving.{World, Serving, Child, Reply, Answer}
use Rattle.request_meaning.specs.Replies.{or_stub}
use Rattle.family_meaning.specs.Line.{Line, rest, opened, ended, joined, has_node}
use Rattle.family_meaning.specs.Moves.{KeepsBody, SomeBody, Quiet, Quiets}
use Rattle.family_meaning.specs.Line.Line.{Nil, Bytes, Gives, Waits, Stubs}

-- two lines come to the same, whichever answer is before them
abbrev pub Same : World → Tree → Line → Vars → Line → Vars → Type 0
Same w tree line vars line' vars' = (last : Option Answer) → rest w tree line last vars ≡ rest w tree line' last vars'

pub record FirstIsExact : Type 0 where
  pub thinks : (w : World) (tree : Tree) (node left : ℕ) (m : Serving Answer) (line : Line) (vars : Vars) →
      Same w tree (Gives node left m line) vars (Gives node left (settled m vars).0 line) (settled m vars).1
  pub reads : (w : World) (tree : Tree) (node left : ℕ) (name : List ℕ) (k : Option (List ℕ) → Serving Answer) (line : Line) (vars : Vars) →
      Same w tree (Gives node left (Get name k) line) vars (Gives node left (k (look vars name)) line) vars
  pub learns : (w : World) (tree : Tree) (node left : ℕ) (path : List ℕ) (k : Item → Serving Answer) (line : Line) (vars : Vars) →
      Same w tree (Gives node left (Stat path k) line) vars (Gives node left (k (tree path)) line) vars
  pub places : (w : World) (tree : Tree) (node left : ℕ) (some more : List ℕ) (m : Serving Answer) (line : Line) (vars : Vars) →
      Same w tree (Gives node left (Write (some ++ more) m) line) vars (Bytes some (Gives node left (Write more m) line)) vars
  pub merges : (w : World) (tree : Tree) (node left : ℕ) (first second : List ℕ) (m : Serving Answer) (line : Line) (vars : Vars) →
      Same w tree (Gives node left (Write first (Write second m)) line) vars (Gives node left (Write (first ++ second) m) line) vars
  pub opens : (w : World) (tree : Tree) (node left number : ℕ) (child : Child) (m : Serving Answer) (line : Line) (vars : Vars) →
      Same w tree (Gives node (suc left) (Inner child m) line) vars (opened w number left child (Gives node (suc left) m line)) vars
  pub asks : (w : World) (tree : Tree) (node left number : ℕ) (child : Child) (k : Reply → Serving Answer) (line : Line) (vars : Vars) →
      Same w tree (Gives node (suc left) (Call child k) line) vars (Waits node (opened w number left child Nil) (suc left) k line) vars
  pub hears : (w : World) (tree : Tree) (node left : ℕ) (own : Line) (k : Reply → Serving Answer) (line : Line) (vars : Vars) (reply : Reply) →
      ended own None ≡ Some reply → Same w tree (Waits node own left k line) vars (Gives node left (k reply) line) vars
  pub leaves : (w : World) (tree : Tree) (node left : ℕ) (answer : Answer) (line : Line) (vars : Vars) →
      has_node line ≡ true → Same w tree (Gives node left (Done answer) line) vars line vars
  pub keeps : (w : World) (tree : Tree) (own : Line) (stub : List ℕ) (line : Line) (vars : Vars) →
      KeepsBody w tree own → SomeBody w tree own → Same w tree (Stubs own stub line) vars (joined own line) vars
  pub decides : (w : World) (tree : Tree) (own : Line) (stub : List ℕ) (line : Line) (vars : Vars) (reply : Reply) →
      ended own None ≡ Some reply → has_node line ≡ true → Same w tree (Stubs own stub line) vars (Bytes (or_stub (Some stub) reply.answer.status reply.body) line) vars
  pub chooses : (w : World) (tree : Tree) (own : Line) (stub : List ℕ) (node left : ℕ) (line : Line) (vars : Vars) (reply : Reply) → ended own None ≡ Some reply →
      Same w tree (Stubs own stub line) vars (Bytes (or_stub (Some stub) reply.answer.status reply.body) (Gives node left (Done reply.answer) line)) vars
  -- bytes that come first, taken apart; and where none are left
  pub parts : (w : World) (tree : Tree) (some more : List ℕ) (line : Line) (vars : Vars) → Same w tree (Bytes (some ++ more) line) vars (Bytes some (Bytes more line)) vars
  pub gone : (w : World) (tree : Tree) (line : Line) (vars : Vars) → Same w tree (Bytes [] line) vars line vars

-- Quiet steps make no difference to what is still to come, whatever the table is; so their order makes none.
pub record OrderIsNoMatter : Type 0 where
  pub step : (w : World) (tree : Tree) (line line' : Line) → Quiet w tree line line' → (vars : Vars) → Same w tree line vars line' vars
  pub steps : (w : World) (tree : Tree) (line line' : Line) → Quiets w tree line line' → (vars : Vars) → Same w tree line vars line' vars
  pub orders : (w : World) (tree : Tree) (line a b : Line) → Quiets w tree line a → Quiets w tree line b → (vars : Vars) → Same w tree a vars b vars
