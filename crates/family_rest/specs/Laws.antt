-- What becomes of what is still to come of a family, step by step.
use Rattle.std.specs.Prelude.{◌≡◌, ℕ, ◌+◌, List, [], ◌∷◌, ◌++◌, take, Some}
use Rattle.file_tree.specs.Tree.{Tree, Item}
use Rattle.acts.specs.Vars.{Vars}
use Rattle.acts.specs.Act.{Done, Stat}
use Rattle.race_meaning.specs.ngx_variables.declared.request.Main.{Main}
use Rattle.race_meaning.specs.ngx_variables.declared.request.Request.{Request}
use Rattle.postpone_filter.specs.Row.{fresh, front_of}
use Rattle.postpone_filter.specs.Runs.{filled}
use Rattle.family_meaning.specs.request_meaning.Serving.{World, Serving, Answer}
use Rattle.family_meaning.specs.request_meaning.Counts.{subs}
use Rattle.family_meaning.specs.Line.{Line, Left, before}
use Rattle.family_meaning.specs.Moves.{Moves}
use Rattle.family_meaning.specs.Moves.Moves.{Quietly, ByTable}
use Rattle.race_meaning.specs.Named.{IsRaceless}
use Rattle.race_meaning.specs.Laws.{AreFit, IsReplyOf}
use Rattle.family_order.specs.Items.{Family, IsWell, IsAlike, begun, doing, leaving}
use Rattle.family_order.specs.Items.Stance.{Going}
use Rattle.family_order.specs.Acts.{Does, IsOver, Acts, Goes}
use Rattle.family_order.specs.Acts.Acts.{Thinks, Reads, Learns, Places, Placed, Merges, Opens, Asks, Within, Hears, Ends, WithinStub, Keeps, Decides}
use Rattle.family_rest.specs.Still.{still, subs_still}
use Rattle.family_rest.specs.Reached.{Reached, forgetting}
use Rattle.family_rest.specs.Opened.{opened_by, opened_going}

-- both come to the same answer and bytes
pub record SameEnd (r q : Left) : Type 0 where
  pub answer : r.answer ≡ q.answer
  pub body : r.body ≡ q.body

-- by steps these bytes have left, and what was still to come is they and what is still to come then
pub record Went (f : Family) (r : Left) (g : Family) (q : Left) : Type 0 where
  pub bytes : List ℕ
  pub output : g.output ≡ f.output ++ bytes
  pub answer : r.answer ≡ q.answer
  pub body : r.body ≡ bytes ++ q.body

-- ---- what is reached

pub record ReachedStaysWell : Type 0 where
  pub well : (w : World) (f : Family) (vars : Vars) → Reached w f vars → IsWell f
  pub goes : (w : World) (tree : Tree) (f : Family) (vars : Vars) (g : Family) (vars' : Vars) → Reached w f vars → Goes w tree f vars g vars' → Reached w g vars'

-- ---- where no variable is named

-- A step keeps what is still to come by the tree that answers it, whatever other trees answered the steps before.
pub record StepsKeepStill : Type 0 where
  pub acts : (w : World) → AreFit w → IsRaceless w.server → (tree : Tree) (f : Family) (vars : Vars) (g : Family) (vars' : Vars)
      → Reached w f vars → Acts w tree f vars g vars' → SameEnd (still w tree f vars) (still w tree g vars')
  pub goes : (w : World) → AreFit w → IsRaceless w.server → (tree : Tree) (f : Family) (vars : Vars) (g : Family) (vars' : Vars)
      → Reached w f vars → Goes w tree f vars g vars' → Went f (still w tree f vars) g (still w tree g vars')
  -- so what has left and what is still to come is the reply that is meant, where one tree answers all
  pub whole : (w : World) → AreFit w → IsRaceless w.server → (tree : Tree) (main : Main) (request : Request) (f : Family) (vars : Vars)
      → Goes w tree (begun w main request) [] f vars → IsReplyOf w tree main request (before f.output (still w tree f vars))
  -- The subrequests that are opened, with those that are still asked for, stay as many: so it is known from the start on that too
  -- many will be.
  pub counts : (w : World) → AreFit w → IsRaceless w.server → (tree : Tree) (f : Family) (vars : Vars) (g : Family) (vars' : Vars)
      → Reached w f vars → (a : Acts w tree f vars g vars') → subs_still w tree f vars ≡ opened_by a + subs_still w tree g vars'
  pub counts_going : (w : World) → AreFit w → IsRaceless w.server → (tree : Tree) (f : Family) (vars : Vars) (g : Family) (vars' : Vars)
      → Reached w f vars → (s : Goes w tree f vars g vars') → subs_still w tree f vars ≡ opened_going s + subs_still w tree g vars'
  pub counts_whole : (w : World) → AreFit w → IsRaceless w.server → (tree : Tree) (main : Main) (request : Request) (f : Family) (vars : Vars)
      → (s : Goes w tree (begun w main request) [] f vars) → subs w tree main request ≡ opened_going s + subs_still w tree f vars

-- ---- in every server

abbrev pub IsQuietMove : {w : World} {tree : Tree} {line line' : Line} {vars vars' : Vars} → Moves w tree line vars line' vars' → Type 0
IsQuietMove (Quietly q) = Unit {0}
IsQuietMove (ByTable t) = ⊥

-- the step neither reads nor writes a variable
abbrev pub IsQuiet : {w : World} {tree : Tree} {f : Family} {vars : Vars} {g : Family} {vars' : Vars} → Acts w tree f vars g vars' → Type 0
IsQuiet (Thinks n d) = ⊥
IsQuiet (Reads n d) = ⊥
IsQuiet (Learns n d) = Unit {0}
IsQuiet (Places n some more d) = Unit {0}
IsQuiet (Placed n d) = Unit {0}
IsQuiet (Merges n d) = Unit {0}
IsQuiet (Opens n d) = Unit {0}
IsQuiet (Asks n number d) = Unit {0}
IsQuiet (Within n d m) = IsQuietMove m
IsQuiet (Hears n reply d e) = Unit {0}
IsQuiet (Ends n d k) = Unit {0}
IsQuiet (WithinStub n d m) = IsQuietMove m
IsQuiet (Keeps own stub ahead behind a b o well body some) = Unit {0}
IsQuiet (Decides n reply d e k) = Unit {0}

-- Such a step changes nothing of what is still to come, whatever led to it.
pub record QuietIsExact : Type 0 where
  pub quiet : (w : World) (tree : Tree) (f : Family) (vars : Vars) (g : Family) (vars' : Vars) → IsWell f → (a : Acts w tree f vars g vars') → IsQuiet a → still w tree f vars ≡ still w tree g vars'
  pub counts : (w : World) (tree : Tree) (f : Family) (vars : Vars) (g : Family) (vars' : Vars) → IsWell f → (a : Acts w tree f vars g vars') → IsQuiet a → subs_still w tree f vars ≡ opened_by a + subs_still w tree g vars'
  -- so it is where a question is answered by this very tree
  pub learns : (w : World) (tree : Tree) (f : Family) (vars : Vars) (n left : ℕ) (path : List ℕ) (k : Item → Serving Answer)
      → IsWell f → Does f n (Going left (Stat path k)) → still w tree f vars ≡ still w tree (doing n (Going left (k (tree path))) f) vars

abbrev pub over_left : Answer → List ℕ → Vars → Left
over_left answer body vars = record { answer = Some answer; body = body; vars = vars }

pub record RowTellsStill : Type 0 where
  -- at the start it is the reply that is meant
  pub begins : (w : World) (tree : Tree) (main : Main) (request : Request) → IsReplyOf w tree main request (still w tree (begun w main request) [])
  -- bytes that leave are what it begins with
  pub leaves : (w : World) (tree : Tree) (count : ℕ) (f : Family) (vars : Vars) → still w tree f vars ≡ before (take count (front_of f.row.pieces)) (still w tree (leaving count f) vars)
  pub front : (w : World) (tree : Tree) (f : Family) (vars : Vars) → (later : List ℕ) × ((still w tree f vars).body ≡ front_of f.row.pieces ++ later)
  -- once the nodes are over, it is what waits; and nothing where nothing waits
  pub over : (w : World) (tree : Tree) (f : Family) (vars : Vars) (answer : Answer) → IsOver f answer → still w tree f vars ≡ over_left answer (filled (λ _. []) f.row.pieces) vars
  pub all_left : (w : World) (tree : Tree) (f : Family) (vars : Vars) (left : ℕ) (answer : Answer) → f.row.pieces ≡ fresh f.root ∷ [] → f.stance f.root ≡ Going left (Done answer)
      → still w tree f vars ≡ over_left answer [] vars
  -- what shows the same has the same still to come, and what has left is no part of it
  pub alike : (w : World) (tree : Tree) (f g : Family) (vars : Vars) → IsAlike f g → still w tree f vars ≡ still w tree g vars
  pub forgets : (w : World) (tree : Tree) (f : Family) (vars : Vars) → still w tree f vars ≡ still w tree (forgetting f) vars
  -- so too of the subrequests that are still asked for
  pub counts_begin : (w : World) (tree : Tree) (main : Main) (request : Request) → subs_still w tree (begun w main request) [] ≡ subs w tree main request
  pub counts_leaving : (w : World) (tree : Tree) (count : ℕ) (f : Family) (vars : Vars) → subs_still w tree f vars ≡ subs_still w tree (leaving count f) vars
  pub counts_over : (w : World) (tree : Tree) (f : Family) (vars : Vars) (answer : Answer) → IsOver f answer → subs_still w tree f vars ≡ 0
  pub counts_alike : (w : World) (tree : Tree) (f g : Family) (vars : Vars) → IsAlike f g → subs_still w tree f vars ≡ subs_still w tree g vars
  pub counts_forgotten : (w : World) (tree : Tree) (f : Family) (vars : Vars) → subs_still w tree f vars ≡ subs_still w tree (forgetting f) vars
