-- In whatever order the nodes of a family take their steps, its bytes leave in the order of the response.
use Rattle.std.specs.Prelude.{◌≡◌, ℕ, List, [], ◌∷◌, ◌++◌}
use Rattle.file_tree.specs.Tree.{Tree}
use Rattle.acts.specs.Vars.{Vars}
use Rattle.acts.specs.Act.{Done}
use Rattle.race_meaning.specs.ngx_variables.declared.request.Main.{Main}
use Rattle.race_meaning.specs.ngx_variables.declared.request.Request.{Request}
use Rattle.postpone_filter.specs.Row.{front_of, fresh}
use Rattle.postpone_filter.specs.Runs.{filled}
use Rattle.family_meaning.specs.request_meaning.Serving.{World, Answer}
use Rattle.family_meaning.specs.request_meaning.Replies.{main_reply, main_script, most_depth}
use Rattle.family_meaning.specs.Line.{Line, reply_of}
use Rattle.family_meaning.specs.Line.Line.{Nil, Gives}
use Rattle.family_meaning.specs.Moves.{Runs}
use Rattle.family_order.specs.Items.Stance.{Going}
use Rattle.race_meaning.specs.Named.{IsRaceless}
use Rattle.race_meaning.specs.Laws.{AreFit}
use Rattle.family_order.specs.Items.{Family, Shows, begun}
use Rattle.family_order.specs.Acts.{IsOver, Goes}

-- The bytes leave in the order of the response: what has left, and then what comes first, is what the body begins with;
-- and once the nodes are over, what has left and what waits is all of it.
pub record LeavesInOrder (w : World) (tree : Tree) (main : Main) (request : Request) (f : Family) : Type 0 where
  pub later : List ℕ
  pub begins : (main_reply w tree main request).body ≡ (f.output ++ front_of f.row.pieces) ++ later
  pub ends : (answer : Answer) → IsOver f answer → main_reply w tree main request ≡ reply_of answer (f.output ++ filled (λ _. []) f.row.pieces)
  -- so too where nothing waits any more
  pub all_left : (left : ℕ) (answer : Answer) → f.row.pieces ≡ fresh f.root ∷ [] → f.stance f.root ≡ Going left (Done answer) → main_reply w tree main request ≡ reply_of answer f.output

-- Where no variable is named, so it is in whatever order the nodes of a family take their steps: where the family shows a line
-- that steps have led to, and where steps of the family have led to it.
pub record OrderIsKept : Type 0 where
  pub by_line : (w : World) → AreFit w → IsRaceless w.server → (tree : Tree) (main : Main) (request : Request) (f : Family) (line : Line) (vars : Vars)
      → Runs w tree (Gives 0 most_depth (main_script w main request) Nil) [] line vars → Shows f line
      → LeavesInOrder w tree main request f
  pub by_steps : (w : World) → AreFit w → IsRaceless w.server → (tree : Tree) (main : Main) (request : Request) (f : Family) (vars : Vars)
      → Goes w tree (begun w main request) [] f vars
      → LeavesInOrder w tree main request f
