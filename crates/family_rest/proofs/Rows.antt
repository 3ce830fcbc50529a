-- What the row of a family tells of what is still to come.
use Rattle.std.proofs.Common.{◌≡◌, ℕ, ◌+◌, arith, Bool, true, false, List, [], ◌∷◌, ◌++◌, map, take, None, Some, refl, sym, ap, ◌∙◌, append-nil, if◌then◌else◌}
use Rattle.file_tree.specs.Tree.{Tree}
use Rattle.acts.specs.Vars.{Vars}
use Rattle.acts.specs.Act.{Done}
use Rattle.race_meaning.specs.ngx_variables.declared.request.Main.{Main}
use Rattle.race_meaning.specs.ngx_variables.declared.request.Request.{Request}
use Rattle.family_meaning.specs.request_meaning.Serving.{World, Answer}
use Rattle.family_meaning.specs.request_meaning.Counts.{subs, subs_in}
use Rattle.family_meaning.specs.request_meaning.Replies.{run, reply, main_came, main_script, most_depth}
use Rattle.postpone_filter.specs.Row.{Piece, fresh, front_of, shorter}
use Rattle.postpone_filter.specs.Runs.{filled}
use Rattle.family_meaning.specs.Line.{Left, rest, before}
use Rattle.family_meaning.specs.Left.{subs_left}
use Rattle.race_meaning.specs.Laws.{IsReplyOf}
use Rattle.family_order.specs.Items.{Stance, Family, IsAlike, items_of, row_items, stance_items, begun, leaving}
use Rattle.family_order.specs.Items.Stance.{Going}
use Rattle.family_order.specs.Items.Item.{Byte}
use Rattle.family_order.specs.Acts.{IsOver}
use Rattle.family_order.proofs.Rows.{row_items-clean, open_here}
use Rattle.family_order.proofs.Goings.{used_row}
use Rattle.family_order.proofs.Rests.{items_rest, bytes_rest, Alone, alone_later}
use Rattle.family_order.proofs.Bodies.{front_rest, over_rest, at_last, none_waits}
use Rattle.family_rest.specs.Still.{line_of, still, subs_still}
use Rattle.family_rest.specs.Reached.{forgetting}
use Rattle.family_rest.specs.Laws.{over_left, RowTellsStill}
use Rattle.family_rest.proofs.Lines.{still_items, subs_items}
use Rattle.family_rest.proofs.Counts.{none_more, items_subs, bytes_subs}

pub begins : (w : World) (tree : Tree) (main : Main) (request : Request) → IsReplyOf w tree main request (still w tree (begun w main request) [])
unfolding still line_of row_items rest main_came
begins w tree main request = record { answer = refl; body = append-nil (run tree (reply w tree most_depth) (main_script w main request) []).body }

pub used_items : (count : ℕ) (f : Family) → items_of f ≡ map Byte (take count (front_of f.row.pieces)) ++ items_of (leaving count f)
used_items count f =
    used_row f.stance count f.row.pieces
    ∙ ap (λ z. map Byte (take count (front_of f.row.pieces)) ++ z) (sym (row_items-clean f.stance (shorter count f.row.pieces)))

pub leaves : (w : World) (tree : Tree) (count : ℕ) (f : Family) (vars : Vars) → still w tree f vars ≡ before (take count (front_of f.row.pieces)) (still w tree (leaving count f) vars)
leaves w tree count f vars =
    let gone = take count (front_of f.row.pieces) in
    still_items w tree f vars
    ∙ ap (λ xs. items_rest w tree xs None vars) (used_items count f)
    ∙ bytes_rest w tree gone (items_of (leaving count f)) None vars
    ∙ ap (before gone) (sym (still_items w tree (leaving count f) vars))

front_is : (w : World) (tree : Tree) (f : Family) (vars : Vars) → (later : List ℕ) × ((still w tree f vars).body ≡ front_of f.row.pieces ++ later)
front_is w tree f vars =
    let p = front_rest w tree f.stance f.row.pieces None vars in
    (p.0, ap (λ (l : Left). l.body) (still_items w tree f vars) ∙ p.1)

abbrev by_open : Bool → Answer → List ℕ → Vars → Left
by_open u answer body vars = record { answer = if u then Some answer else None; body = body; vars = vars }

is_over : (w : World) (tree : Tree) (f : Family) (vars : Vars) (answer : Answer) → IsOver f answer → still w tree f vars ≡ over_left answer (filled (λ _. []) f.row.pieces) vars
is_over w tree f vars answer o =
    still_items w tree f vars
    ∙ over_rest w tree f.root f.stance o.left answer f.row.pieces None vars o.stands o.alone
    ∙ ap (λ u. by_open u answer (filled (λ _. []) f.row.pieces) vars) o.goes_on

all_left : (w : World) (tree : Tree) (f : Family) (vars : Vars) (left : ℕ) (answer : Answer) → f.row.pieces ≡ fresh f.root ∷ [] → f.stance f.root ≡ Going left (Done answer) → still w tree f vars ≡ over_left answer [] vars
all_left w tree f vars left answer a h =
    is_over w tree f vars answer (at_last f left answer a h)
    ∙ ap (λ z. over_left answer z vars) (ap (filled (λ _. [])) a ∙ none_waits f.root)

pub alike : (w : World) (tree : Tree) (f g : Family) (vars : Vars) → IsAlike f g → still w tree f vars ≡ still w tree g vars
unfolding still
alike w tree f g vars a = ap (λ xs. rest w tree (line_of xs) None vars) a.items_are

forgets : (w : World) (tree : Tree) (f : Family) (vars : Vars) → still w tree f vars ≡ still w tree (forgetting f) vars
unfolding still
forgets w tree f vars = refl

-- ---- subrequests that are still asked for

pub counts_begin : (w : World) (tree : Tree) (main : Main) (request : Request) → subs_still w tree (begun w main request) [] ≡ subs w tree main request
unfolding subs_still line_of row_items subs_left subs
counts_begin w tree main request = plus_none (subs w tree main request)
  where
    plus_none : (n : ℕ) → n + 0 ≡ n
    plus_none n = omega arith

pub counts_leaving : (w : World) (tree : Tree) (count : ℕ) (f : Family) (vars : Vars) → subs_still w tree f vars ≡ subs_still w tree (leaving count f) vars
counts_leaving w tree count f vars =
    let gone = take count (front_of f.row.pieces) in
    subs_items w tree f vars
    ∙ ap (λ xs. items_subs w tree xs vars) (used_items count f)
    ∙ bytes_subs w tree gone (items_of (leaving count f)) vars
    ∙ sym (subs_items w tree (leaving count f) vars)

-- where no node goes on but the root, which has come to its answer
none_asked : (w : World) (tree : Tree) (root : ℕ) (stance : ℕ → Stance) (left : ℕ) (answer : Answer) (ps : List Piece) (vars : Vars) → stance root ≡ Going left (Done answer) → Alone root ps →
    items_subs w tree (row_items stance ps) vars ≡ 0
unfolding items_subs row_items run subs_in
none_asked w tree root stance left answer [] vars e k = refl
none_asked w tree root stance left answer (p ∷ ps) vars e k =
    bytes_subs w tree p.bytes ((if p.grows then stance_items p.node (stance p.node) else []) ++ row_items stance ps) vars
    ∙ elim p.grows as (λ g. p.grows ≡ g → items_subs w tree ((if g then stance_items p.node (stance p.node) else []) ++ row_items stance ps) vars ≡ 0) [
      | true ↦ λ g. let z = k p.node (open_here p ps g) in
          ap (λ j. items_subs w tree (stance_items j (stance j) ++ row_items stance ps) vars) z
          ∙ ap (λ s. items_subs w tree (stance_items root s ++ row_items stance ps) vars) e
          ∙ sym (none_more (items_subs w tree (row_items stance ps) vars))
          ∙ none_asked w tree root stance left answer ps vars e (alone_later root p ps k)
      | false ↦ λ g. none_asked w tree root stance left answer ps vars e (alone_later root p ps k)
    ] refl

counts_over : (w : World) (tree : Tree) (f : Family) (vars : Vars) (answer : Answer) → IsOver f answer → subs_still w tree f vars ≡ 0
counts_over w tree f vars answer o = subs_items w tree f vars ∙ none_asked w tree f.root f.stance o.left answer f.row.pieces vars o.stands o.alone

pub counts_alike : (w : World) (tree : Tree) (f g : Family) (vars : Vars) → IsAlike f g → subs_still w tree f vars ≡ subs_still w tree g vars
unfolding subs_still
counts_alike w tree f g vars a = ap (λ xs. subs_left w tree (line_of xs) vars) a.items_are

counts_forgotten : (w : World) (tree : Tree) (f : Family) (vars : Vars) → subs_still w tree f vars ≡ subs_still w tree (forgetting f) vars
unfolding subs_still
counts_forgotten w tree f vars = refl

pub tells_still : RowTellsStill
tells_still = record {
  begins = begins;
  leaves = leaves;
  front = front_is;
  over = is_over;
  all_left = all_left;
  alike = alike;
  forgets = forgets;
  counts_begin = counts_begin;
  counts_leaving = counts_leaving;
  counts_over = counts_over;
  counts_alike = counts_alike;
  counts_forgotten = counts_forgotten;
}
