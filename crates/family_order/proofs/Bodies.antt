-- What a family comes to, by what its line has.
use Rattle.std.proofs.Common.{◌≡◌, ℕ, arith, true, false, ◌&&◌, ◌==◌, List, [], ◌∷◌, ◌++◌, Option, None, Some, refl, sym, ap, ◌∙◌, append_assoc, append-nil, if◌then◌else◌}
use Rattle.std.proofs.lemmas.Bool.{eqb-true, eq-eqb}
use Rattle.file_tree.specs.Tree.{Tree}
use Rattle.acts.specs.Vars.{Vars}
use Rattle.acts.specs.Act.{Done}
use Rattle.race_meaning.specs.ngx_variables.declared.request.Main.{Main}
use Rattle.race_meaning.specs.ngx_variables.declared.request.Request.{Request}
use Rattle.family_meaning.specs.request_meaning.Serving.{World, Answer}
use Rattle.family_meaning.specs.request_meaning.Replies.{run, main_reply, main_script, most_depth}
use Rattle.postpone_filter.specs.Row.{Piece, is_open, front_of, fresh}
use Rattle.postpone_filter.specs.Runs.{filled}
use Rattle.family_meaning.specs.Line.{Line, Left, rest, before, reply_of}
use Rattle.family_meaning.specs.Line.Line.{Nil, Gives}
use Rattle.family_meaning.specs.Moves.{Runs}
use Rattle.race_meaning.specs.Named.{IsRaceless}
use Rattle.race_meaning.specs.Laws.{AreFit, IsReplyOf}
use Rattle.race_meaning.proofs.Mains.{confluent}
use Rattle.family_order.specs.Items.{Stance, stance_items, Family, Shows, begun, row_items}
use Rattle.family_order.specs.Items.Stance.{Going}
use Rattle.family_order.specs.Acts.{IsOver, Goes}
use Rattle.family_order.specs.Whole.{LeavesInOrder, OrderIsKept}
use Rattle.family_order.proofs.Rows.{open_here}
use Rattle.family_order.proofs.Rests.{items_rest, bytes_rest, shown_rest, Alone, alone_later, either, here_is}
use Rattle.family_order.proofs.Goings.{begun_line, goes_run}

-- ---- a row in which nothing waits

pub none_waits : (root : ℕ) → filled (λ _. []) (fresh root ∷ []) ≡ []
unfolding filled
none_waits root = refl

root_open : (root : ℕ) → is_open root (fresh root ∷ []) ≡ true
unfolding is_open
root_open root = ap (λ t. if t then true else false) (eq-eqb root root refl)

root_alone : (root n : ℕ) → is_open n (fresh root ∷ []) ≡ true → n ≡ root
unfolding is_open
root_alone root n h = elim (root == n) as (λ t. (root == n) ≡ t → (if t then true else false) ≡ true → n ≡ root) [
  | true ↦ λ t u. sym (eqb-true root n t)
  | false ↦ λ t u. clash u
] refl h
  where
    clash : {A : Type 0} → false ≡ true → A
    clash u = cc

pub at_last : (f : Family) (left : ℕ) (answer : Answer) → f.row.pieces ≡ fresh f.root ∷ [] → f.stance f.root ≡ Going left (Done answer) → IsOver f answer
at_last f left answer a h = record {
  left = left;
  stands = h;
  goes_on = ap (is_open f.root) a ∙ root_open f.root;
  alone = λ n k. root_alone f.root n (sym (ap (is_open n) a) ∙ k);
}

-- ---- what a family comes to

module _ (w : World) (tree : Tree) where
  -- what is first in the row leaves first
  pub front_rest : (stance : ℕ → Stance) (ps : List Piece) (last : Option Answer) (vars : Vars) → (later : List ℕ) × ((items_rest w tree (row_items stance ps) last vars).body ≡ front_of ps ++ later)
  unfolding items_rest row_items front_of
  front_rest stance [] last vars = ([], refl)
  front_rest stance (p ∷ ps) last vars =
      let later = (if p.grows then stance_items p.node (stance p.node) else []) ++ row_items stance ps in
      ((items_rest w tree later last vars).body, ap (λ (l : Left). l.body) (bytes_rest w tree p.bytes later last vars))

  -- where no node goes on but the root, which has come to its answer
  module _ (root : ℕ) where
    abbrev over_left : List Piece → Answer → Option Answer → Vars → Left
    over_left ps answer last vars = record { answer = if is_open root ps then Some answer else last; body = filled (λ _. []) ps; vars = vars }

    over_node : (stance : ℕ → Stance) (left : ℕ) (answer : Answer) (p : Piece) (ps : List Piece) (last : Option Answer) (vars : Vars) → stance root ≡ Going left (Done answer) → p.node ≡ root →
        items_rest w tree (row_items stance ps) (Some answer) vars ≡ over_left ps answer (Some answer) vars →
        items_rest w tree (stance_items p.node (stance p.node) ++ row_items stance ps) last vars
        ≡ record { answer = if (if p.node == root then true else is_open root ps) then Some answer else last; body = filled (λ _. []) ps; vars = vars }
    unfolding items_rest run
    over_node stance left answer p ps last vars e z later =
        ap (λ j. items_rest w tree (stance_items j (stance j) ++ row_items stance ps) last vars) z
        ∙ ap (λ s. items_rest w tree (stance_items root s ++ row_items stance ps) last vars) e
        ∙ later
        ∙ ap (λ a. record { answer = a; body = filled (λ _. []) ps; vars = vars })
        (either (is_open root ps) (Some answer) ∙ sym (here_is root ps answer last) ∙ sym (ap (λ j. if (if j == root then true else is_open root ps) then Some answer else last) z))

    pub over_rest : (stance : ℕ → Stance) (left : ℕ) (answer : Answer) (ps : List Piece) (last : Option Answer) (vars : Vars) → stance root ≡ Going left (Done answer) → Alone root ps →
        items_rest w tree (row_items stance ps) last vars ≡ over_left ps answer last vars
    unfolding items_rest row_items filled is_open
    over_rest stance left answer [] last vars e k = refl
    over_rest stance left answer (p ∷ ps) last vars e k =
        bytes_rest w tree p.bytes ((if p.grows then stance_items p.node (stance p.node) else []) ++ row_items stance ps) last vars
        ∙ elim p.grows as (λ g. p.grows ≡ g → before p.bytes (items_rest w tree ((if g then stance_items p.node (stance p.node) else []) ++ row_items stance ps) last vars)
        ≡ record { answer = if (if g && (p.node == root) then true else is_open root ps) then Some answer else last; body = p.bytes ++ ((if g then [] else []) ++ filled (λ _. []) ps); vars = vars }) [
          | true ↦ λ g. ap (before p.bytes) (over_node stance left answer p ps last vars e (k p.node (open_here p ps g)) (over_rest stance left answer ps (Some answer) vars e (alone_later root p ps k)))
          | false ↦ λ g. ap (before p.bytes) (over_rest stance left answer ps last vars e (alone_later root p ps k))
        ] refl

  module _ (main : Main) (request : Request) (f : Family) (line : Line) (vars : Vars) (e : Shows f line) (r : IsReplyOf w tree main request (rest w tree line None vars)) where
    -- the reply, by what has left and what the row comes to
    body_is : (main_reply w tree main request).body ≡ f.output ++ (items_rest w tree (row_items f.stance f.row.pieces) None vars).body
    unfolding main_reply
    body_is = sym r.body ∙ ap (λ (l : Left). l.body) (shown_rest w tree f line vars e)

    answer_is : Some (main_reply w tree main request).answer ≡ (items_rest w tree (row_items f.stance f.row.pieces) None vars).answer
    unfolding main_reply
    answer_is = sym r.answer ∙ ap (λ (l : Left). l.answer) (shown_rest w tree f line vars e)

    some_is : {A : Type 0} {a b : A} → Some a ≡ Some b → a ≡ b
    some_is h = cc

    is_reply : (answer : Answer) → IsOver f answer → main_reply w tree main request ≡ reply_of answer (f.output ++ filled (λ _. []) f.row.pieces)
    is_reply answer o =
        let q = over_rest f.root f.stance o.left answer f.row.pieces None vars o.stands o.alone in
        ap (λ a. reply_of a (main_reply w tree main request).body) (some_is (answer_is ∙ ap (λ (l : Left). l.answer) q ∙ ap (λ u. if u then Some answer else None) o.goes_on))
        ∙ ap (reply_of answer) (body_is ∙ ap (λ (l : Left). f.output ++ l.body) q)

    in_order : LeavesInOrder w tree main request f
    in_order =
        let p = front_rest f.stance f.row.pieces None vars in
        record {
          later = p.0;
          begins = body_is ∙ ap (λ z. f.output ++ z) p.1 ∙ sym (append_assoc f.output (front_of f.row.pieces) p.0);
          ends = is_reply;
          all_left = λ left answer a h. is_reply answer (at_last f left answer a h) ∙ ap (λ z. reply_of answer (f.output ++ z)) (ap (filled (λ _. [])) a ∙ none_waits f.root) ∙ ap (reply_of answer) (append-nil f.output);
        }

by_line : (w : World) → AreFit w → IsRaceless w.server → (tree : Tree) (main : Main) (request : Request) (f : Family) (line : Line) (vars : Vars)
    → Runs w tree (Gives 0 most_depth (main_script w main request) Nil) [] line vars → Shows f line → LeavesInOrder w tree main request f
by_line w fit raceless tree main request f line vars runs e =
    in_order w tree main request f line vars e (confluent w fit raceless tree main request line vars runs)

by_steps : (w : World) → AreFit w → IsRaceless w.server → (tree : Tree) (main : Main) (request : Request) (f : Family) (vars : Vars)
    → Goes w tree (begun w main request) [] f vars → LeavesInOrder w tree main request f
by_steps w fit raceless tree main request f vars goes =
    let start = begun_line 0 1 most_depth (main_script w main request) (omega arith) in
    let r = goes_run w tree (begun w main request) [] f vars (Gives 0 most_depth (main_script w main request) Nil) start.1 goes start.0 in
    by_line w fit raceless tree main request f r.next vars r.runs r.shows

pub kept : OrderIsKept
kept = record { by_line = by_line; by_steps = by_steps }
