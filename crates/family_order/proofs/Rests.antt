-- What a line comes to, by what it has.
use Rattle.std.proofs.Common.{◌≡◌, ℕ, Bool, true, false, ◌==◌, List, [], ◌∷◌, ◌++◌, map, Option, None, Some, refl, sym, ap, ◌∙◌, if◌then◌else◌}
use Rattle.std.proofs.lemmas.Bool.{eq-eqb}
use Rattle.file_tree.specs.Tree.{Tree}
use Rattle.acts.specs.Vars.{Vars}
use Rattle.family_meaning.specs.request_meaning.Serving.{World, Answer}
use Rattle.family_meaning.specs.request_meaning.Replies
use Rattle.family_meaning.specs.request_meaning.Replies.{run, or_stub, main_reply, main_script, most_depth}
use Rattle.postpone_filter.specs.Row.{Piece, is_open}
use Rattle.family_meaning.specs.Line.{Line, Left, rest, before, reply_of, status_of}
use Rattle.family_meaning.specs.Line.Line.{Nil, Bytes, Gives, Waits, Stubs}
use Rattle.family_order.specs.Items.{Item, Family, Shows, items, row_items}
use Rattle.family_order.specs.Items.Stance.{Going, Waiting, Apart, Hidden}
use Rattle.family_order.specs.Items.Item.{Byte, Node, Stub}
use Rattle.family_order.proofs.Rows.{open_later}

module _ (w : World) (tree : Tree) where
  -- what a line comes to, by what it has
  unfoldable pub items_rest : List Item → (last : Option Answer) → Vars → Left
  items_rest [] last vars = record { answer = last; body = []; vars = vars }
  items_rest (Byte b ∷ xs) last vars = before (b ∷ []) (items_rest xs last vars)
  items_rest (Node n (Going left m) ∷ xs) last vars =
      let r = run tree (Replies.reply w tree left) m vars in
      before r.body (items_rest xs (Some r.result) r.vars)
  items_rest (Node n (Waiting own left k) ∷ xs) last vars =
      let r = rest w tree own None vars in
      elim r.answer [
        | None ↦ items_rest xs None r.vars
        | Some answer ↦ let q = run tree (Replies.reply w tree left) (k (reply_of answer r.body)) r.vars in
            before q.body (items_rest xs (Some q.result) q.vars)
      ]
  items_rest (Node n (Apart own stub) ∷ xs) last vars = items_rest xs last vars
  items_rest (Node n Hidden ∷ xs) last vars = items_rest xs last vars
  items_rest (Stub own stub ∷ xs) last vars =
      let r = rest w tree own None vars in
      before (or_stub (Some stub) (status_of r.answer) r.body) (items_rest xs r.answer r.vars)

  pub bytes_rest : (bytes : List ℕ) (xs : List Item) (last : Option Answer) (vars : Vars) → items_rest (map Byte bytes ++ xs) last vars ≡ before bytes (items_rest xs last vars)
  unfolding items_rest
  bytes_rest [] xs last vars = refl
  bytes_rest (b ∷ bytes) xs last vars = ap (before (b ∷ [])) (bytes_rest bytes xs last vars)

  pub line_rest : (line : Line) (last : Option Answer) (vars : Vars) → rest w tree line last vars ≡ items_rest (items line) last vars
  unfolding items_rest items rest
  line_rest Nil last vars = refl
  line_rest (Bytes bytes line) last vars = ap (before bytes) (line_rest line last vars) ∙ sym (bytes_rest bytes (items line) last vars)
  line_rest (Gives node left m line) last vars =
      let r = run tree (Replies.reply w tree left) m vars in
      ap (before r.body) (line_rest line (Some r.result) r.vars)
  line_rest (Waits node own left k line) last vars =
      let r = rest w tree own None vars in
      elim r.answer as (λ a. ◌≡◌ {A = Left} (elim a [
        | None ↦ rest w tree line None r.vars
        | Some answer ↦ let q = run tree (Replies.reply w tree left) (k (reply_of answer r.body)) r.vars in
            before q.body (rest w tree line (Some q.result) q.vars)
      ]) (elim a [
        | None ↦ items_rest (items line) None r.vars
        | Some answer ↦ let q = run tree (Replies.reply w tree left) (k (reply_of answer r.body)) r.vars in
            before q.body (items_rest (items line) (Some q.result) q.vars)
      ])) [
        | None ↦ line_rest line None r.vars
        | Some answer ↦ let q = run tree (Replies.reply w tree left) (k (reply_of answer r.body)) r.vars in
            ap (before q.body) (line_rest line (Some q.result) q.vars)
      ]
  line_rest (Stubs own stub line) last vars =
      let r = rest w tree own None vars in
      ap (before (or_stub (Some stub) (status_of r.answer) r.body)) (line_rest line r.answer r.vars)

  -- the line of a family, by its row
  pub shown_rest : (f : Family) (line : Line) (vars : Vars) → Shows f line → rest w tree line None vars ≡ before f.output (items_rest (row_items f.stance f.row.pieces) None vars)
  shown_rest f line vars e = line_rest line None vars ∙ ap (λ xs. items_rest xs None vars) e ∙ bytes_rest f.output (row_items f.stance f.row.pieces) None vars

-- ---- where no node goes on but the root

abbrev pub Alone : (root : ℕ) → List Piece → Type 0
Alone root ps = (n : ℕ) → is_open n ps ≡ true → n ≡ root

pub alone_later : (root : ℕ) (p : Piece) (ps : List Piece) → Alone root (p ∷ ps) → Alone root ps
alone_later root p ps k n h = k n (open_later n p ps h)

pub either : (b : Bool) (a : Option Answer) → (if b then a else a) ≡ a
either true a = refl
either false a = refl

pub here_is : (root : ℕ) (ps : List Piece) (answer : Answer) (last : Option Answer) → (if (if root == root then true else is_open root ps) then Some answer else last) ≡ Some answer
here_is root ps answer last = ap (λ t. if (if t then true else is_open root ps) then Some answer else last) (eq-eqb root root refl)
