-- What the row of a family tells of its line.
use Rattle.std.proofs.Common.{◌≡◌, ℕ, Bool, true, false, ◌&&◌, ◌==◌, List, [], ◌∷◌, ◌++◌, map, Option, None, Some, refl, sym, ap, subst, ◌∙◌, append_assoc, append-nil, if◌then◌else◌}
use Rattle.file_tree.specs.Tree.{Tree}
use Rattle.acts.specs.Vars.{Vars, look, set}
use Rattle.acts.specs.Act.{Done, Get, Put, Stat, Call, Write, Inner}
use Rattle.family_meaning.specs.request_meaning.Serving.{World, Serving, Child, Reply, Answer}
use Rattle.family_meaning.specs.request_meaning.Replies
use Rattle.family_meaning.specs.request_meaning.Replies.{Came, run, or_stub}
use Rattle.postpone_filter.specs.Row.{Piece, is_place, is_open, front_of}
use Rattle.postpone_filter.specs.Runs.{filled}
use Rattle.postpone_filter.proofs.Places.{place-node}
use Rattle.family_meaning.specs.Line.{Line, Left, rest, before, reply_of, status_of, front, ended, with_bytes, some_reply, done_of}
use Rattle.family_meaning.specs.Line.Line.{Nil, Bytes, Gives, Waits, Stubs}
use Rattle.family_meaning.specs.Moves.{AllEnd, IsGood, IsGoodLeft, KeepsBody}
use Rattle.family_order.specs.Items.{Stance, stance_items, Item, Family, Shows, IsWell, items, row_items, any_goes_on, goes_on_behind}
use Rattle.family_order.specs.Items.Stance.{Going, Waiting, Apart, Hidden}
use Rattle.family_order.specs.Items.Item.{Byte, Node, Stub}
use Rattle.family_order.specs.Acts.{IsOver}
use Rattle.family_order.specs.Laws.{RowTellsLine}
use Rattle.family_order.proofs.Rows.{no_pieces, open_here, open_there}
use Rattle.family_order.proofs.Shown.{any_node, any_later, any_line, any_row}
use Rattle.family_order.proofs.Rests.{items_rest, bytes_rest, shown_rest, Alone, alone_later, either, here_is}

-- ---- the front

lead : List Item → List ℕ
lead [] = []
lead (Byte b ∷ xs) = b ∷ lead xs
lead (Node n s ∷ xs) = []
lead (Stub own stub ∷ xs) = []

lead_bytes : (bytes : List ℕ) (xs : List Item) → lead (map Byte bytes ++ xs) ≡ bytes ++ lead xs
unfolding lead
lead_bytes [] xs = refl
lead_bytes (b ∷ bytes) xs = ap (λ z. b ∷ z) (lead_bytes bytes xs)

lead_line : (line : Line) → front line ≡ lead (items line)
unfolding lead front items
lead_line Nil = refl
lead_line (Bytes bytes line) = ap (λ z. bytes ++ z) (lead_line line) ∙ sym (lead_bytes bytes (items line))
lead_line (Gives node left m line) = refl
lead_line (Waits node own left k line) = refl
lead_line (Stubs own stub line) = refl

lead_row : (stance : ℕ → Stance) (ps : List Piece) → (later : List ℕ) × (lead (row_items stance ps) ≡ front_of ps ++ later)
unfolding lead row_items front_of
lead_row stance [] = ([], refl)
lead_row stance (p ∷ ps) =
    let later = (if p.grows then stance_items p.node (stance p.node) else []) ++ row_items stance ps in
    (lead later, lead_bytes p.bytes later)

front_is : (f : Family) (line : Line) → Shows f line → (later : List ℕ) × (front line ≡ (f.output ++ front_of f.row.pieces) ++ later)
front_is f line e =
    let q = lead_row f.stance f.row.pieces in
    (q.0, lead_line line ∙ ap lead e ∙ lead_bytes f.output (row_items f.stance f.row.pieces) ∙ ap (λ z. f.output ++ z) q.1 ∙ sym (append_assoc f.output (front_of f.row.pieces) q.0))

-- ---- the reply

items_ended : List Item → (last : Option Answer) → Option Reply
items_ended [] last = some_reply last
items_ended (Byte b ∷ xs) last = with_bytes (b ∷ []) (items_ended xs last)
items_ended (Node n (Going left m) ∷ xs) last = elim (done_of m) [
  | None ↦ None
  | Some answer ↦ items_ended xs (Some answer)
]
items_ended (Node n (Waiting own left k) ∷ xs) last = None
items_ended (Node n (Apart own stub) ∷ xs) last = items_ended xs last
items_ended (Node n Hidden ∷ xs) last = items_ended xs last
items_ended (Stub own stub ∷ xs) last = None

with_none : (r : Option Reply) → with_bytes [] r ≡ r
with_none None = refl
with_none (Some r) = refl

with_both : (a b : List ℕ) (r : Option Reply) → with_bytes a (with_bytes b r) ≡ with_bytes (a ++ b) r
with_both a b None = refl
with_both a b (Some r) = ap (λ z. Some (reply_of r.answer z)) (sym (append_assoc a b r.body))

bytes_ended : (bytes : List ℕ) (xs : List Item) (last : Option Answer) → items_ended (map Byte bytes ++ xs) last ≡ with_bytes bytes (items_ended xs last)
unfolding items_ended
bytes_ended [] xs last = sym (with_none (items_ended xs last))
bytes_ended (b ∷ bytes) xs last = ap (with_bytes (b ∷ [])) (bytes_ended bytes xs last) ∙ with_both (b ∷ []) bytes (items_ended xs last)

line_ended : (line : Line) (last : Option Answer) → ended line last ≡ items_ended (items line) last
unfolding items_ended items ended
line_ended Nil last = refl
line_ended (Bytes bytes line) last = ap (with_bytes bytes) (line_ended line last) ∙ sym (bytes_ended bytes (items line) last)
line_ended (Gives node left m line) last = elim (done_of m) as (λ d. ◌≡◌ {A = Option Reply} (elim d [
  | None ↦ None
  | Some answer ↦ ended line (Some answer)
]) (elim d [
  | None ↦ None
  | Some answer ↦ items_ended (items line) (Some answer)
])) [
  | None ↦ refl
  | Some answer ↦ line_ended line (Some answer)
]
line_ended (Waits node own left k line) last = refl
line_ended (Stubs own stub line) last = refl

module _ (root : ℕ) (stance : ℕ → Stance) (left : ℕ) (answer : Answer) (e : stance root ≡ Going left (Done answer)) where
  over_node : (p : Piece) (ps : List Piece) (last : Option Answer) → p.node ≡ root →
      items_ended (row_items stance ps) (Some answer) ≡ with_bytes (filled (λ _. []) ps) (some_reply (if is_open root ps then Some answer else Some answer)) →
      items_ended (stance_items p.node (stance p.node) ++ row_items stance ps) last
      ≡ with_bytes (filled (λ _. []) ps) (some_reply (if (if p.node == root then true else is_open root ps) then Some answer else last))
  unfolding items_ended
  over_node p ps last z later =
      ap (λ j. items_ended (stance_items j (stance j) ++ row_items stance ps) last) z
      ∙ ap (λ s. items_ended (stance_items root s ++ row_items stance ps) last) e
      ∙ later
      ∙ ap (λ a. with_bytes (filled (λ _. []) ps) (some_reply a))
      (either (is_open root ps) (Some answer) ∙ sym (here_is root ps answer last) ∙ sym (ap (λ j. if (if j == root then true else is_open root ps) then Some answer else last) z))

  over_ended : (ps : List Piece) (last : Option Answer) → Alone root ps → items_ended (row_items stance ps) last ≡ with_bytes (filled (λ _. []) ps) (some_reply (if is_open root ps then Some answer else last))
  unfolding items_ended row_items filled is_open
  over_ended [] last k = sym (with_none (some_reply last))
  over_ended (p ∷ ps) last k =
      bytes_ended p.bytes ((if p.grows then stance_items p.node (stance p.node) else []) ++ row_items stance ps) last
      ∙ elim p.grows as (λ g. p.grows ≡ g → with_bytes p.bytes (items_ended ((if g then stance_items p.node (stance p.node) else []) ++ row_items stance ps) last)
      ≡ with_bytes (p.bytes ++ ((if g then [] else []) ++ filled (λ _. []) ps)) (some_reply (if (if g && (p.node == root) then true else is_open root ps) then Some answer else last))) [
        | true ↦ λ g.
            ap (with_bytes p.bytes) (over_node p ps last (k p.node (open_here p ps g)) (over_ended ps (Some answer) (alone_later root p ps k)))
            ∙ with_both p.bytes (filled (λ _. []) ps) (some_reply (if (if p.node == root then true else is_open root ps) then Some answer else last))
        | false ↦ λ g.
            ap (with_bytes p.bytes) (over_ended ps last (alone_later root p ps k))
            ∙ with_both p.bytes (filled (λ _. []) ps) (some_reply (if is_open root ps then Some answer else last))
      ] refl

reply_is : (f : Family) (line : Line) (answer : Answer) → Shows f line → IsOver f answer → ended line None ≡ Some (reply_of answer (f.output ++ filled (λ _. []) f.row.pieces))
reply_is f line answer e o =
    let waits = filled (λ _. []) f.row.pieces in
    let last : Bool → Option Reply = λ u. some_reply (if u then Some answer else None) in
    line_ended line None
    ∙ ap (λ xs. items_ended xs None) e
    ∙ bytes_ended f.output (row_items f.stance f.row.pieces) None
    ∙ ap (with_bytes f.output) (over_ended f.root f.stance o.left answer o.stands f.row.pieces None o.alone)
    ∙ with_both f.output waits (last (is_open f.root f.row.pieces))
    ∙ ap (λ u. with_bytes (f.output ++ waits) (last u)) o.goes_on
    ∙ ap (λ z. Some (reply_of answer z)) (append-nil (f.output ++ waits))

-- ---- a body that is kept

run_ends : (P : Answer → Type 0) (tree : Tree) (inner : Child → Vars → Came Answer) (m : Serving Answer) (vars : Vars) → AllEnd P m → P (run tree inner m vars).result
unfolding run
run_ends P tree inner (Done a) vars h = h
run_ends P tree inner (Get name k) vars h = run_ends P tree inner (k (look vars name)) vars (h (look vars name))
run_ends P tree inner (Put name value m) vars h = run_ends P tree inner m (set name value vars) h
run_ends P tree inner (Stat path k) vars h = run_ends P tree inner (k (tree path)) vars (h (tree path))
run_ends P tree inner (Call child k) vars h =
    let r = inner child vars in
    run_ends P tree inner (k (reply_of r.result r.body)) r.vars (h (reply_of r.result r.body))
run_ends P tree inner (Write bytes m) vars h = run_ends P tree inner m vars h
run_ends P tree inner (Inner child m) vars h = run_ends P tree inner m (inner child vars).vars h

module _ (w : World) (tree : Tree) where
  good_before : (bytes : List ℕ) (l : Left) → IsGoodLeft l → IsGoodLeft (before bytes l)
  good_before bytes l g = record { answer = g.answer; there = g.there; good = g.good }

  abbrev Good : List Item → Type 0
  Good xs = (last : Option Answer) (vars : Vars) → IsGoodLeft (items_rest w tree xs last vars)

  good_stance : (n : ℕ) (s : Stance) (xs : List Item) → Good xs → Good (stance_items n s ++ xs)
  unfolding items_rest
  good_stance n (Going left m) xs k last vars =
      let r = run tree (Replies.reply w tree left) m vars in
      good_before r.body (items_rest w tree xs (Some r.result) r.vars) (k (Some r.result) r.vars)
  good_stance n (Waiting own left f) xs k last vars =
      let r = rest w tree own None vars in
      elim r.answer as (λ a. IsGoodLeft (elim a [
        | None ↦ items_rest w tree xs None r.vars
        | Some answer ↦ let q = run tree (Replies.reply w tree left) (f (reply_of answer r.body)) r.vars in
            before q.body (items_rest w tree xs (Some q.result) q.vars)
      ])) [
        | None ↦ k None r.vars
        | Some answer ↦ let q = run tree (Replies.reply w tree left) (f (reply_of answer r.body)) r.vars in
            good_before q.body (items_rest w tree xs (Some q.result) q.vars) (k (Some q.result) q.vars)
      ]
  good_stance n (Apart own stub) xs k last vars =
      let r = rest w tree own None vars in
      good_before (or_stub (Some stub) (status_of r.answer) r.body) (items_rest w tree xs r.answer r.vars) (k r.answer r.vars)
  good_stance n Hidden xs k last vars = k last vars

  -- where no node goes on, the answer is the last one
  last_answer : (stance : ℕ → Stance) (ps : List Piece) (last : Option Answer) (vars : Vars) → any_goes_on ps ≡ false → (items_rest w tree (row_items stance ps) last vars).answer ≡ last
  unfolding row_items any_goes_on items_rest
  last_answer stance [] last vars e = refl
  last_answer stance (p ∷ ps) last vars e =
      ap (λ (l : Left). l.answer) (bytes_rest w tree p.bytes ((if p.grows then stance_items p.node (stance p.node) else []) ++ row_items stance ps) last vars)
      ∙ elim p.grows as (λ g. (if g then true else any_goes_on ps) ≡ false → (items_rest w tree ((if g then stance_items p.node (stance p.node) else []) ++ row_items stance ps) last vars).answer ≡ last) [
        | true ↦ λ h. cc
        | false ↦ λ h. last_answer stance ps last vars h
      ] e

  module _ (root : ℕ) (stance : ℕ → Stance) (left : ℕ) (m : Serving Answer) (e : stance root ≡ Going left m) (all : AllEnd IsGood m) where
    good_root : (ps : List Piece) → any_goes_on ps ≡ false → Good (stance_items root (Going left m) ++ row_items stance ps)
    unfolding items_rest
    good_root ps h last vars =
        let r = run tree (Replies.reply w tree left) m vars in
        record { answer = r.result; there = last_answer stance ps (Some r.result) r.vars h; good = run_ends IsGood tree (Replies.reply w tree left) m vars all }

    good_row : (ps : List Piece) → is_open root ps ≡ true → goes_on_behind root ps ≡ false → Good (row_items stance ps)
    unfolding row_items goes_on_behind
    good_row [] h k last vars = no_pieces root h
    good_row (p ∷ ps) h k last vars =
        let later = (if p.grows then stance_items p.node (stance p.node) else []) ++ row_items stance ps in
        subst IsGoodLeft (sym (bytes_rest w tree p.bytes later last vars)) (good_before p.bytes (items_rest w tree later last vars)
        (elim (is_place root p) as (λ t. is_place root p ≡ t → (if t then any_goes_on ps else goes_on_behind root ps) ≡ false → IsGoodLeft (items_rest w tree later last vars)) [
          | true ↦ λ t u. let at = place-node root p t in
              subst (λ xs. IsGoodLeft (items_rest w tree xs last vars))
              (sym (ap (λ g. (if g then stance_items p.node (stance p.node) else []) ++ row_items stance ps) at.0 ∙ ap (λ j. stance_items j (stance j) ++ row_items stance ps) at.1 ∙ ap (λ s. stance_items root s ++ row_items stance ps) e))
              (good_root ps u last vars)
          | false ↦ λ t u. elim p.grows as (λ g. IsGoodLeft (items_rest w tree ((if g then stance_items p.node (stance p.node) else []) ++ row_items stance ps) last vars)) [
            | true ↦ good_stance p.node (stance p.node) (row_items stance ps) (good_row ps (open_there root p ps t h) u) last vars
            | false ↦ good_row ps (open_there root p ps t h) u last vars
          ]
        ] refl k))

  is_kept : (f : Family) (line : Line) (left : ℕ) (m : Serving Answer) → IsWell f → Shows f line → f.stance f.root ≡ Going left m → AllEnd IsGood m → KeepsBody w tree line
  is_kept f line left m h e s all = record {
    node = any_line line ∙ ap any_node e ∙ any_later (map Byte f.output) (row_items f.stance f.row.pieces) (any_row f.root f.stance f.row.pieces h.root_is_shown h.row_is.root_goes_on);
    good = λ vars. subst IsGoodLeft (sym (shown_rest w tree f line vars e))
        (good_before f.output (items_rest w tree (row_items f.stance f.row.pieces) None vars) (good_row f.root f.stance left m s all f.row.pieces h.row_is.root_goes_on h.row_is.root_is_last None vars));
  }

pub tells_line : RowTellsLine
tells_line = record { front_is = front_is; reply_is = reply_is; is_kept = is_kept }
