-- Each step of a node, with what it does to the row, is a step of the line that the family shows.
use Rattle.std.proofs.Common.{◌≡◌, ◌≢◌, ℕ, suc, Bool, true, false, ◌==◌, List, [], ◌∷◌, ◌++◌, map, Option, None, Some, refl, sym, ap, subst, ◌∙◌, append_assoc, append-nil, if◌then◌else◌}
use Rattle.std.proofs.lemmas.Bool.{eq-eqb}
use Rattle.file_tree.specs.Tree
use Rattle.file_tree.specs.Tree.{Tree}
use Rattle.acts.specs.Vars.{Vars, look}
use Rattle.acts.specs.Act.{Done, Get, Stat, Call, Write, Inner, settled}
use Rattle.family_meaning.specs.request_meaning.Serving.{World, Serving, Child, Reply, Answer}
use Rattle.family_meaning.specs.request_meaning.Replies.{or_stub}
use Rattle.postpone_filter.specs.Row.{Piece, Row, is_place, is_open, at_place, longer, closed, fresh, appended, with_child, ended}
use Rattle.postpone_filter.proofs.Places.{place-node}
use Rattle.family_meaning.specs.Line
use Rattle.family_meaning.specs.Line.{Line, joined, opened, with_stub, begun, has_node}
use Rattle.family_meaning.specs.Line.Line.{Nil, Bytes, Gives, Waits, Stubs}
use Rattle.family_meaning.specs.Moves.{Moves, KeepsBody, SomeBody}
use Rattle.family_meaning.specs.Moves.Quiet.{Learns, Places, Placed, Merges, Opens, Asks, Hears, Leaves, Keeps, Decides}
use Rattle.family_meaning.specs.Moves.Thinks.{Here, Reads}
use Rattle.family_meaning.specs.Moves.Moves.{Quietly, ByTable}
use Rattle.family_order.specs.Items.{Stance, is_shown, goes_on_behind, stance_by, stance_items, Item, Family, Shows, items_of, IsWellRow, IsWell, items, row_items, with_stance, doing, placing, opening, ending}
use Rattle.family_order.specs.Items.Stance.{Going, Waiting, Apart, Hidden}
use Rattle.family_order.specs.Items.Item.{Byte, Node, Stub}
use Rattle.family_order.specs.Acts.{Does}
use Rattle.family_order.specs.Laws.{Moved}
use Rattle.family_order.proofs.Rows.{Split, split, split_items, change_items, ahead_items, at_node, at_place-same, row_items-clean, row_items-same}
use Rattle.family_order.proofs.Wells.{fresh_none, not_fresh, not_parent, root_behind, well-doing, well-append, well-child, well-end}
use Rattle.family_order.proofs.Places.{Parted, place, place_item, stance_line, items_stance, items-joined, moves_past, moves_within, moves_stub}

-- The place of a node that goes on, in the row and in the line.
pub record Seat (f : Family) (line : Line) (n : ℕ) (s : Stance) : Type 0 where
  pub parts : Split n f.row.pieces
  pub at : Parted line (map Byte f.output ++ ahead_items f.stance parts.ahead parts.at) (stance_line n s) (row_items f.stance parts.behind)

seat : (f : Family) (line : Line) (n : ℕ) (s : Stance) → IsWellRow f.root f.row → Does f n s → is_shown s ≡ true → Shows f line → Seat f line n s
seat f line n s h d k e =
    let p = split f.row.nodes n f.row.pieces h.lawful d.goes_on in
    record {
      parts = p;
      at = place line (map Byte f.output ++ ahead_items f.stance p.ahead p.at) n s (row_items f.stance p.behind) k (e
          ∙ ap (λ z. map Byte f.output ++ z) (split_items n f.stance f.row.pieces p)
          ∙ sym (append_assoc (map Byte f.output) (ahead_items f.stance p.ahead p.at) (stance_items n (f.stance n) ++ row_items f.stance p.behind))
          ∙ ap (λ t. (map Byte f.output ++ ahead_items f.stance p.ahead p.at) ++ (stance_items n t ++ row_items f.stance p.behind)) d.stands);
    }

-- The line where other things are at the place of the node: it is shown by the row where the same things are there.
seated : (f : Family) (line : Line) (n : ℕ) (s : Stance) (t : Seat f line n s) (now : ℕ → Stance) (g : Piece → List Piece) (mid : List Item) (next : Line)
    → ((j : ℕ) → (j == n) ≡ false → now j ≡ f.stance j)
    → ((p : Piece) → is_place n p ≡ true → row_items now (g p) ≡ map Byte p.bytes ++ mid)
    → items next ≡ mid ++ items t.at.behind
    → items (joined t.at.before next) ≡ map Byte f.output ++ row_items now (at_place n g f.row.pieces)
seated f line n s t now g mid next k e i =
    let a = ahead_items f.stance t.parts.ahead t.parts.at in
    let b = row_items f.stance t.parts.behind in
    items-joined t.at.before next
    ∙ ap (λ z. z ++ items next) t.at.before_is
    ∙ ap (λ z. (map Byte f.output ++ a) ++ z) (i ∙ ap (λ z. mid ++ z) t.at.behind_is)
    ∙ append_assoc (map Byte f.output) a (mid ++ b)
    ∙ ap (λ z. map Byte f.output ++ z) (sym (change_items n f.stance now f.row.pieces t.parts g mid k (e t.parts.at t.parts.place)))

-- ---- what a node has in the row

pub stance_now : (n : ℕ) (s : Stance) (stance : ℕ → Stance) → with_stance n s stance n ≡ s
stance_now n s stance = ap (λ u. if u then s else stance n) (eq-eqb n n refl)

pub stance_other : (n j : ℕ) (s : Stance) (stance : ℕ → Stance) → (j == n) ≡ false → with_stance n s stance j ≡ stance j
stance_other n j s stance h = ap (λ u. if u then s else stance j) h

no_row : (stance : ℕ → Stance) → row_items stance [] ≡ []
unfolding row_items
no_row stance = refl

pub node_row : (n : ℕ) (stance : ℕ → Stance) (s : Stance) (p : Piece) → stance n ≡ s → is_place n p ≡ true → row_items stance (p ∷ []) ≡ map Byte p.bytes ++ stance_items n s
node_row n stance s p e h =
    at_node n stance p [] h
    ∙ ap (λ z. map Byte p.bytes ++ (stance_items n (stance n) ++ z)) (no_row stance)
    ∙ ap (λ z. map Byte p.bytes ++ z) (append-nil (stance_items n (stance n)) ∙ ap (stance_items n) e)

pub map-append : (a b : List ℕ) → map Byte (a ++ b) ≡ map Byte a ++ map Byte b
map-append [] b = refl
map-append (x ∷ a) b = ap (λ z. Byte x ∷ z) (map-append a b)

pub placed_row : (n : ℕ) (stance : ℕ → Stance) (s : Stance) (bytes : List ℕ) (p : Piece) → stance n ≡ s → is_place n p ≡ true →
    row_items stance (longer bytes p ∷ []) ≡ map Byte p.bytes ++ (map Byte bytes ++ stance_items n s)
placed_row n stance s bytes p e h =
    node_row n stance s (longer bytes p) e h
    ∙ ap (λ z. z ++ stance_items n s) (map-append p.bytes bytes)
    ∙ append_assoc (map Byte p.bytes) (map Byte bytes) (stance_items n s)

pub child_row : (n number : ℕ) (stance : ℕ → Stance) (s c : Stance) (p : Piece) → stance n ≡ s → stance number ≡ c →
    row_items stance (closed p ∷ fresh number ∷ fresh n ∷ []) ≡ map Byte p.bytes ++ (stance_items number c ++ stance_items n s)
unfolding row_items
child_row n number stance s c p e h =
    ap (λ u. map Byte p.bytes ++ (stance_items number u ++ (stance_items n (stance n) ++ []))) h
    ∙ ap (λ z. map Byte p.bytes ++ (stance_items number c ++ z)) (append-nil (stance_items n (stance n)) ∙ ap (stance_items n) e)

pub closed_row : (stance : ℕ → Stance) (p : Piece) → row_items stance (closed p ∷ []) ≡ map Byte p.bytes ++ []
unfolding row_items
closed_row stance p = refl

-- a node that places bytes and ends
pub at_place-both : (n : ℕ) (bytes : List ℕ) (ps : List Piece) → at_place n (λ p. closed p ∷ []) (at_place n (λ p. longer bytes p ∷ []) ps) ≡ at_place n (λ p. closed (longer bytes p) ∷ []) ps
unfolding at_place
at_place-both n bytes [] = refl
at_place-both n bytes (p ∷ ps) = elim (is_place n p) as (λ t. is_place n p ≡ t → at_place n (λ p. closed p ∷ []) (if t then longer bytes p ∷ ps else p ∷ at_place n (λ p. longer bytes p ∷ []) ps) ≡ (if t then closed (longer bytes p) ∷ ps else p ∷ at_place n (λ p. closed (longer bytes p) ∷ []) ps)) [
  | true ↦ λ t. ap (λ u. if u then closed (longer bytes p) ∷ ps else longer bytes p ∷ at_place n (λ p. closed p ∷ []) ps) t
  | false ↦ λ t.
      ap (λ u. if u then closed p ∷ at_place n (λ p. longer bytes p ∷ []) ps else p ∷ at_place n (λ p. closed p ∷ []) (at_place n (λ p. longer bytes p ∷ []) ps)) t
      ∙ ap (λ z. p ∷ z) (at_place-both n bytes ps)
] refl

pub decided_row : (stance : ℕ → Stance) (bytes : List ℕ) (p : Piece) → row_items stance (closed (longer bytes p) ∷ []) ≡ map Byte p.bytes ++ map Byte bytes
unfolding row_items
decided_row stance bytes p = append-nil (map Byte (p.bytes ++ bytes)) ∙ map-append p.bytes bytes

pub decided_line : (bytes : List ℕ) (line : Line) → items (Bytes bytes line) ≡ map Byte bytes ++ items line
unfolding items
decided_line bytes line = refl

pub placed_line : (bytes : List ℕ) (n : ℕ) (s : Stance) (line : Line) → items (Bytes bytes (stance_line n s line)) ≡ (map Byte bytes ++ stance_items n s) ++ items line
unfolding items
placed_line bytes n s line =
    ap (λ z. map Byte bytes ++ z) (items_stance n s line)
    ∙ sym (append_assoc (map Byte bytes) (stance_items n s) (items line))

by_stub_line : (stub : Option (List ℕ)) (w : World) (number left : ℕ) (child : Child) (line : Line) → items (with_stub stub (begun w number left child) line) ≡ stance_items number (stance_by stub w number left child) ++ items line
unfolding items joined
by_stub_line None w number left child line = refl
by_stub_line (Some stub) w number left child line = refl

pub child_line : (w : World) (number left : ℕ) (child : Child) (line : Line) → items (opened w number left child line) ≡ stance_items number (stance_by child.stub w number left child) ++ items line
child_line w number left child line = by_stub_line child.stub w number left child line

-- ---- whether a node is there

-- a node, or a subrequest with a stub, is among what a line has
pub any_node : List Item → Bool
any_node [] = false
any_node (Byte b ∷ xs) = any_node xs
any_node (Node n s ∷ xs) = true
any_node (Stub own stub ∷ xs) = true

any_past : (bytes : List ℕ) (xs : List Item) → any_node (map Byte bytes ++ xs) ≡ any_node xs
unfolding any_node
any_past [] xs = refl
any_past (b ∷ bytes) xs = any_past bytes xs

pub any_later : (xs ys : List Item) → any_node ys ≡ true → any_node (xs ++ ys) ≡ true
unfolding any_node
any_later [] ys e = e
any_later (Byte b ∷ xs) ys e = any_later xs ys e
any_later (Node n s ∷ xs) ys e = refl
any_later (Stub own stub ∷ xs) ys e = refl

pub any_line : (line : Line) → has_node line ≡ any_node (items line)
unfolding has_node any_node items
any_line Nil = refl
any_line (Bytes bytes line) = any_line line ∙ sym (any_past bytes (items line))
any_line (Gives node left m line) = refl
any_line (Waits node own left k line) = refl
any_line (Stubs own stub line) = refl

any_stance : (n : ℕ) (s : Stance) (ys : List Item) → is_shown s ≡ true → any_node (stance_items n s ++ ys) ≡ true
unfolding any_node
any_stance n (Going left m) ys e = refl
any_stance n (Waiting own left k) ys e = refl
any_stance n (Apart own stub) ys e = refl
any_stance n Hidden ys e = cc

pub any_row : (n : ℕ) (stance : ℕ → Stance) (ps : List Piece) → is_shown (stance n) ≡ true → is_open n ps ≡ true → any_node (row_items stance ps) ≡ true
unfolding row_items is_open
any_row n stance [] k e = cc
any_row n stance (p ∷ ps) k e = any_later (map Byte p.bytes) ((if p.grows then stance_items p.node (stance p.node) else []) ++ row_items stance ps) (elim (is_place n p) as (λ t. is_place n p ≡ t → (if t then true else is_open n ps) ≡ true → any_node ((if p.grows then stance_items p.node (stance p.node) else []) ++ row_items stance ps) ≡ true) [
  | true ↦ λ t h. let at = place-node n p t in
      ap (λ g. any_node ((if g then stance_items p.node (stance p.node) else []) ++ row_items stance ps)) at.0
      ∙ ap (λ j. any_node (stance_items j (stance j) ++ row_items stance ps)) at.1
      ∙ any_stance n (stance n) (row_items stance ps) k
  | false ↦ λ t h. any_later (if p.grows then stance_items p.node (stance p.node) else []) (row_items stance ps) (any_row n stance ps k h)
] refl e)

-- ---- steps

module _ (w : World) (tree : Tree) (f : Family) (line : Line) where
  -- a step at the place of a node
  moved : (n : ℕ) (s : Stance) (t : Seat f line n s) (row : Row) (now : ℕ → Stance) (g : Piece → List Piece) (mid : List Item) (next : Line) (vars vars' : Vars)
      → Moves w tree (stance_line n s t.at.behind) vars next vars'
      → ((j : ℕ) → (j == n) ≡ false → now j ≡ f.stance j)
      → ((p : Piece) → is_place n p ≡ true → row_items now (g p) ≡ map Byte p.bytes ++ mid)
      → items next ≡ mid ++ items t.at.behind
      → row_items now row.pieces ≡ row_items now (at_place n g f.row.pieces)
      → IsWell (record { row = row; output = f.output; stance = now; root = f.root })
      → Moved w tree line vars (record { row = row; output = f.output; stance = now; root = f.root }) vars'
  moved n s t row now g mid next vars vars' m k e i r well = record {
    next = joined t.at.before next;
    moves = subst (λ l. Moves w tree l vars (joined t.at.before next) vars') (sym t.at.line_is) (moves_past w tree t.at.before (stance_line n s t.at.behind) next vars vars' m);
    shows = seated f line n s t now g mid next k e i ∙ ap (λ z. map Byte f.output ++ z) (sym r);
    well = well;
  }

  -- one that leaves the row as it is
  changed : (n : ℕ) (s now : Stance) (vars vars' : Vars) → IsWell f → is_shown s ≡ true → is_shown now ≡ true → Does f n s → Shows f line
      → ((behind : Line) → Moves w tree (stance_line n s behind) vars (stance_line n now behind) vars')
      → Moved w tree line vars (doing n now f) vars'
  changed n s now vars vars' h k k' d e m =
      let t = seat f line n s h.row_is d k e in
      moved n s t f.row (with_stance n now f.stance) (λ p. p ∷ []) (stance_items n now) (stance_line n now t.at.behind) vars vars' (m t.at.behind)
      (λ j u. stance_other n j now f.stance u)
      (λ p u. node_row n (with_stance n now f.stance) now p (stance_now n now f.stance) u)
      (items_stance n now t.at.behind)
      (ap (row_items (with_stance n now f.stance)) (sym (at_place-same n f.row.pieces)))
      (well-doing n now f h k')

  -- there is a node after another than the root
  node_behind : (n : ℕ) (s : Stance) (t : Seat f line n s) → IsWell f → n ≢ f.root → has_node t.at.behind ≡ true
  node_behind n s t h k =
      any_line t.at.behind
      ∙ ap any_node t.at.behind_is
      ∙ any_row f.root f.stance t.parts.behind h.root_is_shown
      (root_behind f.root n t.parts.ahead t.parts.at t.parts.behind k t.parts.place
      (sym (ap (goes_on_behind f.root) t.parts.whole) ∙ h.row_is.root_is_last)
      (sym (ap (is_open f.root) t.parts.whole) ∙ h.row_is.root_goes_on))

-- ---- steps that leave the row as it is

module _ (w : World) (tree : Tree) (f : Family) (line : Line) (vars : Vars) (h : IsWell f) (e : Shows f line) where
  pub reads : (n left : ℕ) (name : List ℕ) (k : Option (List ℕ) → Serving Answer) → Does f n (Going left (Get name k)) → Moved w tree line vars (doing n (Going left (k (look vars name))) f) vars
  reads n left name k d = changed w tree f line n (Going left (Get name k)) (Going left (k (look vars name))) vars vars h refl refl d e (λ behind. ByTable Reads)

  pub thinks : (n left : ℕ) (m : Serving Answer) → Does f n (Going left m) → Moved w tree line vars (doing n (Going left (settled m vars).0) f) (settled m vars).1
  thinks n left m d = changed w tree f line n (Going left m) (Going left (settled m vars).0) vars (settled m vars).1 h refl refl d e (λ behind. ByTable Here)

  pub learns : (n left : ℕ) (path : List ℕ) (k : Tree.Item → Serving Answer) → Does f n (Going left (Stat path k)) → Moved w tree line vars (doing n (Going left (k (tree path))) f) vars
  learns n left path k d = changed w tree f line n (Going left (Stat path k)) (Going left (k (tree path))) vars vars h refl refl d e (λ behind. Quietly Learns)

  pub places_none : (n left : ℕ) (m : Serving Answer) → Does f n (Going left (Write [] m)) → Moved w tree line vars (doing n (Going left m) f) vars
  places_none n left m d = changed w tree f line n (Going left (Write [] m)) (Going left m) vars vars h refl refl d e (λ behind. Quietly Placed)

  pub merges : (n left : ℕ) (first second : List ℕ) (m : Serving Answer) → Does f n (Going left (Write first (Write second m))) →
      Moved w tree line vars (doing n (Going left (Write (first ++ second) m)) f) vars
  merges n left first second m d =
      changed w tree f line n (Going left (Write first (Write second m))) (Going left (Write (first ++ second) m)) vars vars h refl refl d e (λ behind. Quietly Merges)

  pub asks : (n number left : ℕ) (child : Child) (k : Reply → Serving Answer) → Does f n (Going (suc left) (Call child k)) →
      Moved w tree line vars (doing n (Waiting (opened w number left child Nil) (suc left) k) f) vars
  asks n number left child k d =
      changed w tree f line n (Going (suc left) (Call child k)) (Waiting (opened w number left child Nil) (suc left) k) vars vars h refl refl d e (λ behind. Quietly (Asks number))

  pub within : (n left : ℕ) (own own' : Line) (k : Reply → Serving Answer) (vars' : Vars) → Does f n (Waiting own left k) → Moves w tree own vars own' vars' →
      Moved w tree line vars (doing n (Waiting own' left k) f) vars'
  within n left own own' k vars' d m =
      changed w tree f line n (Waiting own left k) (Waiting own' left k) vars vars' h refl refl d e (λ behind. moves_within w tree n left own own' behind k vars vars' m)

  pub within_stub : (n : ℕ) (own own' : Line) (stub : List ℕ) (vars' : Vars) → Does f n (Apart own stub) → Moves w tree own vars own' vars' →
      Moved w tree line vars (doing n (Apart own' stub) f) vars'
  within_stub n own own' stub vars' d m =
      changed w tree f line n (Apart own stub) (Apart own' stub) vars vars' h refl refl d e (λ behind. moves_stub w tree own own' behind stub vars vars' m)

  pub hears : (n left : ℕ) (own : Line) (k : Reply → Serving Answer) (reply : Reply) → Does f n (Waiting own left k) → Line.ended own None ≡ Some reply →
      Moved w tree line vars (doing n (Going left (k reply)) f) vars
  hears n left own k reply d r = changed w tree f line n (Waiting own left k) (Going left (k reply)) vars vars h refl refl d e (λ behind. Quietly (Hears reply r))

  -- ---- bytes that are placed

  pub places : (n left : ℕ) (some more : List ℕ) (m : Serving Answer) → Does f n (Going left (Write (some ++ more) m)) →
      Moved w tree line vars (doing n (Going left (Write more m)) (placing n some f)) vars
  places n left some more m d =
      let s = Going left (Write (some ++ more) m) in
      let now = Going left (Write more m) in
      let stance = with_stance n now f.stance in
      let t = seat f line n s h.row_is d refl e in
      moved w tree f line n s t (appended n some f.row) stance (λ p. longer some p ∷ []) (map Byte some ++ stance_items n now) (Bytes some (Gives n left (Write more m) t.at.behind)) vars vars (Quietly Places)
      (λ j u. stance_other n j now f.stance u)
      (λ p u. placed_row n stance now some p (stance_now n now f.stance) u)
      (placed_line some n now t.at.behind)
      refl
      (well-doing n now (placing n some f) (well-append n some f h) refl)

  -- ---- a subrequest

  pub opens : (n left : ℕ) (child : Child) (m : Serving Answer) → Does f n (Going (suc left) (Inner child m)) →
      Moved w tree line vars (doing n (Going (suc left) m) (opening n (stance_by child.stub w f.row.nodes left child) f)) vars
  opens n left child m d =
      let nodes = f.row.nodes in
      let c = stance_by child.stub w nodes left child in
      let s = Going (suc left) (Inner child m) in
      let now = Going (suc left) m in
      let other = not_fresh n f.row h.row_is.lawful d.goes_on in
      let known : Family = record { row = f.row; output = f.output; stance = with_stance nodes c f.stance; root = f.root } in
      let stance = with_stance n now known.stance in
      let t = seat known line n s h.row_is (record { goes_on = d.goes_on; stands = stance_other nodes n c f.stance other ∙ d.stands }) refl
      (e ∙ ap (λ z. map Byte f.output ++ z) (sym (row_items-same nodes known.stance f.stance f.row.pieces (fresh_none f.row h.row_is.lawful) (λ j u. stance_other nodes j c f.stance u)))) in
      moved w tree known line n s t (with_child n f.row) stance (λ p. closed p ∷ fresh nodes ∷ fresh n ∷ []) (stance_items nodes c ++ stance_items n now)
      (opened w nodes left child (Gives n (suc left) m t.at.behind)) vars vars (Quietly (Opens nodes))
      (λ j u. stance_other n j now known.stance u)
      (λ p u. child_row n nodes stance now c p (stance_now n now known.stance) (stance_other n nodes now known.stance (not_parent n f.row other) ∙ stance_now nodes c f.stance))
      (child_line w nodes left child (Gives n (suc left) m t.at.behind) ∙ ap (λ z. stance_items nodes c ++ z) (items_stance n now t.at.behind) ∙ sym (append_assoc (stance_items nodes c) (stance_items n now) (items t.at.behind)))
      (row_items-clean stance (at_place n (λ p. closed p ∷ fresh nodes ∷ fresh n ∷ []) f.row.pieces))
      (well-doing n now (opening n c f) (well-child n c f h) refl)

  -- ---- a node that is over

  pub ends : (n left : ℕ) (answer : Answer) → Does f n (Going left (Done answer)) → n ≢ f.root → Moved w tree line vars (ending n f) vars
  ends n left answer d k =
      let s = Going left (Done answer) in
      let t = seat f line n s h.row_is d refl e in
      moved w tree f line n s t (ended n f.row) f.stance (λ p. closed p ∷ []) [] t.at.behind vars vars
      (Quietly (Leaves (node_behind w tree f line n s t h k)))
      (λ j u. refl)
      (λ p u. closed_row f.stance p)
      refl
      (row_items-clean f.stance (at_place n (λ p. closed p ∷ []) f.row.pieces))
      (well-end n f h k)

  -- ---- a subrequest with a stub is decided

  pub decides : (n : ℕ) (own : Line) (stub : List ℕ) (reply : Reply) → Does f n (Apart own stub) → Line.ended own None ≡ Some reply → n ≢ f.root →
      Moved w tree line vars (ending n (placing n (or_stub (Some stub) reply.answer.status reply.body) f)) vars
  decides n own stub reply d r k =
      let s = Apart own stub in
      let bytes = or_stub (Some stub) reply.answer.status reply.body in
      let t = seat f line n s h.row_is d refl e in
      moved w tree f line n s t (ended n (appended n bytes f.row)) f.stance (λ p. closed (longer bytes p) ∷ []) (map Byte bytes) (Bytes bytes t.at.behind) vars vars
      (Quietly (Decides reply r (node_behind w tree f line n s t h k)))
      (λ j u. refl)
      (λ p u. decided_row f.stance bytes p)
      (decided_line bytes t.at.behind)
      (row_items-clean f.stance (at_place n (λ p. closed p ∷ []) (at_place n (λ p. longer bytes p ∷ []) f.row.pieces)) ∙ ap (row_items f.stance) (at_place-both n bytes f.row.pieces))
      (well-end n (placing n bytes f) (well-append n bytes f h) k)

  pub keeps : (g : Family) (own : Line) (stub : List ℕ) (ahead behind : List Item) → items_of f ≡ ahead ++ (Stub own stub ∷ behind) → items_of g ≡ ahead ++ (items own ++ behind) →
      f.output ≡ g.output → IsWell g → KeepsBody w tree own → SomeBody w tree own → Moved w tree line vars g vars
  keeps g own stub ahead behind a b o well body some =
      let q = place_item line (map Byte f.output ++ ahead) (Stub own stub) behind tt
      (e ∙ ap (λ z. map Byte f.output ++ z) a ∙ sym (append_assoc (map Byte f.output) ahead (Stub own stub ∷ behind))) in
      record {
        next = joined q.before (joined own q.behind);
        moves = subst (λ l. Moves w tree l vars (joined q.before (joined own q.behind)) vars) (sym q.line_is)
            (moves_past w tree q.before (Stubs own stub q.behind) (joined own q.behind) vars vars (Quietly (Keeps body some)));
        shows = items-joined q.before (joined own q.behind)
            ∙ ap (λ z. z ++ items (joined own q.behind)) q.before_is
            ∙ ap (λ z. (map Byte f.output ++ ahead) ++ z) (items-joined own q.behind ∙ ap (λ z. items own ++ z) q.behind_is)
            ∙ append_assoc (map Byte f.output) ahead (items own ++ behind)
            ∙ ap (λ z. map Byte f.output ++ z) (sym b)
            ∙ ap (λ z. map Byte z ++ items_of g) o;
        well = well;
      }
