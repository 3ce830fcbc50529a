-- A step that neither reads nor writes a variable keeps what is still to come.
use Rattle.std.proofs.Common.{◌≡◌, ◌+◌, subst, ◌≢◌, ℕ, suc, true, false, ◌==◌, List, [], ◌∷◌, ◌++◌, map, Option, None, Some, refl, sym, ap, ◌∙◌, append_assoc}
use Rattle.file_tree.specs.Tree.{Tree}
use Rattle.acts.specs.Vars.{Vars}
use Rattle.acts.specs.Act.{Done, Stat, Call, Write, Inner}
use Rattle.family_meaning.specs.request_meaning.Serving.{World, Serving, Child, Reply, Answer}
use Rattle.family_meaning.specs.request_meaning.Replies
use Rattle.family_meaning.specs.request_meaning.Replies.{run, or_stub}
use Rattle.postpone_filter.specs.Row.{Piece, Row, is_place, is_open, at_place, longer, closed, fresh, appended, with_child, ended}
use Rattle.family_meaning.specs.Line
use Rattle.family_meaning.specs.Line.{Line, Left, rest, before, reply_of, status_of, joined, opened, has_node}
use Rattle.family_meaning.specs.Line.Line.{Nil, Bytes, Gives, Waits, Stubs}
use Rattle.family_meaning.specs.Moves.{Quiet, Moves, KeepsBody, SomeBody}
use Rattle.family_meaning.specs.Moves.Quiet.{Learns as LineLearns, Places as LinePlaces, Placed as LinePlaced, Merges as LineMerges, Opens as LineOpens, Asks as LineAsks, Hears as LineHears, Leaves as LineLeaves, Keeps as LineKeeps, Decides as LineDecides, Within as LineWithin, WithinStub as LineWithinStub}
use Rattle.family_meaning.specs.Moves.Moves.{Quietly, ByTable}
use Rattle.family_meaning.proofs.Orders.{quiet_same}
use Rattle.family_order.specs.Items.{Stance, is_shown, stance_by, goes_on_behind, stance_items, Item, Family, items_of, IsWell, items, row_items, with_stance, doing, placing, opening, ending}
use Rattle.family_order.specs.Items.Stance.{Going, Waiting, Apart, Hidden}
use Rattle.family_order.specs.Items.Item.{Byte, Node, Stub}
use Rattle.family_order.specs.Acts.{Does, Acts}
use Rattle.family_order.specs.Acts.Acts.{Thinks, Reads, Learns, Places, Placed, Merges, Opens, Asks, Within, Hears, Ends, WithinStub, Keeps, Decides}
use Rattle.family_order.proofs.Rows.{Split, split, split_items, change_items, ahead_items, at_place-same, row_items-clean, row_items-same}
use Rattle.family_order.proofs.Wells.{fresh_none, not_fresh, not_parent, root_behind}
use Rattle.family_order.proofs.Places.{place_item, stance_line, items_stance, items-joined}
use Rattle.family_order.proofs.Shown.{stance_now, stance_other, node_row, placed_row, child_row, closed_row, at_place-both, decided_row, decided_line, placed_line, child_line, any_line, any_node, any_row}
use Rattle.family_order.proofs.Rests.{items_rest, line_rest}
use Rattle.family_rest.specs.Still.{line_of, still, subs_still}
use Rattle.family_rest.specs.Opened.{opened_quietly, opened_move, opened_by}
use Rattle.family_rest.proofs.Counts.{items_subs, subs_past, line_subs, quiet_subs}
use Rattle.family_meaning.specs.Left.{subs_left}
use Rattle.family_rest.specs.Laws.{IsQuiet, IsQuietMove, QuietIsExact}
use Rattle.family_rest.proofs.Lines.{row_line, still_items, subs_items}

module _ (w : World) (tree : Tree) where
  -- What comes to the same, whichever answer and table are before it, where this many subrequests are opened.
  record SameStill (opened : ℕ) (xs ys : List Item) : Type 0 where
    left : (last : Option Answer) (vars : Vars) → items_rest w tree xs last vars ≡ items_rest w tree ys last vars
    subs : (vars : Vars) → items_subs w tree xs vars ≡ opened + items_subs w tree ys vars

  abbrev SameRest : List Item → List Item → Type 0
  SameRest xs ys = (last : Option Answer) (vars : Vars) → items_rest w tree xs last vars ≡ items_rest w tree ys last vars

  -- so it does after others
  rest_past : (xs ys zs : List Item) → SameRest ys zs → SameRest (xs ++ ys) (xs ++ zs)
  unfolding items_rest
  rest_past [] ys zs e last vars = e last vars
  rest_past (Byte b ∷ xs) ys zs e last vars = ap (before (b ∷ [])) (rest_past xs ys zs e last vars)
  rest_past (Node n (Going left m) ∷ xs) ys zs e last vars =
      let r = run tree (Replies.reply w tree left) m vars in
      ap (before r.body) (rest_past xs ys zs e (Some r.result) r.vars)
  rest_past (Node n (Waiting own left k) ∷ xs) ys zs e last vars =
      let r = rest w tree own None vars in
      elim r.answer as (λ a. ◌≡◌ {A = Left} (elim a [
        | None ↦ items_rest w tree (xs ++ ys) None r.vars
        | Some answer ↦ let q = run tree (Replies.reply w tree left) (k (reply_of answer r.body)) r.vars in
            before q.body (items_rest w tree (xs ++ ys) (Some q.result) q.vars)
      ]) (elim a [
        | None ↦ items_rest w tree (xs ++ zs) None r.vars
        | Some answer ↦ let q = run tree (Replies.reply w tree left) (k (reply_of answer r.body)) r.vars in
            before q.body (items_rest w tree (xs ++ zs) (Some q.result) q.vars)
      ])) [
        | None ↦ rest_past xs ys zs e None r.vars
        | Some answer ↦ let q = run tree (Replies.reply w tree left) (k (reply_of answer r.body)) r.vars in
            ap (before q.body) (rest_past xs ys zs e (Some q.result) q.vars)
      ]
  rest_past (Node n (Apart own stub) ∷ xs) ys zs e last vars = rest_past xs ys zs e last vars
  rest_past (Node n Hidden ∷ xs) ys zs e last vars = rest_past xs ys zs e last vars
  rest_past (Stub own stub ∷ xs) ys zs e last vars =
      let r = rest w tree own None vars in
      ap (before (or_stub (Some stub) (status_of r.answer) r.body)) (rest_past xs ys zs e r.answer r.vars)

  still_past : (opened : ℕ) (xs ys zs : List Item) → SameStill opened ys zs → SameStill opened (xs ++ ys) (xs ++ zs)
  still_past opened xs ys zs e = record { left = rest_past xs ys zs e.left; subs = subs_past w tree opened xs ys zs e.subs }

  still_as : (opened : ℕ) (xs xs' ys ys' : List Item) → xs ≡ xs' → ys ≡ ys' → SameStill opened xs' ys' → SameStill opened xs ys
  still_as opened xs xs' ys ys' e g h = subst (λ z. SameStill opened z ys) (sym e) (subst (SameStill opened xs') (sym g) h)

  -- a quiet step of a line, by what the lines have
  quiet_there : (opened : ℕ) (was next : Line) (xs ys : List Item) → (q : Quiet w tree was next) → opened_quietly q ≡ opened → items was ≡ xs → items next ≡ ys → SameStill opened xs ys
  quiet_there opened was next xs ys q o e g = still_as opened xs (items was) ys (items next) (sym e) (sym g) (record {
    left = λ last vars. sym (line_rest w tree was last vars) ∙ quiet_same w tree was next q vars last ∙ line_rest w tree next last vars;
    subs = λ vars. sym (line_subs w tree was vars) ∙ quiet_subs w tree was next q vars ∙ ap (λ n. n + subs_left w tree next vars) o ∙ ap (λ z. opened + z) (line_subs w tree next vars);
  })

  module _ (f : Family) (h : IsWell f) where
    -- there is a node after another than the root
    node_behind : (n : ℕ) (p : Split n f.row.pieces) → n ≢ f.root → has_node (line_of (row_items f.stance p.behind)) ≡ true
    node_behind n p k =
        any_line (line_of (row_items f.stance p.behind))
        ∙ ap any_node (row_line f.stance p.behind)
        ∙ any_row f.root f.stance p.behind h.root_is_shown
        (root_behind f.root n p.ahead p.at p.behind k p.place
        (sym (ap (goes_on_behind f.root) p.whole) ∙ h.row_is.root_is_last)
        (sym (ap (is_open f.root) p.whole) ∙ h.row_is.root_goes_on))

    -- a quiet step at the place of a node, by what is there then
    turned : (opened n : ℕ) (s : Stance) (row : Row) (now : ℕ → Stance) (g : Piece → List Piece) (mid : List Item) (next : Line → Line) → Does f n s
        → ((j : ℕ) → (j == n) ≡ false → now j ≡ f.stance j)
        → ((p : Piece) → is_place n p ≡ true → row_items now (g p) ≡ map Byte p.bytes ++ mid)
        → row_items now row.pieces ≡ row_items now (at_place n g f.row.pieces)
        → (q : (behind : Line) → (n ≢ f.root → has_node behind ≡ true) → Quiet w tree (stance_line n s behind) (next behind))
        → ((behind : Line) (b : n ≢ f.root → has_node behind ≡ true) → opened_quietly (q behind b) ≡ opened)
        → ((behind : Line) → items (next behind) ≡ mid ++ items behind)
        → SameStill opened (items_of f) (row_items now row.pieces)
    turned opened n s row now g mid next d k e r q o i =
        let p = split f.row.nodes n f.row.pieces h.row_is.lawful d.goes_on in
        let a = ahead_items f.stance p.ahead p.at in
        let b = row_items f.stance p.behind in
        let line = line_of b in
        let there = node_behind n p in
        still_as opened (items_of f) (a ++ (stance_items n s ++ b)) (row_items now row.pieces) (a ++ (mid ++ b))
        (split_items n f.stance f.row.pieces p ∙ ap (λ t. a ++ (stance_items n t ++ b)) d.stands)
        (r ∙ change_items n f.stance now f.row.pieces p g mid k (e p.at p.place))
        (still_past opened a (stance_items n s ++ b) (mid ++ b)
        (quiet_there opened (stance_line n s line) (next line) (stance_items n s ++ b) (mid ++ b) (q line there) (o line there)
        (items_stance n s line ∙ ap (λ z. stance_items n s ++ z) (row_line f.stance p.behind))
        (i line ∙ ap (λ z. mid ++ z) (row_line f.stance p.behind))))

    -- one that leaves the row as it is
    changed : (opened n : ℕ) (s now : Stance) → Does f n s → (q : (behind : Line) → Quiet w tree (stance_line n s behind) (stance_line n now behind)) → ((behind : Line) → opened_quietly (q behind) ≡ opened) → SameStill opened (items_of f) (items_of (doing n now f))
    changed opened n s now d q o =
        let stance = with_stance n now f.stance in
        turned opened n s f.row stance (λ p. p ∷ []) (stance_items n now) (stance_line n now) d
        (λ j u. stance_other n j now f.stance u)
        (λ p u. node_row n stance now p (stance_now n now f.stance) u)
        (ap (row_items stance) (sym (at_place-same n f.row.pieces)))
        (λ behind b. q behind)
        (λ behind b. o behind)
        (λ behind. items_stance n now behind)

    places : (n left : ℕ) (some more : List ℕ) (m : Serving Answer) → Does f n (Going left (Write (some ++ more) m)) →
        SameStill 0 (items_of f) (items_of (doing n (Going left (Write more m)) (placing n some f)))
    places n left some more m d =
        let now = Going left (Write more m) in
        let stance = with_stance n now f.stance in
        turned 0 n (Going left (Write (some ++ more) m)) (appended n some f.row) stance (λ p. longer some p ∷ []) (map Byte some ++ stance_items n now) (λ behind. Bytes some (stance_line n now behind)) d
        (λ j u. stance_other n j now f.stance u)
        (λ p u. placed_row n stance now some p (stance_now n now f.stance) u)
        refl
        (λ behind b. LinePlaces)
        (λ behind b. refl)
        (λ behind. placed_line some n now behind)

    finishes : (n left : ℕ) (answer : Answer) → Does f n (Going left (Done answer)) → n ≢ f.root → SameStill 0 (items_of f) (items_of (ending n f))
    finishes n left answer d k =
        turned 0 n (Going left (Done answer)) (ended n f.row) f.stance (λ p. closed p ∷ []) [] (λ behind. behind) d
        (λ j u. refl)
        (λ p u. closed_row f.stance p)
        (row_items-clean f.stance (at_place n (λ p. closed p ∷ []) f.row.pieces))
        (λ behind b. LineLeaves (b k))
        (λ behind b. refl)
        (λ behind. refl)

    decides : (n : ℕ) (own : Line) (stub : List ℕ) (reply : Reply) → Does f n (Apart own stub) → Line.ended own None ≡ Some reply → n ≢ f.root →
        SameStill 0 (items_of f) (items_of (ending n (placing n (or_stub (Some stub) reply.answer.status reply.body) f)))
    decides n own stub reply d r k =
        let bytes = or_stub (Some stub) reply.answer.status reply.body in
        turned 0 n (Apart own stub) (ended n (appended n bytes f.row)) f.stance (λ p. closed (longer bytes p) ∷ []) (map Byte bytes) (Bytes bytes) d
        (λ j u. refl)
        (λ p u. decided_row f.stance bytes p)
        (row_items-clean f.stance (at_place n (λ p. closed p ∷ []) (at_place n (λ p. longer bytes p ∷ []) f.row.pieces)) ∙ ap (row_items f.stance) (at_place-both n bytes f.row.pieces))
        (λ behind b. LineDecides reply r (b k))
        (λ behind b. refl)
        (λ behind. decided_line bytes behind)

    keeps : (g : Family) (own : Line) (stub : List ℕ) (ahead behind : List Item) → items_of f ≡ ahead ++ (Stub own stub ∷ behind) → items_of g ≡ ahead ++ (items own ++ behind) →
        KeepsBody w tree own → SomeBody w tree own → SameStill 0 (items_of f) (items_of g)
    keeps g own stub ahead behind a b body some =
        let q = place_item (line_of (items_of f)) ahead (Stub own stub) behind tt (row_line f.stance f.row.pieces ∙ a) in
        still_as 0 (items_of f) (ahead ++ (Stub own stub ∷ behind)) (items_of g) (ahead ++ (items own ++ behind)) a b
        (still_past 0 ahead (Stub own stub ∷ behind) (items own ++ behind)
        (quiet_there 0 (Stubs own stub q.behind) (joined own q.behind) (Stub own stub ∷ behind) (items own ++ behind) (LineKeeps body some) refl
        (items_stance 0 (Apart own stub) q.behind ∙ ap (λ z. Stub own stub ∷ z) q.behind_is)
        (items-joined own q.behind ∙ ap (λ z. items own ++ z) q.behind_is)))

  opens : (f : Family) → IsWell f → (n left : ℕ) (child : Child) (m : Serving Answer) → Does f n (Going (suc left) (Inner child m)) →
      SameStill 1 (items_of f) (items_of (doing n (Going (suc left) m) (opening n (stance_by child.stub w f.row.nodes left child) f)))
  opens f h n left child m d =
      let nodes = f.row.nodes in
      let c = stance_by child.stub w nodes left child in
      let now = Going (suc left) m in
      let other = not_fresh n f.row h.row_is.lawful d.goes_on in
      let known : Family = record { row = f.row; output = f.output; stance = with_stance nodes c f.stance; root = f.root } in
      let stance = with_stance n now known.stance in
      let well : IsWell known = record {
        row_is = h.row_is;
        root_is_shown = ap is_shown (stance_other nodes f.root c f.stance (not_fresh f.root f.row h.row_is.lawful h.row_is.root_goes_on)) ∙ h.root_is_shown;
      } in
      subst (λ xs. SameStill 1 xs (row_items stance (with_child n f.row).pieces)) (row_items-same nodes known.stance f.stance f.row.pieces (fresh_none f.row h.row_is.lawful) (λ j u. stance_other nodes j c f.stance u))
      (turned known well 1 n (Going (suc left) (Inner child m)) (with_child n f.row) stance (λ p. closed p ∷ fresh nodes ∷ fresh n ∷ []) (stance_items nodes c ++ stance_items n now)
      (λ behind. opened w nodes left child (Gives n (suc left) m behind))
      (record { goes_on = d.goes_on; stands = stance_other nodes n c f.stance other ∙ d.stands })
      (λ j u. stance_other n j now known.stance u)
      (λ p u. child_row n nodes stance now c p (stance_now n now known.stance) (stance_other n nodes now known.stance (not_parent n f.row other) ∙ stance_now nodes c f.stance))
      (row_items-clean stance (at_place n (λ p. closed p ∷ fresh nodes ∷ fresh n ∷ []) f.row.pieces))
      (λ behind b. LineOpens nodes)
      (λ behind b. refl)
      (λ behind. child_line w nodes left child (Gives n (suc left) m behind) ∙ ap (λ z. stance_items nodes c ++ z) (items_stance n now behind) ∙ sym (append_assoc (stance_items nodes c) (stance_items n now) (items behind))))

  -- by the table that it is for
  record IsSame (opened : ℕ) (f : Family) (vars : Vars) (g : Family) (vars' : Vars) : Type 0 where
    left : items_rest w tree (items_of f) None vars ≡ items_rest w tree (items_of g) None vars'
    subs : items_subs w tree (items_of f) vars ≡ opened + items_subs w tree (items_of g) vars'

  is_same : (opened : ℕ) (f : Family) (vars : Vars) (g : Family) → SameStill opened (items_of f) (items_of g) → IsSame opened f vars g vars
  is_same opened f vars g h = record { left = h.left None vars; subs = h.subs vars }

  within : (f : Family) → IsWell f → (n left : ℕ) (own own' : Line) (k : Reply → Serving Answer) (vars vars' : Vars) → Does f n (Waiting own left k) → (m : Moves w tree own vars own' vars') → IsQuietMove m →
      IsSame (opened_move m) f vars (doing n (Waiting own' left k) f) vars'
  within f h n left _ _ k _ _ d (Quietly {line} {line'} {vars} q) u =
      is_same (opened_quietly q) f vars (doing n (Waiting line' left k) f) (changed f h (opened_quietly q) n (Waiting line left k) (Waiting line' left k) d (λ behind. LineWithin q) (λ behind. refl))
  within f h n left _ _ k _ _ d (ByTable t) u = absurd u

  within_stub : (f : Family) → IsWell f → (n : ℕ) (own own' : Line) (stub : List ℕ) (vars vars' : Vars) → Does f n (Apart own stub) → (m : Moves w tree own vars own' vars') → IsQuietMove m →
      IsSame (opened_move m) f vars (doing n (Apart own' stub) f) vars'
  within_stub f h n _ _ stub _ _ d (Quietly {line} {line'} {vars} q) u =
      is_same (opened_quietly q) f vars (doing n (Apart line' stub) f) (changed f h (opened_quietly q) n (Apart line stub) (Apart line' stub) d (λ behind. LineWithinStub q) (λ behind. refl))
  within_stub f h n _ _ stub _ _ d (ByTable t) u = absurd u

  -- one that leaves the row as it is, and opens none
  settles : (f : Family) → IsWell f → (n : ℕ) (s now : Stance) (vars : Vars) → Does f n s → (q : (behind : Line) → Quiet w tree (stance_line n s behind) (stance_line n now behind)) → ((behind : Line) → opened_quietly (q behind) ≡ 0) →
      IsSame 0 f vars (doing n now f) vars
  settles f h n s now vars d q o = is_same 0 f vars (doing n now f) (changed f h 0 n s now d q o)

  quiet_items : (f : Family) (vars : Vars) (g : Family) (vars' : Vars) → IsWell f → (a : Acts w tree f vars g vars') → IsQuiet a → IsSame (opened_by a) f vars g vars'
  quiet_items _ _ _ _ h (Thinks n d) u = absurd u
  quiet_items _ _ _ _ h (Reads n d) u = absurd u
  quiet_items _ _ _ _ h (Learns {f} {vars} {left} {path} {k} n d) u = settles f h n (Going left (Stat path k)) (Going left (k (tree path))) vars d (λ behind. LineLearns) (λ behind. refl)
  quiet_items _ _ _ _ h (Places {f} {vars} {left} {m} n some more d) u = is_same 0 f vars (doing n (Going left (Write more m)) (placing n some f)) (places f h n left some more m d)
  quiet_items _ _ _ _ h (Placed {f} {vars} {left} {m} n d) u = settles f h n (Going left (Write [] m)) (Going left m) vars d (λ behind. LinePlaced) (λ behind. refl)
  quiet_items _ _ _ _ h (Merges {f} {vars} {left} {first} {second} {m} n d) u =
      settles f h n (Going left (Write first (Write second m))) (Going left (Write (first ++ second) m)) vars d (λ behind. LineMerges) (λ behind. refl)
  quiet_items _ _ _ _ h (Opens {f} {vars} {left} {child} {m} n d) u =
      is_same 1 f vars (doing n (Going (suc left) m) (opening n (stance_by child.stub w f.row.nodes left child) f)) (opens f h n left child m d)
  quiet_items _ _ _ _ h (Asks {f} {vars} {left} {child} {k} n number d) u =
      let now = Waiting (opened w number left child Nil) (suc left) k in
      is_same 1 f vars (doing n now f) (changed f h 1 n (Going (suc left) (Call child k)) now d (λ behind. LineAsks number) (λ behind. refl))
  quiet_items _ _ _ _ h (Within {f} {vars} {vars'} {own} {own'} {left} {k} n d m) u = within f h n left own own' k vars vars' d m u
  quiet_items _ _ _ _ h (Hears {f} {vars} {own} {left} {k} n reply d r) u = settles f h n (Waiting own left k) (Going left (k reply)) vars d (λ behind. LineHears reply r) (λ behind. refl)
  quiet_items _ _ _ _ h (Ends {f} {vars} {left} {answer} n d k) u = is_same 0 f vars (ending n f) (finishes f h n left answer d k)
  quiet_items _ _ _ _ h (WithinStub {f} {vars} {vars'} {own} {own'} {stub} n d m) u = within_stub f h n own own' stub vars vars' d m u
  quiet_items _ _ _ _ h (Keeps {f} {g} {vars} own stub ahead behind a b o well body some) u = is_same 0 f vars g (keeps f h g own stub ahead behind a b body some)
  quiet_items _ _ _ _ h (Decides {f} {vars} {own} {stub} n reply d r k) u =
      is_same 0 f vars (ending n (placing n (or_stub (Some stub) reply.answer.status reply.body) f)) (decides f h n own stub reply d r k)

quiet_still : (w : World) (tree : Tree) (f : Family) (vars : Vars) (g : Family) (vars' : Vars) → IsWell f → (a : Acts w tree f vars g vars') → IsQuiet a → still w tree f vars ≡ still w tree g vars'
quiet_still w tree f vars g vars' h a u = still_items w tree f vars ∙ (quiet_items w tree f vars g vars' h a u).left ∙ sym (still_items w tree g vars')

pub quiet_counts : (w : World) (tree : Tree) (f : Family) (vars : Vars) (g : Family) (vars' : Vars) → IsWell f → (a : Acts w tree f vars g vars') → IsQuiet a → subs_still w tree f vars ≡ opened_by a + subs_still w tree g vars'
quiet_counts w tree f vars g vars' h a u = subs_items w tree f vars ∙ (quiet_items w tree f vars g vars' h a u).subs ∙ ap (λ z. opened_by a + z) (sym (subs_items w tree g vars'))

pub is_exact : QuietIsExact
is_exact = record {
  quiet = quiet_still;
  counts = quiet_counts;
  learns = λ w tree f vars n left path k h d. quiet_still w tree f vars (doing n (Going left (k (tree path))) f) vars h (Learns n d) tt;
}
