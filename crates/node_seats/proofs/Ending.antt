-- A subrequest whose bytes come to a node, which doesn't wait for them, has come to its answer: it is over, and its bytes come before those of
-- the next one, or of the node.
use Rattle.std.proofs.Common.{◌≡◌, ◌<◌, ◌≤◌, ℕ, zero, suc, ◌+◌, ◌-◌, ◌==◌, ◌&&◌, nat_lt, Bool, true, false, not, cond, List, [], ◌∷◌, ◌++◌, Option, None, Some, slice_get, refl, sym, ap, ◌∙◌, arith}
use Rattle.std.proofs.lemmas.Bool.{eqb-true}
use Rattle.acts.specs.Vars.{Vars}
use Rattle.acts.specs.Act.{Done}
use Rattle.file_tree.specs.Tree.{Tree}
use Rattle.ngx_pattern.specs.Pattern.{Pattern as SetPattern}
use Rattle.ngx_variables.specs.declared.request.Main.{Main}
use Rattle.site_model.specs.declared.site.Site.{Site}
use Rattle.postpone_filter.specs.Row.{Row as Order, ended, is_open}
use Rattle.request_meaning.specs.Serving.{World, Answer}
use Rattle.request_meaning.specs.Replies.{or_stub}
use Rattle.family_meaning.specs.Line.{Line, has_node, joined}
use Rattle.family_meaning.specs.Line.Line.{Nil, Bytes, Gives, Waits, Stubs}
use Rattle.family_order.specs.Items.{Family, IsWell, is_shown}
use Rattle.family_order.specs.Items.Stance.{Hidden}
use Rattle.node_line.specs.Stances.Own.{Beside, Below}
use Rattle.family_order.specs.Laws.{ShowsTheSame}
use Rattle.node_line.specs.node_turn.Stages.{is_capturing, node_act}
use Rattle.node_line.specs.node_turn.declared.node.Node.{Node}
use Rattle.node_line.specs.node_turn.declared.node.Place.{Place}
use Rattle.node_line.specs.node_turn.declared.node.Place.TheVariants.{Row, Stub, Gathers, Captured}
use Rattle.node_line.specs.Stances.{Opening, Own, filling, owned, under}
use Rattle.node_line.specs.Stances.Spot.{After, Behind}
use Rattle.node_line.proofs.Steps as steps
use Rattle.node_seats.specs.Seats.{Doing, ahead_line, asking_line, doing_by, inner_line, inner_lines, is_asked, is_inner, most_levels, most_nodes, takes_up, withheld_text, is_captured, is_heard, line_from, place_stance, put_by, seen, stance_in, stance_of, stub_in, waited_line}
use Rattle.node_seats.proofs.Framing as framing
use Rattle.node_seats.proofs.Included as waits_too
use Rattle.node_seats.proofs.Inners.{as_sum, inners_first, inners_same, inner_so, later_joined, later_lines, later_none, later_same, later_split, less, line_joined, no_inner, split_at, waited_joined}
use Rattle.node_seats.proofs.Located.{Located, StandsAs, as_itself, inner_is}
use Rattle.node_seats.proofs.Others as others_are
use Rattle.node_seats.proofs.Others.{Changed, SameOrMore}
use Rattle.node_seats.proofs.Returned.{chosen_part}
use Rattle.node_seats.proofs.Seated.{IsBare, line_bare, own_lines, unchanged}

-- ---- a node is in it

joined_node : (line rest : Line) → has_node rest ≡ true → has_node (joined line rest) ≡ true
unfolding joined has_node
joined_node Nil rest h = h
joined_node (Bytes bytes line) rest h = joined_node line rest h
joined_node (Gives node left m line) rest h = refl
joined_node (Waits node own left k line) rest h = refl
joined_node (Stubs own stub line) rest h = refl

-- so it is after what only comes before it
ends_node : (f : Line → Line) → ((rest other : Line) → f (joined rest other) ≡ joined (f rest) other) → (rest : Line) → has_node rest ≡ true → has_node (f rest) ≡ true
unfolding joined
ends_node f ends rest h = ap has_node (ends Nil rest) ∙ joined_node (f Nil) rest h

under_node : (bytes : List ℕ) (rest : Line) → has_node rest ≡ true → has_node (under bytes rest) ≡ true
unfolding under has_node
under_node [] rest h = h
under_node (b ∷ bytes) rest h = under_node bytes rest h

under_both : (first second : List ℕ) (line : Line) → under first (under second line) ≡ under (first ++ second) line
under_both first second line = steps.under_both first second line

-- Where the bytes come: before those of the node, which has no further subrequest so; or before those of the next one.
pub data Comes (nodes nodes' : List Node) (par at : ℕ) (p p' : Node) (moved : List ℕ) : Type 0 where
  First : ((c : ℕ) (m : Node) → at < c → c < most_nodes → slice_get nodes c ≡ Some m → is_inner par p c m ≡ false) → withheld_text p'.place ≡ moved ++ withheld_text p.place →
      ((j : ℕ) → (j == par) ≡ false → (j == at) ≡ false → slice_get nodes j ≡ slice_get nodes' j) → Comes nodes nodes' par at p p' moved
  Next : (y : ℕ) (n n' : Node) → at < y → y < most_nodes → ((c : ℕ) (m : Node) → at < c → c < y → slice_get nodes c ≡ Some m → is_inner par p c m ≡ false) → slice_get nodes y ≡ Some n → slice_get nodes' y ≡ Some n' →
      n' ≡ record n { before = moved ++ n.before } → is_inner par p y n ≡ true → withheld_text p'.place ≡ withheld_text p.place →
      ((j : ℕ) → (j == par) ≡ false → (j == at) ≡ false → (j == y) ≡ false → slice_get nodes j ≡ slice_get nodes' j) → Comes nodes nodes' par at p p' moved

-- The nodes before, and then: `gone` is in the place of the one that is over, and `p'` in that of its parent.
pub record Ends_inner (d : Doing) (nodes : List Node) (d' : Doing) (nodes' : List Node) (par at : ℕ) (p p' x gone : Node) (moved : List ℕ) : Type 0 where
  pub there : slice_get nodes par ≡ Some p
  pub then : slice_get nodes' par ≡ Some p'
  pub takes : takes_up p.place ≡ true
  pub takes_then : takes_up p'.place ≡ true
  pub asks : p'.asks ≡ p.asks
  pub left : p'.left ≡ p.left
  pub capturing : is_capturing p'.stage ≡ is_capturing p.stage
  pub act : d'.act par p' ≡ d.act par p
  pub hears : d'.heard par p' ≡ d.heard par p
  pub it : slice_get nodes at ≡ Some x
  pub it_then : slice_get nodes' at ≡ Some gone
  pub over : gone.over ≡ true
  pub inner : is_inner par p at x ≡ true
  pub few : nat_lt at most_nodes ≡ true
  pub none : x.asks ≡ None
  pub bare : IsBare nodes at x
  pub comes : Comes nodes nodes' par at p p' moved
  pub others : (j : ℕ) → (j == par) ≡ false → SameOrMore par (slice_get nodes j) (slice_get nodes' j)
  pub acts : (j : ℕ) (n : Node) → (j == par) ≡ false → d.act j n ≡ d'.act j n
  pub heard : (j : ℕ) (n : Node) → (j == par) ≡ false → d.heard j n ≡ d'.heard j n
  -- how the bytes that come before a node's own are kept makes no difference to what it does
  pub same_act : (j : ℕ) (n : Node) (bytes : List ℕ) → d'.act j (record n { before = bytes }) ≡ d'.act j n
  pub same_heard : (j : ℕ) (n : Node) (bytes : List ℕ) → d'.heard j (record n { before = bytes }) ≡ d'.heard j n

-- what is kept before a node's own bytes isn't in its line
line_kept : (d : Doing) (nodes : List Node) (levels j : ℕ) (n : Node) (bytes : List ℕ) (rest : Line) → d.act j (record n { before = bytes }) ≡ d.act j n → d.heard j (record n { before = bytes }) ≡ d.heard j n →
    line_from d nodes levels j (record n { before = bytes }) rest ≡ line_from d nodes levels j n rest
unfolding line_from
line_kept d nodes zero j n bytes rest act heard = ap (λ m. under (withheld_text n.place) (Gives j n.left m rest)) act
line_kept d nodes (suc levels) j n bytes rest act heard =
    ahead (inner_lines (line_from d nodes levels) nodes j (record n { before = bytes }) most_nodes) (inner_lines (line_from d nodes levels) nodes j n most_nodes) n.place
    (inners_same (line_from d nodes levels) nodes j (record n { before = bytes }) (line_from d nodes levels) nodes n most_nodes (λ c h r. each c (slice_get nodes c) r))
    (under (withheld_text n.place) (asking_line d nodes (line_from d nodes levels) j (record n { before = bytes }) n.asks rest))
    ∙ ap (λ l. ahead_line n.place (inner_lines (line_from d nodes levels) nodes j n most_nodes) (under (withheld_text n.place) l)) (asking n.asks)
  where
    ahead : (f g : Line → Line) (p : Place) → ((r : Line) → f r ≡ g r) → (line : Line) → ahead_line p f line ≡ ahead_line p g line
    ahead f g Row same line = refl
    ahead f g (Stub stub text) same line = refl
    ahead f g (Gathers stub text) same line = same line
    ahead f g (Captured stub text) same line = same line

    each : (c : ℕ) (o : Option Node) (r : Line) → inner_line (line_from d nodes levels) j (record n { before = bytes }) c o r ≡ inner_line (line_from d nodes levels) j n c o r
    each c None r = refl
    each c (Some m) r = refl

    asking : (asks : Option ℕ) → asking_line d nodes (line_from d nodes levels) j (record n { before = bytes }) asks rest ≡ asking_line d nodes (line_from d nodes levels) j n asks rest
    asking None = ap (λ m. Gives j n.left m rest) act
    asking (Some c) =
        let below = line_from d nodes levels in
        ap (λ m. cond (is_capturing n.stage) (Waits j (waited_line below j c (slice_get nodes c) Nil) n.left (d.heard j (record n { before = bytes })) rest) (waited_line below j c (slice_get nodes c) (Gives j n.left m rest))) act
        ∙ ap (λ k. cond (is_capturing n.stage) (Waits j (waited_line below j c (slice_get nodes c) Nil) n.left k rest) (waited_line below j c (slice_get nodes c) (Gives j n.left (d.act j n) rest))) heard

-- ---- what an inner one is

right_of : (a b : Bool) → (a && b) ≡ true → b ≡ true
right_of true b e = e
right_of false b e = cc

left_of : (a b : Bool) → (a && b) ≡ true → a ≡ true
left_of true b e = refl
left_of false b e = cc

not_false : (b : Bool) → not b ≡ true → b ≡ false
not_false true e = cc
not_false false e = refl

pub record Inner (x : ℕ) (n : Node) (c : ℕ) (m : Node) : Type 0 where
  pub captured : is_captured m.place ≡ true
  pub parent : m.parent ≡ x
  pub after : nat_lt x c ≡ true
  pub goes_on : m.over ≡ false
  pub asks : is_asked c n.asks ≡ false

pub inner_parts : (x : ℕ) (n : Node) (c : ℕ) (m : Node) → is_inner x n c m ≡ true → Inner x n c m
inner_parts x n c m e =
    let a = right_of (is_captured m.place) ((m.parent == x) && (nat_lt x c && (not m.over && not (is_asked c n.asks)))) e in
    let b = right_of (m.parent == x) (nat_lt x c && (not m.over && not (is_asked c n.asks))) a in
    let f = right_of (nat_lt x c) (not m.over && not (is_asked c n.asks)) b in
    record {
      captured = left_of (is_captured m.place) ((m.parent == x) && (nat_lt x c && (not m.over && not (is_asked c n.asks)))) e;
      parent = eqb-true m.parent x (left_of (m.parent == x) (nat_lt x c && (not m.over && not (is_asked c n.asks))) a);
      after = left_of (nat_lt x c) (not m.over && not (is_asked c n.asks)) b;
      goes_on = not_false m.over (left_of (not m.over) (not (is_asked c n.asks)) f);
      asks = not_false (is_asked c n.asks) (right_of (not m.over) (not (is_asked c n.asks)) f);
    }

pub over_not : (x : ℕ) (n : Node) (c : ℕ) (m : Node) → m.over ≡ true → is_inner x n c m ≡ false
over_not x n c m e = ap (λ o. is_captured m.place && ((m.parent == x) && (nat_lt x c && (not o && not (is_asked c n.asks))))) e ∙ none (is_captured m.place) (m.parent == x) (nat_lt x c)
  where
    none : (a b f : Bool) → (a && (b && (f && false))) ≡ false
    none false b f = refl
    none true false f = refl
    none true true false = refl
    none true true true = refl

apart_by : (c x : ℕ) → (c ≡ x → ⊥) → (b : Bool) → (c == x) ≡ b → (c == x) ≡ false
apart_by c x differs true e = absurd (differs (eqb-true c x e))
apart_by c x differs false e = e

less_other : (c x : ℕ) → c < x → (c == x) ≡ false
less_other c x h = apart_by c x (λ e. omega (arith, h, e)) (c == x) refl

more_other : (c x : ℕ) → x < c → (c == x) ≡ false
more_other c x h = apart_by c x (λ e. omega (arith, h, e)) (c == x) refl

module _ (d : Doing) (nodes : List Node) (d' : Doing) (nodes' : List Node) (par at : ℕ) (p p' x gone : Node) (moved : List ℕ) (r : Ends_inner d nodes d' nodes' par at p p' x gone moved) (like : StandsAs p p')
    (up : ℕ) (par_heard : is_heard up nodes par p ≡ true) where
  pub changes : Changed d nodes d' nodes' par p p'
  changes = record { there = r.there; then = r.then; captured = like.captured; parent = like.parent; others = r.others; acts = r.acts; heard = r.heard }

  ahead_captured : (q : Place) (f : Line → Line) (line : Line) → takes_up q ≡ true → ahead_line q f line ≡ f line
  ahead_captured Row f line e = cc
  ahead_captured (Stub stub text) f line e = cc
  ahead_captured (Gathers stub text) f line e = refl
  ahead_captured (Captured stub text) f line e = refl

  is_it : Inner par p at x
  is_it = inner_parts par p at x r.inner

  par_less : par < at
  par_less = less par at (inner_parts par p at x r.inner).after

  -- before the one that is over
  same_before : (c : ℕ) → c < at → (c == par) ≡ false → slice_get nodes c ≡ slice_get nodes' c
  same_before c h e = by r.comes
    where
      by : Comes nodes nodes' par at p p' moved → slice_get nodes c ≡ slice_get nodes' c
      by (First none text same) = same c e (less_other c at h)
      by (Next y n n' after few none there then is inner text same) = same c e (less_other c at h) (less_other c y (omega (arith, h, after)))

  -- after the one whose bytes are longer, or after all
  after_par : (c : ℕ) → at < c → (c == par) ≡ false
  after_par c h = let g = par_less in more_other c par (omega (arith, h, g))

  module _ (levels : ℕ) where
    off : others_are.AsMuch d nodes d' nodes' up par p p' par_heard changes (line_from d nodes levels) (line_from d' nodes' levels)
    off = others_are.off_line d nodes d' nodes' up par p p' par_heard changes levels

    asked_same : (c : ℕ) → is_asked c p.asks ≡ is_asked c p'.asks
    asked_same c = ap (is_asked c) (sym r.asks)

    own : (c : ℕ) (rest : Line) → slice_get nodes c ≡ slice_get nodes' c → inner_line (line_from d nodes levels) par p c (slice_get nodes c) rest ≡ inner_line (line_from d' nodes' levels) par p' c (slice_get nodes' c) rest
    own c rest same = others_are.own_inner d nodes d' nodes' up par p p' par_heard changes (line_from d nodes levels) (line_from d' nodes' levels) off c rest same (asked_same c)

    -- the one for which it waits
    asking_same : (rest : Line) → asking_line d nodes (line_from d nodes levels) par p p.asks rest ≡ asking_line d' nodes' (line_from d' nodes' levels) par p' p'.asks rest
    asking_same rest = by p.asks refl ∙ ap (λ a. asking_line d' nodes' (line_from d' nodes' levels) par p' a rest) (sym r.asks)
      where
        same_at : (c : ℕ) → p.asks ≡ Some c → (c == par) ≡ false → slice_get nodes c ≡ slice_get nodes' c
        same_at c e other = by r.comes
          where
            not_asked : (i : ℕ) → is_asked i p.asks ≡ false → (c == i) ≡ false
            not_asked i f = sym (ap (is_asked i) e) ∙ f

            by : Comes nodes nodes' par at p p' moved → slice_get nodes c ≡ slice_get nodes' c
            by (First none text same) = same c other (not_asked at (inner_parts par p at x r.inner).asks)
            by (Next y n n' after few none there then is inner text same) = same c other (not_asked at (inner_parts par p at x r.inner).asks) (not_asked y (inner_parts par p y n inner).asks)

        by : (asks : Option ℕ) → p.asks ≡ asks → asking_line d nodes (line_from d nodes levels) par p asks rest ≡ asking_line d' nodes' (line_from d' nodes' levels) par p' asks rest
        by None e = ap (λ l. Gives par l (d.act par p) rest) (sym r.left) ∙ ap (λ m. Gives par p'.left m rest) (sym r.act)
        by (Some c) e =
            let below = line_from d nodes levels in
            let below' = line_from d' nodes' levels in
            let waited : (line : Line) → waited_line below par c (slice_get nodes c) line ≡ waited_line below' par c (slice_get nodes' c) line =
            λ line. others_are.own_waited d nodes d' nodes' up par p p' par_heard changes below below' off c line (same_at c e) in
            ap (λ b. cond b (Waits par (waited_line below par c (slice_get nodes c) Nil) p.left (d.heard par p) rest) (waited_line below par c (slice_get nodes c) (Gives par p.left (d.act par p) rest))) (sym r.capturing)
            ∙ ap (λ l. cond (is_capturing p'.stage) (Waits par (waited_line below par c (slice_get nodes c) Nil) l (d.heard par p) rest) (waited_line below par c (slice_get nodes c) (Gives par l (d.act par p) rest))) (sym r.left)
            ∙ ap (λ m. cond (is_capturing p'.stage) (Waits par (waited_line below par c (slice_get nodes c) Nil) p'.left (d.heard par p) rest) (waited_line below par c (slice_get nodes c) (Gives par p'.left m rest))) (sym r.act)
            ∙ ap (λ k. cond (is_capturing p'.stage) (Waits par (waited_line below par c (slice_get nodes c) Nil) p'.left k rest) (waited_line below par c (slice_get nodes c) (Gives par p'.left (d'.act par p') rest))) (sym r.hears)
            ∙ ap (λ l. cond (is_capturing p'.stage) (Waits par l p'.left (d'.heard par p') rest) (waited_line below par c (slice_get nodes c) (Gives par p'.left (d'.act par p') rest))) (waited Nil)
            ∙ ap (λ l. cond (is_capturing p'.stage) (Waits par (waited_line below' par c (slice_get nodes' c) Nil) p'.left (d'.heard par p') rest) l) (waited (Gives par p'.left (d'.act par p') rest))

    -- a node is in what comes after
    asking_node : (rest : Line) → has_node (asking_line d nodes (line_from d nodes levels) par p p.asks rest) ≡ true
    unfolding has_node
    asking_node rest = by p.asks
      where
        by : (asks : Option ℕ) → has_node (asking_line d nodes (line_from d nodes levels) par p asks rest) ≡ true
        by None = refl
        by (Some c) = either (is_capturing p.stage)
          where
            either : (b : Bool) → has_node (cond b (Waits par (waited_line (line_from d nodes levels) par c (slice_get nodes c) Nil) p.left (d.heard par p) rest) (waited_line (line_from d nodes levels) par c (slice_get nodes c) (Gives par p.left (d.act par p) rest))) ≡ true
            either true = refl
            either false = ends_node (waited_line (line_from d nodes levels) par c (slice_get nodes c)) (waited_joined d nodes (line_from d nodes levels) (line_joined d nodes levels) par c (slice_get nodes c)) (Gives par p.left (d.act par p) rest) refl

    module _ (rest : Line) where
      asking : Line
      asking = asking_line d nodes (line_from d nodes levels) par p p.asks rest

      later_was : Line
      later_was = later_lines (line_from d nodes levels) nodes par p (suc at) (most_nodes - suc at) (under (withheld_text p.place) (asking_line d nodes (line_from d nodes levels) par p p.asks rest))

      later_is : Line
      later_is = later_lines (line_from d' nodes' levels) nodes' par p' (suc at) (most_nodes - suc at) (under (withheld_text p'.place) (asking_line d' nodes' (line_from d' nodes' levels) par p' p'.asks rest))

      -- none is among those with such numbers
      none_among : (below : ℕ → Node → Line → Line) (ns : List Node) (q : Node) (c : ℕ) (o : Option Node) (line : Line) → slice_get ns c ≡ o → ((m : Node) → slice_get ns c ≡ Some m → is_inner par q c m ≡ false) → inner_line below par q c o line ≡ line
      none_among below ns q c None line e none = refl
      none_among below ns q c (Some m) line e none = no_inner below par q c m line (none m e)

      none_then : (c : ℕ) → slice_get nodes c ≡ slice_get nodes' c → ((m : Node) → slice_get nodes c ≡ Some m → is_inner par p c m ≡ false) → (m : Node) → slice_get nodes' c ≡ Some m → is_inner par p' c m ≡ false
      none_then c same none m e = ap (λ a. is_captured m.place && ((m.parent == par) && (nat_lt par c && (not m.over && not (is_asked c a))))) r.asks ∙ none m (same ∙ e)

      longer : later_is ≡ under moved later_was
      unfolding later_is later_was
      longer = by r.comes
        where
          below : ℕ → Node → Line → Line
          below = line_from d nodes levels

          below' : ℕ → Node → Line → Line
          below' = line_from d' nodes' levels

          ends_now : (a b c : ℕ) → suc a ≤ c → a < c
          ends_now a b c h = omega (arith, h)

          in_most : (a b c : ℕ) → a < b → c < suc a + (b - suc a) → c < b
          in_most a b c h k = omega (arith, h, k)

          sum_to : (a y b : ℕ) → a < y → y < b → b - suc a ≡ (y - suc a) + suc (b - suc y)
          sum_to a y b h k = omega (arith, h, k)

          at_is : (a y : ℕ) → a < y → suc a + (y - suc a) ≡ y
          at_is a y h = omega (arith, h)

          up_to : (a y c : ℕ) → a < y → c < suc a + (y - suc a) → c < y
          up_to a y c h k = omega (arith, h, k)

          by : Comes nodes nodes' par at p p' moved → later_lines (line_from d' nodes' levels) nodes' par p' (suc at) (most_nodes - suc at) (under (withheld_text p'.place) (asking_line d' nodes' (line_from d' nodes' levels) par p' p'.asks rest))
              ≡ under moved (later_lines (line_from d nodes levels) nodes par p (suc at) (most_nodes - suc at) (under (withheld_text p.place) (asking_line d nodes (line_from d nodes levels) par p p.asks rest)))
          by (First none text same) =
              let size = less at most_nodes r.few in
              later_none below' nodes' par p' (suc at) (most_nodes - suc at) (λ c h k line.
              let more = ends_now at at c h in
              let same_c = same c (after_par c more) (more_other c at more) in
              none_among below' nodes' p' c (slice_get nodes' c) line refl (none_then c same_c (λ m e. none c m more (in_most at most_nodes c size k) e))) (under (withheld_text p'.place) (asking_line d' nodes' below' par p' p'.asks rest))
              ∙ ap (λ t. under t (asking_line d' nodes' below' par p' p'.asks rest)) text
              ∙ ap (under (moved ++ withheld_text p.place)) (sym (asking_same rest))
              ∙ sym (under_both moved (withheld_text p.place) (asking_line d nodes below par p p.asks rest))
              ∙ ap (under moved) (sym (later_none below nodes par p (suc at) (most_nodes - suc at) (λ c h k line.
              none_among below nodes p c (slice_get nodes c) line refl (λ m e. none c m (ends_now at at c h) (in_most at most_nodes c size k) e)) (under (withheld_text p.place) (asking_line d nodes below par p p.asks rest))))
          by (Next y n n' after few none there then is inner text same) =
              let k = y - suc at in
              let m = most_nodes - suc y in
              let it = inner_parts par p y n inner in
              let own_text : Line = under (withheld_text p.place) (asking_line d nodes below par p p.asks rest) in
              let own_text' : Line = under (withheld_text p'.place) (asking_line d' nodes' below' par p' p'.asks rest) in
              let g : Line = later_lines below nodes par p (suc y) m own_text in
              let g' : Line = later_lines below' nodes' par p' (suc y) m own_text' in
              let same_g : g' ≡ g =
              sym (later_same below nodes par p below' nodes' p' (suc y) m (λ c h line. own c line (same c (after_par c (omega (arith, h, after))) (more_other c at (omega (arith, h, after))) (more_other c y (ends_now y y c h)))) own_text'
              ) ∙ ap (later_lines below nodes par p (suc y) m) (ap (λ t. under t (asking_line d' nodes' below' par p' p'.asks rest)) text ∙ ap (under (withheld_text p.place)) (sym (asking_same rest))) in
              let off_n : (line : Line) → below' y n' line ≡ below y n line = λ line.
              ap (λ (z : Node). below' y z line) is ∙ line_kept d' nodes' levels y n (moved ++ n.before) line (r.same_act y n (moved ++ n.before)) (r.same_heard y n (moved ++ n.before))
              ∙ sym (off y n line there (others_are.own_clear d nodes d' nodes' up par p p' par_heard changes y n there it.captured it.parent)) in
              -- then
              ap (λ i. later_lines below' nodes' par p' (suc at) i own_text') (sum_to at y most_nodes after few)
              ∙ later_split below' nodes' par p' (suc at) k m own_text'
              ∙ ap (λ i. later_lines below' nodes' par p' (suc at) k (inner_line below' par p' i (slice_get nodes' i) (later_lines below' nodes' par p' (suc i) m own_text'))) (at_is at y after)
              ∙ later_none below' nodes' par p' (suc at) k (λ c h j line.
              let more = ends_now at at c h in
              let fewer = up_to at y c after j in
              none_among below' nodes' p' c (slice_get nodes' c) line refl (none_then c (same c (after_par c more) (more_other c at more) (less_other c y fewer)) (λ z e. none c z more fewer e))) (inner_line below' par p' y (slice_get nodes' y) g')
              ∙ next_is y n n' it is then g'
              ∙ ap (under (moved ++ n.before)) (put_is_same y n n' is off_n g' g same_g)
              ∙ sym (under_both moved n.before (put_by (stub_in n.place) (below y n) g))
              -- before
              ∙ ap (under moved) (sym (ap (λ i. later_lines below nodes par p (suc at) i own_text) (sum_to at y most_nodes after few)
              ∙ later_split below nodes par p (suc at) k m own_text
              ∙ ap (λ i. later_lines below nodes par p (suc at) k (inner_line below par p i (slice_get nodes i) (later_lines below nodes par p (suc i) m own_text))) (at_is at y after)
              ∙ later_none below nodes par p (suc at) k (λ c h j line. none_among below nodes p c (slice_get nodes c) line refl (λ z e. none c z (ends_now at at c h) (up_to at y c after j) e)) (inner_line below par p y (slice_get nodes y) g)
              ∙ ap (λ o. inner_line below par p y o g) there ∙ inner_so below par p y n g inner))
            where
              -- the next one then
              next_is : (y : ℕ) (n n' : Node) → Inner par p y n → n' ≡ record n { before = moved ++ n.before } → slice_get nodes' y ≡ Some n' → (g' : Line) →
                  inner_line (line_from d' nodes' levels) par p' y (slice_get nodes' y) g' ≡ under (moved ++ n.before) (put_by (stub_in n'.place) (line_from d' nodes' levels y n') g')
              next_is y n n' it is then g' =
                  inner_is (line_from d' nodes' levels) par p' y (slice_get nodes' y) n' g' then (ap (λ (z : Node). is_captured z.place) is ∙ it.captured) (ap (λ (z : Node). z.parent) is ∙ it.parent) it.after
                  (ap (λ (z : Node). z.over) is ∙ it.goes_on) (ap (is_asked y) r.asks ∙ it.asks)
                  ∙ ap (λ b. under b (put_by (stub_in n'.place) (line_from d' nodes' levels y n') g')) (ap (λ (z : Node). z.before) is)

              put_is_same : (y : ℕ) (n n' : Node) → n' ≡ record n { before = moved ++ n.before } → ((line : Line) → line_from d' nodes' levels y n' line ≡ line_from d nodes levels y n line) → (g' g : Line) → g' ≡ g →
                  put_by (stub_in n'.place) (line_from d' nodes' levels y n') g' ≡ put_by (stub_in n.place) (line_from d nodes levels y n) g
              put_is_same y n n' is same_line g' g same_g =
                  ap (λ (z : Node). put_by (stub_in z.place) (line_from d' nodes' levels y n') g') is ∙ ap (put_by (stub_in n.place) (line_from d' nodes' levels y n')) same_g ∙ put_so (stub_in n.place)
                where
                  put_so : (s : Option (List ℕ)) → put_by s (line_from d' nodes' levels y n') g ≡ put_by s (line_from d nodes levels y n) g
                  put_so None = same_line g
                  put_so (Some stub) = ap (λ line. Stubs line stub g) (same_line Nil)

      -- the line of the node, before
      line_was : line_from d nodes (suc levels) par p rest ≡ joined (inner_lines (line_from d nodes levels) nodes par p at Nil) (under x.before (put_by (stub_in x.place) (line_from d nodes levels at x) later_was))
      unfolding line_from later_was
      line_was =
          let below = line_from d nodes levels in
          let own_text : Line = under (withheld_text p.place) (asking_line d nodes below par p p.asks rest) in
          ahead_captured p.place (inner_lines below nodes par p most_nodes) own_text r.takes
          ∙ ap (λ k. inner_lines below nodes par p k own_text) (as_sum at most_nodes r.few)
          ∙ split_at below nodes par p at (most_nodes - suc at) own_text
          ∙ ap (inner_lines below nodes par p at) (ap (λ o. inner_line below par p at o later_was) r.it ∙ inner_so below par p at x later_was r.inner)
          ∙ inners_first d nodes levels par p at (under x.before (put_by (stub_in x.place) (below at x) later_was))

      -- and then
      line_is : line_from d' nodes' (suc levels) par p' rest ≡ joined (inner_lines (line_from d nodes levels) nodes par p at Nil) (under moved later_was)
      unfolding line_from later_is
      line_is =
          let below' = line_from d' nodes' levels in
          let own_text : Line = under (withheld_text p'.place) (asking_line d' nodes' below' par p' p'.asks rest) in
          ahead_captured p'.place (inner_lines below' nodes' par p' most_nodes) own_text r.takes_then
          ∙ ap (λ k. inner_lines below' nodes' par p' k own_text) (as_sum at most_nodes r.few)
          ∙ split_at below' nodes' par p' at (most_nodes - suc at) own_text
          ∙ ap (inner_lines below' nodes' par p' at) (ap (λ o. inner_line below' par p' at o later_is) r.it_then ∙ no_inner below' par p' at gone later_is (over_not par p' at gone r.over) ∙ longer)
          ∙ sym (own_lines d nodes d' nodes' up par p p' par_heard changes levels at (λ c h e. same_before c h e) (λ c h e. asked_same c) (under moved later_was))
          ∙ inners_first d nodes levels par p at (under moved later_was)

      has_some : has_node later_was ≡ true
      unfolding later_was
      has_some =
          ends_node (later_lines (line_from d nodes levels) nodes par p (suc at) (most_nodes - suc at)) (later_joined d nodes (line_from d nodes levels) (line_joined d nodes levels) par p (suc at) (most_nodes - suc at))
          (under (withheld_text p.place) (asking_line d nodes (line_from d nodes levels) par p p.asks rest)) (under_node (withheld_text p.place) (asking_line d nodes (line_from d nodes levels) par p p.asks rest) (asking_node rest))

-- ---- the step

module _ (laws : ShowsTheSame) (w : World) (patterns : List SetPattern) (site : Site) (main : Main) (row : Order) (nodes nodes' : List Node) (texts : ℕ → List ℕ) (par at : ℕ) (p p' x gone : Node) (answer : Answer)
    (r : Ends_inner (doing_by w patterns site main texts) nodes (doing_by w patterns site main texts) nodes' par at p p' x gone (x.before ++ or_stub (stub_in x.place) answer.status (withheld_text x.place)))
    (like : StandsAs p p') (up : ℕ) (par_heard : is_heard up nodes par p ≡ true)
    (tree : Tree) (vars : Vars) (open_at : is_open at row.pieces ≡ true) (well : IsWell (seen w patterns site main row nodes texts))
    (closed : (j : ℕ) → is_open j (ended at row).pieces ≡ cond (j == at) false (is_open j row.pieces)) (done : node_act w patterns site main x (texts at) ≡ Done answer)
    (q : Located most_levels (doing_by w patterns site main texts) nodes par p up 2 par p) (open_h : is_open q.h row.pieces ≡ true) where
  abbrev before : Family
  before = seen w patterns site main row nodes texts

  abbrev does : Doing
  does = doing_by w patterns site main texts

  abbrev chosen : List ℕ
  chosen = or_stub (stub_in x.place) answer.status (withheld_text x.place)

  abbrev ahead : Line
  ahead = inner_lines (line_from (doing_by w patterns site main texts) nodes (1 + q.spare)) nodes par p at Nil

  abbrev later : Line
  later = later_was (doing_by w patterns site main texts) nodes (doing_by w patterns site main texts) nodes' par at p p' x gone (x.before ++ or_stub (stub_in x.place) answer.status (withheld_text x.place)) r like up par_heard (1 + q.spare) q.rest

  more : (a : ℕ) → 2 + a ≡ suc (1 + a)
  more a = omega arith

  shown : (own : Own) (line : Line) → is_shown (owned own line) ≡ true
  shown (Beside stub) line = refl
  shown (Below left k) line = refl

  hidden : stance_in (doing_by w patterns site main texts) nodes most_levels at ≡ Hidden
  hidden = ap (stance_of (doing_by w patterns site main texts) nodes most_levels at) r.it ∙ by x.place (inner_parts par p at x r.inner).captured
    where
      by : (place : Place) → is_captured place ≡ true → place_stance (doing_by w patterns site main texts) nodes most_levels at x place ≡ Hidden
      by Row f = cc
      by (Stub stub text) f = cc
      by (Gathers stub text) f = cc
      by (Captured stub text) f = refl

  was : stance_in (doing_by w patterns site main texts) nodes most_levels q.h
      ≡ owned q.own (filling (Behind x.before (After ahead q.spot)) (waits_too.part (stub_in x.place) (withheld_text x.place) at x.left (Done answer) later))
  was =
      q.is (doing_by w patterns site main texts) nodes p (unchanged (doing_by w patterns site main texts) nodes par p r.there) p r.there (as_itself p)
      ∙ ap (λ line. owned q.own (filling q.spot line))
      (ap (λ l. line_from (doing_by w patterns site main texts) nodes l par p q.rest) (more q.spare)
      ∙ line_was (doing_by w patterns site main texts) nodes (doing_by w patterns site main texts) nodes' par at p p' x gone (x.before ++ or_stub (stub_in x.place) answer.status (withheld_text x.place)) r like up par_heard (1 + q.spare) q.rest)
      ∙ ap (λ line. owned q.own (filling (Behind x.before (After ahead q.spot)) line)) (by (stub_in x.place))
    where
      alone : (line : Line) → line_from (doing_by w patterns site main texts) nodes (1 + q.spare) at x line ≡ under (withheld_text x.place) (Gives at x.left (Done answer) line)
      alone line = line_bare (doing_by w patterns site main texts) nodes (1 + q.spare) at x line r.none r.bare ∙ ap (λ m. under (withheld_text x.place) (Gives at x.left m line)) done

      by : (s : Option (List ℕ)) → put_by s (line_from (doing_by w patterns site main texts) nodes (1 + q.spare) at x) later ≡ waits_too.part s (withheld_text x.place) at x.left (Done answer) later
      by None = alone later
      by (Some stub) = ap (λ line. Stubs line stub later) (alone Nil)

  -- so it isn't told of at its own number
  other : (at == q.h) ≡ false
  other = by (at == q.h) refl
    where
      no : (own : Own) (line : Line) → owned own line ≡ Hidden → ⊥
      no (Beside stub) line e = cc
      no (Below left k) line e = cc

      by : (b : Bool) → (at == q.h) ≡ b → b ≡ false
      by true e =
          absurd (no q.own (filling (Behind x.before (After ahead q.spot)) (waits_too.part (stub_in x.place) (withheld_text x.place) at x.left (Done answer) later))
          (sym was ∙ ap (stance_in (doing_by w patterns site main texts) nodes most_levels) (sym (eqb-true at q.h e)) ∙ hidden))
      by false e = refl

  is : stance_in (doing_by w patterns site main texts) nodes' most_levels q.h ≡ owned q.own (filling (Behind (x.before ++ chosen) (After ahead q.spot)) later)
  is =
      let moved = x.before ++ or_stub (stub_in x.place) answer.status (withheld_text x.place) in
      q.is (doing_by w patterns site main texts) nodes' p' (changes (doing_by w patterns site main texts) nodes (doing_by w patterns site main texts) nodes' par at p p' x gone moved r like up par_heard) p' r.then like
      ∙ ap (λ line. owned q.own (filling q.spot line))
      (ap (λ l. line_from (doing_by w patterns site main texts) nodes' l par p' q.rest) (more q.spare)
      ∙ line_is (doing_by w patterns site main texts) nodes (doing_by w patterns site main texts) nodes' par at p p' x gone moved r like up par_heard (1 + q.spare) q.rest)

  pub comes : Opening w tree 0 before vars (seen w patterns site main (ended at row) nodes' texts) vars
  comes =
      let moved = x.before ++ or_stub (stub_in x.place) answer.status (withheld_text x.place) in
      let some = has_some (doing_by w patterns site main texts) nodes (doing_by w patterns site main texts) nodes' par at p p' x gone moved r like up par_heard (1 + q.spare) q.rest in
      steps.alike (framing.begins laws w patterns site main row nodes texts q.h (owned q.own (filling (Behind x.before (After ahead q.spot)) (waits_too.part (stub_in x.place) (withheld_text x.place) at x.left (Done answer) later))) was)
      (steps.then (chosen_part w tree laws q.h at x.left before open_h q.own (Behind x.before (After ahead q.spot)) later (stub_in x.place) (withheld_text x.place) answer vars)
      (steps.then (steps.leaves_inside w tree laws q.h at x.left before open_h q.own (After ahead q.spot) later x.before chosen answer vars some)
      (framing.ends laws w patterns site main row nodes texts nodes' q.h
      (others_are.changed_same (doing_by w patterns site main texts) nodes (doing_by w patterns site main texts) nodes' up par p p' par_heard (changes (doing_by w patterns site main texts) nodes (doing_by w patterns site main texts) nodes' par at p p' x gone moved r like up par_heard) most_levels q.h q.path)
      at (owned q.own (filling (Behind (x.before ++ chosen) (After ahead q.spot)) later)) (shown q.own (filling (Behind (x.before ++ chosen) (After ahead q.spot)) later))
      (sym is) well open_at hidden other closed tree vars)))
