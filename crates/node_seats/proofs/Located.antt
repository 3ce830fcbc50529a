-- Where in a line a node is whose bytes don't go to the row itself.
use Rattle.std.proofs.Common.{◌≡◌, ◌<◌, ◌≤◌, ℕ, zero, suc, ◌+◌, ◌-◌, ◌==◌, ◌&&◌, nat_lt, Bool, true, false, not, cond, List, Option, None, Some, slice_get, refl, sym, ap, ◌∙◌, arith}
use Rattle.std.proofs.lemmas.Bool.{eqb-true}
use Rattle.family_meaning.specs.Line.{Line}
use Rattle.family_meaning.specs.Line.Line.{Nil, Gives, Waits}
use Rattle.family_order.specs.Items.Stance.{Waiting, Apart}
use Rattle.node_line.specs.node_turn.Stages.{is_capturing, is_in_row}
use Rattle.node_line.specs.node_turn.declared.node.Node.{Node}
use Rattle.node_line.specs.node_turn.declared.node.Place.{Place}
use Rattle.node_line.specs.node_turn.declared.node.Place.TheVariants.{Row, Stub, Gathers, Captured}
use Rattle.node_line.specs.Stances.{Own, Spot, filling, owned, under}
use Rattle.node_line.specs.Stances.Own.{Beside, Below}
use Rattle.node_line.specs.Stances.Spot.{Whole, Behind, After, For, Stubbed}
use Rattle.node_seats.proofs.Above.{Above, Takes, above_is, eq_self, false_true, itself, some_same, up_path}
use Rattle.node_seats.proofs.Above.Takes.{Asks, Includes}
use Rattle.node_seats.proofs.Inners.{ahead_first, ahead_same, as_sum, inner_so, inners_first, inners_same, later_lines, later_same, no_inner, split_at}
use Rattle.node_seats.proofs.Others as others_are
use Rattle.node_seats.proofs.Others.{Changed}
use Rattle.node_seats.proofs.Paths.{on_path, path_top, path_next}
use Rattle.node_seats.specs.Seats.{Doing, ahead_line, asking_line, inner_line, inner_lines, is_asked, most_nodes, withheld_text, is_captured, is_heard, line_from, place_stance, put_by, row_stance, stance_in, stance_of, stub_in, takes_up, waited_line}

-- ---- what stays

-- a node that is where another was
pub record StandsAs (old new : Node) : Type 0 where
  pub parent : new.parent ≡ old.parent
  pub captured : is_captured new.place ≡ is_captured old.place
  pub stub : stub_in new.place ≡ stub_in old.place
  pub row : is_in_row new.place ≡ is_in_row old.place
  pub takes : takes_up new.place ≡ takes_up old.place
  pub before : new.before ≡ old.before
  pub over : new.over ≡ old.over

pub as_itself : (n : Node) → StandsAs n n
as_itself n = record { parent = refl; captured = refl; stub = refl; row = refl; takes = refl; before = refl; over = refl }

-- ---- lines

pub put_spot : Option (List ℕ) → (rest : Line) → Spot → Spot
put_spot None rest spot = spot
put_spot (Some stub) rest spot = Stubbed stub rest spot

pub put_rest : Option (List ℕ) → (rest : Line) → Line
put_rest None rest = rest
put_rest (Some stub) rest = Nil

put_is : (stub : Option (List ℕ)) (line : Line → Line) (rest : Line) (spot : Spot) → filling spot (put_by stub line rest) ≡ filling (put_spot stub rest spot) (line (put_rest stub rest))
unfolding put_spot put_rest
put_is None line rest spot = refl
put_is (Some stub) line rest spot = refl

pub waited_is : (below : ℕ → Node → Line → Line) (parent child : ℕ) (o : Option Node) (n : Node) (rest : Line) → o ≡ Some n → is_captured n.place ≡ true → n.parent ≡ parent →
    waited_line below parent child o rest ≡ put_by (stub_in n.place) (below child n) rest
waited_is below parent child o n rest there captured above =
    ap (λ x. waited_line below parent child x rest) there
    ∙ ap (λ b. cond (b && (n.parent == parent)) (put_by (stub_in n.place) (below child n) rest) rest) captured
    ∙ ap (λ b. cond b (put_by (stub_in n.place) (below child n) rest) rest) (ap (λ i. i == parent) above ∙ eq_self parent)

-- the line of a node to which bytes come
one_more : (a b : ℕ) → suc a + b ≡ suc (a + b)
one_more a b = omega arith

pub above_line : (d : Doing) (nodes : List Node) (depth spare par : ℕ) (p : Node) (rest : Line) → line_from d nodes (suc depth + spare) par p rest
    ≡ ahead_line p.place (inner_lines (line_from d nodes (depth + spare)) nodes par p most_nodes) (under (withheld_text p.place) (asking_line d nodes (line_from d nodes (depth + spare)) par p p.asks rest))
unfolding line_from
above_line d nodes depth spare par p rest = ap (λ l. line_from d nodes l par p rest) (one_more depth spare)

-- a subrequest whose bytes come to a node
pub inner_is : (below : ℕ → Node → Line → Line) (x : ℕ) (n : Node) (c : ℕ) (o : Option Node) (m : Node) (rest : Line) → o ≡ Some m → is_captured m.place ≡ true → m.parent ≡ x → nat_lt x c ≡ true → m.over ≡ false → is_asked c n.asks ≡ false →
    inner_line below x n c o rest ≡ under m.before (put_by (stub_in m.place) (below c m) rest)
inner_is below x n c o m rest there captured parent less over asks =
    ap (λ i. inner_line below x n c i rest) there
    ∙ inner_so below x n c m rest
    (ap (λ b. b && ((m.parent == x) && (nat_lt x c && (not m.over && not (is_asked c n.asks))))) captured
    ∙ ap (λ b. b && (nat_lt x c && (not m.over && not (is_asked c n.asks)))) (ap (λ i. i == x) parent ∙ eq_self x)
    ∙ ap (λ b. b && (not m.over && not (is_asked c n.asks))) less
    ∙ ap (λ b. not b && not (is_asked c n.asks)) over
    ∙ ap not asks)

-- the one for which a node waits is none
pub asked_not : (below : ℕ → Node → Line → Line) (x : ℕ) (n : Node) (c : ℕ) (o : Option Node) (rest : Line) → is_asked c n.asks ≡ true → inner_line below x n c o rest ≡ rest
asked_not below x n c None rest asks = refl
asked_not below x n c (Some m) rest asks =
    no_inner below x n c m rest
    (ap (λ a. is_captured m.place && ((m.parent == x) && (nat_lt x c && (not m.over && not a)))) asks
    ∙ none (is_captured m.place) (m.parent == x) (nat_lt x c) (not m.over))
  where
    none : (a b e f : Bool) → (a && (b && (e && (f && false)))) ≡ false
    none false b e f = refl
    none true false e f = refl
    none true true false f = refl
    none true true true false = refl
    none true true true true = refl

-- ---- where it is

-- A node whose bytes don't go to the row is in the line that the node `h` has, whatever it does, and whatever the node `low` does
-- that is it or below it.
pub record Located (levels : ℕ) (d : Doing) (nodes : List Node) (low : ℕ) (lower : Node) (up depth at : ℕ) (old : Node) : Type 0 where
  pub h : ℕ
  pub host : Node
  pub there : slice_get nodes h ≡ Some host
  pub goes_on : host.over ≡ false
  pub path : (j : ℕ) (n : Node) → on_path up nodes at (Some old) j ≡ true → (j == h) ≡ false → slice_get nodes j ≡ Some n → is_captured n.place ≡ true
  pub own : Own
  pub spot : Spot
  pub rest : Line
  pub spare : ℕ
  pub is : (d' : Doing) (nodes' : List Node) (now : Node) → Changed d nodes d' nodes' low lower now → (new : Node) → slice_get nodes' at ≡ Some new → StandsAs old new →
      stance_in d' nodes' levels h ≡ owned own (filling spot (line_from d' nodes' (depth + spare) at new rest))

module _ (levels : ℕ) (d : Doing) (nodes : List Node) (top low : ℕ) (lower : Node) (low_there : slice_get nodes low ≡ Some lower) (low_heard : is_heard top nodes low lower ≡ true) where
  same_captured : (at j : ℕ) (old n : Node) → slice_get nodes at ≡ Some old → slice_get nodes j ≡ Some n → (j == at) ≡ true → is_captured old.place ≡ true → is_captured n.place ≡ true
  same_captured at j old n here e f captured = ap (λ (x : Node). is_captured x.place) (some_same n old (sym e ∙ ap (slice_get nodes) (eqb-true j at f) ∙ here)) ∙ captured

  -- a subrequest with a stub has a line of its own
  located_here : (up depth at : ℕ) (old : Node) → slice_get nodes at ≡ Some old → old.over ≡ false → depth + up ≡ suc levels → is_captured old.place ≡ false → is_in_row old.place ≡ false → Located levels d nodes low lower up depth at old
  located_here up depth at old here over size free apart = by old.place refl
    where
      same_stub : (a b : List ℕ) → Some a ≡ Some b → a ≡ b
      same_stub a b e = cc

      so : (d' : Doing) (nodes' : List Node) (stub : List ℕ) (new : Node) (p : Place) → is_captured p ≡ false → is_in_row p ≡ false → stub_in p ≡ Some stub →
          place_stance d' nodes' levels at new p ≡ Apart (line_from d' nodes' (suc levels) at new Nil) stub
      so d' nodes' stub new Row c r s = cc
      so d' nodes' stub new (Stub stub' text) c r s = ap (Apart (line_from d' nodes' (suc levels) at new Nil)) (same_stub stub' stub s)
      so d' nodes' stub new (Gathers stub' text) c r s = ap (Apart (line_from d' nodes' (suc levels) at new Nil)) (same_stub stub' stub s)
      so d' nodes' stub new (Captured stub' text) c r s = cc

      of : (stub : List ℕ) → stub_in old.place ≡ Some stub → Located levels d nodes low lower up depth at old
      of stub its_stub = record {
        h = at;
        host = old;
        there = here;
        goes_on = over;
        path = λ j n on other e'. absurd (false_true (sym other ∙ path_top up nodes at old j free on));
        own = Beside stub;
        spot = Whole;
        rest = Nil;
        spare = up;
        is = λ d' nodes' now ch new there like.
            ap (stance_of d' nodes' levels at) there ∙ so d' nodes' stub new new.place (like.captured ∙ free) (like.row ∙ apart) (like.stub ∙ its_stub)
            ∙ ap (λ l. Apart (line_from d' nodes' l at new Nil) stub) (sym size);
      }

      by : (p : Place) → old.place ≡ p → Located levels d nodes low lower up depth at old
      by Row e = absurd (false_true (sym apart ∙ ap is_in_row e))
      by (Captured stub text) e = absurd (false_true (sym free ∙ ap is_captured e))
      by (Stub stub text) e = of stub (ap stub_in e)
      by (Gathers stub text) e = of stub (ap stub_in e)

  -- a node in the row waits for its reply
  located_first : (up depth at : ℕ) (old p : Node) → on_path top nodes low (Some lower) at ≡ true → slice_get nodes at ≡ Some old → p.over ≡ false → suc depth + up ≡ suc levels → slice_get nodes old.parent ≡ Some p → p.asks ≡ Some at → p.place ≡ Row →
      is_captured old.place ≡ true → Located levels d nodes low lower (suc up) depth at old
  located_first up depth at old p on_it here over size above asks row captured =
      let par = old.parent in
      let stub = stub_in old.place in
      record {
        h = par;
        host = p;
        there = above;
        goes_on = over;
        path = λ j n on other e'. on_first j n on other e' (j == at) refl;
        own = Below p.left (d.heard par p);
        spot = put_spot stub Nil Whole;
        rest = put_rest stub Nil;
        spare = up;
        is = λ d' nodes' now ch new there like.
            let other = others_are.above_other d nodes d' nodes' top low lower now low_heard ch at old on_it here captured in
            ap (stance_of d' nodes' levels par) (others_are.path_same d nodes d' nodes' top low lower now low_heard ch par p (up_path nodes top low at lower old low_there low_heard on_it here captured) other above)
            ∙ ap (place_stance d' nodes' levels par p) row
            ∙ ap (row_stance d' nodes' levels par p) asks
            ∙ ap (λ k. Waiting (waited_line (line_from d' nodes' levels) par at (slice_get nodes' at) Nil) p.left k) (sym (ch.heard par p other))
            ∙ ap (λ line. Waiting line p.left (d.heard par p))
            (waited_is (line_from d' nodes' levels) par at (slice_get nodes' at) new Nil there (like.captured ∙ captured) like.parent
            ∙ ap (λ s. put_by s (line_from d' nodes' levels at new) Nil) like.stub
            ∙ put_is stub (line_from d' nodes' levels at new) Nil Whole)
            ∙ ap (λ l. Waiting (filling (put_spot stub Nil Whole) (line_from d' nodes' l at new (put_rest stub Nil))) p.left (d.heard par p)) (less depth up levels size);
      }
    where
      less : (a b c : ℕ) → suc a + b ≡ suc c → c ≡ a + b
      less a b c e = omega (arith, e)

      on_first : (j : ℕ) (n : Node) → on_path (suc up) nodes at (Some old) j ≡ true → (j == old.parent) ≡ false → slice_get nodes j ≡ Some n → (b : Bool) → (j == at) ≡ b → is_captured n.place ≡ true
      on_first j n on other e true f = same_captured at j old n here e f captured
      on_first j n on other e false f = absurd (false_true (sym other ∙ path_top up nodes old.parent p j (ap is_captured row) (path_next up nodes at old p j above f on)))

  -- what takes up the bytes of a node is in a line
  module _ (up depth at : ℕ) (old p : Node) (on_it : on_path top nodes low (Some lower) at ≡ true) (here : slice_get nodes at ≡ Some old) (above : slice_get nodes old.parent ≡ Some p) (captured : is_captured old.place ≡ true)
      (q : Located levels d nodes low lower up (suc depth) old.parent p) where
    abbrev inner : (e : Doing) (ns : List Node) → Line → Line
    inner e ns = inner_lines (line_from e ns (depth + q.spare)) ns old.parent p most_nodes

    abbrev below : ℕ → Node → Line → Line
    below = line_from d nodes (depth + q.spare)

    module _ (d' : Doing) (nodes' : List Node) (now : Node) (ch : Changed d nodes d' nodes' low lower now) where
      abbrev below' : ℕ → Node → Line → Line
      below' = line_from d' nodes' (depth + q.spare)

      other : (old.parent == low) ≡ false
      other = others_are.above_other d nodes d' nodes' top low lower now low_heard ch at old on_it here captured

      clear : (c : ℕ) → (c == at) ≡ false → others_are.Clear d nodes d' nodes' top low lower now low_heard ch old.parent c
      clear c e = others_are.beside_clear d nodes d' nodes' top low lower now low_heard ch at old c on_it here captured e

      off_line : others_are.AsMuch d nodes d' nodes' top low lower now low_heard ch (line_from d nodes (depth + q.spare)) (line_from d' nodes' (depth + q.spare))
      off_line = others_are.off_line d nodes d' nodes' top low lower now low_heard ch (depth + q.spare)

      begins : stance_in d' nodes' levels q.h ≡ owned q.own (filling q.spot (ahead_line p.place (inner d' nodes') (under (withheld_text p.place) (asking_line d' nodes' below' old.parent p p.asks q.rest))))
      begins =
          q.is d' nodes' now ch p (others_are.path_same d nodes d' nodes' top low lower now low_heard ch old.parent p (up_path nodes top low at lower old low_there low_heard on_it here captured) other above) (as_itself p)
          ∙ ap (λ line. owned q.own (filling q.spot line)) (above_line d' nodes' depth q.spare old.parent p q.rest)

      -- another subrequest of it is the same
      beside : (c : ℕ) (rest : Line) → (c == at) ≡ false → inner_line below old.parent p c (slice_get nodes c) rest ≡ inner_line below' old.parent p c (slice_get nodes' c) rest
      beside c rest e = others_are.clear_inner d nodes d' nodes' top low lower now low_heard ch below below' off_line old.parent p c rest other (clear c e)

      -- it waits for this one
      module _ (asks : p.asks ≡ Some at) where
        asked_too : is_asked at p.asks ≡ true
        asked_too = ap (is_asked at) asks ∙ eq_self at

        all_beside : (rest : Line) → inner_lines below nodes old.parent p most_nodes rest ≡ inner_lines below' nodes' old.parent p most_nodes rest
        all_beside = inners_same below nodes old.parent p below' nodes' p most_nodes (λ c h rest. by c rest (c == at) refl)
          where
            by : (c : ℕ) (rest : Line) (b : Bool) → (c == at) ≡ b → inner_line (line_from d nodes (depth + q.spare)) old.parent p c (slice_get nodes c) rest ≡ inner_line (line_from d' nodes' (depth + q.spare)) old.parent p c (slice_get nodes' c) rest
            by c rest false e = beside c rest e
            by c rest true e =
                let it = ap (λ i. is_asked i p.asks) (eqb-true c at e) ∙ asked_too in
                asked_not (line_from d nodes (depth + q.spare)) old.parent p c (slice_get nodes c) rest it ∙ sym (asked_not (line_from d' nodes' (depth + q.spare)) old.parent p c (slice_get nodes' c) rest it)

        asked_begins : stance_in d' nodes' levels q.h
            ≡ owned q.own (filling (Behind (withheld_text p.place) (After (ahead_line p.place (inner d nodes) Nil) q.spot)) (asking_line d' nodes' below' old.parent p (Some at) q.rest))
        asked_begins =
            let line = under (withheld_text p.place) (asking_line d' nodes' below' old.parent p (Some at) q.rest) in
            begins
            ∙ ap (λ a. owned q.own (filling q.spot (ahead_line p.place (inner d' nodes') (under (withheld_text p.place) (asking_line d' nodes' below' old.parent p a q.rest))))) asks
            ∙ ap (λ l. owned q.own (filling q.spot l)) (sym (ahead_same p.place (inner d nodes) (inner d' nodes') all_beside line) ∙ ahead_first d nodes (depth + q.spare) old.parent p line)

      -- it waits for no other that is on the way
      asking : is_asked at p.asks ≡ false → asking_line d nodes below old.parent p p.asks q.rest ≡ asking_line d' nodes' below' old.parent p p.asks q.rest
      asking asks =
          others_are.clear_asking d nodes d' nodes' top low lower now low_heard ch below below' off_line old.parent p p.asks q.rest other
          (λ c e. clear c (not_asked c e))
        where
          not_asked : (c : ℕ) → p.asks ≡ Some c → (c == at) ≡ false
          not_asked c e = sym (ap (is_asked at) e) ∙ asks

      -- those before it, and those after it
      split : takes_up p.place ≡ true → nat_lt at most_nodes ≡ true → is_asked at p.asks ≡ false → stance_in d' nodes' levels q.h
          ≡ owned q.own (filling q.spot (inner_lines below nodes old.parent p at (inner_line below' old.parent p at (slice_get nodes' at)
          (later_lines below nodes old.parent p (suc at) (most_nodes - suc at) (under (withheld_text p.place) (asking_line d nodes below old.parent p p.asks q.rest))))))
      split is_there few asks =
          let rest' = under (withheld_text p.place) (asking_line d' nodes' below' old.parent p p.asks q.rest) in
          let more = most_nodes - suc at in
          begins
          ∙ ap (λ line. owned q.own (filling q.spot line))
          (taken_ahead p.place (inner d' nodes') rest' is_there
          ∙ ap (λ k. inner_lines below' nodes' old.parent p k rest') (as_sum at most_nodes few)
          ∙ split_at below' nodes' old.parent p at more rest'
          ∙ sym (inners_same below nodes old.parent p below' nodes' p at (λ c h r. beside c r (less_other c at h)) (inner_line below' old.parent p at (slice_get nodes' at) (later_lines below' nodes' old.parent p (suc at) more rest')))
          ∙ ap (λ r. inner_lines below nodes old.parent p at (inner_line below' old.parent p at (slice_get nodes' at) r))
          (sym (later_same below nodes old.parent p below' nodes' p (suc at) more (λ c h r. beside c r (more_other c at h)) rest')
          ∙ ap (λ l. later_lines below nodes old.parent p (suc at) more (under (withheld_text p.place) l)) (sym (asking asks))))
        where
          taken_ahead : (place : Place) (f : Line → Line) (line : Line) → takes_up place ≡ true → ahead_line place f line ≡ f line
          taken_ahead Row f line e = cc
          taken_ahead (Stub stub text) f line e = cc
          taken_ahead (Gathers stub text) f line e = refl
          taken_ahead (Captured stub text) f line e = refl

          apart_by : (c x : ℕ) → (c ≡ x → ⊥) → (b : Bool) → (c == x) ≡ b → (c == x) ≡ false
          apart_by c x differs true e = absurd (differs (eqb-true c x e))
          apart_by c x differs false e = e

          less_other : (c x : ℕ) → c < x → (c == x) ≡ false
          less_other c x h = apart_by c x (λ e. omega (arith, h, e)) (c == x) refl

          more_other : (c x : ℕ) → suc x ≤ c → (c == x) ≡ false
          more_other c x h = apart_by c x (λ e. omega (arith, h, e)) (c == x) refl

    -- so it is where its line is put
    put_at : (s : Spot) (rest : Line) → ((d' : Doing) (nodes' : List Node) (now : Node) → Changed d nodes d' nodes' low lower now → (new : Node) → slice_get nodes' at ≡ Some new → StandsAs old new →
        stance_in d' nodes' levels q.h ≡ owned q.own (filling s (put_by (stub_in old.place) (line_from d' nodes' (depth + q.spare) at new) rest))) → Located levels d nodes low lower (suc up) depth at old
    put_at s rest is = record {
      h = q.h;
      host = q.host;
      there = q.there;
      goes_on = q.goes_on;
      path = λ j n on apart e'. on_next j n on apart e' (j == at) refl;
      own = q.own;
      spot = put_spot (stub_in old.place) rest s;
      rest = put_rest (stub_in old.place) rest;
      spare = q.spare;
      is = λ d' nodes' now ch new there like. is d' nodes' now ch new there like ∙ ap (owned q.own) (put_is (stub_in old.place) (line_from d' nodes' (depth + q.spare) at new) rest s);
    }
      where
        on_next : (j : ℕ) (n : Node) → on_path (suc up) nodes at (Some old) j ≡ true → (j == q.h) ≡ false → slice_get nodes j ≡ Some n → (b : Bool) → (j == at) ≡ b → is_captured n.place ≡ true
        on_next j n on apart e true f = same_captured at j old n here e f captured
        on_next j n on apart e false f = q.path j n (path_next up nodes at old p j above f on) apart e

    -- a node that is in a line waits for it
    located_asked : p.asks ≡ Some at → Located levels d nodes low lower (suc up) depth at old
    located_asked asks = by (is_capturing p.stage) refl
      where
        by : (b : Bool) → is_capturing p.stage ≡ b → Located levels d nodes low lower (suc up) depth at old
        by true e =
            let ahead = Behind (withheld_text p.place) (After (ahead_line p.place (inner_lines (line_from d nodes (depth + q.spare)) nodes old.parent p most_nodes) Nil) q.spot) in
            put_at (For old.parent p.left (d.heard old.parent p) q.rest ahead) Nil (λ d' nodes' now ch new there like.
            let line' = line_from d' nodes' (depth + q.spare) in
            asked_begins d' nodes' now ch asks
            ∙ ap (λ b. owned q.own (filling ahead (cond b (Waits old.parent (waited_line line' old.parent at (slice_get nodes' at) Nil) p.left (d'.heard old.parent p) q.rest) (waited_line line' old.parent at (slice_get nodes' at) (Gives old.parent p.left (d'.act old.parent p) q.rest))))) e
            ∙ ap (λ k. owned q.own (filling ahead (Waits old.parent (waited_line line' old.parent at (slice_get nodes' at) Nil) p.left k q.rest))) (sym (ch.heard old.parent p (other d' nodes' now ch)))
            ∙ ap (λ line. owned q.own (filling ahead (Waits old.parent line p.left (d.heard old.parent p) q.rest)))
            (waited_is line' old.parent at (slice_get nodes' at) new Nil there (like.captured ∙ captured) like.parent ∙ ap (λ s. put_by s (line' at new) Nil) like.stub))
        by false e =
            let ahead = Behind (withheld_text p.place) (After (ahead_line p.place (inner_lines (line_from d nodes (depth + q.spare)) nodes old.parent p most_nodes) Nil) q.spot) in
            put_at ahead (Gives old.parent p.left (d.act old.parent p) q.rest) (λ d' nodes' now ch new there like.
            let line' = line_from d' nodes' (depth + q.spare) in
            asked_begins d' nodes' now ch asks
            ∙ ap (λ b. owned q.own (filling ahead (cond b (Waits old.parent (waited_line line' old.parent at (slice_get nodes' at) Nil) p.left (d'.heard old.parent p) q.rest) (waited_line line' old.parent at (slice_get nodes' at) (Gives old.parent p.left (d'.act old.parent p) q.rest))))) e
            ∙ ap (λ m. owned q.own (filling ahead (waited_line line' old.parent at (slice_get nodes' at) (Gives old.parent p.left m q.rest)))) (sym (ch.acts old.parent p (other d' nodes' now ch)))
            ∙ ap (λ line. owned q.own (filling ahead line))
            (waited_is line' old.parent at (slice_get nodes' at) new (Gives old.parent p.left (d.act old.parent p) q.rest) there (like.captured ∙ captured) like.parent
            ∙ ap (λ s. put_by s (line' at new) (Gives old.parent p.left (d.act old.parent p) q.rest)) like.stub))

    -- or takes up its bytes beside its own
    located_inner : old.over ≡ false → takes_up p.place ≡ true → nat_lt old.parent at ≡ true → nat_lt at most_nodes ≡ true → is_asked at p.asks ≡ false → Located levels d nodes low lower (suc up) depth at old
    located_inner over is_there less few asks =
        let rest = later_lines (line_from d nodes (depth + q.spare)) nodes old.parent p (suc at) (most_nodes - suc at) (under (withheld_text p.place) (asking_line d nodes (line_from d nodes (depth + q.spare)) old.parent p p.asks q.rest)) in
        put_at (Behind old.before (After (inner_lines (line_from d nodes (depth + q.spare)) nodes old.parent p at Nil) q.spot)) rest (λ d' nodes' now ch new there like.
        let line' = line_from d' nodes' (depth + q.spare) in
        split d' nodes' now ch is_there few asks
        ∙ ap (λ line. owned q.own (filling q.spot line))
        (ap (inner_lines (line_from d nodes (depth + q.spare)) nodes old.parent p at)
        (inner_is line' old.parent p at (slice_get nodes' at) new rest there (like.captured ∙ captured) like.parent less (like.over ∙ over) asks
        ∙ ap (λ b. under b (put_by (stub_in new.place) (line' at new) rest)) like.before
        ∙ ap (λ s. under old.before (put_by s (line' at new) rest)) like.stub)
        ∙ inners_first d nodes (depth + q.spare) old.parent p at (under old.before (put_by (stub_in old.place) (line' at new) rest))))

  -- a node that is in a line takes up its bytes
  located_next : (up depth at : ℕ) (old p : Node) → on_path top nodes low (Some lower) at ≡ true → slice_get nodes at ≡ Some old → old.over ≡ false → slice_get nodes old.parent ≡ Some p → Takes old.parent at p → is_captured old.place ≡ true →
      Located levels d nodes low lower up (suc depth) old.parent p → Located levels d nodes low lower (suc up) depth at old
  located_next up depth at old p on_it here over above (Asks asks) captured q = located_asked up depth at old p on_it here above captured q asks
  located_next up depth at old p on_it here over above (Includes is_there less few asks) captured q = located_inner up depth at old p on_it here above captured q over is_there less few asks

  locate_on : (up depth at : ℕ) (old : Node) → on_path top nodes low (Some lower) at ≡ true → slice_get nodes at ≡ Some old → old.over ≡ false → depth + up ≡ suc levels → is_heard up nodes at old ≡ true → is_in_row old.place ≡ false →
      Located levels d nodes low lower up depth at old
  unfolding is_heard
  locate_on zero depth at old on_it here over size e apart = located_here zero depth at old here over size (free (is_captured old.place) e) apart
    where
      free : (b : Bool) → not b ≡ true → b ≡ false
      free true f = cc
      free false f = refl
  locate_on (suc up) depth at old on_it here over size e apart =
      by (λ a c r. locate_on up (suc depth) old.parent a.waiting (up_path nodes top low at lower old low_there low_heard on_it here c) a.there a.goes_on (shift depth up (suc levels) size) a.heard r) (is_captured old.place) refl
    where
      shift : (a b c : ℕ) → a + suc b ≡ c → suc a + b ≡ c
      shift a b c f = omega (arith, f)

      row_is : (p : Place) → is_in_row p ≡ true → p ≡ Row
      row_is Row f = refl
      row_is (Stub stub text) f = cc
      row_is (Gathers stub text) f = cc
      row_is (Captured stub text) f = cc

      -- one in the row takes up the bytes of none but the one for which it waits
      row_asks : (p : Node) → Takes old.parent at p → p.place ≡ Row → p.asks ≡ Some at
      row_asks p (Asks asks) row = asks
      row_asks p (Includes is_there less few asks) row = absurd (false_true (ap takes_up (sym row) ∙ is_there))

      next : ((a : Above up nodes at old) → is_captured old.place ≡ true → is_in_row a.waiting.place ≡ false → Located levels d nodes low lower up (suc depth) old.parent a.waiting) →
          (a : Above up nodes at old) → is_captured old.place ≡ true → (b : Bool) → is_in_row a.waiting.place ≡ b → Located levels d nodes low lower (suc up) depth at old
      next higher a c true r =
          let row = row_is a.waiting.place r in
          located_first up depth at old a.waiting on_it here a.goes_on (shift depth up (suc levels) size) a.there (row_asks a.waiting a.takes row) row c
      next higher a c false r = located_next up depth at old a.waiting on_it here over a.there a.takes c (higher a c r)

      by : ((a : Above up nodes at old) → is_captured old.place ≡ true → is_in_row a.waiting.place ≡ false → Located levels d nodes low lower up (suc depth) old.parent a.waiting) →
          (b : Bool) → is_captured old.place ≡ b → Located levels d nodes low lower (suc up) depth at old
      by higher false c = located_here (suc up) depth at old here over size c apart
      by higher true c = let a = above_is up nodes at old e c in next higher a c (is_in_row a.waiting.place) refl

-- where a node is, whatever it does
pub locate : (levels : ℕ) (d : Doing) (nodes : List Node) (up depth at : ℕ) (old : Node) → slice_get nodes at ≡ Some old → old.over ≡ false → depth + up ≡ suc levels → is_heard up nodes at old ≡ true → is_in_row old.place ≡ false →
    Located levels d nodes at old up depth at old
locate levels d nodes up depth at old there over size heard apart = locate_on levels d nodes up at old there heard up depth at old (itself nodes up at old) there over size heard apart
