-- A node in its seat, and another in its place.
use Rattle.std.proofs.Common.{◌≡◌, ◌<◌, ℕ, zero, suc, ◌+◌, ◌==◌, ◌&&◌, nat_lt, Bool, true, false, not, List, Option, None, Some, slice_get, refl, sym, ap, ◌∙◌, arith}
use Rattle.std.proofs.lemmas.Bool.{eqb-true}
use Rattle.std.proofs.lemmas.Bool.Decides.{nat_tests}
use Rattle.request_meaning.specs.Serving.{Serving, Answer}
use Rattle.family_meaning.specs.Line.{Line, joined}
use Rattle.family_meaning.specs.Line.Line.{Nil, Gives}
use Rattle.family_order.specs.Items.Stance.{Going}
use Rattle.node_line.specs.node_turn.Stages.{is_in_row}
use Rattle.node_line.specs.node_turn.declared.node.Node.{Node}
use Rattle.node_line.specs.node_turn.declared.node.Place.{Place}
use Rattle.node_line.specs.node_turn.declared.node.Place.TheVariants.{Row, Stub, Gathers, Captured}
use Rattle.node_line.specs.Stances.{Own, Seat, Spot, filling, owned, stance_so, under}
use Rattle.node_line.specs.Stances.Seat.{InRow, Inside}
use Rattle.node_line.specs.Stances.Spot.{After, Behind}
use Rattle.node_seats.specs.Seats.{Doing, ahead_line, asking_line, inner_line, inner_lines, is_asked, is_inner, most_nodes, withheld_text, is_captured, is_heard, line_from, place_stance, row_stance, stance_in, stance_of, takes_up}
use Rattle.node_seats.proofs.Above.{false_true, none_some}
use Rattle.node_seats.proofs.Inners.{ahead_first, inners_first, inners_none, inners_same, no_inner}
use Rattle.node_seats.proofs.Paths.{on_path, path_top}
use Rattle.node_seats.proofs.Located.{Located, StandsAs, as_itself, locate}
use Rattle.node_seats.proofs.Others as others_are
use Rattle.node_seats.proofs.Others.{Changed}
use Rattle.node_seats.proofs.Others.SameOrMore.{Same}

-- Another node in the place of one that waits for no bytes, and doesn't either; what the others do is the same.
pub record Replaced (d : Doing) (nodes : List Node) (d' : Doing) (nodes' : List Node) (at : ℕ) (old new : Node) : Type 0 where
  pub there : slice_get nodes at ≡ Some old
  pub then : slice_get nodes' at ≡ Some new
  pub free : old.asks ≡ None
  pub free_then : new.asks ≡ None
  pub others : (j : ℕ) → (j == at) ≡ false → slice_get nodes j ≡ slice_get nodes' j
  pub acts : (j : ℕ) (n : Node) → (j == at) ≡ false → d.act j n ≡ d'.act j n
  pub heard : (j : ℕ) (n : Node) → (j == at) ≡ false → d.heard j n ≡ d'.heard j n

pub changed : (d : Doing) (nodes : List Node) (d' : Doing) (nodes' : List Node) (at : ℕ) (old new : Node) → Replaced d nodes d' nodes' at old new → is_captured new.place ≡ is_captured old.place → new.parent ≡ old.parent → Changed d nodes d' nodes' at old new
changed d nodes d' nodes' at old new r captured parent = record {
  there = r.there;
  then = r.then;
  captured = captured;
  parent = parent;
  others = λ j e. Same (r.others j e);
  acts = r.acts;
  heard = r.heard;
}

-- nothing changed
pub unchanged : (d : Doing) (nodes : List Node) (at : ℕ) (old : Node) → slice_get nodes at ≡ Some old → Changed d nodes d nodes at old old
unchanged d nodes at old there = record {
  there = there;
  then = there;
  captured = refl;
  parent = refl;
  others = λ j e. Same refl;
  acts = λ j n e. refl;
  heard = λ j n e. refl;
}

-- ---- the line of a node that waits for no bytes

-- one that doesn't take up bytes of subrequests
pub line_alone : (d : Doing) (nodes : List Node) (levels at : ℕ) (n : Node) (rest : Line) → n.asks ≡ None → takes_up n.place ≡ false → line_from d nodes levels at n rest ≡ under (withheld_text n.place) (Gives at n.left (d.act at n) rest)
unfolding line_from
line_alone d nodes zero at n rest e free = refl
line_alone d nodes (suc levels) at n rest e free =
    ap (λ asks. ahead_line n.place (inner_lines (line_from d nodes levels) nodes at n most_nodes) (under (withheld_text n.place) (asking_line d nodes (line_from d nodes levels) at n asks rest))) e
    ∙ none n.place (inner_lines (line_from d nodes levels) nodes at n most_nodes) (under (withheld_text n.place) (Gives at n.left (d.act at n) rest)) free
  where
    none : (p : Place) (f : Line → Line) (line : Line) → takes_up p ≡ false → ahead_line p f line ≡ line
    none Row f line h = refl
    none (Stub stub text) f line h = refl
    none (Gathers stub text) f line h = cc
    none (Captured stub text) f line h = cc

-- one that has no subrequest whose bytes come to it
abbrev pub IsBare : List Node → (at : ℕ) → Node → Type 0
IsBare nodes at n = (c : ℕ) (m : Node) → slice_get nodes c ≡ Some m → is_inner at n c m ≡ false

pub line_bare : (d : Doing) (nodes : List Node) (levels at : ℕ) (n : Node) (rest : Line) → n.asks ≡ None → IsBare nodes at n → line_from d nodes levels at n rest ≡ under (withheld_text n.place) (Gives at n.left (d.act at n) rest)
unfolding line_from
line_bare d nodes zero at n rest e bare = refl
line_bare d nodes (suc levels) at n rest e bare =
    ap (λ asks. ahead_line n.place (inner_lines (line_from d nodes levels) nodes at n most_nodes) (under (withheld_text n.place) (asking_line d nodes (line_from d nodes levels) at n asks rest))) e
    ∙ none n.place (under (withheld_text n.place) (Gives at n.left (d.act at n) rest))
  where
    each : (below : ℕ → Node → Line → Line) (c : ℕ) (o : Option Node) (line : Line) → slice_get nodes c ≡ o → inner_line below at n c o line ≡ line
    each below c None line f = refl
    each below c (Some m) line f = no_inner below at n c m line (bare c m f)

    none : (p : Place) (line : Line) → ahead_line p (inner_lines (line_from d nodes levels) nodes at n most_nodes) line ≡ line
    none Row line = refl
    none (Stub stub text) line = refl
    none (Gathers stub text) line = inners_none (line_from d nodes levels) nodes at n most_nodes (λ c h r. each (line_from d nodes levels) c (slice_get nodes c) r refl) line
    none (Captured stub text) line = inners_none (line_from d nodes levels) nodes at n most_nodes (λ c h r. each (line_from d nodes levels) c (slice_get nodes c) r refl) line

-- any of them
pub line_free : (d : Doing) (nodes : List Node) (levels at : ℕ) (n : Node) (rest : Line) → n.asks ≡ None →
    line_from d nodes (suc levels) at n rest ≡ ahead_line n.place (inner_lines (line_from d nodes levels) nodes at n most_nodes) (under (withheld_text n.place) (Gives at n.left (d.act at n) rest))
unfolding line_from
line_free d nodes levels at n rest e = ap (λ asks. ahead_line n.place (inner_lines (line_from d nodes levels) nodes at n most_nodes) (under (withheld_text n.place) (asking_line d nodes (line_from d nodes levels) at n asks rest))) e

-- the lines that come before its bytes
abbrev pub ahead_of : Doing → List Node → (levels at : ℕ) → Node → Line
ahead_of d nodes levels at n = ahead_line n.place (inner_lines (line_from d nodes levels) nodes at n most_nodes) Nil

-- a node is no subrequest of its own
pub self_inner : (below : ℕ → Node → Line → Line) (at : ℕ) (n : Node) (o : Option Node) (rest : Line) → inner_line below at n at o rest ≡ rest
self_inner below at n None rest = refl
self_inner below at n (Some m) rest =
    no_inner below at n at m rest (ap (λ b. is_captured m.place && ((m.parent == at) && (b && (not m.over && not (is_asked at n.asks))))) (not_less at) ∙ none (is_captured m.place) (m.parent == at))
  where
    not_less : (n : ℕ) → nat_lt n n ≡ false
    not_less n = grind (arith, nat_tests)

    none : (a b : Bool) → (a && (b && false)) ≡ false
    none false b = refl
    none true false = refl
    none true true = refl

-- those of a node's subrequests are the same
pub own_lines : (d : Doing) (nodes : List Node) (d' : Doing) (nodes' : List Node) (up at : ℕ) (old new : Node) (heard : is_heard up nodes at old ≡ true) (ch : Changed d nodes d' nodes' at old new) (levels count : ℕ) →
    ((c : ℕ) → c < count → (c == at) ≡ false → slice_get nodes c ≡ slice_get nodes' c) → ((c : ℕ) → c < count → (c == at) ≡ false → is_asked c old.asks ≡ is_asked c new.asks) → (rest : Line) →
    inner_lines (line_from d nodes levels) nodes at old count rest ≡ inner_lines (line_from d' nodes' levels) nodes' at new count rest
own_lines d nodes d' nodes' up at old new heard ch levels count same asks =
    inners_same (line_from d nodes levels) nodes at old (line_from d' nodes' levels) nodes' new count (λ c h rest. by c h rest (c == at) refl)
  where
    by : (c : ℕ) → c < count → (rest : Line) → (b : Bool) → (c == at) ≡ b → inner_line (line_from d nodes levels) at old c (slice_get nodes c) rest ≡ inner_line (line_from d' nodes' levels) at new c (slice_get nodes' c) rest
    by c h rest true e =
        let it = eqb-true c at e in
        ap (λ i. inner_line (line_from d nodes levels) at old i (slice_get nodes c) rest) it ∙ self_inner (line_from d nodes levels) at old (slice_get nodes c) rest
        ∙ sym (ap (λ i. inner_line (line_from d' nodes' levels) at new i (slice_get nodes' c) rest) it ∙ self_inner (line_from d' nodes' levels) at new (slice_get nodes' c) rest)
    by c h rest false e =
        others_are.own_inner d nodes d' nodes' up at old new heard ch (line_from d nodes levels) (line_from d' nodes' levels) (others_are.off_line d nodes d' nodes' up at old new heard ch levels) c rest (same c h e) (asks c h e)

-- what is said where it is in a line
pub here_is : (levels : ℕ) (d : Doing) (nodes : List Node) (up depth at : ℕ) (old : Node) → slice_get nodes at ≡ Some old → old.asks ≡ None → (q : Located levels d nodes at old up (suc depth) at old) →
    stance_in d nodes levels q.h ≡ owned q.own (filling (Behind (withheld_text old.place) (After (ahead_of d nodes (depth + q.spare) at old) q.spot)) (Gives at old.left (d.act at old) q.rest))
here_is levels d nodes up depth at old there free q =
    q.is d nodes old (unchanged d nodes at old there) old there (as_itself old)
    ∙ ap (λ line. owned q.own (filling q.spot line))
    (ap (λ l. line_from d nodes l at old q.rest) (more depth q.spare)
    ∙ line_free d nodes (depth + q.spare) at old q.rest free
    ∙ ahead_first d nodes (depth + q.spare) at old (under (withheld_text old.place) (Gives at old.left (d.act at old) q.rest)))
  where
    more : (a b : ℕ) → suc a + b ≡ suc (a + b)
    more a b = omega arith

-- what is said of one in the row
pub in_row_is : (d : Doing) (nodes : List Node) (levels at : ℕ) (n : Node) → slice_get nodes at ≡ Some n → n.place ≡ Row → n.asks ≡ None → stance_in d nodes levels at ≡ Going n.left (d.act at n)
in_row_is d nodes levels at n there row free =
    ap (stance_of d nodes levels at) there ∙ ap (place_stance d nodes levels at n) row ∙ ap (row_stance d nodes levels at n) free

abbrev pub seat_in : Own → Spot → (ahead : Line) → Line → Place → Seat
seat_in own spot ahead rest Row = InRow
seat_in own spot ahead rest (Stub stub text) = Inside own (Behind text spot) rest
seat_in own spot ahead rest (Gathers stub text) = Inside own (Behind text (After ahead spot)) rest
seat_in own spot ahead rest (Captured stub text) = Inside own (Behind text (After ahead spot)) rest

-- seats in a line, by where the bytes of the node go
pub record InLine (seat : Place → Seat) : Type 0 where
  pub own : Own
  pub spot : Spot
  pub ahead : Line
  pub rest : Line
  pub is : (p : Place) → seat p ≡ seat_in own spot ahead rest p

-- The node with the number `at` is told of at the number `h`.
pub record Seated (levels : ℕ) (d : Doing) (nodes : List Node) (at : ℕ) (old : Node) : Type 0 where
  pub h : ℕ
  pub host : Node
  pub there : slice_get nodes h ≡ Some host
  pub goes_on : host.over ≡ false
  pub seat : Place → Seat
  pub line : is_in_row old.place ≡ false → InLine seat
  pub is : stance_in d nodes levels h ≡ stance_so (seat old.place) at old.left (d.act at old)
  pub next : (d' : Doing) (nodes' : List Node) (new : Node) → Replaced d nodes d' nodes' at old new → StandsAs old new →
      stance_in d' nodes' levels h ≡ stance_so (seat new.place) at new.left (d'.act at new)
  pub same : (d' : Doing) (nodes' : List Node) (new : Node) → Replaced d nodes d' nodes' at old new → is_captured new.place ≡ is_captured old.place → new.parent ≡ old.parent →
      (j : ℕ) → (j == h) ≡ false → stance_in d nodes levels j ≡ stance_in d' nodes' levels j

module _ (levels : ℕ) (d : Doing) (nodes : List Node) (at : ℕ) (old : Node) (there : slice_get nodes at ≡ Some old) (free : old.asks ≡ None) (over : old.over ≡ false) where
  row_is : (p : Place) → is_in_row p ≡ true → p ≡ Row
  row_is Row f = refl
  row_is (Stub stub text) f = cc
  row_is (Gathers stub text) f = cc
  row_is (Captured stub text) f = cc

  -- those that it isn't told at, where these are on its path
  same_by : (up h : ℕ) → is_heard up nodes at old ≡ true →
      ((j : ℕ) (n : Node) → on_path up nodes at (Some old) j ≡ true → (j == h) ≡ false → slice_get nodes j ≡ Some n → is_captured n.place ≡ true) →
      (d' : Doing) (nodes' : List Node) (new : Node) → Replaced d nodes d' nodes' at old new → is_captured new.place ≡ is_captured old.place → new.parent ≡ old.parent →
      (j : ℕ) → (j == h) ≡ false → stance_in d nodes levels j ≡ stance_in d' nodes' levels j
  same_by up h heard path d' nodes' new r captured parent j other = by (on_path up nodes at (Some old) j) refl
    where
      of : (o : Option Node) → slice_get nodes j ≡ o → on_path up nodes at (Some old) j ≡ true → stance_in d nodes levels j ≡ stance_in d' nodes' levels j
      of None e on =
          ap (stance_of d nodes levels j) e
          ∙ sym (ap (stance_of d' nodes' levels j) (sym (r.others j (missing (j == at) refl)) ∙ e))
        where
          missing : (b : Bool) → (j == at) ≡ b → b ≡ false
          missing true f = absurd (none_some old (sym e ∙ ap (slice_get nodes) (eqb-true j at f) ∙ there))
          missing false f = refl
      of (Some n) e on = others_are.hidden_stance d nodes d' nodes' up at old new heard (changed d nodes d' nodes' at old new r captured parent) levels j n e (path j n on other e)

      by : (b : Bool) → on_path up nodes at (Some old) j ≡ b → stance_in d nodes levels j ≡ stance_in d' nodes' levels j
      by true f = of (slice_get nodes j) refl f
      by false f = others_are.off_stance d nodes d' nodes' up at old new heard (changed d nodes d' nodes' at old new r captured parent) levels j f

  seated_row : is_heard levels nodes at old ≡ true → is_in_row old.place ≡ true → Seated levels d nodes at old
  seated_row heard row =
      let is_row = row_is old.place row in
      record {
        h = at;
        host = old;
        there = there;
        goes_on = over;
        seat = λ p. InRow;
        line = λ e. absurd (false_true (sym e ∙ row));
        is = in_row_is d nodes levels at old there is_row free;
        next = λ d' nodes' new r like. in_row_is d' nodes' levels at new r.then (row_is new.place (like.row ∙ row)) r.free_then;
        same = same_by levels at heard (λ j n on other e. absurd (false_true (sym other ∙ path_top levels nodes at old j (ap is_captured is_row) on)));
      }

  -- what is said of one in a line
  so : (own : Own) (spot : Spot) (rest : Line) (p : Place) (inner : Line → Line) → ((line : Line) → inner line ≡ joined (inner Nil) line) → (left : ℕ) (m : Serving Answer) → is_in_row p ≡ false →
      owned own (filling spot (ahead_line p inner (under (withheld_text p) (Gives at left m rest)))) ≡ stance_so (seat_in own spot (inner Nil) rest p) at left m
  so own spot rest Row inner first left m e = cc
  so own spot rest (Stub stub text) inner first left m e = refl
  so own spot rest (Gathers stub text) inner first left m e = ap (λ line. owned own (filling spot line)) (first (under text (Gives at left m rest)))
  so own spot rest (Captured stub text) inner first left m e = ap (λ line. owned own (filling spot line)) (first (under text (Gives at left m rest)))

  seated_line : is_heard levels nodes at old ≡ true → is_in_row old.place ≡ false → Seated levels d nodes at old
  seated_line heard apart =
      let q = locate levels d nodes levels 1 at old there over (one levels) heard apart in
      let ahead = inner_lines (line_from d nodes q.spare) nodes at old most_nodes Nil in
      record {
        h = q.h;
        host = q.host;
        there = q.there;
        goes_on = q.goes_on;
        seat = seat_in q.own q.spot ahead q.rest;
        line = λ e. record { own = q.own; spot = q.spot; ahead = ahead; rest = q.rest; is = λ p. refl };
        is =
            q.is d nodes old (unchanged d nodes at old there) old there (as_itself old)
            ∙ ap (λ line. owned q.own (filling q.spot line)) (ap (λ l. line_from d nodes l at old q.rest) (one q.spare) ∙ line_free d nodes q.spare at old q.rest free)
            ∙ so q.own q.spot q.rest old.place (inner_lines (line_from d nodes q.spare) nodes at old most_nodes) (inners_first d nodes q.spare at old most_nodes) old.left (d.act at old) apart;
        next = λ d' nodes' new r like.
            let ch = changed d nodes d' nodes' at old new r like.captured like.parent in
            q.is d' nodes' new ch new r.then like
            ∙ ap (λ line. owned q.own (filling q.spot line)) (ap (λ l. line_from d' nodes' l at new q.rest) (one q.spare) ∙ line_free d' nodes' q.spare at new q.rest r.free_then)
            ∙ so q.own q.spot q.rest new.place (inner_lines (line_from d' nodes' q.spare) nodes' at new most_nodes) (inners_first d' nodes' q.spare at new most_nodes) new.left (d'.act at new) (like.row ∙ apart)
            ∙ ap (λ a. stance_so (seat_in q.own q.spot a q.rest new.place) at new.left (d'.act at new))
            (sym (own_lines d nodes d' nodes' levels at old new heard ch q.spare most_nodes (λ c h e. r.others c e) (λ c h e. ap (is_asked c) free ∙ sym (ap (is_asked c) r.free_then)) Nil));
        same = same_by levels q.h heard q.path;
      }
    where
      one : (n : ℕ) → 1 + n ≡ suc n
      one n = omega arith

  pub seated : is_heard levels nodes at old ≡ true → Seated levels d nodes at old
  seated heard = by (is_in_row old.place) refl
    where
      by : (b : Bool) → is_in_row old.place ≡ b → Seated levels d nodes at old
      by true e = seated_row heard e
      by false e = seated_line heard e
