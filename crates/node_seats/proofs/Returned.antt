-- A subrequest for whose bytes a node waits has come to its answer: it is over, and the node goes on.
use Rattle.std.proofs.Common.{◌≡◌, ◌≢◌, ℕ, zero, suc, ◌+◌, ◌==◌, ◌||◌, ◌&&◌, nat_lt, Bool, true, false, not, cond, Option, List, [], ◌++◌, None, Some, slice_get, refl, sym, ap, ◌∙◌, arith}
use Rattle.std.proofs.lemmas.Bool.{eqb-true}
use Rattle.acts.specs.Vars.{Vars}
use Rattle.acts.specs.Act.{Done}
use Rattle.file_tree.specs.Tree.{Tree}
use Rattle.ngx_pattern.specs.Pattern.{Pattern as SetPattern}
use Rattle.ngx_variables.specs.declared.request.Main.{Main}
use Rattle.site_model.specs.declared.site.Site.{Site}
use Rattle.postpone_filter.specs.Row.{Row as Order, appended, ended, is_open}
use Rattle.request_meaning.specs.Serving.{World, Serving, Answer, Reply}
use Rattle.request_meaning.specs.Replies.{or_stub}
use Rattle.family_meaning.specs.Line.{Line, has_node}
use Rattle.family_meaning.specs.Line.Line.{Nil, Gives, Waits}
use Rattle.family_order.specs.Items.{Stance, Family, IsWell, doing, is_shown}
use Rattle.family_order.specs.Items.Stance.{Apart, Going, Hidden, Waiting}
use Rattle.family_meaning.specs.Moves.{AllEnd, IsGood}
use Rattle.family_order.specs.Laws.{ShowsTheSame}
use Rattle.family_order.proofs.Wells.{well-append}
use Rattle.node_line.specs.node_turn.Stages.{is_capturing, node_act, node_heard}
use Rattle.node_line.specs.node_turn.declared.node.Node.{Node}
use Rattle.node_line.specs.node_turn.declared.node.Place.TheVariants.{Row, Stub}
use Rattle.node_line.specs.Stances.{Opening, Own, Spot, filling, owned, under}
use Rattle.node_line.specs.Stances.Own.{Beside, Below}
use Rattle.node_line.specs.Stances.Spot.{After, Behind, For, Whole}
use Rattle.node_line.proofs.Steps as steps
use Rattle.node_seats.specs.Seats.{ahead_line, doing_by, heard_by, hears, inner_lines, most_nodes, withheld_text, is_asked, is_captured, is_heard, line_from, most_levels, place_stance, seen, stance_in, stance_of, stub_in, takes_up}
use Rattle.node_seats.proofs.Framing as framing
use Rattle.node_seats.proofs.Included as waits_too
use Rattle.node_seats.proofs.Included.{Waits_too}
use Rattle.node_seats.proofs.Above.{Above, Takes, above_is, eq_self, itself, next_on, no_loop}
use Rattle.node_seats.proofs.Above.Takes.{Asks, Includes}
use Rattle.node_seats.proofs.Located.{Located, StandsAs}
use Rattle.node_seats.proofs.Others.{SameOrMore, is_its, its_captured, its_parent}
use Rattle.node_seats.proofs.Paths.{on_path}
use Rattle.node_seats.proofs.Others.SameOrMore.{Same, Its}
use Rattle.node_seats.proofs.Seated.{ahead_of, in_row_is}

-- ---- where they are heard

-- another node that is in the same place
pub heard_like : (levels : ℕ) (nodes : List Node) (at : ℕ) (n n' : Node) → is_captured n.place ≡ is_captured n'.place → n.parent ≡ n'.parent → is_heard levels nodes at n ≡ is_heard levels nodes at n'
unfolding is_heard
heard_like zero nodes at n n' e f = ap not e
heard_like (suc levels) nodes at n n' e f =
    ap (λ b. not b || heard_by (is_heard levels nodes n.parent) n.parent at (slice_get nodes n.parent)) e
    ∙ ap (λ i. not (is_captured n'.place) || heard_by (is_heard levels nodes i) i at (slice_get nodes i)) f

-- it goes on, and takes up the bytes of a node
hears_so : (above at : ℕ) (p : Node) → p.over ≡ false → Takes above at p → hears above at p ≡ true
hears_so above at p over (Asks asks) =
    ap (λ b. not b && (is_asked at p.asks || (takes_up p.place && (nat_lt above at && nat_lt at most_nodes)))) over
    ∙ ap (λ o. is_asked at o || (takes_up p.place && (nat_lt above at && nat_lt at most_nodes))) asks
    ∙ ap (λ b. b || (takes_up p.place && (nat_lt above at && nat_lt at most_nodes))) (eq_self at)
hears_so above at p over (Includes captured less few asks) =
    ap (λ b. not b && (is_asked at p.asks || (takes_up p.place && (nat_lt above at && nat_lt at most_nodes)))) over
    ∙ ap (λ b. b || (takes_up p.place && (nat_lt above at && nat_lt at most_nodes))) asks
    ∙ ap (λ b. b && (nat_lt above at && nat_lt at most_nodes)) captured
    ∙ ap (λ b. b && nat_lt at most_nodes) less
    ∙ few

-- where those above a node are the same it is heard as before
pub heard_along : (nodes nodes' : List Node) (levels y : ℕ) (n : Node) → slice_get nodes y ≡ Some n → is_heard levels nodes y n ≡ true →
    ((j : ℕ) (m : Node) → on_path levels nodes y (Some n) j ≡ true → (j == y) ≡ false → slice_get nodes j ≡ Some m → slice_get nodes' j ≡ Some m) → is_heard levels nodes' y n ≡ true
unfolding is_heard
heard_along nodes nodes' zero y n here e same = e
heard_along nodes nodes' (suc levels) y n here e same = by (λ a h. heard_along nodes nodes' levels n.parent a.waiting a.there a.heard h) (is_captured n.place) refl
  where
    Higher : Type 0
    Higher = (a : Above levels nodes y n) →
        ((j : ℕ) (m : Node) → on_path levels nodes n.parent (Some a.waiting) j ≡ true → (j == n.parent) ≡ false → slice_get nodes j ≡ Some m → slice_get nodes' j ≡ Some m) → is_heard levels nodes' n.parent a.waiting ≡ true

    -- it isn't above its parent
    apart : (a : Above levels nodes y n) → is_captured n.place ≡ true → (j : ℕ) → on_path levels nodes n.parent (Some a.waiting) j ≡ true → (b : Bool) → (j == y) ≡ b → b ≡ false
    apart a captured j on true f =
        absurd (no_loop nodes levels n.parent y a.waiting n a.there a.heard (ap (on_path levels nodes n.parent (Some a.waiting)) (sym (eqb-true j y f)) ∙ on) here captured refl)
    apart a captured j on false f = refl

    next : Higher → (a : Above levels nodes y n) → is_captured n.place ≡ true → heard_by (is_heard levels nodes' n.parent) n.parent y (slice_get nodes' n.parent) ≡ true
    next higher a captured =
        ap (heard_by (is_heard levels nodes' n.parent) n.parent y)
        (same n.parent a.waiting (next_on nodes levels y n.parent n captured a (itself nodes levels n.parent a.waiting)) (apart a captured n.parent (itself nodes levels n.parent a.waiting) (n.parent == y) refl) a.there)
        ∙ ap (λ b. b && is_heard levels nodes' n.parent a.waiting) (hears_so n.parent y a.waiting a.goes_on a.takes)
        ∙ higher a (λ j m on other there. same j m (next_on nodes levels y j n captured a on) (apart a captured j on (j == y) refl) there)

    by : Higher → (b : Bool) → is_captured n.place ≡ b → (not (is_captured n.place) || heard_by (is_heard levels nodes' n.parent) n.parent y (slice_get nodes' n.parent)) ≡ true
    by higher true f = ap (λ b. not b || heard_by (is_heard levels nodes' n.parent) n.parent y (slice_get nodes' n.parent)) f ∙ next higher (above_is levels nodes y n e f) f
    by higher false f = ap (λ b. not b || heard_by (is_heard levels nodes' n.parent) n.parent y (slice_get nodes' n.parent)) f

-- another node, of which only subrequests change beside it
pub parent_heard : (nodes nodes' : List Node) (par : ℕ) (p p' : Node) (levels : ℕ) → slice_get nodes par ≡ Some p → ((j : ℕ) → (j == par) ≡ false → SameOrMore par (slice_get nodes' j) (slice_get nodes j)) →
    is_captured p.place ≡ is_captured p'.place → p.parent ≡ p'.parent → is_heard levels nodes par p ≡ true → is_heard levels nodes' par p' ≡ true
parent_heard nodes nodes' par p p' levels there others captured parent e =
    sym (heard_like levels nodes' par p p' captured parent) ∙ heard_along nodes nodes' levels par p there e (λ j m on other here. by j m on here (others j other))
  where
    by : (j : ℕ) (m : Node) → on_path levels nodes par (Some p) j ≡ true → slice_get nodes j ≡ Some m → SameOrMore par (slice_get nodes' j) (slice_get nodes j) → slice_get nodes' j ≡ Some m
    by j m on here (Same f) = f ∙ here
    by j m on here (Its f g) =
        let its : is_its par (Some m) ≡ true = sym (ap (is_its par) here) ∙ g in
        absurd (no_loop nodes levels par j p m there e on here (its_captured par m its) (its_parent par m its))

-- ---- the steps

-- its body or its stub is in its place
pub chosen_part : (w : World) (tree : Tree) (laws : ShowsTheSame) (h at left : ℕ) (f : Family) (goes_on : is_open h f.row.pieces ≡ true) (own : Own) (spot : Spot) (rest : Line) (stub : Option (List ℕ)) (text : List ℕ) (answer : Answer) (vars : Vars) →
    Opening w tree 0 (doing h (owned own (filling spot (waits_too.part stub text at left (Done answer) rest))) f) vars (doing h (owned own (filling spot (under (or_stub stub answer.status text) (Gives at left (Done answer) rest)))) f) vars
chosen_part w tree laws h at left f goes_on own spot rest None text answer vars = steps.stays
chosen_part w tree laws h at left f goes_on own spot rest (Some stub) text answer vars = steps.chosen_inside w tree laws h at left f goes_on own spot rest stub text answer vars

module _ (laws : ShowsTheSame) (w : World) (patterns : List SetPattern) (site : Site) (main : Main) (row : Order) (nodes nodes' : List Node) (texts : ℕ → List ℕ) (par at : ℕ) (p p' old : Node)
    (r : Waits_too (doing_by w patterns site main texts) nodes' (doing_by w patterns site main texts) nodes par at p' p old) (like : StandsAs p' p) (up : ℕ) (heard_so : is_heard up nodes' par p' ≡ true)
    (tree : Tree) (vars : Vars) (open_at : is_open at row.pieces ≡ true) (well : IsWell (seen w patterns site main row nodes texts))
    (closed : (j : ℕ) → is_open j (ended at row).pieces ≡ cond (j == at) false (is_open j row.pieces)) (answer : Answer) (done : node_act w patterns site main old (texts at) ≡ Done answer) (same_left : p'.left ≡ p.left) where
  abbrev before : Family
  before = seen w patterns site main row nodes texts

  abbrev after : Family
  after = seen w patterns site main (ended at row) nodes' texts

  -- the bytes that are in its place
  abbrev chosen : List ℕ
  chosen = or_stub (stub_in old.place) answer.status (withheld_text old.place)

  abbrev act : Node → Serving Answer
  act n = node_act w patterns site main n (texts par)

  abbrev heard : Reply → Serving Answer
  heard reply = node_heard w patterns site main p (texts par) reply.body

  shown : (own : Own) (line : Line) → is_shown (owned own line) ≡ true
  shown (Beside stub) line = refl
  shown (Below left k) line = refl

  hidden : stance_in (doing_by w patterns site main texts) nodes most_levels at ≡ Hidden
  hidden = waits_too.member_hidden (doing_by w patterns site main texts) nodes' (doing_by w patterns site main texts) nodes par at p' p old r most_levels

  -- ---- in a line

  module _ (q : Located most_levels (doing_by w patterns site main texts) nodes' par p' up 2 par p') (open_h : is_open q.h row.pieces ≡ true) (other : (at == q.h) ≡ false) where
    abbrev within : Spot
    within = After (ahead_of (doing_by w patterns site main texts) nodes' (1 + q.spare) par p') q.spot

    others_then : (j : ℕ) → (j == q.h) ≡ false → stance_in (doing_by w patterns site main texts) nodes most_levels j ≡ stance_in (doing_by w patterns site main texts) nodes' most_levels j
    others_then j e =
        sym (waits_too.others_same (doing_by w patterns site main texts) nodes' (doing_by w patterns site main texts) nodes par at p' p old r most_levels up heard_so like.captured like.parent q.h q.path j e)

    alone_then : stance_in (doing_by w patterns site main texts) nodes' most_levels q.h ≡ owned q.own (filling (Behind (withheld_text p'.place) within) (Gives par p'.left (act p') q.rest))
    alone_then = waits_too.alone_is (doing_by w patterns site main texts) nodes' (doing_by w patterns site main texts) nodes par at p' p old r most_levels up 1 q heard_so like

    -- its bytes come after those of the node
    pub leaves : is_capturing p.stage ≡ false → withheld_text p'.place ≡ withheld_text p.place ++ chosen → act p' ≡ act p → Opening w tree 0 before vars after vars
    unfolding has_node
    leaves e withheld does =
        let rest = Gives par p.left (act p) q.rest in
        let line : List ℕ → ℕ → Serving Answer → Stance = λ t l m. owned q.own (filling (Behind t within) (Gives par l m q.rest)) in
        let then = withheld_text p.place ++ chosen in
        steps.alike (framing.begins laws w patterns site main row nodes texts q.h (owned q.own (filling (Behind (withheld_text p.place) within) (waits_too.part (stub_in old.place) (withheld_text old.place) at old.left (Done answer) rest)))
        (waits_too.included_is (doing_by w patterns site main texts) nodes' (doing_by w patterns site main texts) nodes par at p' p old r most_levels up 1 q heard_so like e
        ∙ ap (λ m. owned q.own (filling (Behind (withheld_text p.place) within) (waits_too.part (stub_in old.place) (withheld_text old.place) at old.left m rest))) done))
        (steps.then (chosen_part w tree laws q.h at old.left before open_h q.own (Behind (withheld_text p.place) within) rest (stub_in old.place) (withheld_text old.place) answer vars)
        (steps.then (steps.leaves_inside w tree laws q.h at old.left before open_h q.own within rest (withheld_text p.place) chosen answer vars refl)
        (framing.ends laws w patterns site main row nodes texts nodes' q.h others_then at (line then p.left (act p)) (shown q.own (filling (Behind then within) rest))
        (sym (alone_then ∙ ap (λ t. line t p'.left (act p')) withheld ∙ ap (λ l. line then l (act p')) same_left ∙ ap (line then p.left) does))
        well open_at hidden other closed tree vars)))

    -- the node hears its reply
    pub told : is_capturing p.stage ≡ true → withheld_text p'.place ≡ withheld_text p.place → act p' ≡ node_heard w patterns site main p (texts par) chosen → Opening w tree 0 before vars after vars
    told e withheld does =
        let line : List ℕ → ℕ → Serving Answer → Stance = λ t l m. owned q.own (filling (Behind t within) (Gives par l m q.rest)) in
        let now = node_heard w patterns site main p (texts par) chosen in
        steps.alike (framing.begins laws w patterns site main row nodes texts q.h (owned q.own (filling (Behind (withheld_text p.place) within) (Waits par (waits_too.part (stub_in old.place) (withheld_text old.place) at old.left (Done answer) Nil) p.left heard q.rest)))
        (waits_too.asked_is (doing_by w patterns site main texts) nodes' (doing_by w patterns site main texts) nodes par at p' p old r most_levels up 1 q heard_so like e
        ∙ ap (λ m. owned q.own (filling (Behind (withheld_text p.place) within) (Waits par (waits_too.part (stub_in old.place) (withheld_text old.place) at old.left m Nil) p.left heard q.rest))) done))
        (steps.then (chosen_part w tree laws q.h at old.left before open_h q.own (For par p.left heard q.rest (Behind (withheld_text p.place) within)) Nil (stub_in old.place) (withheld_text old.place) answer vars)
        (steps.then (steps.hears_inside w tree laws q.h par p.left before open_h q.own (Behind (withheld_text p.place) within) q.rest at old.left chosen answer heard vars)
        (framing.ends laws w patterns site main row nodes texts nodes' q.h others_then at (line (withheld_text p.place) p.left now) (shown q.own (filling (Behind (withheld_text p.place) within) (Gives par p.left now q.rest)))
        (sym (alone_then ∙ ap (λ t. line t p'.left (act p')) withheld ∙ ap (λ l. line (withheld_text p.place) l (act p')) same_left ∙ ap (line (withheld_text p.place) p.left) does))
        well open_at hidden other closed tree vars)))

  -- ---- in the row

  module _ (is_row : p.place ≡ Row) (row_then : p'.place ≡ Row) (open_par : is_open par row.pieces ≡ true) (other : (at == par) ≡ false) where
    pub row_told : act p' ≡ node_heard w patterns site main p (texts par) chosen → Opening w tree 0 before vars after vars
    row_told does =
        let now : Stance = Going p.left (node_heard w patterns site main p (texts par) chosen) in
        let f = doing par now before in
        steps.alike (framing.begins laws w patterns site main row nodes texts par (Waiting (waits_too.part (stub_in old.place) (withheld_text old.place) at old.left (Done answer) Nil) p.left heard)
        (waits_too.row_asked_is (doing_by w patterns site main texts) nodes' (doing_by w patterns site main texts) nodes par at p' p old r most_levels is_row
        ∙ ap (λ m. Waiting (waits_too.part (stub_in old.place) (withheld_text old.place) at old.left m Nil) p.left heard) done))
        (steps.then (chosen_part w tree laws par at old.left before open_par (Below p.left heard) Whole Nil (stub_in old.place) (withheld_text old.place) answer vars)
        (steps.then (steps.heard w tree laws par at old.left before open_par p.left heard chosen answer vars f (laws.others f f.stance (λ j e. refl)))
        (framing.ends laws w patterns site main row nodes texts nodes' par
        (λ j e. sym (waits_too.row_others_same (doing_by w patterns site main texts) nodes' (doing_by w patterns site main texts) nodes par at p' p old r most_levels up heard_so like.captured like.parent (ap is_captured row_then) j e))
        at now refl
        (sym (in_row_is (doing_by w patterns site main texts) nodes' most_levels par p' r.there row_then r.free ∙ ap (λ l. Going l (act p')) same_left ∙ ap (Going p.left) does))
        well open_at hidden other closed tree vars)))

-- ---- the node is shown from now on

module _ (laws : ShowsTheSame) (w : World) (patterns : List SetPattern) (site : Site) (main : Main) (row : Order) (nodes nodes' : List Node) (texts : ℕ → List ℕ) (par at : ℕ) (p p' old : Node)
    (r : Waits_too (doing_by w patterns site main texts) nodes' (doing_by w patterns site main texts) nodes par at p' p old) (same_parent : p.parent ≡ p'.parent) (up : ℕ) (heard_so : is_heard up nodes' par p' ≡ true)
    (tree : Tree) (vars : Vars) (open_at : is_open at row.pieces ≡ true) (open_par : is_open par row.pieces ≡ true) (well : IsWell (seen w patterns site main row nodes texts))
    (answer : Answer) (opened : (j : ℕ) → is_open j (appended par (or_stub (stub_in old.place) answer.status (withheld_text old.place)) row).pieces ≡ is_open j row.pieces)
    (closed : (j : ℕ) → is_open j (ended at (appended par (or_stub (stub_in old.place) answer.status (withheld_text old.place)) row)).pieces ≡ cond (j == at) false (is_open j row.pieces)) (done : node_act w patterns site main old (texts at) ≡ Done answer)
    (stub : List ℕ) (place : p.place ≡ Stub stub []) (row_then : p'.place ≡ Row) (free : is_capturing p.stage ≡ false) (good : AllEnd IsGood (node_act w patterns site main p (texts par))) (some : or_stub (stub_in old.place) answer.status (withheld_text old.place) ≢ [])
    (same_left : p'.left ≡ p.left) (does : node_act w patterns site main p' (texts par) ≡ node_act w patterns site main p (texts par)) (other : (at == par) ≡ false) where
  abbrev then_seen : Family
  then_seen = seen w patterns site main row nodes texts

  one_more : (n : ℕ) → suc n ≡ suc 0 + n
  one_more n = omega arith

  -- what is said of it
  waits_so : stance_in (doing_by w patterns site main texts) nodes most_levels par ≡ Apart (waits_too.part (stub_in old.place) (withheld_text old.place) at old.left (Done answer) (Gives par p.left (node_act w patterns site main p (texts par)) Nil)) stub
  unfolding under
  waits_so =
      let line : Line → Stance = λ l. Apart l stub in
      ap (stance_of (doing_by w patterns site main texts) nodes most_levels par) r.then
      ∙ ap (place_stance (doing_by w patterns site main texts) nodes most_levels par p) place
      ∙ ap (λ n. line (line_from (doing_by w patterns site main texts) nodes n par p Nil)) (one_more most_levels)
      ∙ ap line (waits_too.included_line (doing_by w patterns site main texts) nodes' (doing_by w patterns site main texts) nodes par at p' p old r 0 most_levels Nil free)
      ∙ ap (λ q. line (ahead_line q (inner_lines (line_from (doing_by w patterns site main texts) nodes (0 + most_levels)) nodes par p most_nodes) (under (withheld_text q) (waits_too.part (stub_in old.place) (withheld_text old.place) at old.left (node_act w patterns site main old (texts at)) (Gives par p.left (node_act w patterns site main p (texts par)) Nil))))) place
      ∙ ap (λ m. line (waits_too.part (stub_in old.place) (withheld_text old.place) at old.left m (Gives par p.left (node_act w patterns site main p (texts par)) Nil))) done

  pub shows : Opening w tree 0 (seen w patterns site main row nodes texts) vars (seen w patterns site main (ended at (appended par (or_stub (stub_in old.place) answer.status (withheld_text old.place)) row)) nodes' texts) vars
  unfolding has_node under
  shows =
      let text = withheld_text old.place in
      let chosen = or_stub (stub_in old.place) answer.status text in
      let act = node_act w patterns site main p (texts par) in
      let rest = Gives par p.left act Nil in
      let now : Stance = Going p.left act in
      let row' = appended par chosen row in
      steps.alike (framing.begins laws w patterns site main row nodes texts par (Apart (waits_too.part (stub_in old.place) text at old.left (Done answer) rest) stub) waits_so)
      (steps.then (chosen_part w tree laws par at old.left then_seen open_par (Beside stub) Whole rest (stub_in old.place) text answer vars)
      (steps.then (steps.leaves_inside w tree laws par at old.left then_seen open_par (Beside stub) Whole rest [] chosen answer vars refl)
      (steps.then (steps.joins_withheld w tree laws par p.left then_seen open_par stub chosen act vars some good well (opened par ∙ open_par))
      (framing.ends laws w patterns site main row' nodes texts nodes' par
      (λ j e. sym (waits_too.row_others_same (doing_by w patterns site main texts) nodes' (doing_by w patterns site main texts) nodes par at p' p old r most_levels up heard_so
      (ap is_captured place ∙ sym (ap is_captured row_then)) same_parent (ap is_captured row_then) j e))
      at now refl
      (sym (in_row_is (doing_by w patterns site main texts) nodes' most_levels par p' r.there row_then r.free ∙ ap (λ l. Going l (node_act w patterns site main p' (texts par))) same_left ∙ ap (Going p.left) does))
      (well-append par chosen then_seen well) (opened at ∙ open_at)
      (waits_too.member_hidden (doing_by w patterns site main texts) nodes' (doing_by w patterns site main texts) nodes par at p' p old r most_levels) other
      (λ j. closed j ∙ ap (cond (j == at) false) (sym (opened j))) tree vars))))
