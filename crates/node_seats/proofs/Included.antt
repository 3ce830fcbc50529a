-- A node that isn't in the row comes to a subrequest: it waits for its bytes.
use Rattle.std.proofs.Common.{◌≡◌, ℕ, suc, ◌+◌, ◌==◌, Bool, true, false, cond, List, [], Option, None, Some, slice_get, refl, sym, ap, ◌∙◌, subst}
use Rattle.std.proofs.lemmas.Bool.{eqb-true}
use Rattle.acts.specs.Vars.{Vars}
use Rattle.acts.specs.Act.{Call, Inner}
use Rattle.file_tree.specs.Tree.{Tree}
use Rattle.ngx_pattern.specs.Pattern.{Pattern as SetPattern}
use Rattle.ngx_variables.specs.declared.request.Main.{Main}
use Rattle.site_model.specs.declared.site.Site.{Site}
use Rattle.postpone_filter.specs.Row.{Row as Order, is_open, with_child}
use Rattle.request_meaning.specs.Serving.{World, Serving, Answer, Child, Reply}
use Rattle.request_meaning.specs.Replies.{script}
use Rattle.family_meaning.specs.Line.{Line, joined, opened, with_stub}
use Rattle.family_meaning.specs.Line.Line.{Nil, Gives, Waits, Stubs}
use Rattle.family_order.specs.Items.{Stance, Family, IsAlike, IsWell, doing, is_shown}
use Rattle.family_order.specs.Items.Stance.{Going, Hidden, Waiting}
use Rattle.family_order.specs.Laws.{ShowsTheSame}
use Rattle.node_line.specs.node_turn.Stages.{is_capturing, node_act, node_heard}
use Rattle.node_line.specs.node_turn.Turns.{Works}
use Rattle.node_line.specs.node_turn.declared.node.Node.{Node}
use Rattle.node_line.specs.node_turn.declared.node.Place.{Place}
use Rattle.node_line.specs.node_turn.declared.node.Place.TheVariants.{Row, Stub, Gathers, Captured}
use Rattle.node_line.specs.Stances.{Opening, Own, Spot, filling, owned, stance_so, under}
use Rattle.node_line.specs.Stances.Own.{Beside, Below}
use Rattle.node_line.specs.Stances.Seat.{InRow as InItsRow, Inside}
use Rattle.node_line.specs.Stances.Spot.{After, Behind}
use Rattle.node_line.proofs.Steps as steps
use Rattle.node_seats.specs.Seats.{Doing, ahead_line, asking_line, doing_by, inner_line, inner_lines, is_asked, is_inner, most_nodes, withheld_text, is_captured, is_heard, line_from, most_levels, place_stance, put_by, row_stance, seen, stance_in, stance_of, stub_in, waited_line, takes_up}
use Rattle.node_seats.proofs.Above.{eq_self, false_true}
use Rattle.node_seats.proofs.Inners.{ahead_first, inners_same, no_inner}
use Rattle.node_seats.proofs.Located.{Located, StandsAs, above_line, asked_not, waited_is}
use Rattle.node_seats.proofs.Others as others_are
use Rattle.node_seats.proofs.Others.{Changed, SameOrMore}
use Rattle.node_seats.proofs.Paths.{on_path, path_top}
use Rattle.node_seats.proofs.Framing as framing
use Rattle.node_seats.proofs.Seated.{IsBare, ahead_of, here_is, in_row_is, line_bare, self_inner}

-- The node waits for one more, which is a subrequest of it whose bytes come to it; what the others do is the same.
pub record Waits_too (d : Doing) (nodes : List Node) (d' : Doing) (nodes' : List Node) (at number : ℕ) (old new member : Node) : Type 0 where
  pub there : slice_get nodes at ≡ Some old
  pub then : slice_get nodes' at ≡ Some new
  pub free : old.asks ≡ None
  pub asks : new.asks ≡ Some number
  pub last : slice_get nodes' number ≡ Some member
  pub none : member.asks ≡ None
  pub captured : is_captured member.place ≡ true
  pub parent : member.parent ≡ at
  pub bare : IsBare nodes' number member
  pub not_yet : (m : Node) → slice_get nodes number ≡ Some m → is_inner at old number m ≡ false
  pub rest : (j : ℕ) → (j == at) ≡ false → (j == number) ≡ false → slice_get nodes j ≡ slice_get nodes' j
  pub others : (j : ℕ) → (j == at) ≡ false → SameOrMore at (slice_get nodes j) (slice_get nodes' j)
  pub acts : (j : ℕ) (n : Node) → (j == at) ≡ false → d.act j n ≡ d'.act j n
  pub heard : (j : ℕ) (n : Node) → (j == at) ≡ false → d.heard j n ≡ d'.heard j n

-- the line of a node that waits for no bytes, before more; apart from it where it has a stub
abbrev pub part : Option (List ℕ) → (text : List ℕ) → (number left : ℕ) → Serving Answer → (rest : Line) → Line
part stub text number left m rest = put_by stub (λ r. under text (Gives number left m r)) rest

-- so it begins
pub part_begins : (w : World) (number l : ℕ) (child : Child) (rest : Line) → opened w number l child rest ≡ part child.stub [] number l (script w l child) rest
unfolding joined under
part_begins w number l child rest = by child.stub
  where
    by : (s : Option (List ℕ)) → with_stub s (Gives number l (script w l child) Nil) rest ≡ part s [] number l (script w l child) rest
    by None = refl
    by (Some stub) = refl

module _ (d : Doing) (nodes : List Node) (d' : Doing) (nodes' : List Node) (at number : ℕ) (old new member : Node) (r : Waits_too d nodes d' nodes' at number old new member) where
  -- the line of the subrequest, before more
  pub member_line : (levels : ℕ) (rest : Line) → waited_line (line_from d' nodes' levels) at number (slice_get nodes' number) rest ≡ part (stub_in member.place) (withheld_text member.place) number member.left (d'.act number member) rest
  member_line levels rest =
      waited_is (line_from d' nodes' levels) at number (slice_get nodes' number) member rest r.last r.captured r.parent
      ∙ by (stub_in member.place)
    where
      by : (s : Option (List ℕ)) → put_by s (line_from d' nodes' levels number member) rest ≡ part s (withheld_text member.place) number member.left (d'.act number member) rest
      by None = line_bare d' nodes' levels number member rest r.none r.bare
      by (Some stub) = ap (λ line. Stubs line stub rest) (line_bare d' nodes' levels number member Nil r.none r.bare)

  -- the line of the node then, where the body is a part of its own
  pub included_line : (depth spare : ℕ) (rest : Line) → is_capturing new.stage ≡ false → line_from d' nodes' (suc depth + spare) at new rest
      ≡ ahead_line new.place (inner_lines (line_from d' nodes' (depth + spare)) nodes' at new most_nodes)
      (under (withheld_text new.place) (part (stub_in member.place) (withheld_text member.place) number member.left (d'.act number member) (Gives at new.left (d'.act at new) rest)))
  included_line depth spare rest e =
      let below = line_from d' nodes' (depth + spare) in
      let ahead : Line → Line = λ line. ahead_line new.place (inner_lines (line_from d' nodes' (depth + spare)) nodes' at new most_nodes) (under (withheld_text new.place) line) in
      above_line d' nodes' depth spare at new rest
      ∙ ap (λ a. ahead (asking_line d' nodes' below at new a rest)) r.asks
      ∙ ap (λ b. ahead (cond b (Waits at (waited_line below at number (slice_get nodes' number) Nil) new.left (d'.heard at new) rest) (waited_line below at number (slice_get nodes' number) (Gives at new.left (d'.act at new) rest)))) e
      ∙ ap ahead (member_line (depth + spare) (Gives at new.left (d'.act at new) rest))

  -- and where it goes into a variable
  pub asked_line : (depth spare : ℕ) (rest : Line) → is_capturing new.stage ≡ true → line_from d' nodes' (suc depth + spare) at new rest
      ≡ ahead_line new.place (inner_lines (line_from d' nodes' (depth + spare)) nodes' at new most_nodes)
      (under (withheld_text new.place) (Waits at (part (stub_in member.place) (withheld_text member.place) number member.left (d'.act number member) Nil) new.left (d'.heard at new) rest))
  asked_line depth spare rest e =
      let below = line_from d' nodes' (depth + spare) in
      let ahead : Line → Line = λ line. ahead_line new.place (inner_lines (line_from d' nodes' (depth + spare)) nodes' at new most_nodes) (under (withheld_text new.place) line) in
      above_line d' nodes' depth spare at new rest
      ∙ ap (λ a. ahead (asking_line d' nodes' below at new a rest)) r.asks
      ∙ ap (λ b. ahead (cond b (Waits at (waited_line below at number (slice_get nodes' number) Nil) new.left (d'.heard at new) rest) (waited_line below at number (slice_get nodes' number) (Gives at new.left (d'.act at new) rest)))) e
      ∙ ap (λ line. ahead (Waits at line new.left (d'.heard at new) rest)) (member_line (depth + spare) Nil)

  pub changes : is_captured new.place ≡ is_captured old.place → new.parent ≡ old.parent → Changed d nodes d' nodes' at old new
  changes captured parent = record { there = r.there; then = r.then; captured = captured; parent = parent; others = r.others; acts = r.acts; heard = r.heard }

  -- the lines of its other subrequests are the same
  module _ (up : ℕ) (heard : is_heard up nodes at old ≡ true) (captured : is_captured new.place ≡ is_captured old.place) (takes : takes_up new.place ≡ takes_up old.place) (parent : new.parent ≡ old.parent) where
    pub lines_same : (levels : ℕ) (rest : Line) → inner_lines (line_from d nodes levels) nodes at old most_nodes rest ≡ inner_lines (line_from d' nodes' levels) nodes' at new most_nodes rest
    lines_same levels = inners_same (line_from d nodes levels) nodes at old (line_from d' nodes' levels) nodes' new most_nodes (λ c h rest. by c rest (c == at) (c == number) refl refl)
      where
        none_yet : (c : ℕ) (o : Option Node) (rest : Line) → c ≡ number → slice_get nodes c ≡ o → inner_line (line_from d nodes levels) at old c o rest ≡ rest
        none_yet c None rest it e = refl
        none_yet c (Some m) rest it e =
            no_inner (line_from d nodes levels) at old c m rest (ap (λ i. is_inner at old i m) it ∙ r.not_yet m (sym (ap (slice_get nodes) it) ∙ e))

        apart : (c : ℕ) → (c == number) ≡ false → (number == c) ≡ false
        apart c e = by (number == c) refl
          where
            by : (b : Bool) → (number == c) ≡ b → b ≡ false
            by true f = absurd (false_true (sym e ∙ ap (λ i. c == i) (eqb-true number c f) ∙ eq_self c))
            by false f = refl

        by : (c : ℕ) (rest : Line) (a b : Bool) → (c == at) ≡ a → (c == number) ≡ b → inner_line (line_from d nodes levels) at old c (slice_get nodes c) rest ≡ inner_line (line_from d' nodes' levels) at new c (slice_get nodes' c) rest
        by c rest true b e f =
            let it = eqb-true c at e in
            ap (λ i. inner_line (line_from d nodes levels) at old i (slice_get nodes c) rest) it ∙ self_inner (line_from d nodes levels) at old (slice_get nodes c) rest
            ∙ sym (ap (λ i. inner_line (line_from d' nodes' levels) at new i (slice_get nodes' c) rest) it ∙ self_inner (line_from d' nodes' levels) at new (slice_get nodes' c) rest)
        by c rest false true e f =
            let it = eqb-true c number f in
            none_yet c (slice_get nodes c) rest it refl
            ∙ sym (asked_not (line_from d' nodes' levels) at new c (slice_get nodes' c) rest (ap (is_asked c) r.asks ∙ ap (λ i. number == i) it ∙ eq_self number))
        by c rest false false e f =
            let ch = changes captured parent in
            others_are.own_inner d nodes d' nodes' up at old new heard ch (line_from d nodes levels) (line_from d' nodes' levels) (others_are.off_line d nodes d' nodes' up at old new heard ch levels) c rest (r.rest c e f)
            (ap (is_asked c) r.free ∙ sym (ap (is_asked c) r.asks ∙ apart c f))

    pub ahead_is : (levels : ℕ) → ahead_of d' nodes' levels at new ≡ ahead_of d nodes levels at old
    ahead_is levels = by new.place old.place takes
      where
        by : (p q : Place) → takes_up p ≡ takes_up q → ahead_line p (inner_lines (line_from d' nodes' levels) nodes' at new most_nodes) Nil ≡ ahead_line q (inner_lines (line_from d nodes levels) nodes at old most_nodes) Nil
        by Row Row e = refl
        by Row (Stub stub text) e = refl
        by Row (Gathers stub text) e = absurd (false_true e)
        by Row (Captured stub text) e = absurd (false_true e)
        by (Stub stub text) Row e = refl
        by (Stub stub text) (Stub stub' text') e = refl
        by (Stub stub text) (Gathers stub' text') e = absurd (false_true e)
        by (Stub stub text) (Captured stub' text') e = absurd (false_true e)
        by (Gathers stub text) Row e = absurd (false_true (sym e))
        by (Gathers stub text) (Stub stub' text') e = absurd (false_true (sym e))
        by (Gathers stub text) (Gathers stub' text') e = sym (lines_same levels Nil)
        by (Gathers stub text) (Captured stub' text') e = sym (lines_same levels Nil)
        by (Captured stub text) Row e = absurd (false_true (sym e))
        by (Captured stub text) (Stub stub' text') e = absurd (false_true (sym e))
        by (Captured stub text) (Gathers stub' text') e = sym (lines_same levels Nil)
        by (Captured stub text) (Captured stub' text') e = sym (lines_same levels Nil)

    pub ahead_so : (levels : ℕ) (rest : Line) → ahead_line new.place (inner_lines (line_from d' nodes' levels) nodes' at new most_nodes) rest ≡ joined (ahead_of d nodes levels at old) rest
    ahead_so levels rest = ahead_first d' nodes' levels at new rest ∙ ap (λ a. joined a rest) (ahead_is levels)

  -- what is said of the one that has the line
  module _ (levels up depth : ℕ) (q : Located levels d nodes at old up (suc depth) at old) (heard : is_heard up nodes at old ≡ true) (like : StandsAs old new) where
    pub included_is : is_capturing new.stage ≡ false →
        stance_in d' nodes' levels q.h ≡ owned q.own (filling (Behind (withheld_text new.place) (After (ahead_of d nodes (depth + q.spare) at old) q.spot)) (part (stub_in member.place) (withheld_text member.place) number member.left (d'.act number member) (Gives at new.left (d'.act at new) q.rest)))
    included_is e =
        q.is d' nodes' new (changes like.captured like.parent) new r.then like
        ∙ ap (λ line. owned q.own (filling q.spot line)) (included_line depth q.spare q.rest e
        ∙ ahead_so up heard like.captured like.takes like.parent (depth + q.spare) (under (withheld_text new.place) (part (stub_in member.place) (withheld_text member.place) number member.left (d'.act number member) (Gives at new.left (d'.act at new) q.rest))))

    pub asked_is : is_capturing new.stage ≡ true →
        stance_in d' nodes' levels q.h ≡ owned q.own (filling (Behind (withheld_text new.place) (After (ahead_of d nodes (depth + q.spare) at old) q.spot)) (Waits at (part (stub_in member.place) (withheld_text member.place) number member.left (d'.act number member) Nil) new.left (d'.heard at new) q.rest))
    asked_is e =
        q.is d' nodes' new (changes like.captured like.parent) new r.then like
        ∙ ap (λ line. owned q.own (filling q.spot line)) (asked_line depth q.spare q.rest e
        ∙ ahead_so up heard like.captured like.takes like.parent (depth + q.spare) (under (withheld_text new.place) (Waits at (part (stub_in member.place) (withheld_text member.place) number member.left (d'.act number member) Nil) new.left (d'.heard at new) q.rest)))

    -- it doesn't wait in the other nodes
    pub alone_is : stance_in d nodes levels q.h ≡ owned q.own (filling (Behind (withheld_text old.place) (After (ahead_of d nodes (depth + q.spare) at old) q.spot)) (Gives at old.left (d.act at old) q.rest))
    alone_is = here_is levels d nodes up depth at old r.there r.free q

  -- what is said of one in the row
  pub row_asked_is : (levels : ℕ) → new.place ≡ Row → stance_in d' nodes' levels at ≡ Waiting (part (stub_in member.place) (withheld_text member.place) number member.left (d'.act number member) Nil) new.left (d'.heard at new)
  row_asked_is levels row =
      ap (stance_of d' nodes' levels at) r.then ∙ ap (place_stance d' nodes' levels at new) row ∙ ap (row_stance d' nodes' levels at new) r.asks
      ∙ ap (λ line. Waiting line new.left (d'.heard at new)) (member_line levels Nil)

  -- of the subrequest nothing is said
  pub member_hidden : (levels : ℕ) → stance_in d' nodes' levels number ≡ Hidden
  member_hidden levels = ap (stance_of d' nodes' levels number) r.last ∙ by member.place r.captured
    where
      by : (p : Place) → is_captured p ≡ true → place_stance d' nodes' levels number member p ≡ Hidden
      by Row f = cc
      by (Stub stub text) f = cc
      by (Gathers stub text) f = cc
      by (Captured stub text) f = refl

  -- of the others the same is said
  module _ (levels up : ℕ) (heard : is_heard up nodes at old ≡ true) (captured_same : is_captured new.place ≡ is_captured old.place) (parent_same : new.parent ≡ old.parent) where
    pub others_same : (h : ℕ) → ((j : ℕ) (n : Node) → on_path up nodes at (Some old) j ≡ true → (j == h) ≡ false → slice_get nodes j ≡ Some n → is_captured n.place ≡ true) →
        (j : ℕ) → (j == h) ≡ false → stance_in d nodes levels j ≡ stance_in d' nodes' levels j
    others_same h path = others_are.changed_same d nodes d' nodes' up at old new heard (changes captured_same parent_same) levels h path

    pub row_others_same : is_captured old.place ≡ false → (j : ℕ) → (j == at) ≡ false → stance_in d nodes levels j ≡ stance_in d' nodes' levels j
    row_others_same free = others_same at (λ j n on other e. absurd (false_true (sym other ∙ path_top up nodes at old j free on)))

-- ---- the steps

-- what the subrequest and the node do then, and that the row has them, or their line
module _ (laws : ShowsTheSame) (w : World) (patterns : List SetPattern) (site : Site) (main : Main) (row : Order) (nodes nodes' : List Node) (texts : ℕ → List ℕ) (at number : ℕ) (old new member : Node)
    (r : Waits_too (doing_by w patterns site main texts) nodes (doing_by w patterns site main texts) nodes' at number old new member) (like : StandsAs old new) (place : new.place ≡ old.place)
    (empty : withheld_text member.place ≡ []) (stub : Option (List ℕ)) (stubbed : stub_in member.place ≡ stub) (heard_so : is_heard most_levels nodes at old ≡ true) (tree : Tree) (vars : Vars) (goes_on : is_open at row.pieces ≡ true) (well : IsWell (seen w patterns site main row nodes texts)) where
  abbrev before : Family
  before = seen w patterns site main row nodes texts

  abbrev act : Node → Serving Answer
  act n = node_act w patterns site main n (texts at)

  abbrev does : Doing
  does = doing_by w patterns site main texts

  hides : row.nodes ≡ number → stance_in (doing_by w patterns site main texts) nodes' most_levels row.nodes ≡ Hidden
  hides e =
      ap (stance_in (doing_by w patterns site main texts) nodes' most_levels) e
      ∙ member_hidden (doing_by w patterns site main texts) nodes (doing_by w patterns site main texts) nodes' at number old new member r most_levels

  shown : (own : Own) (line : Line) → is_shown (owned own line) ≡ true
  shown (Beside stub) line = refl
  shown (Below left k) line = refl

  module _ (child : Child) (l : ℕ) (deep : old.left ≡ suc l) (its_stub : child.stub ≡ stub) (new_left : new.left ≡ old.left) (member_left : member.left ≡ l)
      (begun : node_act w patterns site main member (texts number) ≡ script w l child) (numbered : row.nodes ≡ number) where
    abbrev heard : Reply → Serving Answer
    heard reply = node_heard w patterns site main new (texts at) reply.body

    -- the subrequest as it is said then
    member_so : (line : Option (List ℕ) → List ℕ → ℕ → Serving Answer → ℕ → Stance) →
        line (stub_in member.place) (withheld_text member.place) member.left (node_act w patterns site main member (texts number)) new.left ≡ line child.stub [] l (script w l child) old.left
    member_so line =
        ap (λ s. line s (withheld_text member.place) member.left (node_act w patterns site main member (texts number)) new.left) (stubbed ∙ sym its_stub)
        ∙ ap (λ t. line child.stub t member.left (node_act w patterns site main member (texts number)) new.left) empty
        ∙ ap (λ a. line child.stub [] a (node_act w patterns site main member (texts number)) new.left) member_left
        ∙ ap (λ m. line child.stub [] l m new.left) begun
        ∙ ap (line child.stub [] l (script w l child)) new_left

    -- ---- in a line

    module _ (q : Located most_levels (doing_by w patterns site main texts) nodes at old most_levels 1 at old) (open_h : is_open q.h row.pieces ≡ true) (other : (row.nodes == q.h) ≡ false) where
      abbrev within : Spot
      within = After (ahead_of (doing_by w patterns site main texts) nodes (0 + q.spare) at old) q.spot

      spot : Spot
      spot = Behind (withheld_text old.place) (After (ahead_of (doing_by w patterns site main texts) nodes (0 + q.spare) at old) q.spot)

      others_then : (j : ℕ) → (j == q.h) ≡ false → stance_in (doing_by w patterns site main texts) nodes most_levels j ≡ stance_in (doing_by w patterns site main texts) nodes' most_levels j
      others_then = others_same (doing_by w patterns site main texts) nodes (doing_by w patterns site main texts) nodes' at number old new member r most_levels most_levels heard_so like.captured like.parent q.h q.path

      begins_so : IsAlike before (doing q.h (stance_so (Inside q.own (Behind (withheld_text old.place) within) q.rest) at old.left (act old)) before)
      begins_so =
          framing.begins laws w patterns site main row nodes texts q.h (stance_so (Inside q.own (Behind (withheld_text old.place) within) q.rest) at old.left (act old))
          (alone_is (doing_by w patterns site main texts) nodes (doing_by w patterns site main texts) nodes' at number old new member r most_levels most_levels 0 q heard_so like)

      -- its body is a part of the node's own
      pub included : is_capturing new.stage ≡ false → Works vars (act old) (Inner child (act new)) → Opening w tree 1 before vars (seen w patterns site main (with_child at row) nodes' texts) vars
      unfolding spot under
      included e acts =
          let line : List ℕ → Option (List ℕ) → List ℕ → ℕ → Serving Answer → ℕ → Stance = λ withheld s t a m b. owned q.own (filling (Behind withheld within) (part s t number a m (Gives at b (act new) q.rest))) in
          let t = line (withheld_text old.place) child.stub [] l (script w l child) old.left in
          let rest = Gives at old.left (act new) q.rest in
          steps.alike begins_so
          (steps.then (steps.works w tree laws q.h at (Inside q.own spot q.rest) old.left before open_h vars (act old) (Inner child (act new)) acts)
          (steps.then (subst (λ x. Opening w tree 1 (doing q.h (owned q.own (filling spot (Gives at old.left (Inner child (act new)) q.rest))) before) vars (doing q.h (owned q.own (filling spot x)) before) vars) (part_begins w number l child rest)
          (steps.opens_any w tree laws q.h at old.left before open_h q.own spot q.rest number l child (act new) vars deep))
          (framing.opens laws w patterns site main row nodes texts nodes' q.h others_then at t (shown q.own (filling spot (part child.stub [] number l (script w l child) rest)))
          (sym (included_is (doing_by w patterns site main texts) nodes (doing_by w patterns site main texts) nodes' at number old new member r most_levels most_levels 0 q heard_so like e
          ∙ ap (λ p. line (withheld_text p) (stub_in member.place) (withheld_text member.place) member.left (node_act w patterns site main member (texts number)) new.left) place ∙ member_so (line (withheld_text old.place))))
          well goes_on (hides numbered) other tree vars)))

      -- it goes into a variable
      pub asked : is_capturing new.stage ≡ true → Works vars (act old) (Call child heard) → Opening w tree 1 before vars (seen w patterns site main (with_child at row) nodes' texts) vars
      unfolding spot under
      asked e acts =
          let line : List ℕ → Option (List ℕ) → List ℕ → ℕ → Serving Answer → ℕ → Stance = λ withheld s t a m b. owned q.own (filling (Behind withheld within) (Waits at (part s t number a m Nil) b heard q.rest)) in
          let t = line (withheld_text old.place) child.stub [] l (script w l child) old.left in
          steps.alike begins_so
          (steps.then (steps.works w tree laws q.h at (Inside q.own spot q.rest) old.left before open_h vars (act old) (Call child heard) acts)
          (steps.then (subst (λ x. Opening w tree 1 (doing q.h (owned q.own (filling spot (Gives at old.left (Call child heard) q.rest))) before) vars (doing q.h (owned q.own (filling spot (Waits at x old.left heard q.rest))) before) vars) (part_begins w number l child Nil)
          (steps.asks_any w tree laws q.h at old.left before open_h q.own spot q.rest number l child heard vars deep))
          (framing.opens laws w patterns site main row nodes texts nodes' q.h others_then at t (shown q.own (filling spot (Waits at (part child.stub [] number l (script w l child) Nil) old.left heard q.rest)))
          (sym (asked_is (doing_by w patterns site main texts) nodes (doing_by w patterns site main texts) nodes' at number old new member r most_levels most_levels 0 q heard_so like e
          ∙ ap (λ p. line (withheld_text p) (stub_in member.place) (withheld_text member.place) member.left (node_act w patterns site main member (texts number)) new.left) place ∙ member_so (line (withheld_text old.place))))
          well goes_on (hides numbered) other tree vars)))

    -- ---- in the row

    pub row_asked : old.place ≡ Row → (row.nodes == at) ≡ false → Works vars (act old) (Call child heard) → Opening w tree 1 before vars (seen w patterns site main (with_child at row) nodes' texts) vars
    unfolding under
    row_asked is_row other acts =
        let line : Option (List ℕ) → List ℕ → ℕ → Serving Answer → ℕ → Stance = λ s t a m b. Waiting (part s t number a m Nil) b heard in
        let t = line child.stub [] l (script w l child) old.left in
        steps.alike (framing.begins laws w patterns site main row nodes texts at (Going old.left (act old)) (in_row_is (doing_by w patterns site main texts) nodes most_levels at old r.there is_row r.free))
        (steps.then (steps.works w tree laws at at InItsRow old.left before goes_on vars (act old) (Call child heard) acts)
        (steps.then (subst (λ n. Opening w tree 1 (doing at (Going n (Call child heard)) before) vars (doing at (line child.stub [] l (script w l child) n) before) vars) (sym deep)
        (subst (λ x. Opening w tree 1 (doing at (Going (suc l) (Call child heard)) before) vars (doing at (Waiting x (suc l) heard) before) vars) (part_begins w number l child Nil)
        (steps.asks_so w tree laws at l before goes_on number child heard vars)))
        (framing.opens laws w patterns site main row nodes texts nodes' at
        (row_others_same (doing_by w patterns site main texts) nodes (doing_by w patterns site main texts) nodes' at number old new member r most_levels most_levels heard_so like.captured like.parent (ap is_captured is_row)) at t refl
        (sym (row_asked_is (doing_by w patterns site main texts) nodes (doing_by w patterns site main texts) nodes' at number old new member r most_levels (place ∙ is_row) ∙ member_so line))
        well goes_on (hides numbered) other tree vars)))
