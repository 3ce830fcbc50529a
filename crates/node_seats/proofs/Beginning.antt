-- A node opens a subrequest whose bytes come where it has come to, and goes on.
use Rattle.std.proofs.Common.{◌≡◌, ◌<◌, ◌≤◌, ℕ, suc, ◌+◌, ◌-◌, ◌==◌, nat_lt, Bool, true, false, List, [], Option, None, Some, slice_get, refl, sym, ap, ◌∙◌, subst, arith}
use Rattle.std.proofs.lemmas.Bool.{eqb-true}
use Rattle.acts.specs.Vars.{Vars}
use Rattle.acts.specs.Act.{Inner}
use Rattle.file_tree.specs.Tree.{Tree}
use Rattle.ngx_pattern.specs.Pattern.{Pattern as SetPattern}
use Rattle.ngx_variables.specs.declared.request.Main.{Main}
use Rattle.site_model.specs.declared.site.Site.{Site}
use Rattle.postpone_filter.specs.Row.{Row as Order, is_open, with_child}
use Rattle.request_meaning.specs.Serving.{World, Serving, Answer, Child}
use Rattle.request_meaning.specs.Replies.{script}
use Rattle.family_meaning.specs.Line.{Line, joined}
use Rattle.family_meaning.specs.Line.Line.{Nil, Gives, Stubs}
use Rattle.family_order.specs.Items.{Stance, Family, IsWell, doing, is_shown}
use Rattle.family_order.specs.Items.Stance.{Hidden}
use Rattle.family_order.specs.Laws.{ShowsTheSame}
use Rattle.node_line.specs.node_turn.Stages.{node_act}
use Rattle.node_line.specs.node_turn.Turns.{Works}
use Rattle.node_line.specs.node_turn.declared.node.Node.{Node}
use Rattle.node_line.specs.node_turn.declared.node.Place.{Place}
use Rattle.node_line.specs.node_turn.declared.node.Place.TheVariants.{Row, Stub, Gathers, Captured}
use Rattle.node_line.specs.Stances.{Opening, Own, Spot, filling, owned, under}
use Rattle.node_line.specs.Stances.Own.{Beside, Below}
use Rattle.node_line.specs.Stances.Seat.{Inside}
use Rattle.node_line.specs.Stances.Spot.{After, Behind}
use Rattle.node_line.proofs.Steps as steps
use Rattle.node_seats.specs.Seats.{Doing, ahead_line, doing_by, inner_line, inner_lines, is_asked, most_nodes, takes_up, withheld_text, is_captured, is_heard, line_from, most_levels, place_stance, put_by, seen, stance_in, stance_of, stub_in}
use Rattle.node_seats.proofs.Framing as framing
use Rattle.node_seats.proofs.Included.{part, part_begins}
use Rattle.node_seats.proofs.Inners.{as_sum, inners_first, later_lines, later_none, split_at}
use Rattle.node_seats.proofs.Located.{Located, StandsAs, inner_is}
use Rattle.node_seats.proofs.Others as others_are
use Rattle.node_seats.proofs.Others.{Changed, SameOrMore}
use Rattle.node_seats.proofs.Others.SameOrMore.{Same, Its}
use Rattle.node_seats.proofs.Seated.{IsBare, ahead_of, here_is, line_bare, line_free, own_lines}

-- Another node in the place of one that takes up the bytes of its subrequests, and one more, whose bytes come to it after those that it
-- had; what the others do is the same.
pub record Begins_too (d : Doing) (nodes : List Node) (d' : Doing) (nodes' : List Node) (at number : ℕ) (old new member : Node) : Type 0 where
  pub there : slice_get nodes at ≡ Some old
  pub then : slice_get nodes' at ≡ Some new
  pub free : old.asks ≡ None
  pub free_then : new.asks ≡ None
  pub takes : takes_up old.place ≡ true
  pub takes_then : takes_up new.place ≡ true
  pub empty : withheld_text new.place ≡ []
  pub last : slice_get nodes' number ≡ Some member
  pub none : member.asks ≡ None
  pub member_captured : is_captured member.place ≡ true
  pub parent : member.parent ≡ at
  pub over : member.over ≡ false
  pub before : member.before ≡ withheld_text old.place
  pub nothing : withheld_text member.place ≡ []
  pub bare : IsBare nodes' number member
  pub after : nat_lt at number ≡ true
  pub few : nat_lt number most_nodes ≡ true
  pub missing : (j : ℕ) → number ≤ j → slice_get nodes j ≡ None
  pub missing_then : (j : ℕ) → number < j → slice_get nodes' j ≡ None
  pub rest : (j : ℕ) → (j == at) ≡ false → (j == number) ≡ false → slice_get nodes j ≡ slice_get nodes' j
  pub others : (j : ℕ) → (j == at) ≡ false → SameOrMore at (slice_get nodes j) (slice_get nodes' j)
  pub acts : (j : ℕ) (n : Node) → (j == at) ≡ false → d.act j n ≡ d'.act j n
  pub heard : (j : ℕ) (n : Node) → (j == at) ≡ false → d.heard j n ≡ d'.heard j n

module _ (d : Doing) (nodes : List Node) (d' : Doing) (nodes' : List Node) (at number : ℕ) (old new member : Node) (r : Begins_too d nodes d' nodes' at number old new member) (like : StandsAs old new) where
  pub changes : Changed d nodes d' nodes' at old new
  changes = record { there = r.there; then = r.then; captured = like.captured; parent = like.parent; others = r.others; acts = r.acts; heard = r.heard }

  ahead_captured : (p : Place) (f : Line → Line) (line : Line) → takes_up p ≡ true → ahead_line p f line ≡ f line
  ahead_captured Row f line e = cc
  ahead_captured (Stub stub text) f line e = cc
  ahead_captured (Gathers stub text) f line e = refl
  ahead_captured (Captured stub text) f line e = refl

  module _ (up : ℕ) (heard : is_heard up nodes at old ≡ true) (levels : ℕ) where
    -- those that were there before
    lines_before : (rest : Line) → inner_lines (line_from d' nodes' levels) nodes' at new number rest ≡ inner_lines (line_from d nodes levels) nodes at old most_nodes rest
    lines_before rest =
        sym (own_lines d nodes d' nodes' up at old new heard changes levels number (λ c h e. r.rest c e (apart c h (c == number) refl)) (λ c h e. ap (is_asked c) r.free ∙ sym (ap (is_asked c) r.free_then)) rest)
        ∙ sym (ap (λ k. inner_lines (line_from d nodes levels) nodes at old k rest) (as_sum number most_nodes r.few)
        ∙ split_at (line_from d nodes levels) nodes at old number (most_nodes - suc number) rest
        ∙ ap (inner_lines (line_from d nodes levels) nodes at old number)
        (ap (λ o. inner_line (line_from d nodes levels) at old number o (later_lines (line_from d nodes levels) nodes at old (suc number) (most_nodes - suc number) rest)) (r.missing number (same_le number))
        ∙ later_none (line_from d nodes levels) nodes at old (suc number) (most_nodes - suc number) (λ c h k line. ap (λ o. inner_line (line_from d nodes levels) at old c o line) (r.missing c (later c h))) rest))
      where
        apart : (c : ℕ) → c < number → (b : Bool) → (c == number) ≡ b → b ≡ false
        apart c h true e = let f = eqb-true c number e in absurd (omega (arith, h, f))
        apart c h false e = refl

        same_le : (n : ℕ) → n ≤ n
        same_le n = omega arith

        later : (c : ℕ) → suc number ≤ c → number ≤ c
        later c h = omega (arith, h)

    -- the line of the new one
    member_line : (rest : Line) → put_by (stub_in member.place) (line_from d' nodes' levels number member) rest ≡ part (stub_in member.place) [] number member.left (d'.act number member) rest
    member_line rest = by (stub_in member.place)
      where
        alone : (line : Line) → line_from d' nodes' levels number member line ≡ under [] (Gives number member.left (d'.act number member) line)
        alone line = line_bare d' nodes' levels number member line r.none r.bare ∙ ap (λ t. under t (Gives number member.left (d'.act number member) line)) r.nothing

        by : (s : Option (List ℕ)) → put_by s (line_from d' nodes' levels number member) rest ≡ part s [] number member.left (d'.act number member) rest
        by None = alone rest
        by (Some stub) = ap (λ line. Stubs line stub rest) (alone Nil)

    -- all of them
    pub lines_then : (rest : Line) → inner_lines (line_from d' nodes' levels) nodes' at new most_nodes rest
        ≡ joined (ahead_of d nodes levels at old) (under (withheld_text old.place) (part (stub_in member.place) [] number member.left (d'.act number member) rest))
    lines_then rest =
        let below' = line_from d' nodes' levels in
        ap (λ k. inner_lines below' nodes' at new k rest) (as_sum number most_nodes r.few)
        ∙ split_at below' nodes' at new number (most_nodes - suc number) rest
        ∙ ap (λ line. inner_lines below' nodes' at new number (inner_line below' at new number (slice_get nodes' number) line))
        (later_none below' nodes' at new (suc number) (most_nodes - suc number) (λ c h k line. ap (λ o. inner_line below' at new c o line) (r.missing_then c h)) rest)
        ∙ ap (inner_lines below' nodes' at new number)
        (inner_is below' at new number (slice_get nodes' number) member rest r.last r.member_captured r.parent r.after r.over (ap (is_asked number) r.free_then)
        ∙ ap (under member.before) (member_line rest)
        ∙ ap (λ t. under t (part (stub_in member.place) [] number member.left (d'.act number member) rest)) r.before)
        ∙ lines_before (under (withheld_text old.place) (part (stub_in member.place) [] number member.left (d'.act number member) rest))
        ∙ inners_first d nodes levels at old most_nodes (under (withheld_text old.place) (part (stub_in member.place) [] number member.left (d'.act number member) rest))
        ∙ ap (λ a. joined a (under (withheld_text old.place) (part (stub_in member.place) [] number member.left (d'.act number member) rest))) (sym (ahead_captured old.place (inner_lines (line_from d nodes levels) nodes at old most_nodes) Nil r.takes))

-- ---- the step

module _ (laws : ShowsTheSame) (w : World) (patterns : List SetPattern) (site : Site) (main : Main) (row : Order) (nodes nodes' : List Node) (texts : ℕ → List ℕ) (at number : ℕ) (old new member : Node)
    (r : Begins_too (doing_by w patterns site main texts) nodes (doing_by w patterns site main texts) nodes' at number old new member) (like : StandsAs old new) (heard_so : is_heard most_levels nodes at old ≡ true)
    (tree : Tree) (vars : Vars) (goes_on : is_open at row.pieces ≡ true) (well : IsWell (seen w patterns site main row nodes texts))
    (q : Located most_levels (doing_by w patterns site main texts) nodes at old most_levels 1 at old) (open_h : is_open q.h row.pieces ≡ true) (other : (row.nodes == q.h) ≡ false)
    (child : Child) (l : ℕ) (deep : old.left ≡ suc l) (its_stub : stub_in member.place ≡ child.stub) (new_left : new.left ≡ old.left) (member_left : member.left ≡ l)
    (begun : node_act w patterns site main member (texts number) ≡ script w l child) (numbered : row.nodes ≡ number) where
  abbrev before : Family
  before = seen w patterns site main row nodes texts

  abbrev act : Node → Serving Answer
  act n = node_act w patterns site main n (texts at)

  abbrev does : Doing
  does = doing_by w patterns site main texts

  abbrev spot : Spot
  spot = Behind (withheld_text old.place) (After (ahead_of (doing_by w patterns site main texts) nodes (0 + q.spare) at old) q.spot)

  shown : (own : Own) (line : Line) → is_shown (owned own line) ≡ true
  shown (Beside stub) line = refl
  shown (Below left k) line = refl

  hides : stance_in (doing_by w patterns site main texts) nodes' most_levels row.nodes ≡ Hidden
  hides = ap (stance_in (doing_by w patterns site main texts) nodes' most_levels) numbered ∙ ap (stance_of (doing_by w patterns site main texts) nodes' most_levels number) r.last ∙ by member.place r.member_captured
    where
      by : (p : Place) → is_captured p ≡ true → place_stance (doing_by w patterns site main texts) nodes' most_levels number member p ≡ Hidden
      by Row f = cc
      by (Stub stub text) f = cc
      by (Gathers stub text) f = cc
      by (Captured stub text) f = refl

  more : (a : ℕ) → 1 + a ≡ suc (0 + a)
  more a = omega arith

  -- the subrequest as it is said then
  then_is : stance_in (doing_by w patterns site main texts) nodes' most_levels q.h ≡ owned q.own (filling spot (part child.stub [] number l (script w l child) (Gives at old.left (act new) q.rest)))
  unfolding under
  then_is =
      let rest : Line = Gives at new.left (act new) q.rest in
      let line : Option (List ℕ) → ℕ → Serving Answer → ℕ → Stance = λ s a m b. owned q.own (filling spot (part s [] number a m (Gives at b (act new) q.rest))) in
      q.is (doing_by w patterns site main texts) nodes' new (changes (doing_by w patterns site main texts) nodes (doing_by w patterns site main texts) nodes' at number old new member r like) new r.then like
      ∙ ap (λ x. owned q.own (filling q.spot x))
      (ap (λ n. line_from (doing_by w patterns site main texts) nodes' n at new q.rest) (more q.spare)
      ∙ line_free (doing_by w patterns site main texts) nodes' (0 + q.spare) at new q.rest r.free_then
      ∙ ap (λ t. ahead_line new.place (inner_lines (line_from (doing_by w patterns site main texts) nodes' (0 + q.spare)) nodes' at new most_nodes) (under t rest)) r.empty
      ∙ ahead_captured (doing_by w patterns site main texts) nodes (doing_by w patterns site main texts) nodes' at number old new member r like new.place
      (inner_lines (line_from (doing_by w patterns site main texts) nodes' (0 + q.spare)) nodes' at new most_nodes) rest r.takes_then
      ∙ lines_then (doing_by w patterns site main texts) nodes (doing_by w patterns site main texts) nodes' at number old new member r like most_levels heard_so (0 + q.spare) rest)
      ∙ ap (λ s. line s member.left (node_act w patterns site main member (texts number)) new.left) its_stub
      ∙ ap (λ a. line child.stub a (node_act w patterns site main member (texts number)) new.left) member_left
      ∙ ap (λ m. line child.stub l m new.left) begun
      ∙ ap (line child.stub l (script w l child)) new_left

  pub begins : Works vars (act old) (Inner child (act new)) → Opening w tree 1 before vars (seen w patterns site main (with_child at row) nodes' texts) vars
  begins acts =
      let rest = Gives at old.left (act new) q.rest in
      steps.alike (framing.begins laws w patterns site main row nodes texts q.h (owned q.own (filling spot (Gives at old.left (act old) q.rest))) (here_is most_levels (doing_by w patterns site main texts) nodes most_levels 0 at old r.there r.free q))
      (steps.then (steps.works w tree laws q.h at (Inside q.own spot q.rest) old.left before open_h vars (act old) (Inner child (act new)) acts)
      (steps.then (subst (λ x. Opening w tree 1 (doing q.h (owned q.own (filling spot (Gives at old.left (Inner child (act new)) q.rest))) before) vars (doing q.h (owned q.own (filling spot x)) before) vars) (part_begins w number l child rest)
      (steps.opens_any w tree laws q.h at old.left before open_h q.own spot q.rest number l child (act new) vars deep))
      (framing.opens laws w patterns site main row nodes texts nodes' q.h
      (others_are.changed_same (doing_by w patterns site main texts) nodes (doing_by w patterns site main texts) nodes' most_levels at old new heard_so (changes (doing_by w patterns site main texts) nodes (doing_by w patterns site main texts) nodes' at number old new member r like) most_levels q.h q.path)
      at (owned q.own (filling spot (part child.stub [] number l (script w l child) rest))) (shown q.own (filling spot (part child.stub [] number l (script w l child) rest)))
      (sym then_is) well goes_on hides other tree vars)))
