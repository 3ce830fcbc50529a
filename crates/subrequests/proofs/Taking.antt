-- The next part of a node's page.
use Rattle.std.proofs.Common.{◌≡◌, ℕ, suc, ◌+◌, ◌<◌, ◌≤◌, ◌==◌, ◌&&◌, nat_lt, Bool, true, false, cond, List, [], ◌∷◌, ◌++◌, drop, length, set, slice_get, None, Some, refl, sym, ap, ◌∙◌, subst, arith}
use Rattle.std.proofs.lemmas.Bool.Decides.{nat_tests}
use Rattle.acts.specs.Vars.{Vars}
use Rattle.acts.specs.Act.{Call, Inner}
use Rattle.file_tree.specs.Tree.{Tree, Trees, text_of}
use Rattle.ngx_pattern.specs.Pattern.{Pattern as SetPattern}
use Rattle.ngx_variables.specs.declared.request.Main.{Main}
use Rattle.site_model.specs.declared.site.Site.{Site}
use Rattle.postpone_filter.specs.Row.{Row, is_open, with_child}
use Rattle.request_meaning.specs.Serving.{World, Serving, Answer, Child, Reply}
use Rattle.request_meaning.specs.Replies.{script}
use Rattle.family_order.specs.family_meaning.Line.{opened}
use Rattle.family_order.specs.family_meaning.Line.Line.{Nil, Gives, Waits}
use Rattle.family_order.specs.Acts.Acts.{Opens, Asks}
use Rattle.family_order.specs.Items.{Stance, Family, IsAlike, IsWell, doing, opening, stance_by, with_stance}
use Rattle.family_order.specs.Items.Stance.{Going, Waiting}
use Rattle.family_order.specs.Laws.{ShowsTheSame}
use Rattle.node_line.specs.Stances.{Opening, filling, owned}
use Rattle.node_line.specs.Stances.Seat.{InRow as InItsRow, Inside}
use Rattle.node_line.specs.Stances.Spot.{After, Behind}
use Rattle.node_line.specs.node_turn.Stages.{IsSameNode, is_capturing, is_in_row, item_asked, node_act, node_heard, text_in}
use Rattle.node_line.specs.node_turn.Turns.{Works}
use Rattle.node_line.specs.node_turn.declared.node.Node.{Node}
use Rattle.node_line.specs.node_turn.declared.node.Place.TheVariants.{Row as InRow, Captured}
use Rattle.node_seats.specs.Seats.{doing_by, withheld_text, is_captured, is_seated, most_levels, most_nodes, seen, stance_in, stub_in, takes_up}
use Rattle.node_seats.proofs.Framing as framing
use Rattle.node_seats.proofs.Beginning as beginning
use Rattle.node_seats.proofs.Beginning.{Begins_too}
use Rattle.node_seats.proofs.Included as waits_too
use Rattle.node_seats.proofs.Included.{Waits_too}
use Rattle.node_seats.proofs.Located.{Located, StandsAs, locate}
use Rattle.node_seats.proofs.Others.{SameOrMore, is_its}
use Rattle.node_seats.proofs.Others.SameOrMore.{Same, Its}
use Rattle.node_seats.proofs.Seated.{ahead_of, here_is}
use Rattle.subrequests.specs.Families.{IsInnerOpened, IsSound}
use Rattle.node_line.proofs.Steps as steps
use Rattle.subrequests.proofs.Members as members
use Rattle.family_nodes.proofs.Sets.{get_before, get_kept, get_last, get_none, get_set_other, get_set_same, length_set, length_snoc}
use Rattle.subrequests.proofs.Wholes as wholes

-- one subrequest is opened
pub record Opens_one (w : World) (tree : Tree) (f : Family) (vars : Vars) : Type 0 where
  pub after : Family
  pub opening : Opening w tree 1 f vars after vars

pub same_file : (trees : Trees) (old new : Node) → new.start ≡ old.start → ((trees : Trees) → item_asked trees new.ask ≡ item_asked trees old.ask) → text_in trees old ≡ text_in trees new
same_file trees old new start file = ap (λ n. drop n (text_of (item_asked trees old.ask))) (sym start) ∙ ap (λ i. drop new.start (text_of i)) (sym (file trees))

-- ---- a node in the row comes to a subrequest, and another is in its place

module _ (laws : ShowsTheSame) (w : World) (patterns : List SetPattern) (site : Site) (main : Main) (row : Row) (nodes : List Node) (texts : ℕ → List ℕ) (at : ℕ) (old : Node)
    (there : slice_get nodes at ≡ Some old) (sound : IsSound row nodes) (goes_on : is_open at row.pieces ≡ true) (seat : is_seated nodes at (slice_get nodes at) ≡ true) (tree : Tree) (vars : Vars) where
  abbrev before : Family
  before = seen w patterns site main row nodes texts

  abbrev act : Node → Serving Answer
  act n = node_act w patterns site main n (texts at)

  -- what it did before is forgotten
  forgotten : (new : Node) (s : Stance) → is_captured old.place ≡ false → is_captured new.place ≡ false → IsAlike (doing at s before) (doing at s (seen w patterns site main row (set nodes at new) texts))
  forgotten new s was is = laws.others (doing at s before) (with_stance at s (stance_in (doing_by w patterns site main texts) (set nodes at new) most_levels)) (λ j e. by j (j == at) refl)
    where
      by : (j : ℕ) (b : Bool) → (j == at) ≡ b → cond b s (stance_in (doing_by w patterns site main texts) nodes most_levels j) ≡ cond b s (stance_in (doing_by w patterns site main texts) (set nodes at new) most_levels j)
      by j true e = refl
      by j false e =
          members.others_same laws w patterns site main row nodes texts at old there sound goes_on seat tree vars (set nodes at new) was (members.others_kept nodes at new)
          (members.free_then nodes at old new there is) j e

  pub comes_to : (new : Node) → old.place ≡ InRow → new.place ≡ InRow → (x : Serving Answer) (after : Family) (vars' : Vars) → Works vars (node_act w patterns site main old (texts at)) x →
      Opening w tree 1 (doing at (Going old.left x) (seen w patterns site main row (set nodes at new) texts)) vars after vars' → Opening w tree 1 (seen w patterns site main row nodes texts) vars after vars'
  comes_to new was here x after vars' works next =
      steps.alike (members.row_begins laws w patterns site main row nodes texts at old there sound goes_on seat tree vars was)
      (steps.then (steps.works w tree laws at at InItsRow old.left before goes_on vars (act old) x works)
      (steps.alike (forgotten new (Going old.left x) (ap is_captured was) (ap is_captured here)) next))

  -- ---- it asks for one more than are opened, wherever it is

  pub row_open : old.place ≡ InRow → (child : Child) (l : ℕ) (m : Serving Answer) → old.left ≡ suc l → Works vars (node_act w patterns site main old (texts at)) (Inner child m) → Opens_one w tree (seen w patterns site main row nodes texts) vars
  row_open was child l m deep works =
      let mid = doing at (Going (suc l) (Inner child m)) before in
      let after = doing at (Going (suc l) m) (opening at (stance_by child.stub w row.nodes l child) mid) in
      record {
        after = after;
        opening =
            steps.alike (members.row_begins laws w patterns site main row nodes texts at old there sound goes_on seat tree vars was)
            (steps.then (steps.works w tree laws at at InItsRow old.left before goes_on vars (act old) (Inner child m) works)
            (subst (λ n. Opening w tree 1 (doing at (Going n (Inner child m)) before) vars after vars) (sym deep)
            (steps.acting (Opens at (steps.stands w tree laws at before goes_on (Going (suc l) (Inner child m)))) steps.stays)));
      }

  pub row_ask : old.place ≡ InRow → (child : Child) (l : ℕ) (k : Reply → Serving Answer) → old.left ≡ suc l → Works vars (node_act w patterns site main old (texts at)) (Call child k) → Opens_one w tree (seen w patterns site main row nodes texts) vars
  row_ask was child l k deep works =
      let mid = doing at (Going (suc l) (Call child k)) before in
      let after = doing at (Waiting (opened w row.nodes l child Nil) (suc l) k) mid in
      record {
        after = after;
        opening =
            steps.alike (members.row_begins laws w patterns site main row nodes texts at old there sound goes_on seat tree vars was)
            (steps.then (steps.works w tree laws at at InItsRow old.left before goes_on vars (act old) (Call child k) works)
            (subst (λ n. Opening w tree 1 (doing at (Going n (Call child k)) before) vars after vars) (sym deep)
            (steps.acting (Asks at row.nodes (steps.stands w tree laws at before goes_on (Going (suc l) (Call child k)))) steps.stays)));
      }

  -- in a line
  module _ (q : Located most_levels (doing_by w patterns site main texts) nodes at old most_levels 1 at old) (none : old.asks ≡ None) where
    h_open : is_open q.h row.pieces ≡ true
    h_open = members.open_there row nodes q.h q.host q.there q.goes_on sound

    begins : IsAlike before (doing q.h (owned q.own (filling (Behind (withheld_text old.place) (After (ahead_of (doing_by w patterns site main texts) nodes (0 + q.spare) at old) q.spot)) (Gives at old.left (act old) q.rest))) before)
    begins = framing.begins laws w patterns site main row nodes texts q.h (owned q.own (filling (Behind (withheld_text old.place) (After (ahead_of (doing_by w patterns site main texts) nodes (0 + q.spare) at old) q.spot)) (Gives at old.left (act old) q.rest))) (here_is most_levels (doing_by w patterns site main texts) nodes most_levels 0 at old there none q)

    pub line_open : (child : Child) (l : ℕ) (m : Serving Answer) → old.left ≡ suc l → Works vars (node_act w patterns site main old (texts at)) (Inner child m) → Opens_one w tree (seen w patterns site main row nodes texts) vars
    line_open child l m deep works =
        let spot = Behind (withheld_text old.place) (After (ahead_of (doing_by w patterns site main texts) nodes (0 + q.spare) at old) q.spot) in
        record {
          after = doing q.h (owned q.own (filling spot (opened w row.nodes l child (Gives at old.left m q.rest)))) before;
          opening =
              steps.alike begins
              (steps.then (steps.works w tree laws q.h at (Inside q.own spot q.rest) old.left before h_open vars (act old) (Inner child m) works)
              (steps.opens_any w tree laws q.h at old.left before h_open q.own spot q.rest row.nodes l child m vars deep));
        }

    pub line_ask : (child : Child) (l : ℕ) (k : Reply → Serving Answer) → old.left ≡ suc l → Works vars (node_act w patterns site main old (texts at)) (Call child k) → Opens_one w tree (seen w patterns site main row nodes texts) vars
    line_ask child l k deep works =
        let spot = Behind (withheld_text old.place) (After (ahead_of (doing_by w patterns site main texts) nodes (0 + q.spare) at old) q.spot) in
        record {
          after = doing q.h (owned q.own (filling spot (Waits at (opened w row.nodes l child Nil) old.left k q.rest))) before;
          opening =
              steps.alike begins
              (steps.then (steps.works w tree laws q.h at (Inside q.own spot q.rest) old.left before h_open vars (act old) (Call child k) works)
              (steps.asks_any w tree laws q.h at old.left before h_open q.own spot q.rest row.nodes l child k vars deep));
        }

  -- where it is in a line
  pub located : is_in_row old.place ≡ false → Located most_levels (doing_by w patterns site main texts) nodes at old most_levels 1 at old
  located apart =
      locate most_levels (doing_by w patterns site main texts) nodes most_levels 1 at old there (members.not_over row nodes at old there sound goes_on) (one most_levels) (members.heard_above nodes at old there seat) apart
    where
      one : (n : ℕ) → 1 + n ≡ suc n
      one n = omega arith

  pub any_ask : (child : Child) (l : ℕ) (k : Reply → Serving Answer) → old.left ≡ suc l → Works vars (node_act w patterns site main old (texts at)) (Call child k) → Opens_one w tree (seen w patterns site main row nodes texts) vars
  any_ask child l k deep works = by (is_in_row old.place) refl
    where
      by : (b : Bool) → is_in_row old.place ≡ b → Opens_one w tree (seen w patterns site main row nodes texts) vars
      by true e = row_ask (wholes.row_is old.place e) child l k deep works
      by false e = line_ask (located e) (members.asks_none nodes at old there seat) child l k deep works

  -- ---- it waits for the bytes of one

  module _ (mid : Node) (same : IsSameNode old mid) (place : mid.place ≡ old.place) (number : ℕ) (children : ℕ) (member : Node) (numbered : row.nodes ≡ number) (child : Child) (l : ℕ)
      (deep : old.left ≡ suc l) (member_left : member.left ≡ l) (goes : member.place ≡ Captured child.stub []) (parent : member.parent ≡ at) (alone : member.asks ≡ None)
      (begun : node_act w patterns site main member (texts number) ≡ script w l child) where
    asking : Node
    asking = record mid { children = children; asks = Some number }

    abbrev nodes_then : List Node
    nodes_then = set (set nodes at mid) at (record mid { children = children; asks = Some number }) ++ member ∷ []

    set_mid : slice_get (set nodes at mid) at ≡ Some mid
    set_mid = get_set_same nodes at mid old there

    size : length (set (set nodes at mid) at (record mid { children = children; asks = Some number })) ≡ number
    size = length_set (set nodes at mid) at (record mid { children = children; asks = Some number }) ∙ length_set nodes at mid ∙ sym sound.count ∙ numbered

    waits : Waits_too (doing_by w patterns site main texts) nodes (doing_by w patterns site main texts) (set (set nodes at mid) at (record mid { children = children; asks = Some number }) ++ member ∷ []) at number old (record mid { children = children; asks = Some number }) member
    waits = record {
      there = there;
      then = get_kept (set (set nodes at mid) at (record mid { children = children; asks = Some number })) (member ∷ []) at (record mid { children = children; asks = Some number }) (get_set_same (set nodes at mid) at (record mid { children = children; asks = Some number }) mid set_mid);
      free = members.asks_none nodes at old there seat;
      asks = refl;
      last = ap (slice_get (set (set nodes at mid) at (record mid { children = children; asks = Some number }) ++ member ∷ [])) (sym size) ∙ get_last (set (set nodes at mid) at (record mid { children = children; asks = Some number })) member;
      none = alone;
      captured = ap is_captured goes;
      parent = parent;
      bare = members.bare_last (set (set nodes at mid) at (record mid { children = children; asks = Some number }) ++ member ∷ []) number member (length_snoc (set (set nodes at mid) at (record mid { children = children; asks = Some number })) member ∙ ap suc size);
      not_yet = λ m e. absurd (none_some m (sym (ap (slice_get nodes) (sym numbered ∙ sound.count) ∙ get_none nodes) ∙ e));
      rest = kept;
      others = λ j e. others j e (j == number) refl;
      acts = λ j n e. refl;
      heard = λ j n e. refl;
    }
      where
        none_some : (x : Node) → None ≡ Some x → ⊥
        none_some x e = cc

        kept : (j : ℕ) → (j == at) ≡ false → (j == number) ≡ false → slice_get nodes j ≡ slice_get (set (set nodes at mid) at (record mid { children = children; asks = Some number }) ++ member ∷ []) j
        kept j e f =
            sym (get_set_other nodes at j mid (members.other_number j at e))
            ∙ sym (get_set_other (set nodes at mid) at j (record mid { children = children; asks = Some number }) (members.other_number j at e))
            ∙ sym (get_before (set (set nodes at mid) at (record mid { children = children; asks = Some number })) member j (λ g. members.other_number j number f (g ∙ size)))

        others : (j : ℕ) → (j == at) ≡ false → (b : Bool) → (j == number) ≡ b → SameOrMore at (slice_get nodes j) (slice_get (set (set nodes at mid) at (record mid { children = children; asks = Some number }) ++ member ∷ []) j)
        others j e true f =
            Its (ap (λ i. is_its at (slice_get nodes i)) (members.same_number j number f ∙ sym numbered ∙ sound.count) ∙ ap (is_its at) (get_none nodes))
            (ap (λ i. is_its at (slice_get (set (set nodes at mid) at (record mid { children = children; asks = Some number }) ++ member ∷ []) i)) (members.same_number j number f ∙ sym size)
            ∙ ap (is_its at) (get_last (set (set nodes at mid) at (record mid { children = children; asks = Some number })) member)
            ∙ ap (λ b. b && (member.parent == at)) (ap is_captured goes)
            ∙ ap (λ i. i == at) parent ∙ members.eq_self at)
        others j e false f = Same (kept j e f)

    like : StandsAs old (record mid { children = children; asks = Some number })
    like = members.stands_as old (record mid { children = children; asks = Some number }) same.parent place same.before same.over

    well : IsWell (seen w patterns site main row nodes texts)
    well = members.seen_well w patterns site main row nodes texts sound

    -- where they go into a variable
    pub asked : is_capturing mid.stage ≡ true → Works vars (node_act w patterns site main old (texts at)) (Call child (λ reply. node_heard w patterns site main mid (texts at) reply.body)) →
        Opening w tree 1 (seen w patterns site main row nodes texts) vars (seen w patterns site main (with_child at row) (set (set nodes at mid) at (record mid { children = children; asks = Some number }) ++ member ∷ []) texts) vars
    asked e acts = by (is_in_row old.place) refl
      where
        by : (b : Bool) → is_in_row old.place ≡ b → Opening w tree 1 (seen w patterns site main row nodes texts) vars (seen w patterns site main (with_child at row) (set (set nodes at mid) at (record mid { children = children; asks = Some number }) ++ member ∷ []) texts) vars
        by true f =
            waits_too.row_asked laws w patterns site main row nodes (set (set nodes at mid) at (record mid { children = children; asks = Some number }) ++ member ∷ []) texts at number old (record mid { children = children; asks = Some number }) member waits like place
            (ap withheld_text goes) child.stub (ap stub_in goes) (members.heard_above nodes at old there seat) tree vars goes_on well child l deep refl same.left member_left begun numbered
            (wholes.row_is old.place f) (members.next_number row nodes at old there sound) acts
        by false f =
            let q = located f in
            waits_too.asked laws w patterns site main row nodes (set (set nodes at mid) at (record mid { children = children; asks = Some number }) ++ member ∷ []) texts at number old (record mid { children = children; asks = Some number }) member waits like place
            (ap withheld_text goes) child.stub (ap stub_in goes) (members.heard_above nodes at old there seat) tree vars goes_on well child l deep refl same.left member_left begun numbered
            q (members.open_there row nodes q.h q.host q.there q.goes_on sound) (members.next_number row nodes q.h q.host q.there sound) e acts

  -- ---- its bytes come where the node has come to, which goes on

  module _ (mid : Node) (same : IsSameNode old mid) (place : mid.place ≡ old.place) (number : ℕ) (later : Node) (text : List ℕ) (is : IsInnerOpened mid later text) (member : Node) (numbered : row.nodes ≡ number) (few : number < 1001) (child : Child) (l : ℕ)
      (deep : old.left ≡ suc l) (member_left : member.left ≡ l) (goes : member.place ≡ Captured child.stub []) (bytes : member.before ≡ text) (parent : member.parent ≡ at) (alone : member.asks ≡ None) (over : member.over ≡ false)
      (begun : node_act w patterns site main member (texts number) ≡ script w l child) where
    abbrev nodes_so : List Node
    nodes_so = set (set nodes at mid) at later ++ member ∷ []

    mid_set : slice_get (set nodes at mid) at ≡ Some mid
    mid_set = get_set_same nodes at mid old there

    sized : length (set (set nodes at mid) at later) ≡ number
    sized = length_set (set nodes at mid) at later ∙ length_set nodes at mid ∙ sym sound.count ∙ numbered

    at_less : nat_lt at number ≡ true
    at_less = by (nat_lt at number) refl
      where
        past : nat_lt at number ≡ false → length nodes ≤ at
        past e = let size = sym sound.count ∙ numbered in grind (arith, nat_tests, e, size)

        none_some : (x : Node) → None ≡ Some x → ⊥
        none_some x e = cc

        by : (b : Bool) → nat_lt at number ≡ b → b ≡ true
        by true e = refl
        by false e = absurd (none_some old (sym (members.past_end nodes at (past e)) ∙ there))

    begins_too : Begins_too (doing_by w patterns site main texts) nodes (doing_by w patterns site main texts) (set (set nodes at mid) at later ++ member ∷ []) at number old later member
    begins_too = record {
      there = there;
      then = get_kept (set (set nodes at mid) at later) (member ∷ []) at later (get_set_same (set nodes at mid) at later mid mid_set);
      free = members.asks_none nodes at old there seat;
      free_then = ap (λ (n : Node). n.asks) is.is ∙ same.asks ∙ members.asks_none nodes at old there seat;
      takes = ap takes_up (sym place) ∙ is.takes;
      takes_then = ap (λ (n : Node). takes_up n.place) is.is ∙ members.text_takes [] mid.place ∙ is.takes;
      empty = ap (λ (n : Node). withheld_text n.place) is.is ∙ members.text_then [] mid.place is.takes;
      last = ap (slice_get (set (set nodes at mid) at later ++ member ∷ [])) (sym sized) ∙ get_last (set (set nodes at mid) at later) member;
      none = alone;
      member_captured = ap is_captured goes;
      parent = parent;
      over = over;
      before = bytes ∙ is.bytes ∙ ap withheld_text place;
      nothing = ap withheld_text goes;
      bare = members.bare_last (set (set nodes at mid) at later ++ member ∷ []) number member (length_snoc (set (set nodes at mid) at later) member ∙ ap suc sized);
      after = at_less;
      few = in_most;
      missing = λ j h. members.past_end nodes j (let size = sym sound.count ∙ numbered in omega (arith, h, size));
      missing_then = λ j h. members.past_end (set (set nodes at mid) at later ++ member ∷ []) j (let size = length_snoc (set (set nodes at mid) at later) member ∙ ap suc sized in omega (arith, h, size));
      rest = kept;
      others = λ j e. others j e (j == number) refl;
      acts = λ j n e. refl;
      heard = λ j n e. refl;
    }
      where
        in_most : nat_lt number most_nodes ≡ true
        in_most = members.in_most number few

        kept : (j : ℕ) → (j == at) ≡ false → (j == number) ≡ false → slice_get nodes j ≡ slice_get (set (set nodes at mid) at later ++ member ∷ []) j
        kept j e f =
            sym (get_set_other nodes at j mid (members.other_number j at e))
            ∙ sym (get_set_other (set nodes at mid) at j later (members.other_number j at e))
            ∙ sym (get_before (set (set nodes at mid) at later) member j (λ g. members.other_number j number f (g ∙ sized)))

        others : (j : ℕ) → (j == at) ≡ false → (b : Bool) → (j == number) ≡ b → SameOrMore at (slice_get nodes j) (slice_get (set (set nodes at mid) at later ++ member ∷ []) j)
        others j e true f =
            Its (ap (λ i. is_its at (slice_get nodes i)) (members.same_number j number f ∙ sym numbered ∙ sound.count) ∙ ap (is_its at) (get_none nodes))
            (ap (λ i. is_its at (slice_get (set (set nodes at mid) at later ++ member ∷ []) i)) (members.same_number j number f ∙ sym sized)
            ∙ ap (is_its at) (get_last (set (set nodes at mid) at later) member)
            ∙ ap (λ b. b && (member.parent == at)) (ap is_captured goes)
            ∙ ap (λ i. i == at) parent ∙ members.eq_self at)
        others j e false f = Same (kept j e f)

    stands_too : StandsAs old later
    stands_too = record {
      parent = ap (λ (n : Node). n.parent) is.is ∙ same.parent;
      captured = ap (λ (n : Node). is_captured n.place) is.is ∙ members.text_kept [] mid.place ∙ ap is_captured place;
      stub = ap (λ (n : Node). stub_in n.place) is.is ∙ members.text_stub [] mid.place ∙ ap stub_in place;
      row = ap (λ (n : Node). is_in_row n.place) is.is ∙ members.text_row [] mid.place ∙ ap is_in_row place;
      takes = ap (λ (n : Node). takes_up n.place) is.is ∙ members.text_takes [] mid.place ∙ ap takes_up place;
      before = ap (λ (n : Node). n.before) is.is ∙ same.before;
      over = ap (λ (n : Node). n.over) is.is ∙ same.over;
    }

    pub inner : Works vars (node_act w patterns site main old (texts at)) (Inner child (node_act w patterns site main mid (texts at))) →
        Opening w tree 1 (seen w patterns site main row nodes texts) vars (seen w patterns site main (with_child at row) (set (set nodes at mid) at later ++ member ∷ []) texts) vars
    inner acts =
        let q = located (ap is_in_row (sym place) ∙ members.takes_apart mid.place is.takes) in
        let goes_so : node_act w patterns site main later (texts at) ≡ node_act w patterns site main mid (texts at) = ap (λ (n : Node). node_act w patterns site main n (texts at)) is.is in
        beginning.begins laws w patterns site main row nodes (set (set nodes at mid) at later ++ member ∷ []) texts at number old later member begins_too stands_too (members.heard_above nodes at old there seat) tree vars goes_on
        (members.seen_well w patterns site main row nodes texts sound) q (members.open_there row nodes q.h q.host q.there q.goes_on sound) (members.next_number row nodes q.h q.host q.there sound) child l deep (ap stub_in goes)
        (ap (λ (n : Node). n.left) is.is ∙ same.left) member_left begun numbered
        (subst (λ m. Works vars (node_act w patterns site main old (texts at)) (Inner child m)) (sym goes_so) acts)
