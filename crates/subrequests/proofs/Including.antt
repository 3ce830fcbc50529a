-- A node is over whose bytes come to its parent, which doesn't wait for them.
use Rattle.std.proofs.Common.{◌≡◌, ◌≢◌, ◌<◌, ℕ, suc, ◌+◌, ◌==◌, ◌&&◌, nat_lt, Bool, not, true, false, cond, List, [], ◌++◌, set, slice_get, Option, None, Some, is_some, refl, sym, ap, ◌∙◌, subst, arith}
use Rattle.std.proofs.lemmas.Bool.Decides.{nat_tests}
use Rattle.acts.specs.Vars.{Vars}
use Rattle.acts.specs.Act.{Done}
use Rattle.file_tree.specs.Tree.{Tree, Trees}
use Rattle.ngx_pattern.specs.Pattern.{Pattern as SetPattern}
use Rattle.ngx_variables.specs.declared.request.Main.{Main}
use Rattle.site_model.specs.declared.site.Site.{Site}
use Rattle.postpone_filter.specs.Row.{Row, ended, is_open}
use Rattle.request_meaning.specs.Serving.{World, Serving, Answer, Reply}
use Rattle.request_meaning.specs.Replies.{or_stub}
use Rattle.family_order.specs.Laws.{ShowsTheSame}
use Rattle.node_line.specs.node_turn.Stages.{is_capturing, is_ending, is_in_row, node_act, node_heard}
use Rattle.node_line.specs.node_turn.declared.node.Node.{Node}
use Rattle.node_line.specs.node_turn.declared.node.Place.{Place}
use Rattle.node_line.specs.Stances.{Opening}
use Rattle.node_seats.specs.Seats.{IsNextInner, NoInner, doing_by, inner_in, inner_of_its, is_asked, is_captured, is_heard, is_inner, is_seated, most_levels, most_nodes, seen, stub_in, withheld_text, takes_up}
use Rattle.node_seats.proofs.Above.{Takes, above_is}
use Rattle.node_seats.proofs.Above.Takes.{Asks, Includes}
use Rattle.node_seats.proofs.Ending as endings
use Rattle.node_seats.proofs.Ending.{Comes, Ends_inner, Inner, inner_parts}
use Rattle.node_seats.proofs.Ending.Comes.{First, Next}
use Rattle.node_seats.proofs.Located.{StandsAs, locate}
use Rattle.node_seats.proofs.Others.{SameOrMore, is_its}
use Rattle.node_seats.proofs.Others.SameOrMore.{Same, Its}
use Rattle.node_seats.proofs.Seated.{IsBare}
use Rattle.subrequests.specs.Families.{HasFirst, IsSound, IsTaken, goes_on_at, texts_of}
use Rattle.subrequests.specs.Moved.{SameTexts, is_at}
use Rattle.subrequests.proofs.Members as members
use Rattle.subrequests.proofs.Returns as returning
use Rattle.family_nodes.proofs.Sets.{get_set_other, get_set_same}
use Rattle.subrequests.proofs.Wholes as wholes

same_some : {A : Type 0} (x y : A) → Some x ≡ Some y → x ≡ y
same_some x y e = cc

false_true : false ≡ true → ⊥
false_true e = cc

less_of : (a b : ℕ) → nat_lt a b ≡ true → a < b
less_of a b e = grind (arith, nat_tests, e)

size : 2 + 1000 ≡ suc most_levels
unfolding most_levels
size = refl

levels_are : most_levels ≡ suc 1000
unfolding most_levels
levels_are = refl

-- none was found
pub none_found : (nodes : List Node) (at from : ℕ) (found : Option ℕ) → IsNextInner nodes at from found → is_some found ≡ false → NoInner nodes at from most_nodes
none_found nodes at from None none e = none
none_found nodes at from (Some c) is e = cc

-- what is at its number then
abbrev pub gone_so : Node → Place → Node
gone_so old place = record old { place = place; before = []; over = true }

-- the node, which has come to its answer, and the one that takes up its bytes
pub record Beside (row : Row) (nodes : List Node) (at : ℕ) (old : Node) (place : Place) (p : Node) (text : List ℕ) : Type 0 where
  pub there : slice_get nodes at ≡ Some old
  pub ending : is_ending old.stage ≡ true
  pub none : old.asks ≡ None
  pub taken : IsTaken old.stage text old.place place
  pub parent : slice_get nodes old.parent ≡ Some p
  pub p_over : p.over ≡ false
  pub p_takes : takes_up p.place ≡ true
  pub after : nat_lt old.parent at ≡ true
  pub few : nat_lt at most_nodes ≡ true
  pub inner : is_inner old.parent p at old ≡ true
  pub bare : IsBare nodes at old
  pub heard : is_heard 1000 nodes old.parent p ≡ true
  pub is_open_too : is_open at row.pieces ≡ true

pub beside_is : (row : Row) (nodes : List Node) (at : ℕ) (old : Node) (place : Place) (text : List ℕ) → slice_get nodes at ≡ Some old → IsSound row nodes → is_at is_ending (slice_get nodes at) ≡ true → is_seated nodes at (slice_get nodes at) ≡ true →
    NoInner nodes at 0 most_nodes → inner_of_its nodes at (slice_get nodes at) ≡ true → IsTaken old.stage text old.place place → (p : Node) × Beside row nodes at old place p text
beside_is row nodes at old place text there sound ends seat no_inner beside taken =
    let captured = ap is_captured taken.place in
    let above = above_is 1000 nodes at old (subst (λ l. is_heard l nodes at old ≡ true) levels_are (members.heard_above nodes at old there seat)) captured in
    let p = above.waiting in
    let inner : is_inner old.parent p at old ≡ true = sym (ap (inner_of_its nodes at) there ∙ ap (λ o. inner_in old.parent o at (Some old)) above.there) ∙ beside in
    let parts = inner_parts old.parent p at old inner in
    let more = takes_so p above.takes parts.asks in (
      p,
      record {
        there = there;
        ending = wholes.stage_is is_ending nodes at old ends there;
        none = members.asks_none nodes at old there seat;
        taken = taken;
        parent = above.there;
        p_over = above.goes_on;
        p_takes = more.0;
        after = parts.after;
        few = more.1;
        inner = inner;
        bare = members.bare_found nodes at old there sound.few no_inner;
        heard = above.heard;
        is_open_too = wholes.open_is is_ending row nodes at sound ends;
      },
    )
  where
    takes_so : (p : Node) → Takes old.parent at p → is_asked at p.asks ≡ false → (takes_up p.place ≡ true) × (nat_lt at most_nodes ≡ true)
    takes_so p (Asks asks) not_asked = absurd (false_true (sym not_asked ∙ ap (is_asked at) asks ∙ members.eq_self at))
    takes_so p (Includes takes less few asks) not_asked = (takes, few)

module _ (row : Row) (nodes : List Node) (at : ℕ) (old : Node) (place : Place) (p : Node) (text : List ℕ) (r : Beside row nodes at old place p text)
    (gone : Node) (gone_is : gone ≡ gone_so old place) where
  less : old.parent < at
  less = less_of old.parent at r.after

  par_other : old.parent ≢ at
  par_other e = let h = less in omega (arith, h, e)

  gone_there : slice_get (set nodes at gone) at ≡ Some gone
  gone_there = get_set_same nodes at gone old r.there

  pub par_there : slice_get (set nodes at gone) old.parent ≡ Some p
  par_there = get_set_other nodes at old.parent gone par_other ∙ r.parent

  gone_over : gone.over ≡ true
  gone_over = ap (λ (n : Node). n.over) gone_is

  -- it is over, and so no subrequest of its parent any more
  gone_not : is_inner old.parent p at gone ≡ false
  gone_not = endings.over_not old.parent p at gone gone_over

  place_then : is_captured gone.place ≡ true
  place_then = ap (λ (n : Node). is_captured n.place) gone_is ∙ ap is_captured r.taken.then

  place_captured : is_captured gone.place ≡ is_captured old.place
  place_captured = place_then ∙ sym (ap is_captured r.taken.place)

  pub sound_over : (row' : Row) → IsSound row nodes → at ≢ 0 → row' ≡ ended at row → ((j : ℕ) → is_open j row'.pieces ≡ cond (j == at) false (is_open j row.pieces)) → IsSound row' (set nodes at gone)
  sound_over row' sound child rows closed =
      members.over_sound row row' nodes at old gone r.there sound (members.ended_well row row' at sound.well child rows) (ap (λ (x : Row). x.nodes) rows) closed gone_over place_captured (ap (λ (n : Node). n.parent) gone_is)

  pub texts_over : (trees : Trees) (j : ℕ) → texts_of trees nodes j ≡ texts_of trees (set nodes at gone) j
  texts_over trees j = members.set_texts trees nodes at old gone r.there (members.same_text trees old gone (ap (λ (n : Node). n.ask) gone_is, ap (λ (n : Node). n.start) gone_is)) j

  its_old : is_its old.parent (slice_get nodes at) ≡ true
  its_old = ap (is_its old.parent) r.there ∙ ap (λ b. b && (old.parent == old.parent)) (ap is_captured r.taken.place) ∙ members.eq_self old.parent

  its_gone : is_its old.parent (Some gone) ≡ true
  its_gone = ap (λ b. b && (gone.parent == old.parent)) place_then ∙ ap (λ (n : Node). n.parent == old.parent) gone_is ∙ members.eq_self old.parent

  -- none comes before this one, where none was found
  none_of : (to c : ℕ) (m : Node) → NoInner (set nodes at gone) old.parent at to → at < c → c < to → slice_get nodes c ≡ Some m → is_inner old.parent p c m ≡ false
  none_of to c m none h k here =
      sym (ap (λ o. inner_in old.parent o c (slice_get (set nodes at gone) c)) par_there
      ∙ ap (inner_in old.parent (Some p) c) (get_set_other nodes at c gone (λ e. omega (arith, h, e)) ∙ here))
      ∙ none c (omega (arith, h)) k

  -- the answer to which it has come
  chosen_is : (w : World) (patterns : List SetPattern) (site : Site) (main : Main) (file : List ℕ) (answer : Answer) → node_act w patterns site main old file ≡ Done answer → text ≡ or_stub (stub_in old.place) answer.status (withheld_text old.place)
  chosen_is w patterns site main file answer done =
      r.taken.chosen
      ∙ ap (λ n. or_stub r.taken.stub n r.taken.body) (returning.end_is w patterns site main old file answer r.ending done)
      ∙ ap (λ q. or_stub (stub_in q) answer.status (withheld_text q)) (sym r.taken.place)

  -- where the parent is then
  module _ (laws : ShowsTheSame) (w : World) (patterns : List SetPattern) (site : Site) (main : Main) (tree : Tree) (vars : Vars) (sound : IsSound row nodes) (texts : ℕ → List ℕ) (nodes' : List Node) (p' gone' : Node)
      (ends : Ends_inner (doing_by w patterns site main texts) nodes (doing_by w patterns site main texts) nodes' old.parent at p p' old gone' (old.before ++ text)) (like : StandsAs p p') (row' : Row) (rows : row' ≡ ended at row)
      (closed : (j : ℕ) → is_open j row'.pieces ≡ cond (j == at) false (is_open j row.pieces)) where
    pub opening : Opening w tree 0 (seen w patterns site main row nodes texts) vars (seen w patterns site main row' nodes' texts) vars
    opening =
        let done = wholes.ended_act w patterns site main old (texts at) r.ending in
        let same = chosen_is w patterns site main (texts at) done.0 done.1 in
        let closed' : (j : ℕ) → is_open j (ended at row).pieces ≡ cond (j == at) false (is_open j row.pieces) = λ j. ap (λ (x : Row). is_open j x.pieces) (sym rows) ∙ closed j in
        let q = locate most_levels (doing_by w patterns site main texts) nodes 1000 2 old.parent p r.parent r.p_over size r.heard (members.takes_apart p.place r.p_takes) in
        subst (λ (x : Row). Opening w tree 0 (seen w patterns site main row nodes texts) vars (seen w patterns site main x nodes' texts) vars) (sym rows)
        (endings.comes laws w patterns site main row nodes nodes' texts old.parent at p p' old gone' done.0
        (subst (λ t. Ends_inner (doing_by w patterns site main texts) nodes (doing_by w patterns site main texts) nodes' old.parent at p p' old gone' (old.before ++ t)) same ends)
        like 1000 r.heard tree vars r.is_open_too (members.seen_well w patterns site main row nodes texts sound) closed' done.1 q (members.open_there row nodes q.h q.host q.there q.goes_on sound))

  -- ---- its bytes come before those of its parent

  module _ (p' : Node) (first : HasFirst (old.before ++ text) p p') (none : NoInner (set nodes at gone) old.parent at most_nodes) where
    abbrev pub nodes_first : List Node
    nodes_first = set (set nodes at gone) old.parent p'

    pub p_same : is_captured p'.place ≡ is_captured p.place
    p_same = ap (λ (n : Node). is_captured n.place) first.is ∙ members.text_kept ((old.before ++ text) ++ withheld_text p.place) p.place

    pub like_first : StandsAs p p'
    like_first = record {
      parent = ap (λ (n : Node). n.parent) first.is;
      captured = p_same;
      stub = ap (λ (n : Node). stub_in n.place) first.is ∙ members.text_stub ((old.before ++ text) ++ withheld_text p.place) p.place;
      row = ap (λ (n : Node). is_in_row n.place) first.is ∙ members.text_row ((old.before ++ text) ++ withheld_text p.place) p.place;
      takes = ap (λ (n : Node). takes_up n.place) first.is ∙ members.text_takes ((old.before ++ text) ++ withheld_text p.place) p.place;
      before = ap (λ (n : Node). n.before) first.is;
      over = ap (λ (n : Node). n.over) first.is;
    }

    pub ends_first : (w : World) (patterns : List SetPattern) (site : Site) (main : Main) (texts : ℕ → List ℕ) →
        Ends_inner (doing_by w patterns site main texts) nodes (doing_by w patterns site main texts) (set (set nodes at gone) old.parent p') old.parent at p p' old gone (old.before ++ text)
    ends_first w patterns site main texts = record {
      there = r.parent;
      then = get_set_same (set nodes at gone) old.parent p' p par_there;
      takes = r.p_takes;
      takes_then = like_first.takes ∙ r.p_takes;
      asks = ap (λ (n : Node). n.asks) first.is;
      left = ap (λ (n : Node). n.left) first.is;
      capturing = ap (λ (n : Node). is_capturing n.stage) first.is;
      act = ap (λ (n : Node). node_act w patterns site main n (texts old.parent)) first.is;
      hears = let heard : Node → Reply → Serving Answer = λ n reply. node_heard w patterns site main n (texts old.parent) reply.body in ap heard first.is;
      it = r.there;
      it_then = get_set_other (set nodes at gone) old.parent at p' (λ e. par_other (sym e)) ∙ gone_there;
      over = gone_over;
      inner = r.inner;
      few = r.few;
      none = r.none;
      bare = r.bare;
      comes = First (λ c m h k here. none_of most_nodes c m none h k here) (ap (λ (n : Node). withheld_text n.place) first.is ∙ members.text_then ((old.before ++ text) ++ withheld_text p.place) p.place first.takes) kept;
      others = λ j e. others j e (j == at) refl;
      acts = λ j n e. refl;
      heard = λ j n e. refl;
      same_act = λ j n bytes. refl;
      same_heard = λ j n bytes. refl;
    }
      where
        kept : (j : ℕ) → (j == old.parent) ≡ false → (j == at) ≡ false → slice_get nodes j ≡ slice_get (set (set nodes at gone) old.parent p') j
        kept j e f =
            sym (get_set_other (set nodes at gone) old.parent j p' (members.other_number j old.parent e) ∙ get_set_other nodes at j gone (members.other_number j at f))

        others : (j : ℕ) → (j == old.parent) ≡ false → (b : Bool) → (j == at) ≡ b → SameOrMore old.parent (slice_get nodes j) (slice_get (set (set nodes at gone) old.parent p') j)
        others j e true f =
            Its (ap (λ i. is_its old.parent (slice_get nodes i)) (members.same_number j at f) ∙ its_old)
            (ap (is_its old.parent) (get_set_other (set nodes at gone) old.parent j p' (members.other_number j old.parent e) ∙ ap (slice_get (set nodes at gone)) (members.same_number j at f) ∙ gone_there) ∙ its_gone)
        others j e false f = Same (kept j e f)

    pub sound_first : (row' : Row) → IsSound row' (set nodes at gone) → IsSound row' (set (set nodes at gone) old.parent p')
    sound_first row' sound =
        members.set_sound row' row' (set nodes at gone) old.parent p p' par_there sound sound.well refl (λ j. refl) (ap (λ (n : Node). n.over) first.is) p_same (ap (λ (n : Node). n.parent) first.is)

    pub texts_first : (trees : Trees) → SameTexts (set (set nodes at gone) old.parent p') (texts_of trees nodes) (texts_of trees (set (set nodes at gone) old.parent p'))
    texts_first trees j n e reads =
        texts_over trees j ∙ members.set_texts trees (set nodes at gone) old.parent p p' par_there (members.same_text trees p p' (ap (λ (x : Node). x.ask) first.is, ap (λ (x : Node). x.start) first.is)) j

    pub over_first : goes_on_at (slice_get (set (set nodes at gone) old.parent p') at) ≡ false
    over_first = ap goes_on_at (get_set_other (set nodes at gone) old.parent at p' (λ e. par_other (sym e)) ∙ gone_there) ∙ ap not gone_over

  -- ---- or before those of the next one

  module _ (y : ℕ) (n n' : Node) (is_next : IsNextInner (set nodes at gone) old.parent at (Some y)) (here : slice_get (set nodes at gone) y ≡ Some n) (is : n' ≡ record n { before = (old.before ++ text) ++ n.before }) where
    found : is_inner old.parent p y n ≡ true
    found = sym (ap (λ o. inner_in old.parent o y (slice_get (set nodes at gone) y)) par_there ∙ ap (inner_in old.parent (Some p) y) here) ∙ is_next.2

    its_next : Inner old.parent p y n
    its_next = inner_parts old.parent p y n found

    -- it isn't the one that is over
    y_other : y ≢ at
    y_other e =
        let same : n ≡ gone = same_some n gone (sym here ∙ ap (slice_get (set nodes at gone)) e ∙ gone_there) in
        false_true (sym its_next.goes_on ∙ ap (λ (x : Node). x.over) same ∙ gone_over)

    y_more : at < y
    y_more = let h = is_next.0 in let other = y_other in omega (arith, h, other)

    y_par : y ≢ old.parent
    y_par e = let h = less in let k = y_more in omega (arith, h, k, e)

    here_before : slice_get nodes y ≡ Some n
    here_before = sym (get_set_other nodes at y gone y_other) ∙ here

    pub ends_next : (w : World) (patterns : List SetPattern) (site : Site) (main : Main) (texts : ℕ → List ℕ) →
        Ends_inner (doing_by w patterns site main texts) nodes (doing_by w patterns site main texts) (set (set nodes at gone) y n') old.parent at p p old gone (old.before ++ text)
    ends_next w patterns site main texts = record {
      there = r.parent;
      then = get_set_other (set nodes at gone) y old.parent n' (λ e. y_par (sym e)) ∙ par_there;
      takes = r.p_takes;
      takes_then = r.p_takes;
      asks = refl;
      left = refl;
      capturing = refl;
      act = refl;
      hears = refl;
      it = r.there;
      it_then = get_set_other (set nodes at gone) y at n' (λ e. y_other (sym e)) ∙ gone_there;
      over = gone_over;
      inner = r.inner;
      few = r.few;
      none = r.none;
      bare = r.bare;
      comes = Next y n n' y_more is_next.1 (λ c m h k there. none_of y c m is_next.3 h k there) here_before (get_set_same (set nodes at gone) y n' n here) is found refl kept;
      others = λ j e. others j e (j == at) (j == y) refl refl;
      acts = λ j n e. refl;
      heard = λ j n e. refl;
      same_act = λ j n bytes. refl;
      same_heard = λ j n bytes. refl;
    }
      where
        kept : (j : ℕ) → (j == old.parent) ≡ false → (j == at) ≡ false → (j == y) ≡ false → slice_get nodes j ≡ slice_get (set (set nodes at gone) y n') j
        kept j e f g =
            sym (get_set_other (set nodes at gone) y j n' (members.other_number j y g) ∙ get_set_other nodes at j gone (members.other_number j at f))

        its : (m : Node) → is_captured m.place ≡ true → m.parent ≡ old.parent → is_its old.parent (Some m) ≡ true
        its m captured parent = ap (λ b. b && (m.parent == old.parent)) captured ∙ ap (λ i. i == old.parent) parent ∙ members.eq_self old.parent

        others : (j : ℕ) → (j == old.parent) ≡ false → (a b : Bool) → (j == at) ≡ a → (j == y) ≡ b → SameOrMore old.parent (slice_get nodes j) (slice_get (set (set nodes at gone) y n') j)
        others j e true b f g =
            Its (ap (λ i. is_its old.parent (slice_get nodes i)) (members.same_number j at f) ∙ its_old)
            (ap (is_its old.parent) (ap (slice_get (set (set nodes at gone) y n')) (members.same_number j at f) ∙ get_set_other (set nodes at gone) y at n' (λ h. y_other (sym h)) ∙ gone_there) ∙ its_gone)
        others j e false true f g =
            Its (ap (λ i. is_its old.parent (slice_get nodes i)) (members.same_number j y g) ∙ ap (is_its old.parent) here_before ∙ its n its_next.captured its_next.parent)
            (ap (is_its old.parent) (ap (slice_get (set (set nodes at gone) y n')) (members.same_number j y g) ∙ get_set_same (set nodes at gone) y n' n here)
            ∙ its n' (ap (λ (x : Node). is_captured x.place) is ∙ its_next.captured) (ap (λ (x : Node). x.parent) is ∙ its_next.parent))
        others j e false false f g = Same (kept j e f g)

    pub sound_next : (row' : Row) → IsSound row' (set nodes at gone) → IsSound row' (set (set nodes at gone) y n')
    sound_next row' sound =
        members.set_sound row' row' (set nodes at gone) y n n' here sound sound.well refl (λ j. refl) (ap (λ (x : Node). x.over) is) (ap (λ (x : Node). is_captured x.place) is) (ap (λ (x : Node). x.parent) is)

    pub texts_next : (trees : Trees) → SameTexts (set (set nodes at gone) y n') (texts_of trees nodes) (texts_of trees (set (set nodes at gone) y n'))
    texts_next trees j m e reads =
        texts_over trees j ∙ members.set_texts trees (set nodes at gone) y n n' here (members.same_text trees n n' (ap (λ (x : Node). x.ask) is, ap (λ (x : Node). x.start) is)) j

    pub over_next : goes_on_at (slice_get (set (set nodes at gone) y n') at) ≡ false
    over_next = ap goes_on_at (get_set_other (set nodes at gone) y at n' (λ e. y_other (sym e)) ∙ gone_there) ∙ ap not gone_over
