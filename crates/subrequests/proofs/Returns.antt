-- A node is over for whose body its parent waits.
use Rattle.std.proofs.Common.{◌≡◌, ◌≢◌, ℕ, suc, ◌+◌, ◌==◌, ◌&&◌, ◌||◌, nat_lt, Bool, not, true, false, cond, List, [], get_or, length, set, slice_get, None, Some, refl, sym, ap, ◌∙◌, subst, zero, take, ◌≤◌, ◌∷◌, arith, nat_le}
use Rattle.std.proofs.lemmas.Bool.Decides.{nat_tests}
use Rattle.acts.specs.Vars.{Vars}
use Rattle.acts.specs.Act.{Done}
use Rattle.file_tree.specs.Tree.{Tree, Trees}
use Rattle.ngx_pattern.specs.Pattern.{Pattern as SetPattern}
use Rattle.ngx_variables.specs.declared.request.Main.{Main}
use Rattle.site_model.specs.declared.site.Site.{Site}
use Rattle.postpone_filter.specs.Row.{Row, ended, is_open}
use Rattle.request_meaning.specs.Serving.{World, Serving, Answer}
use Rattle.request_meaning.specs.Replies.{or_stub}
use Rattle.family_order.specs.Items.{IsWell}
use Rattle.family_order.specs.Items.{IsWellRow}
use Rattle.family_order.specs.Laws.{ShowsTheSame}
use Rattle.node_line.specs.node_turn.Stages.{is_ending, is_in_row, node_act, node_heard}
use Rattle.node_line.specs.node_turn.Nodes.{answer_seen, asked_path, lent, stage_act}
use Rattle.node_line.specs.node_turn.declared.node.Node.{Node}
use Rattle.node_line.specs.node_turn.declared.node.Stage.{Stage}
use Rattle.node_line.specs.node_turn.declared.node.Stage.TheVariants as stages
use Rattle.node_line.specs.node_turn.declared.node.Place.{Place}
use Rattle.node_line.specs.Stances.{Opening}
use Rattle.node_seats.specs.Seats.{NoInner, doing_by, inner_in, inner_of_its, is_asked, is_inner, most_nodes, withheld_text, is_captured, is_heard, is_seated, most_levels, seen, stub_in}
use Rattle.node_seats.proofs.Included.{Waits_too}
use Rattle.node_seats.proofs.Above.{Takes, above_is}
use Rattle.node_seats.proofs.Above.Takes.{Asks, Includes}
use Rattle.node_seats.proofs.Located.{Located, StandsAs, locate}
use Rattle.node_seats.proofs.Seated.{IsBare}
use Rattle.node_seats.proofs.Others.{SameOrMore, is_its}
use Rattle.node_seats.proofs.Others.SameOrMore.{Same, Its}
use Rattle.node_seats.proofs.Returned as returned
use Rattle.subrequests.specs.Families.{HasReply, IsSound, IsTaken, end_status, goes_on_at, texts_of}
use Rattle.subrequests.specs.Families.HasReply.{Hears}
use Rattle.subrequests.specs.Moved.{SameTexts, is_at}
use Rattle.subrequests.proofs.Members as members
use Rattle.family_nodes.proofs.Sets.{get_set_other, get_set_same, length_set}
use Rattle.subrequests.proofs.Wholes as wholes

-- all bytes are placed
pub taken_all : (n : ℕ) (text : List ℕ) → length text ≤ n → take n text ≡ text
taken_all zero [] h = refl
taken_all (suc n) [] h = refl
taken_all zero (b ∷ text) h = absurd (omega (arith, h))
taken_all (suc n) (b ∷ text) h = ap (λ t. b ∷ t) (taken_all n text (omega (arith, h)))

-- there are some
pub some_is : (text : List ℕ) → (length text == 0) ≡ false → text ≢ []
some_is text some none = no (sym some ∙ ap (λ (t : List ℕ). length t == 0) none)
  where
    no : false ≡ true → ⊥
    no e = cc

-- a body with a byte isn't empty
not_none : (n : ℕ) → (suc n == 0) ≡ false
not_none n = grind (arith, nat_tests)

tested : (n : ℕ) (bad chosen : Bool) → ((suc n == 0) || bad) ≡ chosen → bad ≡ chosen
tested n bad chosen e = sym (ap (λ none. none || bad) (not_none n)) ∙ e

-- its stub takes the place of a body, or doesn't
pub stub_so : (stub body : List ℕ) (status : ℕ) → ((length body == 0) || nat_le 400 status) ≡ true → or_stub (Some stub) status body ≡ stub
stub_so stub [] status e = refl
stub_so stub (b ∷ body) status e = ap (λ c. cond c stub (b ∷ body)) (tested (length body) (nat_le 400 status) true e)

pub body_so : (stub body : List ℕ) (status : ℕ) → ((length body == 0) || nat_le 400 status) ≡ false → or_stub (Some stub) status body ≡ body
body_so stub [] status e = cc
body_so stub (b ∷ body) status e = ap (λ c. cond c stub (b ∷ body)) (tested (length body) (nat_le 400 status) false e)

-- the status to which it has come
pub end_is : (w : World) (patterns : List SetPattern) (site : Site) (main : Main) (n : Node) (text : List ℕ) (answer : Answer) → is_ending n.stage ≡ true → node_act w patterns site main n text ≡ Done answer → end_status n.stage ≡ answer.status
end_is w patterns site main n text answer e done = by n.stage e done
  where
    done_is : (x : Serving Answer) (a b : Answer) → x ≡ Done a → x ≡ Done b → a ≡ b
    done_is x a b f g = cc

    by : (s : Stage) → is_ending s ≡ true → stage_act w patterns site (lent main n.phases) n.left (asked_path n.ask) s text ≡ Done answer → end_status s ≡ answer.status
    by (stages.Begins ssi) f g = cc
    by (stages.Asks wait ssi) f g = cc
    by (stages.Told wait file ssi) f g = cc
    by (stages.Places b) f g = cc
    by (stages.Serves b) f g = cc
    by (stages.Reads b) f g = cc
    by (stages.Captures c) f g = cc
    by (stages.Ends b) f g =
        ap (λ (a : Answer). a.status) (done_is (stage_act w patterns site (lent main n.phases) n.left (asked_path n.ask) (stages.Ends b) text) (answer_seen site (lent main n.phases) b.value.answered) answer refl g)

-- the levels above it
levels_are : most_levels ≡ suc 1000
unfolding most_levels
levels_are = refl

size : 2 + 1000 ≡ suc most_levels
unfolding most_levels
size = refl

-- what became of the one that waited
pub record AsReplied (p p' : Node) : Type 0 where
  pub left : p'.left ≡ p.left
  pub over : p'.over ≡ p.over
  pub asks : p'.asks ≡ None
  pub captured : is_captured p.place ≡ is_captured p'.place
  pub parent : p.parent ≡ p'.parent
  pub file : (p'.ask ≡ p.ask) × (p'.start ≡ p.start)

pub as_replied : (text : List ℕ) (p p' : Node) → HasReply text p p' → AsReplied p p'
as_replied text p p' (Hears capturing same place file acts) = record { left = same.left; over = same.over; asks = same.asks; captured = ap is_captured (sym place); parent = sym same.parent; file = file }

-- and is where it was
pub stands_so : (text : List ℕ) (p p' : Node) → HasReply text p p' → StandsAs p' p
stands_so text p p' (Hears capturing same place file acts) = members.stands_as p' p (sym same.parent) (sym place) (sym same.before) (sym same.over)

-- a subrequest whose bytes come to a node
pub inner_all : (x : ℕ) (n : Node) (c : ℕ) (m : Node) → is_captured m.place ≡ true → m.parent ≡ x → nat_lt x c ≡ true → m.over ≡ false → is_asked c n.asks ≡ false → is_inner x n c m ≡ true
inner_all x n c m captured parent less over asks =
    ap (λ b. b && ((m.parent == x) && (nat_lt x c && (not m.over && not (is_asked c n.asks))))) captured
    ∙ ap (λ b. b && (nat_lt x c && (not m.over && not (is_asked c n.asks)))) (ap (λ i. i == x) parent ∙ members.eq_self x)
    ∙ ap (λ b. b && (not m.over && not (is_asked c n.asks))) less
    ∙ ap (λ b. not b && not (is_asked c n.asks)) over
    ∙ ap not asks

over_none : (x : ℕ) (n : Node) (c : ℕ) (m : Node) → m.over ≡ true → is_inner x n c m ≡ false
over_none x n c m e = ap (λ o. is_captured m.place && ((m.parent == x) && (nat_lt x c && (not o && not (is_asked c n.asks))))) e ∙ none (is_captured m.place) (m.parent == x) (nat_lt x c)
  where
    none : (a b f : Bool) → (a && (b && (f && false))) ≡ false
    none false b f = refl
    none true false f = refl
    none true true false = refl
    none true true true = refl

same_some : {A : Type 0} (x y : A) → Some x ≡ Some y → x ≡ y
same_some x y e = cc

-- the node, which is over then, and its parent, which has its bytes then
pub record Returned (row : Row) (nodes : List Node) (at : ℕ) (old gone p p' : Node) (text : List ℕ) : Type 0 where
  pub there : slice_get nodes at ≡ Some old
  pub ending : is_ending old.stage ≡ true
  pub none : old.asks ≡ None
  pub taken : IsTaken old.stage text old.place gone.place
  pub same_parent : gone.parent ≡ old.parent
  pub none_then : gone.asks ≡ None
  pub file : (gone.ask ≡ old.ask) × (gone.start ≡ old.start)
  pub over : gone.over ≡ true
  pub parent : slice_get nodes old.parent ≡ Some p
  pub asks : p.asks ≡ Some at
  pub bare : IsBare nodes at old
  pub heard : is_heard 1000 nodes old.parent p ≡ true
  pub goes_on : is_open old.parent row.pieces ≡ true
  pub is_open_too : is_open at row.pieces ≡ true
  pub reply : AsReplied p p'
  pub apart : old.parent ≢ at

-- what its place is then makes no difference
abbrev pub gone_of : Node → Place → Node
gone_of old place = record old { place = place; over = true }

pub returns_is : (row : Row) (nodes : List Node) (at : ℕ) (old : Node) (place : Place) (p p' : Node) (text : List ℕ) → slice_get nodes at ≡ Some old → IsSound row nodes → is_at is_ending (slice_get nodes at) ≡ true →
    is_seated nodes at (slice_get nodes at) ≡ true → NoInner nodes at 0 most_nodes → inner_of_its nodes at (slice_get nodes at) ≡ false → IsTaken old.stage text old.place place → p ≡ get_or (set nodes at (gone_of old place)) old.parent p → AsReplied p p' →
    Returned row nodes at old (gone_of old place) p p' text
returns_is row nodes at old place p p' text there sound ends seat no_inner apart_so places is reply =
    let none = members.asks_none nodes at old there seat in
    let captured = ap is_captured places.place in
    let above = above_is 1000 nodes at old (subst (λ l. is_heard l nodes at old ≡ true) levels_are (members.heard_above nodes at old there seat)) captured in
    let asks = asks_it above.waiting above.there above.takes in
    let apart = not_itself above.waiting none above.there asks in
    let then = get_set_other nodes at old.parent (gone_of old place) apart ∙ above.there in
    let same : p ≡ above.waiting = wholes.some_same p above.waiting (sym (wholes.found_there (set nodes at (gone_of old place)) old.parent p above.waiting then is) ∙ then) in
    record {
      there = there;
      ending = wholes.stage_is is_ending nodes at old ends there;
      none = none;
      taken = places;
      same_parent = refl;
      none_then = none;
      file = (refl, refl);
      over = refl;
      parent = above.there ∙ ap Some (sym same);
      asks = ap (λ (n : Node). n.asks) same ∙ asks;
      bare = members.bare_found nodes at old there sound.few no_inner;
      heard = subst (λ (n : Node). is_heard 1000 nodes old.parent n ≡ true) (sym same) above.heard;
      goes_on = members.open_there row nodes old.parent above.waiting above.there above.goes_on sound;
      is_open_too = wholes.open_is is_ending row nodes at sound ends;
      reply = reply;
      apart = apart;
    }
  where
    none_some : (x : ℕ) → None ≡ Some x → ⊥
    none_some x e = cc

    false_so : false ≡ true → ⊥
    false_so e = cc

    -- the one that takes up its bytes waits for them
    asks_it : (q : Node) → slice_get nodes old.parent ≡ Some q → Takes old.parent at q → q.asks ≡ Some at
    asks_it q here (Asks asks) = asks
    asks_it q here (Includes is_there less few asks) =
        let over = members.not_over row nodes at old there sound (wholes.open_is is_ending row nodes at sound ends) in
        absurd (false_so (sym (ap (inner_of_its nodes at) (sym there) ∙ apart_so) ∙ ap (λ o. inner_in old.parent o at (Some old)) here
        ∙ inner_all old.parent q at old (ap is_captured places.place) refl less over asks))

    -- it isn't its own parent, since that waits
    not_itself : (q : Node) → old.asks ≡ None → slice_get nodes old.parent ≡ Some q → q.asks ≡ Some at → old.parent ≢ at
    not_itself q none parent asks e =
        none_some at (sym none ∙ ap (λ (n : Node). n.asks) (wholes.some_same old q (sym there ∙ ap (slice_get nodes) (sym e) ∙ parent)) ∙ asks)

module _ (row : Row) (nodes : List Node) (at : ℕ) (old gone p p' : Node) (text : List ℕ) (r : Returned row nodes at old gone p p' text) where
  abbrev pub nodes_then : List Node
  nodes_then = set (set nodes at gone) old.parent p'

  captured : is_captured old.place ≡ true
  captured = ap is_captured r.taken.place

  parent_then : slice_get (set nodes at gone) old.parent ≡ Some p
  parent_then = get_set_other nodes at old.parent gone r.apart ∙ r.parent

  pub as_many : length nodes_then ≡ length nodes + 0
  as_many = length_set (set nodes at gone) old.parent p' ∙ wholes.as_many nodes at gone

  pub same_texts : (trees : Trees) → SameTexts nodes_then (texts_of trees nodes) (texts_of trees nodes_then)
  same_texts trees j n e reads =
      members.set_texts trees nodes at old gone r.there (members.same_text trees old gone r.file) j
      ∙ members.set_texts trees (set nodes at gone) old.parent p p' parent_then (members.same_text trees p p' r.reply.file) j

  pub whole_so : (row' : Row) → IsSound row nodes → IsWellRow 0 row' → row'.nodes ≡ row.nodes → ((j : ℕ) → is_open j row'.pieces ≡ cond (j == at) false (is_open j row.pieces)) → IsSound row' nodes_then
  whole_so row' sound well numbers closed =
      let first = members.over_sound row row' nodes at old gone r.there sound well numbers closed r.over (ap is_captured r.taken.then ∙ sym captured) r.same_parent in
      members.set_sound row' row' (set nodes at gone) old.parent p p' parent_then first first.well refl (λ j. refl) r.reply.over (sym r.reply.captured) (sym r.reply.parent)

  pub whole : (row' : Row) → IsSound row nodes → at ≢ 0 → row' ≡ ended at row → ((j : ℕ) → is_open j row'.pieces ≡ cond (j == at) false (is_open j row.pieces)) → IsSound row' nodes_then
  whole row' sound child rows closed = whole_so row' sound (members.ended_well row row' at sound.well child rows) (ap (λ (x : Row). x.nodes) rows) closed

  gone_there : slice_get nodes_then at ≡ Some gone
  gone_there = get_set_other (set nodes at gone) old.parent at p' (λ e. r.apart (sym e)) ∙ get_set_same nodes at gone old r.there

  pub is_over : goes_on_at (slice_get nodes_then at) ≡ false
  is_over = ap goes_on_at gone_there ∙ ap not r.over

  module _ (laws : ShowsTheSame) (w : World) (patterns : List SetPattern) (site : Site) (main : Main) (tree : Tree) (vars : Vars) (sound : IsSound row nodes) (child : at ≢ 0) where
    waits : (texts : ℕ → List ℕ) → Waits_too (doing_by w patterns site main texts) (set (set nodes at gone) old.parent p') (doing_by w patterns site main texts) nodes old.parent at p' p old
    waits texts = record {
      there = get_set_same (set nodes at gone) old.parent p' p parent_then;
      then = r.parent;
      free = r.reply.asks;
      asks = r.asks;
      last = r.there;
      none = r.none;
      captured = ap is_captured r.taken.place;
      parent = refl;
      bare = r.bare;
      not_yet = λ m e. over_none old.parent p' at m (ap (λ (n : Node). n.over) (same_some m gone (sym e ∙ gone_there)) ∙ r.over);
      rest = λ j e f. get_set_other (set nodes at gone) old.parent j p' (members.other_number j old.parent e) ∙ get_set_other nodes at j gone (members.other_number j at f);
      others = λ j e. others j e (j == at) refl;
      acts = λ j n e. refl;
      heard = λ j n e. refl;
    }
      where
        its : (n : Node) → is_captured n.place ≡ true → n.parent ≡ old.parent → is_its old.parent (Some n) ≡ true
        its n a b = ap (λ x. x && (n.parent == old.parent)) a ∙ ap (λ i. i == old.parent) b ∙ members.eq_self old.parent

        others : (j : ℕ) → (j == old.parent) ≡ false → (b : Bool) → (j == at) ≡ b → SameOrMore old.parent (slice_get (set (set nodes at gone) old.parent p') j) (slice_get nodes j)
        others j e true f =
            Its (ap (λ i. is_its old.parent (slice_get (set (set nodes at gone) old.parent p') i)) (members.same_number j at f) ∙ ap (is_its old.parent) gone_there ∙ its gone (ap is_captured r.taken.then) r.same_parent)
            (ap (λ i. is_its old.parent (slice_get nodes i)) (members.same_number j at f) ∙ ap (is_its old.parent) r.there ∙ its old (ap is_captured r.taken.place) refl)
        others j e false f = Same (get_set_other (set nodes at gone) old.parent j p' (members.other_number j old.parent e) ∙ get_set_other nodes at j gone (members.other_number j at f))

    -- what comes to its parent
    abbrev chosen : Answer → List ℕ
    chosen answer = or_stub (stub_in old.place) answer.status (withheld_text old.place)

    chosen_is : (texts : ℕ → List ℕ) (answer : Answer) → node_act w patterns site main old (texts at) ≡ Done answer → text ≡ chosen answer
    chosen_is texts answer done =
        r.taken.chosen
        ∙ ap (λ n. or_stub r.taken.stub n r.taken.body) (end_is w patterns site main old (texts at) answer r.ending done)
        ∙ ap (λ q. or_stub (stub_in q) answer.status (withheld_text q)) (sym r.taken.place)

    pub opening : HasReply text p p' → (texts : ℕ → List ℕ) (row' : Row) → row' ≡ ended at row → ((j : ℕ) → is_open j row'.pieces ≡ cond (j == at) false (is_open j row.pieces)) →
        Opening w tree 0 (seen w patterns site main row nodes texts) vars (seen w patterns site main row' nodes_then texts) vars
    opening reply texts row' rows closed =
        let done = wholes.ended_act w patterns site main old (texts at) r.ending in
        let closed' : (j : ℕ) → is_open j (ended at row).pieces ≡ cond (j == at) false (is_open j row.pieces) = λ j. ap (λ (x : Row). is_open j x.pieces) (sym rows) ∙ closed j in
        subst (λ (x : Row). Opening w tree 0 (seen w patterns site main row nodes texts) vars (seen w patterns site main x nodes_then texts) vars) (sym rows)
        (by done.0 done.1 closed' (whole row' sound child rows closed) (is_in_row p.place) refl reply)
      where
        Goal : Type 0
        Goal = Opening w tree 0 (seen w patterns site main row nodes texts) vars (seen w patterns site main (ended at row) (set (set nodes at gone) old.parent p') texts) vars

        like : StandsAs p' p
        like = stands_so text p p' reply

        heard_so : is_heard 1000 (set (set nodes at gone) old.parent p') old.parent p' ≡ true
        heard_so =
            returned.parent_heard nodes (set (set nodes at gone) old.parent p') old.parent p p' 1000 r.parent (waits texts).others r.reply.captured r.reply.parent r.heard

        well : IsWell (seen w patterns site main row nodes texts)
        well = members.seen_well w patterns site main row nodes texts sound

        -- another that goes on then does so now, and isn't it
        still_open : (b c : Bool) → cond b false c ≡ true → (c ≡ true) × (b ≡ false)
        still_open true c e = cc
        still_open false c e = (e, refl)

        turned : (h : ℕ) → (h == at) ≡ false → (at == h) ≡ false
        turned h e = members.turned_number h at e

        parts : IsSound row' (set (set nodes at gone) old.parent p') → (h : ℕ) (host : Node) → slice_get (set (set nodes at gone) old.parent p') h ≡ Some host → host.over ≡ false → (is_open h row.pieces ≡ true) × ((at == h) ≡ false)
        parts sound' h host there over =
            let both = still_open (h == at) (is_open h row.pieces) (sym (closed h) ∙ members.open_there row' (set (set nodes at gone) old.parent p') h host there over sound') in
            (both.0, turned h both.1)

        located : is_in_row p'.place ≡ false → Located most_levels (doing_by w patterns site main texts) (set (set nodes at gone) old.parent p') old.parent p' 1000 2 old.parent p'
        located apart =
            locate most_levels (doing_by w patterns site main texts) (set (set nodes at gone) old.parent p') 1000 2 old.parent p' (get_set_same (set nodes at gone) old.parent p' p parent_then)
            (r.reply.over ∙ members.not_over row nodes old.parent p r.parent sound r.goes_on) size heard_so apart

        by : (answer : Answer) → node_act w patterns site main old (texts at) ≡ Done answer → ((j : ℕ) → is_open j (ended at row).pieces ≡ cond (j == at) false (is_open j row.pieces)) →
            IsSound row' (set (set nodes at gone) old.parent p') → (b : Bool) → is_in_row p.place ≡ b → HasReply text p p' → Goal
        by answer done closed' sound' true e (Hears capturing same place file acts) =
            let row_is = wholes.row_is p.place e in
            returned.row_told laws w patterns site main row nodes (set (set nodes at gone) old.parent p') texts old.parent at p p' old (waits texts) like 1000 heard_so tree vars r.is_open_too well closed' answer done same.left
            row_is (place ∙ row_is) r.goes_on (members.apart_number at old.parent (λ f. r.apart (sym f)))
            (acts w patterns site main (texts old.parent) ∙ ap (node_heard w patterns site main p (texts old.parent)) (chosen_is texts answer done))
        by answer done closed' sound' false e (Hears capturing same place file acts) =
            let q = located (sym like.row ∙ e) in
            let part = parts sound' q.h q.host q.there q.goes_on in
            returned.told laws w patterns site main row nodes (set (set nodes at gone) old.parent p') texts old.parent at p p' old (waits texts) like 1000 heard_so tree vars r.is_open_too well closed' answer done same.left
            q part.0 part.1 capturing (ap withheld_text place)
            (acts w patterns site main (texts old.parent) ∙ ap (node_heard w patterns site main p (texts old.parent)) (chosen_is texts answer done))
