-- A node that has a stub is shown: it goes on in the row, and before it those whose bytes come to it.
use Rattle.std.proofs.Common.{◌≡◌, ◌≤◌, ℕ, suc, ◌+◌, ◌==◌, ◌||◌, is_none, Bool, true, false, cond, List, [], ◌∷◌, ◌++◌, Option, None, Some, map, set, slice_get, refl, sym, ap, ◌∙◌, append_assoc, append-nil, arith}
use Rattle.std.proofs.lemmas.Bool.{eqb-true}
use Rattle.acts.specs.Vars.{Vars}
use Rattle.file_tree.specs.Tree.{Tree}
use Rattle.ngx_pattern.specs.Pattern.{Pattern as SetPattern}
use Rattle.ngx_variables.specs.declared.request.Main.{Main}
use Rattle.site_model.specs.declared.site.Site.{Site}
use Rattle.postpone_filter.specs.Row.{Row as Order, is_open}
use Rattle.request_meaning.specs.Serving.{World}
use Rattle.family_meaning.specs.Line.{Line}
use Rattle.family_meaning.specs.Line.Line.{Nil, Gives, Waits, Stubs}
use Rattle.family_order.specs.Acts.Acts.{Keeps}
use Rattle.family_order.specs.Items.{Stance, Family, IsWell, items, items_of, stance_items, with_stance}
use Rattle.family_order.specs.Items.Item.{Byte, Stub as StubItem}
use Rattle.family_order.specs.Items.Stance.{Going, Waiting, Apart, Hidden}
use Rattle.family_order.proofs.Rows.{Split, row_items-same, split}
use Rattle.postpone_filter.specs.Buffers.{IsLawful}
use Rattle.node_line.specs.node_turn.Stages.{is_capturing}
use Rattle.node_line.specs.node_turn.declared.node.Node.{Node}
use Rattle.node_line.specs.node_turn.declared.node.Place.{Place}
use Rattle.node_line.specs.node_turn.declared.node.Place.TheVariants.{Row, Stub, Gathers, Captured}
use Rattle.node_line.specs.Stances.{Opening, under}
use Rattle.node_line.proofs.Holes.{Hole, hole_items, items_ahead, items_behind}
use Rattle.node_line.proofs.Steps as steps
use Rattle.node_seats.specs.Seats.{Doing, asking_line, doing_by, inner_lines, is_asked, is_captured, is_inner, line_from, most_levels, most_nodes, place_stance, row_stance, seen, stance_in, stance_of, stub_in, waited_line, withheld_text}
use Rattle.node_seats.specs.Joining.{AreClear, IsShown, Joins, joined_place, numbers_from, waits_well}
use Rattle.node_seats.proofs.Above.{eq_self, false_true, none_some, some_same}
use Rattle.node_seats.proofs.Ending.{inner_parts}
use Rattle.node_seats.proofs.Joined.{Alike, Few, Rising, Says, Still, flat, itself, line_same, stances_items, waited_same}
use Rattle.node_seats.proofs.Joined.Still.{Same, Moved as MovedTo}
use Rattle.node_seats.proofs.Listed.{Comes, Listed, among, listed}
use Rattle.node_seats.proofs.Listed.Comes.{Own, Of}
use Rattle.node_seats.proofs.Rowed.{Agree, Rowed, joined_free, moved, not_twice, others_stay, rowed, set_at, set_other}

-- items of what a node does
gives_items : (c left : ℕ) (m : Rattle.request_meaning.specs.Serving.Serving Rattle.request_meaning.specs.Serving.Answer) (rest : Line) → items (Gives c left m rest) ≡ stance_items c (Going left m) ++ items rest
unfolding items
gives_items c left m rest = refl

waits_items : (c left : ℕ) (own : Line) (k : Rattle.request_meaning.specs.Serving.Reply → Rattle.request_meaning.specs.Serving.Serving Rattle.request_meaning.specs.Serving.Answer) (rest : Line) → items (Waits c own left k rest) ≡ stance_items c (Waiting own left k) ++ items rest
unfolding items
waits_items c left own k rest = refl

stubs_items : (c : ℕ) (own : Line) (stub : List ℕ) (rest : Line) → items (Stubs own stub rest) ≡ stance_items c (Apart own stub) ++ items rest
unfolding items
stubs_items c own stub rest = refl

nil_items : items Nil ≡ []
unfolding items
nil_items = refl

under_nothing : (line : Line) → under [] line ≡ line
unfolding under
under_nothing line = refl

enough : (a c : ℕ) → a ≤ suc a + c
enough a c = omega arith

levels_are : most_levels ≡ most_nodes
unfolding most_levels most_nodes
levels_are = refl

module _ (w : World) (patterns : List SetPattern) (site : Site) (main : Main) (texts : ℕ → List ℕ) (tree : Tree) (vars : Vars) (row row' : Order) (nodes nodes' : List Node) (at : ℕ) (q : Node) (list : List ℕ)
    (there : slice_get nodes at ≡ Some q) (shown : IsShown nodes at q) (rising : Rising nodes) (few : Few nodes)
    (listing : list ≡ numbers_from nodes (suc most_levels) at q) (clear : AreClear nodes (suc most_levels) at q) (joins : Joins at list row nodes row' nodes') where
  abbrev d : Doing
  d = doing_by w patterns site main texts

  abbrev here : Node
  here = record q { place = Row }

  abbrev then : List Node
  then = set nodes' at (record q { place = Row })

  abbrev was : ℕ → Stance
  was = stance_in (doing_by w patterns site main texts) nodes most_levels

  abbrev is : ℕ → Stance
  is = stance_in (doing_by w patterns site main texts) (set nodes' at (record q { place = Row })) most_levels

  free : is_captured q.place ≡ false
  free = ap is_captured shown.place

  deep : (c : ℕ) → most_nodes ≤ most_levels + c
  deep c = let e = levels_are in omega (arith, e)

  deeper : (c : ℕ) → most_nodes ≤ suc most_levels + c
  deeper c = let e = levels_are in omega (arith, e)

  -- ---- what is where

  at_not : among at list ≡ false
  at_not = not_twice at list row row' nodes nodes' joins at q there free

  at_then : slice_get then at ≡ Some here
  at_then = set_at nodes' at (record q { place = Row }) q (sym (others_stay at list row row' nodes nodes' joins at at_not) ∙ there)

  other_then : (c : ℕ) → (c == at) ≡ false → slice_get then c ≡ slice_get nodes' c
  other_then c e = set_other nodes' at c (record q { place = Row }) (λ f. false_true (sym e ∙ ap (λ i. c == i) f ∙ eq_self c))

  -- one that doesn't join, and isn't the node
  stays : (c : ℕ) → (c == at) ≡ false → among c list ≡ false → slice_get then c ≡ slice_get nodes c
  stays c e f = other_then c e ∙ sym (others_stay at list row row' nodes nodes' joins c f)

  captured_other : (c : ℕ) (m : Node) → slice_get nodes c ≡ Some m → is_captured m.place ≡ true → (c == at) ≡ false
  captured_other c m f captured = by (c == at) refl
    where
      by : (b : Bool) → (c == at) ≡ b → b ≡ false
      by true e = absurd (false_true (sym free ∙ ap (λ (x : Node). is_captured x.place) (some_same q m (sym there ∙ ap (slice_get nodes) (sym (eqb-true c at e)) ∙ f)) ∙ captured))
      by false e = refl

  moved_then : (c : ℕ) (m : Node) → slice_get nodes c ≡ Some m → among c list ≡ true → (is_captured m.place ≡ true) × (slice_get then c ≡ Some (record m { place = joined_place m.place }))
  moved_then c m f e =
      let v = moved at list row row' nodes nodes' joins c e in
      let same : v.node ≡ m = some_same v.node m (sym v.there ∙ f) in
      let captured : is_captured m.place ≡ true = ap (λ (x : Node). is_captured x.place) (sym same) ∙ v.captured in
      (captured, other_then c (captured_other c m f captured) ∙ v.later ∙ ap (λ (x : Node). Some (record x { place = joined_place x.place })) same)

  none_then : (c : ℕ) → slice_get nodes c ≡ None → slice_get then c ≡ None
  none_then c f = by (among c list) refl (c == at) refl
    where
      by : (b : Bool) → among c list ≡ b → (a : Bool) → (c == at) ≡ a → slice_get then c ≡ None
      by true e a g = let v = moved at list row row' nodes nodes' joins c e in absurd (none_some v.node (sym f ∙ v.there))
      by false e true g = absurd (none_some q (sym f ∙ ap (slice_get nodes) (eqb-true c at g) ∙ there))
      by false e false g = stays c g e ∙ f

  still : (c : ℕ) (m : Node) → slice_get nodes c ≡ Some m → Still then c m
  still c m f = by (among c list) refl (c == at) refl
    where
      by : (b : Bool) → among c list ≡ b → (a : Bool) → (c == at) ≡ a → Still then c m
      by true e a g = let v = moved_then c m f e in MovedTo (record m { place = joined_place m.place }) v.1 (joined_free m.place v.0)
      by false e true g = MovedTo (record q { place = Row }) (ap (slice_get then) (eqb-true c at g) ∙ at_then) refl
      by false e false g = Same (stays c g e ∙ f)

  -- ---- those of which none joins

  abbrev Outer : ℕ → Type 0
  Outer x = (c : ℕ) (m : Node) → slice_get nodes c ≡ Some m → is_captured m.place ≡ true → m.parent ≡ x → among c list ≡ false

  in_list : (y : ℕ) → among y list ≡ true → Listed nodes at (numbers_from nodes (suc most_levels) at q) y
  in_list y e = listed nodes (suc most_levels) at y q there (ap (among y) (sym listing) ∙ e)

  above_is : (y : ℕ) (m : Node) (l : Listed nodes at (numbers_from nodes (suc most_levels) at q) y) → slice_get nodes y ≡ Some m → m.parent ≡ l.above
  above_is y m l f =
      let same : l.member ≡ m = some_same l.member m (sym l.here ∙ f) in
      ap (λ (x : Node). x.parent) (sym same) ∙ (inner_parts l.above l.node y l.member l.inner).parent

  -- a node is one: it isn't the node itself, and it doesn't join, or has a stub
  outer : (x : ℕ) → (x == at) ≡ false → ((p : Node) → slice_get nodes x ≡ Some p → among x list ≡ true → stub_in p.place ≡ None → ⊥) →
      (c : ℕ) (m : Node) → slice_get nodes c ≡ Some m → is_captured m.place ≡ true → m.parent ≡ x → among c list ≡ false
  outer x other none_so c m f captured parent = by (among c list) refl
    where
      of : (l : Listed nodes at (numbers_from nodes (suc most_levels) at q) c) → Comes nodes at (numbers_from nodes (suc most_levels) at q) l.above l.node → ⊥
      of l (Own e) = false_true (sym other ∙ ap (λ i. x == i) (sym (sym parent ∙ above_is c m l f ∙ e)) ∙ eq_self x)
      of l (Of e s) =
          let up : l.above ≡ x = sym (above_is c m l f) ∙ parent in
          none_so l.node (ap (slice_get nodes) (sym up) ∙ l.there) (ap (λ i. among i list) (sym up) ∙ ap (among l.above) listing ∙ e) s

      by : (b : Bool) → among c list ≡ b → b ≡ false
      by true e = absurd (let l = in_list c e in of l l.from)
      by false e = refl

  outer_free : (x : ℕ) → (x == at) ≡ false → among x list ≡ false → Outer x
  outer_free x other e = outer x other (λ p f g s. false_true (sym e ∙ g))

  closed : (x c : ℕ) (m : Node) → Outer x → slice_get nodes c ≡ Some m → is_captured m.place ≡ true → m.parent ≡ x → (slice_get then c ≡ Some m) × Outer c
  closed x c m o f captured parent =
      let other = captured_other c m f captured in
      let not_it = o c m f captured parent in
      (stays c other not_it ∙ f, outer_free c other not_it)

  -- the one for which a node waits doesn't join
  asked_free : (x y : ℕ) (p m : Node) → slice_get nodes x ≡ Some p → p.asks ≡ Some y → slice_get nodes y ≡ Some m → is_captured m.place ≡ true → m.parent ≡ x → (slice_get then y ≡ Some m) × Outer y
  asked_free x y p m f asks g captured parent =
      let other = captured_other y m g captured in
      let not_it = by (among y list) refl in
      (stays y other not_it ∙ g, outer_free y other not_it)
    where
      of : Listed nodes at (numbers_from nodes (suc most_levels) at q) y → ⊥
      of l =
          let up : l.above ≡ x = sym (above_is y m l g) ∙ parent in
          let same : l.node ≡ p = some_same l.node p (sym l.there ∙ ap (slice_get nodes) up ∙ f) in
          false_true (sym (inner_parts l.above l.node y l.member l.inner).asks ∙ ap (λ (n : Node). is_asked y n.asks) same ∙ ap (is_asked y) asks ∙ eq_self y)

      by : (b : Bool) → among y list ≡ b → b ≡ false
      by true e = absurd (of (in_list y e))
      by false e = refl

  -- ---- what is said of them

  line_is : (k l x : ℕ) (n n' : Node) (rest : Line) → slice_get nodes x ≡ Some n → Outer x → most_nodes ≤ k + x → most_nodes ≤ l + x → Alike d nodes then rising few none_then still Outer closed x n n' →
      line_from (doing_by w patterns site main texts) nodes k x n rest ≡ line_from (doing_by w patterns site main texts) then l x n' rest
  line_is k l = line_same d nodes then rising few none_then still Outer closed k l

  -- of a node in the row then, whether it was there or not
  row_is : (k c : ℕ) (m : Node) → slice_get nodes c ≡ Some m → waits_well m ≡ true → most_nodes ≤ suc k + c → (rest : Line) →
      items (asking_line (doing_by w patterns site main texts) nodes (line_from (doing_by w patterns site main texts) nodes k) c m m.asks rest)
      ≡ stance_items c (row_stance (doing_by w patterns site main texts) then most_levels c (record m { place = Row }) m.asks) ++ items rest
  row_is k c m f waits enough_so rest = by m.asks refl
    where
      captures : (y : ℕ) → m.asks ≡ Some y → is_capturing m.stage ≡ true
      captures y e = sym (ap (λ a. is_none a || is_capturing m.stage) e) ∙ waits

      by : (asks : Option ℕ) → m.asks ≡ asks → items (asking_line (doing_by w patterns site main texts) nodes (line_from (doing_by w patterns site main texts) nodes k) c m asks rest)
          ≡ stance_items c (row_stance (doing_by w patterns site main texts) then most_levels c (record m { place = Row }) asks) ++ items rest
      by None e = gives_items c m.left ((doing_by w patterns site main texts).act c m) rest
      by (Some y) e =
          let own : Line = waited_line (line_from (doing_by w patterns site main texts) nodes k) c y (slice_get nodes y) Nil in
          ap (λ b. items (cond b (Waits c own m.left ((doing_by w patterns site main texts).heard c m) rest) (waited_line (line_from (doing_by w patterns site main texts) nodes k) c y (slice_get nodes y) (Gives c m.left ((doing_by w patterns site main texts).act c m) rest)))) (captures y e)
          ∙ waits_items c m.left own ((doing_by w patterns site main texts).heard c m) rest
          ∙ ap (λ line. stance_items c (Waiting line m.left ((doing_by w patterns site main texts).heard c m)) ++ items rest)
          (waited_same d nodes then rising few none_then still Outer closed k most_levels (line_is k most_levels) c y Nil enough_so (deeper c) (λ z g captured parent. asked_free c y m z f e g captured parent))

  says : (c : ℕ) (m : Node) → slice_get nodes c ≡ Some m → among c list ≡ true → Says d nodes is rising c m
  says c m f e =
      let v = moved_then c m f e in
      record {
        row = λ s waits k enough_so rest.
            row_is k c m f waits enough_so rest
            ∙ ap (λ t. stance_items c t ++ items rest) (sym (ap (stance_of (doing_by w patterns site main texts) then most_levels c) v.1 ∙ in_row m.place s v.0));
        apart = λ stub s k enough_so rest.
            stubs_items c (line_from (doing_by w patterns site main texts) nodes k c m Nil) stub rest
            ∙ ap (λ t. stance_items c t ++ items rest)
            (ap (λ line. Apart line stub) (line_is k (suc most_levels) c m (record m { place = joined_place m.place }) Nil f
            (outer c (captured_other c m f v.0) (λ p g h none. clash (sym none ∙ ap (λ (x : Node). stub_in x.place) (some_same p m (sym g ∙ f)) ∙ s)))
            enough_so (deeper c) (alike m.place refl v.0 stub s))
            ∙ sym (ap (stance_of (doing_by w patterns site main texts) then most_levels c) v.1 ∙ apart_is m.place stub s v.0));
      }
    where
      clash : {x : List ℕ} → None ≡ Some x → ⊥
      clash z = cc

      in_row : (p : Place) → stub_in p ≡ None → is_captured p ≡ true →
          place_stance (doing_by w patterns site main texts) then most_levels c (record m { place = joined_place m.place }) (joined_place p) ≡ row_stance (doing_by w patterns site main texts) then most_levels c (record m { place = Row }) m.asks
      in_row Row s h = cc
      in_row (Stub stub text) s h = cc
      in_row (Gathers stub text) s h = cc
      in_row (Captured None text) s h = refl
      in_row (Captured (Some stub) text) s h = cc

      same : {a b : List ℕ} → Some a ≡ Some b → a ≡ b
      same e = cc

      apart_is : (p : Place) (stub : List ℕ) → stub_in p ≡ Some stub → is_captured p ≡ true →
          place_stance (doing_by w patterns site main texts) then most_levels c (record m { place = joined_place m.place }) (joined_place p) ≡ Apart (line_from (doing_by w patterns site main texts) then (suc most_levels) c (record m { place = joined_place m.place }) Nil) stub
      apart_is Row stub s h = cc
      apart_is (Stub stub' text) stub s h = cc
      apart_is (Gathers stub' text) stub s h = cc
      apart_is (Captured None text) stub s h = cc
      apart_is (Captured (Some stub') text) stub s h = ap (Apart (line_from (doing_by w patterns site main texts) then (suc most_levels) c (record m { place = joined_place m.place }) Nil)) (same s)

      alike : (p : Place) → m.place ≡ p → is_captured m.place ≡ true → (stub : List ℕ) → stub_in m.place ≡ Some stub → Alike d nodes then rising few none_then still Outer closed c m (record m { place = joined_place m.place })
      alike p e h stub s = record {
        asks = refl;
        left = refl;
        capturing = refl;
        act = refl;
        heard = refl;
        text = text_is m.place h stub s;
        ahead = ahead_is m.place h stub s;
      }
        where
          text_is : (p : Place) → is_captured p ≡ true → (stub : List ℕ) → stub_in p ≡ Some stub → withheld_text (joined_place p) ≡ withheld_text p
          text_is Row h stub s = cc
          text_is (Stub stub' text) h stub s = cc
          text_is (Gathers stub' text) h stub s = cc
          text_is (Captured None text) h stub s = cc
          text_is (Captured (Some stub') text) h stub s = refl

          ahead_is : (p : Place) → is_captured p ≡ true → (stub : List ℕ) → stub_in p ≡ Some stub → (f : Line → Line) (line : Line) →
              Rattle.node_seats.specs.Seats.ahead_line (joined_place p) f line ≡ Rattle.node_seats.specs.Seats.ahead_line p f line
          ahead_is Row h stub s f line = cc
          ahead_is (Stub stub' text) h stub s f line = cc
          ahead_is (Gathers stub' text) h stub s f line = cc
          ahead_is (Captured None text) h stub s f line = cc
          ahead_is (Captured (Some stub') text) h stub s f line = refl

  -- of the others
  others_are : (j : ℕ) → (j == at) ≡ false → among j list ≡ false → was j ≡ is j
  others_are j other e = of (slice_get nodes j) refl
    where
      o : Outer j
      o = outer_free j other e

      of : (x : Option Node) → slice_get nodes j ≡ x → was j ≡ is j
      of None f = ap (stance_of (doing_by w patterns site main texts) nodes most_levels j) f ∙ sym (ap (stance_of (doing_by w patterns site main texts) then most_levels j) (none_then j f))
      of (Some n) f =
          ap (stance_of (doing_by w patterns site main texts) nodes most_levels j) f ∙ by n.place ∙ sym (ap (stance_of (doing_by w patterns site main texts) then most_levels j) (stays j other e ∙ f))
        where
          asks_are : (asks : Option ℕ) → row_stance (doing_by w patterns site main texts) nodes most_levels j n asks ≡ row_stance (doing_by w patterns site main texts) then most_levels j n asks
          asks_are None = refl
          asks_are (Some y) =
              ap (λ line. Waiting line n.left ((doing_by w patterns site main texts).heard j n))
              (waited_same d nodes then rising few none_then still Outer closed most_levels most_levels (line_is most_levels most_levels) j y Nil (deeper j) (deeper j) (λ m g captured parent. closed j y m o g captured parent))

          by : (p : Place) → place_stance (doing_by w patterns site main texts) nodes most_levels j n p ≡ place_stance (doing_by w patterns site main texts) then most_levels j n p
          by Row = asks_are n.asks
          by (Stub stub text) = ap (λ line. Apart line stub) (line_is (suc most_levels) (suc most_levels) j n n Nil f o (deeper j) (deeper j) (itself d nodes then rising few none_then still Outer closed j n))
          by (Gathers stub text) = ap (λ line. Apart line stub) (line_is (suc most_levels) (suc most_levels) j n n Nil f o (deeper j) (deeper j) (itself d nodes then rising few none_then still Outer closed j n))
          by (Captured stub text) = refl

  hidden_was : (j : ℕ) → among j list ≡ true → was j ≡ Hidden
  hidden_was j e =
      let v = moved at list row row' nodes nodes' joins j e in
      ap (stance_of (doing_by w patterns site main texts) nodes most_levels j) v.there ∙ by v.node v.node.place v.captured
    where
      by : (n : Node) (p : Place) → is_captured p ≡ true → place_stance (doing_by w patterns site main texts) nodes most_levels j n p ≡ Hidden
      by n Row h = cc
      by n (Stub stub text) h = cc
      by n (Gathers stub text) h = cc
      by n (Captured stub text) h = refl

  -- of the node itself
  at_is : is at ≡ row_stance (doing_by w patterns site main texts) then most_levels at (record q { place = Row }) q.asks
  at_is = ap (stance_of (doing_by w patterns site main texts) then most_levels at) at_then

  abbrev own : Line
  own = line_from (doing_by w patterns site main texts) nodes (suc most_levels) at q Nil

  at_was : was at ≡ Apart own shown.stub
  at_was = ap (stance_of (doing_by w patterns site main texts) nodes most_levels at) there ∙ ap (place_stance (doing_by w patterns site main texts) nodes most_levels at q) shown.place

  own_is : line_from (doing_by w patterns site main texts) nodes (suc most_levels) at q Nil
      ≡ inner_lines (line_from (doing_by w patterns site main texts) nodes most_levels) nodes at q most_nodes (asking_line (doing_by w patterns site main texts) nodes (line_from (doing_by w patterns site main texts) nodes most_levels) at q q.asks Nil)
  unfolding line_from
  own_is =
      ap (λ p. Rattle.node_seats.specs.Seats.ahead_line p (inner_lines (line_from (doing_by w patterns site main texts) nodes most_levels) nodes at q most_nodes) (under (withheld_text p) (asking_line (doing_by w patterns site main texts) nodes (line_from (doing_by w patterns site main texts) nodes most_levels) at q q.asks Nil))) shown.place
      ∙ ap (inner_lines (line_from (doing_by w patterns site main texts) nodes most_levels) nodes at q most_nodes) (under_nothing (asking_line (doing_by w patterns site main texts) nodes (line_from (doing_by w patterns site main texts) nodes most_levels) at q q.asks Nil))

  own_items : items (line_from (doing_by w patterns site main texts) nodes (suc most_levels) at q Nil) ≡ stances_items is list ++ stance_items at (is at)
  own_items =
      let last : Line = asking_line (doing_by w patterns site main texts) nodes (line_from (doing_by w patterns site main texts) nodes most_levels) at q q.asks Nil in
      ap items own_is
      ∙ flat d nodes is rising most_levels at q (deeper at) clear (λ c m f e. says c m f (ap (among c) listing ∙ e)) last
      ∙ ap (λ l. stances_items is l ++ items last) (sym listing)
      ∙ ap (λ z. stances_items is list ++ z)
      (row_is most_levels at q there shown.waits (deeper at) Nil
      ∙ ap (λ t. stance_items at t ++ items Nil) (sym at_is)
      ∙ ap (λ z. stance_items at (is at) ++ z) nil_items
      ∙ append-nil (stance_items at (is at)))

  -- ---- the row

  module _ (lawful : IsLawful row.nodes row.pieces) (open_at : is_open at row.pieces ≡ true) where
    abbrev before : Family
    before = seen w patterns site main row nodes texts

    abbrev after : Family
    after = seen w patterns site main row' (set nodes' at (record q { place = Row })) texts

    abbrev s : Split at row.pieces
    s = split row.nodes at row.pieces lawful open_at

    abbrev h : Hole at row.pieces
    h = record { ahead = s.ahead; here = s.at; behind = s.behind; whole = s.whole; place = s.place; not_ahead = s.not_ahead }

    r : Rowed at list row row' h
    r = rowed at list row row' nodes nodes' joins (λ n f. ap (λ (x : Node). is_captured x.place) (some_same n q (sym f ∙ there)) ∙ free) lawful h

    abbrev mid : ℕ → Stance
    mid = with_stance at (is at) was

    agree : Agree at list mid is
    agree = record { others = λ j e. others j e (j == at) refl; hidden = λ j e. hidden j e (j == at) refl }
      where
        others : (j : ℕ) → among j list ≡ false → (b : Bool) → (j == at) ≡ b → cond b (is at) (was j) ≡ is j
        others j e true f = ap is (sym (eqb-true j at f))
        others j e false f = others_are j f e

        hidden : (j : ℕ) → among j list ≡ true → (b : Bool) → (j == at) ≡ b → cond b (is at) (was j) ≡ Hidden
        hidden j e true f = absurd (false_true (sym at_not ∙ ap (λ i. among i list) (sym (eqb-true j at f)) ∙ e))
        hidden j e false f = hidden_was j e

    ahead_mid : items_ahead mid h ≡ items_ahead was h
    ahead_mid = ap (λ z. z ++ map Byte s.at.bytes) (row_items-same at mid was s.ahead s.not_ahead (λ j f. ap (λ b. cond b (is at) (was j)) f))

    behind_mid : items_behind mid h ≡ items_behind was h
    behind_mid = row_items-same at mid was s.behind s.not_behind (λ j f. ap (λ b. cond b (is at) (was j)) f)

    before_items : items_of before ≡ items_ahead was h ++ (StubItem own shown.stub ∷ items_behind was h)
    before_items = hole_items was h ∙ ap (λ t. items_ahead was h ++ (stance_items at t ++ items_behind was h)) at_was

    after_items : items_of after ≡ items_ahead was h ++ (items own ++ items_behind was h)
    after_items =
        hole_items is r.now
        ∙ ap (λ z. z ++ (stance_items at (is at) ++ items_behind is r.now)) (r.ahead mid is agree ∙ ap (λ z. z ++ stances_items is list) ahead_mid)
        ∙ ap (λ z. (items_ahead was h ++ stances_items is list) ++ (stance_items at (is at) ++ z)) (r.behind mid is agree ∙ behind_mid)
        ∙ append_assoc (items_ahead was h) (stances_items is list) (stance_items at (is at) ++ items_behind was h)
        ∙ ap (λ z. items_ahead was h ++ z) (sym (append_assoc (stances_items is list) (stance_items at (is at)) (items_behind was h)))
        ∙ ap (λ z. items_ahead was h ++ (z ++ items_behind was h)) (sym own_items)

    pub joins_row : IsWell after → Opening w tree 0 before vars after vars
    joins_row well =
        steps.acting (Keeps own shown.stub (items_ahead was h) (items_behind was h) before_items after_items refl well (shown.keeps w patterns site main texts tree) (shown.some w patterns site main texts tree)) steps.stays
