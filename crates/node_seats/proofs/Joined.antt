-- Nodes that have joined the row, and those that haven't.
use Rattle.std.proofs.Common.{◌≡◌, ◌<◌, ◌≤◌, ℕ, zero, suc, ◌+◌, ◌==◌, ◌&&◌, nat_lt, Bool, true, false, not, cond, List, [], ◌∷◌, ◌++◌, Option, None, Some, slice_get, refl, sym, ap, ◌∙◌, subst, append_assoc, arith, if◌then◌else◌}
use Rattle.std.proofs.lemmas.Bool.{eqb-true}
use Rattle.family_meaning.specs.Line.{Line}
use Rattle.family_meaning.specs.Line.Line.{Nil, Gives, Waits, Stubs}
use Rattle.family_order.specs.Items.{Stance, Item, items, stance_items}
use Rattle.node_line.specs.node_turn.Stages.{is_capturing}
use Rattle.node_line.specs.node_turn.declared.node.Node.{Node}
use Rattle.node_line.specs.node_turn.declared.node.Place.{Place}
use Rattle.node_line.specs.node_turn.declared.node.Place.TheVariants.{Row, Stub, Gathers, Captured}
use Rattle.node_line.specs.Stances.{under}
use Rattle.node_seats.specs.Seats.{Doing, ahead_line, asking_line, inner_line, inner_lines, is_asked, is_captured, is_inner, line_from, most_nodes, put_by, stub_in, waited_line, withheld_text}
use Rattle.node_seats.specs.Joining.{AreClear, IsClearBy, number_with, numbers_at, numbers_below, numbers_from, waits_well}
use Rattle.node_seats.proofs.Above.{left_true, right_true}
use Rattle.node_seats.proofs.Inners.{ahead_same, inner_so, inners_same, less, no_inner}
use Rattle.node_seats.proofs.Listed.{among, among_first, among_last, one_among}
use Rattle.node_seats.proofs.Located.{waited_is}

-- What is at a number then: the same node; or another, whose bytes come to no parent.
pub data Still (nodes' : List Node) (c : ℕ) (m : Node) : Type 0 where
  Same : slice_get nodes' c ≡ Some m → Still nodes' c m
  Moved : (m' : Node) → slice_get nodes' c ≡ Some m' → is_captured m'.place ≡ false → Still nodes' c m

-- the numbers of nodes rise from level to level
abbrev pub Rising : List Node → Type 0
Rising nodes = (c : ℕ) (m : Node) → slice_get nodes c ≡ Some m → is_captured m.place ≡ true → m.parent < c

abbrev pub Few : List Node → Type 0
Few nodes = (c : ℕ) (m : Node) → slice_get nodes c ≡ Some m → c < most_nodes

-- ---- a line is the same from any level, and where only nodes that aren't in it have joined

module _ (d : Doing) (nodes nodes' : List Node) (rising : Rising nodes) (few : Few nodes) (none : (c : ℕ) → slice_get nodes c ≡ None → slice_get nodes' c ≡ None) (still : (c : ℕ) (m : Node) → slice_get nodes c ≡ Some m → Still nodes' c m)
    (Outer : ℕ → Type 0) (closed : (x c : ℕ) (m : Node) → Outer x → slice_get nodes c ≡ Some m → is_captured m.place ≡ true → m.parent ≡ x → (slice_get nodes' c ≡ Some m) × Outer c) where
  -- another node in the place of one, which has the same line
  pub record Alike (x : ℕ) (n n' : Node) : Type 0 where
    pub asks : n'.asks ≡ n.asks
    pub left : n'.left ≡ n.left
    pub capturing : is_capturing n'.stage ≡ is_capturing n.stage
    pub act : d.act x n' ≡ d.act x n
    pub heard : d.heard x n' ≡ d.heard x n
    pub text : withheld_text n'.place ≡ withheld_text n.place
    pub ahead : (f : Line → Line) (line : Line) → ahead_line n'.place f line ≡ ahead_line n.place f line

  pub itself : (x : ℕ) (n : Node) → Alike x n n
  itself x n = record { asks = refl; left = refl; capturing = refl; act = refl; heard = refl; text = refl; ahead = λ f line. refl }

  put_alike : (s : Option (List ℕ)) (f g : Line → Line) (rest : Line) → ((line : Line) → f line ≡ g line) → put_by s f rest ≡ put_by s g rest
  put_alike None f g rest same = same rest
  put_alike (Some stub) f g rest same = ap (λ line. Stubs line stub rest) (same Nil)

  abbrev pub Below : ℕ → ℕ → Type 0
  Below k l = (x : ℕ) (n n' : Node) (rest : Line) → slice_get nodes x ≡ Some n → Outer x → most_nodes ≤ k + x → most_nodes ≤ l + x → Alike x n n' → line_from d nodes k x n rest ≡ line_from d nodes' l x n' rest

  further : (k x c : ℕ) → most_nodes ≤ suc k + x → x < c → most_nodes ≤ k + c
  further k x c h less = omega (arith, h, less)

  -- what comes to a node that waits for it
  pub waited_same : (k l : ℕ) → Below k l → (x c : ℕ) (rest : Line) → most_nodes ≤ suc k + x → most_nodes ≤ suc l + x → ((m : Node) → slice_get nodes c ≡ Some m → is_captured m.place ≡ true → m.parent ≡ x → (slice_get nodes' c ≡ Some m) × Outer c) →
      waited_line (line_from d nodes k) x c (slice_get nodes c) rest ≡ waited_line (line_from d nodes' l) x c (slice_get nodes' c) rest
  waited_same k l ih x c rest deep deep' there = of (slice_get nodes c) refl
    where
      nothing : (m : Node) → is_captured m.place ≡ false → waited_line (line_from d nodes' l) x c (Some m) rest ≡ rest
      nothing m e = ap (λ b. cond (b && (m.parent == x)) (put_by (stub_in m.place) (line_from d nodes' l c m) rest) rest) e

      missing : (m : Node) → (is_captured m.place && (m.parent == x)) ≡ false → Still nodes' c m → rest ≡ waited_line (line_from d nodes' l) x c (slice_get nodes' c) rest
      missing m e (Same f) = sym (ap (λ o. waited_line (line_from d nodes' l) x c o rest) f ∙ ap (λ b. cond b (put_by (stub_in m.place) (line_from d nodes' l c m) rest) rest) e)
      missing m e (Moved m' f g) = sym (ap (λ o. waited_line (line_from d nodes' l) x c o rest) f ∙ nothing m' g)

      by : (m : Node) → slice_get nodes c ≡ Some m → (b : Bool) → (is_captured m.place && (m.parent == x)) ≡ b →
          cond b (put_by (stub_in m.place) (line_from d nodes k c m) rest) rest ≡ waited_line (line_from d nodes' l) x c (slice_get nodes' c) rest
      by m f false g = missing m g (still c m f)
      by m f true g =
          let captured = left_true (is_captured m.place) (m.parent == x) g in
          let parent = eqb-true m.parent x (right_true (is_captured m.place) (m.parent == x) g) in
          let at = there m f captured parent in
          let lower : x < c = subst (λ i. i < c) parent (rising c m f captured) in
          put_alike (stub_in m.place) (line_from d nodes k c m) (line_from d nodes' l c m) rest (λ line. ih c m m line f at.1 (further k x c deep lower) (further l x c deep' lower) (itself c m))
          ∙ sym (waited_is (line_from d nodes' l) x c (slice_get nodes' c) m rest at.0 captured parent)

      of : (o : Option Node) → slice_get nodes c ≡ o → waited_line (line_from d nodes k) x c o rest ≡ waited_line (line_from d nodes' l) x c (slice_get nodes' c) rest
      of None f = sym (ap (λ o. waited_line (line_from d nodes' l) x c o rest) (none c f))
      of (Some m) f = by m f (is_captured m.place && (m.parent == x)) refl

  -- or beside its own
  inner_same : (k l : ℕ) → Below k l → (x c : ℕ) (n n' : Node) (rest : Line) → Outer x → most_nodes ≤ suc k + x → most_nodes ≤ suc l + x → n'.asks ≡ n.asks →
      inner_line (line_from d nodes k) x n c (slice_get nodes c) rest ≡ inner_line (line_from d nodes' l) x n' c (slice_get nodes' c) rest
  inner_same k l ih x c n n' rest outer deep deep' asks = of (slice_get nodes c) refl
    where
      inner_then : (m : Node) → is_inner x n' c m ≡ is_inner x n c m
      inner_then m = ap (λ a. is_captured m.place && ((m.parent == x) && (nat_lt x c && (not m.over && not (is_asked c a))))) asks

      missing : (m : Node) → is_inner x n c m ≡ false → Still nodes' c m → rest ≡ inner_line (line_from d nodes' l) x n' c (slice_get nodes' c) rest
      missing m e (Same f) = sym (ap (λ o. inner_line (line_from d nodes' l) x n' c o rest) f ∙ no_inner (line_from d nodes' l) x n' c m rest (inner_then m ∙ e))
      missing m e (Moved m' f g) =
          sym (ap (λ o. inner_line (line_from d nodes' l) x n' c o rest) f
          ∙ no_inner (line_from d nodes' l) x n' c m' rest (ap (λ b. b && ((m'.parent == x) && (nat_lt x c && (not m'.over && not (is_asked c n'.asks))))) g))

      by : (m : Node) → slice_get nodes c ≡ Some m → (b : Bool) → is_inner x n c m ≡ b →
          cond b (under m.before (put_by (stub_in m.place) (line_from d nodes k c m) rest)) rest ≡ inner_line (line_from d nodes' l) x n' c (slice_get nodes' c) rest
      by m f false g = missing m g (still c m f)
      by m f true g =
          let captured = left_true (is_captured m.place) ((m.parent == x) && (nat_lt x c && (not m.over && not (is_asked c n.asks)))) g in
          let parent = eqb-true m.parent x (left_true (m.parent == x) (nat_lt x c && (not m.over && not (is_asked c n.asks))) (right_true (is_captured m.place) ((m.parent == x) && (nat_lt x c && (not m.over && not (is_asked c n.asks)))) g)) in
          let at = closed x c m outer f captured parent in
          let lower : x < c = subst (λ i. i < c) parent (rising c m f captured) in
          ap (under m.before) (put_alike (stub_in m.place) (line_from d nodes k c m) (line_from d nodes' l c m) rest (λ line. ih c m m line f at.1 (further k x c deep lower) (further l x c deep' lower) (itself c m)))
          ∙ sym (ap (λ o. inner_line (line_from d nodes' l) x n' c o rest) at.0 ∙ inner_so (line_from d nodes' l) x n' c m rest (inner_then m ∙ g))

      of : (o : Option Node) → slice_get nodes c ≡ o → inner_line (line_from d nodes k) x n c o rest ≡ inner_line (line_from d nodes' l) x n' c (slice_get nodes' c) rest
      of None f = sym (ap (λ o. inner_line (line_from d nodes' l) x n' c o rest) (none c f))
      of (Some m) f = by m f (is_inner x n c m) refl

  asking_same : (k l : ℕ) → Below k l → (x : ℕ) (n n' : Node) (asks : Option ℕ) (rest : Line) → Outer x → most_nodes ≤ suc k + x → most_nodes ≤ suc l + x → Alike x n n' →
      asking_line d nodes (line_from d nodes k) x n asks rest ≡ asking_line d nodes' (line_from d nodes' l) x n' asks rest
  asking_same k l ih x n n' None rest outer deep deep' like =
      ap (λ i. Gives x i (d.act x n) rest) (sym like.left) ∙ ap (λ m. Gives x n'.left m rest) (sym like.act)
  asking_same k l ih x n n' (Some c) rest outer deep deep' like =
      let was : Line → Line = waited_line (line_from d nodes k) x c (slice_get nodes c) in
      let is : Line → Line = waited_line (line_from d nodes' l) x c (slice_get nodes' c) in
      let same : (r : Line) → was r ≡ is r = λ r. waited_same k l ih x c r deep deep' (λ m f captured parent. closed x c m outer f captured parent) in
      ap (λ b. cond b (Waits x (was Nil) n.left (d.heard x n) rest) (was (Gives x n.left (d.act x n) rest))) (sym like.capturing)
      ∙ ap (λ i. cond (is_capturing n'.stage) (Waits x (was Nil) i (d.heard x n) rest) (was (Gives x i (d.act x n) rest))) (sym like.left)
      ∙ ap (λ h. cond (is_capturing n'.stage) (Waits x (was Nil) n'.left h rest) (was (Gives x n'.left (d.act x n) rest))) (sym like.heard)
      ∙ ap (λ m. cond (is_capturing n'.stage) (Waits x (was Nil) n'.left (d.heard x n') rest) (was (Gives x n'.left m rest))) (sym like.act)
      ∙ ap (λ r. cond (is_capturing n'.stage) (Waits x r n'.left (d.heard x n') rest) (was (Gives x n'.left (d.act x n') rest))) (same Nil)
      ∙ ap (λ r. cond (is_capturing n'.stage) (Waits x (is Nil) n'.left (d.heard x n') rest) r) (same (Gives x n'.left (d.act x n') rest))

  pub line_same : (k l : ℕ) → Below k l
  unfolding line_from
  line_same zero l x n n' rest there outer deep deep' like = absurd (let h = few x n there in omega (arith, h, deep))
  line_same (suc k) zero x n n' rest there outer deep deep' like = absurd (let h = few x n there in omega (arith, h, deep'))
  line_same (suc k) (suc l) x n n' rest there outer deep deep' like =
      let ih = line_same k l in
      let own : Line = under (withheld_text n.place) (asking_line d nodes (line_from d nodes k) x n n.asks rest) in
      ahead_same n.place (inner_lines (line_from d nodes k) nodes x n most_nodes) (inner_lines (line_from d nodes' l) nodes' x n' most_nodes)
      (inners_same (line_from d nodes k) nodes x n (line_from d nodes' l) nodes' n' most_nodes (λ c h r. inner_same k l ih x c n n' r outer deep deep' like.asks)) own
      ∙ sym (like.ahead (inner_lines (line_from d nodes' l) nodes' x n' most_nodes) own)
      ∙ ap (λ t. ahead_line n'.place (inner_lines (line_from d nodes' l) nodes' x n' most_nodes) (under t (asking_line d nodes (line_from d nodes k) x n n.asks rest))) (sym like.text)
      ∙ ap (λ r. ahead_line n'.place (inner_lines (line_from d nodes' l) nodes' x n' most_nodes) (under (withheld_text n'.place) r))
      (ap (λ a. asking_line d nodes (line_from d nodes k) x n a rest) (sym like.asks) ∙ asking_same k l ih x n n' n'.asks rest outer deep deep' like)

-- ---- what the line of a node has, one after another

unfoldable pub stances_items : (ℕ → Stance) → List ℕ → List Item
stances_items said [] = []
stances_items said (j ∷ js) = stance_items j (said j) ++ stances_items said js

pub stances_both : (said : ℕ → Stance) (xs ys : List ℕ) → stances_items said (xs ++ ys) ≡ stances_items said xs ++ stances_items said ys
unfolding stances_items
stances_both said [] ys = refl
stances_both said (x ∷ xs) ys = ap (λ z. stance_items x (said x) ++ z) (stances_both said xs ys) ∙ sym (append_assoc (stance_items x (said x)) (stances_items said xs) (stances_items said ys))

nothing_said : (said : ℕ → Stance) (line : List Item) → stances_items said [] ++ line ≡ line
unfolding stances_items
nothing_said said line = refl

one_said : (said : ℕ → Stance) (c : ℕ) → stances_items said (c ∷ []) ≡ stance_items c (said c) ++ []
unfolding stances_items
one_said said c = refl

none_more : {A : Type 0} (xs : List A) → xs ++ [] ≡ xs
none_more [] = refl
none_more (x ∷ xs) = ap (λ z. x ∷ z) (none_more xs)

under_none : (bytes : List ℕ) (line : Line) → bytes ≡ [] → under bytes line ≡ line
unfolding under
under_none [] line e = refl
under_none (b ∷ bytes) line e = cc

module _ (d : Doing) (nodes : List Node) (said : ℕ → Stance) (rising : Rising nodes) where
  -- What is said of one that comes with a node: where it has no stub, what is last of its line; and else that it is apart with its line.
  pub record Says (c : ℕ) (m : Node) : Type 0 where
    pub row : stub_in m.place ≡ None → waits_well m ≡ true → (k : ℕ) → most_nodes ≤ suc k + c → (rest : Line) → items (asking_line d nodes (line_from d nodes k) c m m.asks rest) ≡ stance_items c (said c) ++ items rest
    pub apart : (stub : List ℕ) → stub_in m.place ≡ Some stub → (k : ℕ) → most_nodes ≤ k + c → (rest : Line) → items (Stubs (line_from d nodes k c m Nil) stub rest) ≡ stance_items c (said c) ++ items rest

  captured_ahead : (p : Place) (f : Line → Line) (line : Line) → is_captured p ≡ true → ahead_line p f line ≡ f line
  captured_ahead Row f line e = cc
  captured_ahead (Stub stub text) f line e = cc
  captured_ahead (Gathers stub text) f line e = cc
  captured_ahead (Captured stub text) f line e = refl

  abbrev pub Flat : ℕ → Type 0
  Flat levels = (x : ℕ) (n : Node) → most_nodes ≤ suc levels + x → AreClear nodes (suc levels) x n → ((c : ℕ) (m : Node) → slice_get nodes c ≡ Some m → among c (numbers_from nodes (suc levels) x n) ≡ true → Says c m) → (rest : Line) →
      items (inner_lines (line_from d nodes levels) nodes x n most_nodes rest) ≡ stances_items said (numbers_from nodes (suc levels) x n) ++ items rest

  -- a line without a stub
  none_line : (l c : ℕ) (m : Node) (rest : Line) → is_captured m.place ≡ true → withheld_text m.place ≡ [] →
      line_from d nodes (suc l) c m rest ≡ inner_lines (line_from d nodes l) nodes c m most_nodes (asking_line d nodes (line_from d nodes l) c m m.asks rest)
  unfolding line_from
  none_line l c m rest captured empty =
      captured_ahead m.place (inner_lines (line_from d nodes l) nodes c m most_nodes) (under (withheld_text m.place) (asking_line d nodes (line_from d nodes l) c m m.asks rest)) captured
      ∙ ap (inner_lines (line_from d nodes l) nodes c m most_nodes) (under_none (withheld_text m.place) (asking_line d nodes (line_from d nodes l) c m m.asks rest) empty)

  clear_zero : (c : ℕ) (m : Node) → AreClear nodes zero c m → ⊥
  unfolding AreClear
  clear_zero c m h = h

  clear_child : (levels x c : ℕ) (n m : Node) → AreClear nodes (suc levels) x n → slice_get nodes c ≡ Some m → is_inner x n c m ≡ true → IsClearBy (AreClear nodes levels) c m (stub_in m.place)
  unfolding AreClear
  clear_child levels x c n m h there inner = h c m there inner

  before_none : (m : Node) (s : Option (List ℕ)) (levels c : ℕ) → IsClearBy (AreClear nodes levels) c m s → m.before ≡ []
  before_none m None levels c h = h.0
  before_none m (Some stub) levels c h = h

  -- of one subrequest
  flat_one : (levels c : ℕ) (m : Node) → is_captured m.place ≡ true → most_nodes ≤ levels + c → IsClearBy (AreClear nodes levels) c m (stub_in m.place) →
      ((l : ℕ) → suc l ≡ levels → Flat l) → ((i : ℕ) (z : Node) → slice_get nodes i ≡ Some z → among i (number_with (numbers_from nodes levels) c m (stub_in m.place)) ≡ true → Says i z) → slice_get nodes c ≡ Some m → (rest : Line) →
      items (put_by (stub_in m.place) (line_from d nodes levels c m) rest) ≡ stances_items said (number_with (numbers_from nodes levels) c m (stub_in m.place)) ++ items rest
  flat_one levels c m captured deep clear flat says there rest = by (stub_in m.place) refl levels refl
    where
      by : (s : Option (List ℕ)) → stub_in m.place ≡ s → (k : ℕ) → levels ≡ k → items (put_by s (line_from d nodes k c m) rest) ≡ stances_items said (number_with (numbers_from nodes k) c m s) ++ items rest
      by (Some stub) e k g =
          (says c m there (ap (λ t. among c (number_with (numbers_from nodes levels) c m t)) e ∙ one_among c)).apart stub e k (subst (λ i. most_nodes ≤ i + c) g deep) rest
          ∙ ap (λ z. z ++ items rest) (sym (none_more (stance_items c (said c))) ∙ sym (one_said said c))
      by None e zero g = absurd (clear_zero c m (subst (λ i. AreClear nodes i c m) g (clear_none e clear)))
        where
          clear_none : stub_in m.place ≡ None → IsClearBy (AreClear nodes levels) c m (stub_in m.place) → AreClear nodes levels c m
          clear_none f h = (subst (IsClearBy (AreClear nodes levels) c m) f h).3
      by None e (suc l) g =
          let all = subst (IsClearBy (AreClear nodes levels) c m) e clear in
          ap items (none_line l c m rest captured all.1)
          ∙ flat l (sym g) c m (subst (λ i. most_nodes ≤ i + c) g deep) (subst (λ i. AreClear nodes i c m) g all.3)
          (λ i z at in_it. says i z at (ap (λ t. among i (number_with (numbers_from nodes levels) c m t)) e ∙ ap (λ j. among i (numbers_from nodes j c m ++ (c ∷ []))) g ∙ among_first i (numbers_from nodes (suc l) c m) (c ∷ []) in_it))
          (asking_line d nodes (line_from d nodes l) c m m.asks rest)
          ∙ ap (λ z. stances_items said (numbers_from nodes (suc l) c m) ++ z)
          ((says c m there (ap (λ t. among c (number_with (numbers_from nodes levels) c m t)) e ∙ among_last c (numbers_from nodes levels c m) (c ∷ []) (one_among c))).row e all.2 l (subst (λ i. most_nodes ≤ i + c) g deep) rest
          ∙ ap (λ z. z ++ items rest) (sym (none_more (stance_items c (said c))) ∙ sym (one_said said c)))
          ∙ sym (append_assoc (stances_items said (numbers_from nodes (suc l) c m)) (stances_items said (c ∷ [])) (items rest))
          ∙ ap (λ z. z ++ items rest) (sym (stances_both said (numbers_from nodes (suc l) c m) (c ∷ [])))

  flat_count : (levels x : ℕ) (n : Node) → most_nodes ≤ suc levels + x → AreClear nodes (suc levels) x n → ((l : ℕ) → suc l ≡ levels → Flat l) → (count : ℕ) →
      ((c : ℕ) (m : Node) → slice_get nodes c ≡ Some m → among c (numbers_below (numbers_from nodes levels) nodes x n count) ≡ true → Says c m) → (rest : Line) →
      items (inner_lines (line_from d nodes levels) nodes x n count rest) ≡ stances_items said (numbers_below (numbers_from nodes levels) nodes x n count) ++ items rest
  unfolding inner_lines numbers_below stances_items
  flat_count levels x n deep clear flat zero says rest = refl
  flat_count levels x n deep clear flat (suc count) says rest =
      flat_count levels x n deep clear flat count (λ c m there in_it. says c m there (among_first c (numbers_below (numbers_from nodes levels) nodes x n count) (numbers_at (numbers_from nodes levels) x n count (slice_get nodes count)) in_it))
      (inner_line (line_from d nodes levels) x n count (slice_get nodes count) rest)
      ∙ ap (λ z. stances_items said (numbers_below (numbers_from nodes levels) nodes x n count) ++ z) (of (slice_get nodes count) refl)
      ∙ sym (append_assoc (stances_items said (numbers_below (numbers_from nodes levels) nodes x n count)) (stances_items said (numbers_at (numbers_from nodes levels) x n count (slice_get nodes count))) (items rest))
      ∙ ap (λ z. z ++ items rest) (sym (stances_both said (numbers_below (numbers_from nodes levels) nodes x n count) (numbers_at (numbers_from nodes levels) x n count (slice_get nodes count))))
    where
      by : (m : Node) → slice_get nodes count ≡ Some m → (b : Bool) → is_inner x n count m ≡ b →
          items (cond b (under m.before (put_by (stub_in m.place) (line_from d nodes levels count m) rest)) rest)
          ≡ stances_items said (if b then number_with (numbers_from nodes levels) count m (stub_in m.place) else []) ++ items rest
      by m f false g = refl
      by m f true g =
          let captured = left_true (is_captured m.place) ((m.parent == x) && (nat_lt x count && (not m.over && not (is_asked count n.asks)))) g in
          let parent = eqb-true m.parent x (left_true (m.parent == x) (nat_lt x count && (not m.over && not (is_asked count n.asks))) (right_true (is_captured m.place) ((m.parent == x) && (nat_lt x count && (not m.over && not (is_asked count n.asks)))) g)) in
          let lower : x < count = subst (λ i. i < count) parent (rising count m f captured) in
          let its = clear_child levels x count n m clear f g in
          ap items (under_none m.before (put_by (stub_in m.place) (line_from d nodes levels count m) rest) (before_none m (stub_in m.place) levels count its))
          ∙ flat_one levels count m captured (omega (arith, deep, lower)) its flat
          (λ i z at in_it. says i z at (among_last i (numbers_below (numbers_from nodes levels) nodes x n count) (numbers_at (numbers_from nodes levels) x n count (slice_get nodes count))
          (ap (λ o. among i (numbers_at (numbers_from nodes levels) x n count o)) f ∙ ap (λ b. among i (if b then number_with (numbers_from nodes levels) count m (stub_in m.place) else [])) g ∙ in_it))) f rest

      of : (o : Option Node) → slice_get nodes count ≡ o → items (inner_line (line_from d nodes levels) x n count o rest) ≡ stances_items said (numbers_at (numbers_from nodes levels) x n count o) ++ items rest
      of None f = refl
      of (Some m) f = by m f (is_inner x n count m) refl

  pub flat : (levels : ℕ) → Flat levels
  unfolding numbers_from
  flat zero x n deep clear says rest = flat_count zero x n deep clear (λ l e. cc) most_nodes says rest
  flat (suc levels) x n deep clear says rest = flat_count (suc levels) x n deep clear (λ l e. subst Flat (same e) (flat levels)) most_nodes says rest
    where
      same : {l : ℕ} → suc l ≡ suc levels → levels ≡ l
      same e = omega (arith, e)
