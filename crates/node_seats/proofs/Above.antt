-- The node that takes up the bytes of another; and none takes up its own.
use Rattle.std.proofs.Common.{◌≡◌, ℕ, zero, suc, ◌==◌, ◌&&◌, ◌||◌, nat_lt, Bool, true, false, not, List, Option, None, Some, slice_get, refl, sym, ap, ◌∙◌, arith}
use Rattle.std.proofs.lemmas.Bool.{eqb-true}
use Rattle.std.proofs.lemmas.Bool.Decides.{nat_tests}
use Rattle.node_line.specs.node_turn.declared.node.Node.{Node}
use Rattle.node_seats.proofs.Paths.{on_path}
use Rattle.node_seats.specs.Seats.{heard_by, hears, is_asked, is_captured, is_heard, most_nodes, takes_up}

-- ---- truth

pub left_true : (a b : Bool) → (a && b) ≡ true → a ≡ true
left_true true b e = refl
left_true false b e = cc

pub right_true : (a b : Bool) → (a && b) ≡ true → b ≡ true
right_true true b e = e
right_true false b e = cc

pub false_true : false ≡ true → ⊥
false_true e = cc

pub eq_self : (n : ℕ) → (n == n) ≡ true
eq_self n = grind (arith, nat_tests)

pub some_same : {A : Type 0} (x y : A) → Some x ≡ Some y → x ≡ y
some_same x y e = cc

pub none_some : {A : Type 0} (x : A) → None ≡ Some x → ⊥
none_some x e = cc

or_left : (a b : Bool) → a ≡ true → (a || b) ≡ true
or_left true b e = refl
or_left false b e = cc

or_right : (a b : Bool) → b ≡ true → (a || b) ≡ true
or_right true b e = refl
or_right false b e = e

both : (a b : Bool) → a ≡ true → b ≡ true → (a && b) ≡ true
both true b e f = f
both false b e f = cc

-- ---- the one that takes up the bytes of a node

-- A node waits for the bytes of the one with the number `at`; or takes them up beside its own.
pub data Takes (above at : ℕ) (p : Node) : Type 0 where
  Asks : p.asks ≡ Some at → Takes above at p
  Includes : takes_up p.place ≡ true → nat_lt above at ≡ true → nat_lt at most_nodes ≡ true → is_asked at p.asks ≡ false → Takes above at p

pub record Above (levels : ℕ) (nodes : List Node) (at : ℕ) (n : Node) : Type 0 where
  pub waiting : Node
  pub there : slice_get nodes n.parent ≡ Some waiting
  pub goes_on : waiting.over ≡ false
  pub takes : Takes n.parent at waiting
  pub heard : is_heard levels nodes n.parent waiting ≡ true

asked_for : (at : ℕ) (asks : Option ℕ) → is_asked at asks ≡ true → asks ≡ Some at
asked_for at None f = cc
asked_for at (Some c) f = ap Some (eqb-true c at f)

takes_by : (above at : ℕ) (p : Node) (b : Bool) → is_asked at p.asks ≡ b → (b || (takes_up p.place && (nat_lt above at && nat_lt at most_nodes))) ≡ true → Takes above at p
takes_by above at p true e h = Asks (asked_for at p.asks e)
takes_by above at p false e h =
    let rest = right_true (takes_up p.place) (nat_lt above at && nat_lt at most_nodes) h in
    Includes (left_true (takes_up p.place) (nat_lt above at && nat_lt at most_nodes) h) (left_true (nat_lt above at) (nat_lt at most_nodes) rest) (right_true (nat_lt above at) (nat_lt at most_nodes) rest) e

pub above_is : (levels : ℕ) (nodes : List Node) (at : ℕ) (n : Node) → is_heard (suc levels) nodes at n ≡ true → is_captured n.place ≡ true → Above levels nodes at n
unfolding is_heard
above_is levels nodes at n e captured =
    by (slice_get nodes n.parent) refl (sym (ap (λ b. not b || heard_by (is_heard levels nodes n.parent) n.parent at (slice_get nodes n.parent)) captured) ∙ e)
  where
    not_over : (b : Bool) → not b ≡ true → b ≡ false
    not_over true e = cc
    not_over false e = refl

    by : (o : Option Node) → slice_get nodes n.parent ≡ o → heard_by (is_heard levels nodes n.parent) n.parent at o ≡ true → Above levels nodes at n
    by None f h = cc
    by (Some p) f h =
        let takes_it : Bool = is_asked at p.asks || (takes_up p.place && (nat_lt n.parent at && nat_lt at most_nodes)) in
        let hears_it = left_true (hears n.parent at p) (is_heard levels nodes n.parent p) h in
        record {
          waiting = p;
          there = f;
          goes_on = not_over p.over (left_true (not p.over) takes_it hears_it);
          takes = takes_by n.parent at p (is_asked at p.asks) refl (right_true (not p.over) takes_it hears_it);
          heard = right_true (hears n.parent at p) (is_heard levels nodes n.parent p) h;
        }

-- ---- the way up from a node

module _ (nodes : List Node) where
  pub itself : (up at : ℕ) (n : Node) → on_path up nodes at (Some n) at ≡ true
  unfolding on_path
  itself zero at n = eq_self at
  itself (suc up) at n = or_left (at == at) (is_captured n.place && on_path up nodes n.parent (slice_get nodes n.parent) at) (eq_self at)

  same_node : (i j : ℕ) (x y : Node) → slice_get nodes i ≡ Some x → slice_get nodes j ≡ Some y → i ≡ j → x ≡ y
  same_node i j x y e f g = some_same x y (sym e ∙ ap (slice_get nodes) g ∙ f)

  -- another on the way is on that of its parent
  record Further (up at : ℕ) (n : Node) (c : ℕ) : Type 0 where
    pub captured : is_captured n.place ≡ true
    pub above : Above up nodes at n
    pub on : on_path up nodes n.parent (Some above.waiting) c ≡ true

  further : (up at c : ℕ) (n : Node) → is_heard (suc up) nodes at n ≡ true → on_path (suc up) nodes at (Some n) c ≡ true → (c == at) ≡ false → Further up at n c
  unfolding on_path
  further up at c n e on other =
      let rest : (is_captured n.place && on_path up nodes n.parent (slice_get nodes n.parent) c) ≡ true = sym (ap (λ b. b || (is_captured n.place && on_path up nodes n.parent (slice_get nodes n.parent) c)) other) ∙ on in
      let withheld = left_true (is_captured n.place) (on_path up nodes n.parent (slice_get nodes n.parent) c) rest in
      let a = above_is up nodes at n e withheld in
      record {
        captured = withheld;
        above = a;
        on = ap (λ o. on_path up nodes n.parent o c) (sym a.there) ∙ right_true (is_captured n.place) (on_path up nodes n.parent (slice_get nodes n.parent) c) rest;
      }

  pub next_on : (up at j : ℕ) (n : Node) → is_captured n.place ≡ true → (a : Above up nodes at n) → on_path up nodes n.parent (Some a.waiting) j ≡ true → on_path (suc up) nodes at (Some n) j ≡ true
  unfolding on_path
  next_on up at j n captured a on =
      or_right (j == at) (is_captured n.place && on_path up nodes n.parent (slice_get nodes n.parent) j)
      (both (is_captured n.place) (on_path up nodes n.parent (slice_get nodes n.parent) j) captured (ap (λ o. on_path up nodes n.parent o j) a.there ∙ on))

  -- the parent of one on the way whose bytes come to it
  pub up_path : (up at c : ℕ) (n m : Node) → slice_get nodes at ≡ Some n → is_heard up nodes at n ≡ true → on_path up nodes at (Some n) c ≡ true → slice_get nodes c ≡ Some m → is_captured m.place ≡ true →
      on_path up nodes at (Some n) m.parent ≡ true
  unfolding on_path is_heard
  up_path zero at c n m there e on here captured =
      let same : n ≡ m = same_node at c n m there here (sym (eqb-true c at on)) in
      absurd (false_true (ap not (sym (ap (λ (x : Node). is_captured x.place) same ∙ captured)) ∙ e))
  up_path (suc up) at c n m there e on here captured = by (λ a on'. up_path up n.parent c a.waiting m a.there a.heard on' here captured) (c == at) refl
    where
      by : ((a : Above up nodes at n) → on_path up nodes n.parent (Some a.waiting) c ≡ true → on_path up nodes n.parent (Some a.waiting) m.parent ≡ true) →
          (b : Bool) → (c == at) ≡ b → on_path (suc up) nodes at (Some n) m.parent ≡ true
      by higher true f =
          let same : n ≡ m = same_node at c n m there here (sym (eqb-true c at f)) in
          let withheld : is_captured n.place ≡ true = ap (λ (x : Node). is_captured x.place) same ∙ captured in
          let a = above_is up nodes at n e withheld in
          ap (on_path (suc up) nodes at (Some n)) (ap (λ (x : Node). x.parent) (sym same)) ∙ next_on up at n.parent n withheld a (itself up n.parent a.waiting)
      by higher false f =
          let x = further up at c n e on f in
          next_on up at m.parent n x.captured x.above (higher x.above x.on)

  -- none on the way up from a node is a subrequest of it
  pub no_loop : (up at c : ℕ) (n m : Node) → slice_get nodes at ≡ Some n → is_heard up nodes at n ≡ true → on_path up nodes at (Some n) c ≡ true → slice_get nodes c ≡ Some m → is_captured m.place ≡ true → m.parent ≡ at → ⊥
  unfolding on_path is_heard
  no_loop zero at c n m there e on here captured parent =
      let same : n ≡ m = same_node at c n m there here (sym (eqb-true c at on)) in
      false_true (ap not (sym (ap (λ (x : Node). is_captured x.place) same ∙ captured)) ∙ e)
  no_loop (suc up) at c n m there e on here captured parent = by (λ a j x on' here' captured' parent'. no_loop up n.parent j a.waiting x a.there a.heard on' here' captured' parent') (c == at) refl
    where
      by : ((a : Above up nodes at n) (j : ℕ) (x : Node) → on_path up nodes n.parent (Some a.waiting) j ≡ true → slice_get nodes j ≡ Some x → is_captured x.place ≡ true → x.parent ≡ n.parent → ⊥) →
          (b : Bool) → (c == at) ≡ b → ⊥
      by higher true f =
          let same : n ≡ m = same_node at c n m there here (sym (eqb-true c at f)) in
          let withheld : is_captured n.place ≡ true = ap (λ (x : Node). is_captured x.place) same ∙ captured in
          let a = above_is up nodes at n e withheld in
          let it : a.waiting ≡ n = same_node n.parent at a.waiting n a.there there (ap (λ (x : Node). x.parent) same ∙ parent) in
          higher a n.parent a.waiting (itself up n.parent a.waiting) a.there (ap (λ (x : Node). is_captured x.place) it ∙ withheld) (ap (λ (x : Node). x.parent) it)
      by higher false f =
          let x = further up at c n e on f in
          higher x.above at n (ap (on_path up nodes n.parent (Some x.above.waiting)) (sym parent) ∙ up_path up n.parent c x.above.waiting m x.above.there x.above.heard x.on here captured) there x.captured refl

  -- and no two on it are of one
  pub one_of : (up at c x : ℕ) (n mc mx : Node) → slice_get nodes at ≡ Some n → is_heard up nodes at n ≡ true → on_path up nodes at (Some n) c ≡ true → on_path up nodes at (Some n) x ≡ true →
      slice_get nodes c ≡ Some mc → slice_get nodes x ≡ Some mx → is_captured mc.place ≡ true → is_captured mx.place ≡ true → mc.parent ≡ mx.parent → c ≡ x
  unfolding on_path
  one_of zero at c x n mc mx there e on_c on_x here_c here_x captured_c captured_x parent = eqb-true c at on_c ∙ sym (eqb-true x at on_x)
  one_of (suc up) at c x n mc mx there e on_c on_x here_c here_x captured_c captured_x parent =
      by (λ a on_c' on_x'. one_of up n.parent c x a.waiting mc mx a.there a.heard on_c' on_x' here_c here_x captured_c captured_x parent) (c == at) (x == at) refl refl
    where
      by : ((a : Above up nodes at n) → on_path up nodes n.parent (Some a.waiting) c ≡ true → on_path up nodes n.parent (Some a.waiting) x ≡ true → c ≡ x) →
          (b b' : Bool) → (c == at) ≡ b → (x == at) ≡ b' → c ≡ x
      by higher true true f g = eqb-true c at f ∙ sym (eqb-true x at g)
      by higher true false f g =
          let same : n ≡ mc = same_node at c n mc there here_c (sym (eqb-true c at f)) in
          let y = further up at x n e on_x g in
          absurd (no_loop up n.parent x y.above.waiting mx y.above.there y.above.heard y.on here_x captured_x (sym parent ∙ ap (λ (m : Node). m.parent) (sym same)))
      by higher false true f g =
          let same : n ≡ mx = same_node at x n mx there here_x (sym (eqb-true x at g)) in
          let y = further up at c n e on_c f in
          absurd (no_loop up n.parent c y.above.waiting mc y.above.there y.above.heard y.on here_c captured_c (parent ∙ ap (λ (m : Node). m.parent) (sym same)))
      by higher false false f g =
          let y = further up at c n e on_c f in
          let z = further up at x n e on_x g in
          let same : z.above.waiting ≡ y.above.waiting = some_same z.above.waiting y.above.waiting (sym z.above.there ∙ y.above.there) in
          higher y.above y.on (ap (λ (m : Node). on_path up nodes n.parent (Some m) x) (sym same) ∙ z.on)
