-- Another node in the place of one makes no difference to what is said of those that don't have it in their lines.
use Rattle.std.proofs.Common.{◌≡◌, ℕ, zero, suc, ◌==◌, ◌&&◌, nat_lt, Bool, true, false, not, cond, List, Option, None, Some, slice_get, refl, sym, ap, ◌∙◌}
use Rattle.std.proofs.lemmas.Bool.{eqb-true}
use Rattle.family_meaning.specs.Line.{Line}
use Rattle.family_meaning.specs.Line.Line.{Nil, Gives, Waits, Stubs}
use Rattle.family_order.specs.Items.Stance.{Going, Waiting, Apart, Hidden}
use Rattle.node_line.specs.node_turn.Stages.{is_capturing}
use Rattle.node_line.specs.node_turn.declared.node.Node.{Node}
use Rattle.node_line.specs.node_turn.declared.node.Place.{Place}
use Rattle.node_line.specs.node_turn.declared.node.Place.TheVariants.{Row, Stub, Gathers, Captured}
use Rattle.node_line.specs.Stances.{under}
use Rattle.node_seats.specs.Seats.{Doing, ahead_line, asking_line, inner_line, inner_lines, is_asked, most_nodes, withheld_text, is_captured, is_heard, line_from, place_stance, put_by, row_stance, stance_in, stance_of, stub_in, waited_line}
use Rattle.node_seats.proofs.Paths.{on_path}
use Rattle.node_seats.proofs.Inners.{ahead_same, inners_same}
use Rattle.node_seats.proofs.Above.{eq_self, false_true, itself, left_true, no_loop, none_some, one_of, right_true, some_same, up_path}

-- ---- lines without a node in them

-- nothing; or a subrequest of a node, whose bytes come to it
abbrev pub is_its : (at : ℕ) → Option Node → Bool
is_its at None = true
is_its at (Some n) = is_captured n.place && (n.parent == at)

-- What is at a number that isn't the node's: the same; or nothing or a subrequest of it, before and then.
pub data SameOrMore (at : ℕ) (o o' : Option Node) : Type 0 where
  Same : o ≡ o' → SameOrMore at o o'
  Its : is_its at o ≡ true → is_its at o' ≡ true → SameOrMore at o o'

pub its_captured : (at : ℕ) (n : Node) → is_its at (Some n) ≡ true → is_captured n.place ≡ true
its_captured at n e = left_true (is_captured n.place) (n.parent == at) e

pub its_parent : (at : ℕ) (n : Node) → is_its at (Some n) ≡ true → n.parent ≡ at
its_parent at n e = eqb-true n.parent at (right_true (is_captured n.place) (n.parent == at) e)

-- Another node in the place of one, in the same place; what the others do is the same.
pub record Changed (d : Doing) (nodes : List Node) (d' : Doing) (nodes' : List Node) (at : ℕ) (old new : Node) : Type 0 where
  pub there : slice_get nodes at ≡ Some old
  pub then : slice_get nodes' at ≡ Some new
  pub captured : is_captured new.place ≡ is_captured old.place
  pub parent : new.parent ≡ old.parent
  pub others : (j : ℕ) → (j == at) ≡ false → SameOrMore at (slice_get nodes j) (slice_get nodes' j)
  pub acts : (j : ℕ) (n : Node) → (j == at) ≡ false → d.act j n ≡ d'.act j n
  pub heard : (j : ℕ) (n : Node) → (j == at) ≡ false → d.heard j n ≡ d'.heard j n

-- it is part of nothing
no_part : (a b t : Bool) → (a && b) ≡ false → (a && (b && t)) ≡ false
no_part true true t e = cc
no_part true false t e = refl
no_part false b t e = refl

module _ (d : Doing) (nodes : List Node) (d' : Doing) (nodes' : List Node) (up at : ℕ) (old new : Node) (heard : is_heard up nodes at old ≡ true) (ch : Changed d nodes d' nodes' at old new) where
  abbrev pub off : ℕ → Type 0
  off j = on_path up nodes at (Some old) j ≡ false

  off_other : (j : ℕ) → off j → (j == at) ≡ false
  off_other j e = by (j == at) refl
    where
      by : (b : Bool) → (j == at) ≡ b → b ≡ false
      by true f = absurd (false_true (sym (ap (on_path up nodes at (Some old)) (sym (eqb-true j at f)) ∙ e) ∙ itself nodes up at old))
      by false f = refl

  turned : (x : ℕ) → (x == at) ≡ false → (at == x) ≡ false
  turned x e = by (at == x) refl
    where
      by : (b : Bool) → (at == x) ≡ b → b ≡ false
      by true f = absurd (false_true (sym e ∙ ap (λ i. x == i) (eqb-true at x f) ∙ eq_self x))
      by false f = refl

  -- a subrequest of one that isn't on the path isn't either
  child_off : (x c : ℕ) (m : Node) → off x → slice_get nodes c ≡ Some m → is_captured m.place ≡ true → m.parent ≡ x → off c
  child_off x c m e here captured parent = by (on_path up nodes at (Some old) c) refl
    where
      by : (b : Bool) → on_path up nodes at (Some old) c ≡ b → b ≡ false
      by true f = absurd (false_true (sym e ∙ ap (on_path up nodes at (Some old)) (sym parent) ∙ up_path nodes up at c old m ch.there heard f here captured))
      by false f = refl

  -- the lines below are the same
  abbrev pub AsMuch : (ℕ → Node → Line → Line) → (ℕ → Node → Line → Line) → Type 0
  AsMuch below below' = (c : ℕ) (m : Node) (rest : Line) → slice_get nodes c ≡ Some m → off c → below c m rest ≡ below' c m rest

  -- no subrequest with a number whose bytes come to a node is on the path
  abbrev pub Clear : (x c : ℕ) → Type 0
  Clear x c = (m : Node) → slice_get nodes c ≡ Some m → is_captured m.place ≡ true → m.parent ≡ x → on_path up nodes at (Some old) c ≡ false

  pub off_clear : (x c : ℕ) → off x → Clear x c
  off_clear x c e m here captured parent = child_off x c m e here captured parent

  -- the node isn't one itself
  not_it : (x c : ℕ) (m : Node) → Clear x c → (c == at) ≡ true → is_captured m.place ≡ is_captured old.place → m.parent ≡ old.parent → (is_captured m.place && (m.parent == x)) ≡ false
  not_it x c m clear e f g = by (is_captured m.place && (m.parent == x)) refl
    where
      by : (b : Bool) → (is_captured m.place && (m.parent == x)) ≡ b → b ≡ false
      by false h = refl
      by true h =
          let withheld = sym f ∙ left_true (is_captured m.place) (m.parent == x) h in
          let parent = sym g ∙ eqb-true m.parent x (right_true (is_captured m.place) (m.parent == x) h) in
          let is = eqb-true c at e in
          absurd (false_true (sym (clear old (ap (slice_get nodes) is ∙ ch.there) withheld parent) ∙ ap (on_path up nodes at (Some old)) is ∙ itself nodes up at old))

  -- nor is a subrequest of it
  not_its : (x : ℕ) (m : Node) → (x == at) ≡ false → is_its at (Some m) ≡ true → (is_captured m.place && (m.parent == x)) ≡ false
  not_its x m other e = ap (λ b. b && (m.parent == x)) (its_captured at m e) ∙ ap (λ i. i == x) (its_parent at m e) ∙ turned x other

  put_same : (below below' : ℕ → Node → Line → Line) (c : ℕ) (s : Option (List ℕ)) (m : Node) (rest : Line) → ((r : Line) → below c m r ≡ below' c m r) → put_by s (below c m) rest ≡ put_by s (below' c m) rest
  put_same below below' c None m rest f = f rest
  put_same below below' c (Some stub) m rest f = ap (λ line. Stubs line stub rest) (f Nil)

  pub clear_waited : (below below' : ℕ → Node → Line → Line) → AsMuch below below' → (x c : ℕ) (rest : Line) → (x == at) ≡ false → Clear x c →
      waited_line below x c (slice_get nodes c) rest ≡ waited_line below' x c (slice_get nodes' c) rest
  clear_waited below below' ih x c rest other clear = by (c == at) refl
    where
      one : (m : Node) → slice_get nodes c ≡ Some m → (b p : Bool) → is_captured m.place ≡ b → (m.parent == x) ≡ p →
          cond (b && p) (put_by (stub_in m.place) (below c m) rest) rest ≡ cond (b && p) (put_by (stub_in m.place) (below' c m) rest) rest
      one m here false p f g = refl
      one m here true false f g = refl
      one m here true true f g = put_same below below' c (stub_in m.place) m rest (λ r. ih c m r here (clear m here f (eqb-true m.parent x g)))

      none : (line : ℕ → Node → Line → Line) (m : Node) → (is_captured m.place && (m.parent == x)) ≡ false → waited_line line x c (Some m) rest ≡ rest
      none line m e = ap (λ b. cond b (put_by (stub_in m.place) (line c m) rest) rest) e

      of : (o : Option Node) → slice_get nodes c ≡ o → waited_line below x c o rest ≡ waited_line below' x c o rest
      of None f = refl
      of (Some m) f = one m f (is_captured m.place) (m.parent == x) refl refl

      its : (line : ℕ → Node → Line → Line) (o : Option Node) → is_its at o ≡ true → waited_line line x c o rest ≡ rest
      its line None f = refl
      its line (Some m) f = none line m (not_its x m other f)

      beside : SameOrMore at (slice_get nodes c) (slice_get nodes' c) → waited_line below x c (slice_get nodes c) rest ≡ waited_line below' x c (slice_get nodes' c) rest
      beside (Same f) = of (slice_get nodes c) refl ∙ ap (λ o. waited_line below' x c o rest) f
      beside (Its f g) = its below (slice_get nodes c) f ∙ sym (its below' (slice_get nodes' c) g)

      by : (b : Bool) → (c == at) ≡ b → waited_line below x c (slice_get nodes c) rest ≡ waited_line below' x c (slice_get nodes' c) rest
      by true f =
          ap (λ o. waited_line below x c o rest) (ap (slice_get nodes) (eqb-true c at f) ∙ ch.there) ∙ none below old (not_it x c old clear f refl refl)
          ∙ sym (ap (λ o. waited_line below' x c o rest) (ap (slice_get nodes') (eqb-true c at f) ∙ ch.then) ∙ none below' new (not_it x c new clear f ch.captured ch.parent))
      by false f = beside (ch.others c f)

  pub clear_inner : (below below' : ℕ → Node → Line → Line) → AsMuch below below' → (x : ℕ) (n : Node) (c : ℕ) (rest : Line) → (x == at) ≡ false → Clear x c →
      inner_line below x n c (slice_get nodes c) rest ≡ inner_line below' x n c (slice_get nodes' c) rest
  clear_inner below below' ih x n c rest other clear = by (c == at) refl
    where
      more : Node → Bool
      more m = nat_lt x c && (not m.over && not (is_asked c n.asks))

      one : (m : Node) → slice_get nodes c ≡ Some m → (b p : Bool) → is_captured m.place ≡ b → (m.parent == x) ≡ p →
          cond (b && (p && (nat_lt x c && (not m.over && not (is_asked c n.asks))))) (under m.before (put_by (stub_in m.place) (below c m) rest)) rest
          ≡ cond (b && (p && (nat_lt x c && (not m.over && not (is_asked c n.asks))))) (under m.before (put_by (stub_in m.place) (below' c m) rest)) rest
      one m here false p f g = refl
      one m here true false f g = refl
      one m here true true f g =
          ap (λ line. cond (nat_lt x c && (not m.over && not (is_asked c n.asks))) (under m.before line) rest) (put_same below below' c (stub_in m.place) m rest (λ r. ih c m r here (clear m here f (eqb-true m.parent x g))))

      none : (line : ℕ → Node → Line → Line) (m : Node) → (is_captured m.place && (m.parent == x)) ≡ false → inner_line line x n c (Some m) rest ≡ rest
      none line m e = ap (λ b. cond b (under m.before (put_by (stub_in m.place) (line c m) rest)) rest) (no_part (is_captured m.place) (m.parent == x) (more m) e)

      of : (o : Option Node) → slice_get nodes c ≡ o → inner_line below x n c o rest ≡ inner_line below' x n c o rest
      of None f = refl
      of (Some m) f = one m f (is_captured m.place) (m.parent == x) refl refl

      its : (line : ℕ → Node → Line → Line) (o : Option Node) → is_its at o ≡ true → inner_line line x n c o rest ≡ rest
      its line None f = refl
      its line (Some m) f = none line m (not_its x m other f)

      beside : SameOrMore at (slice_get nodes c) (slice_get nodes' c) → inner_line below x n c (slice_get nodes c) rest ≡ inner_line below' x n c (slice_get nodes' c) rest
      beside (Same f) = of (slice_get nodes c) refl ∙ ap (λ o. inner_line below' x n c o rest) f
      beside (Its f g) = its below (slice_get nodes c) f ∙ sym (its below' (slice_get nodes' c) g)

      by : (b : Bool) → (c == at) ≡ b → inner_line below x n c (slice_get nodes c) rest ≡ inner_line below' x n c (slice_get nodes' c) rest
      by true f =
          ap (λ o. inner_line below x n c o rest) (ap (slice_get nodes) (eqb-true c at f) ∙ ch.there) ∙ none below old (not_it x c old clear f refl refl)
          ∙ sym (ap (λ o. inner_line below' x n c o rest) (ap (slice_get nodes') (eqb-true c at f) ∙ ch.then) ∙ none below' new (not_it x c new clear f ch.captured ch.parent))
      by false f = beside (ch.others c f)

  pub clear_asking : (below below' : ℕ → Node → Line → Line) → AsMuch below below' → (x : ℕ) (n : Node) (asks : Option ℕ) (rest : Line) → (x == at) ≡ false → ((c : ℕ) → asks ≡ Some c → Clear x c) →
      asking_line d nodes below x n asks rest ≡ asking_line d' nodes' below' x n asks rest
  clear_asking below below' ih x n None rest other clear = ap (λ m. Gives x n.left m rest) (ch.acts x n other)
  clear_asking below below' ih x n (Some c) rest other clear = by (is_capturing n.stage)
    where
      by : (b : Bool) → cond b (Waits x (waited_line below x c (slice_get nodes c) Nil) n.left (d.heard x n) rest) (waited_line below x c (slice_get nodes c) (Gives x n.left (d.act x n) rest))
          ≡ cond b (Waits x (waited_line below' x c (slice_get nodes' c) Nil) n.left (d'.heard x n) rest) (waited_line below' x c (slice_get nodes' c) (Gives x n.left (d'.act x n) rest))
      by true =
          ap (λ line. Waits x line n.left (d.heard x n) rest) (clear_waited below below' ih x c Nil other (clear c refl))
          ∙ ap (λ k. Waits x (waited_line below' x c (slice_get nodes' c) Nil) n.left k rest) (ch.heard x n other)
      by false =
          ap (λ m. waited_line below x c (slice_get nodes c) (Gives x n.left m rest)) (ch.acts x n other)
          ∙ clear_waited below below' ih x c (Gives x n.left (d'.act x n) rest) other (clear c refl)

  pub off_line : (levels : ℕ) → AsMuch (line_from d nodes levels) (line_from d' nodes' levels)
  unfolding line_from
  off_line zero c m rest here e = ap (λ act. under (withheld_text m.place) (Gives c m.left act rest)) (ch.acts c m (off_other c e))
  off_line (suc levels) c m rest here e =
      let below = line_from d nodes levels in
      let below' = line_from d' nodes' levels in
      ap (λ l. ahead_line m.place (inner_lines below nodes c m most_nodes) (under (withheld_text m.place) l)) (clear_asking below below' (off_line levels) c m m.asks rest (off_other c e) (λ i f. off_clear c i e))
      ∙ ahead_same m.place (inner_lines below nodes c m most_nodes) (inner_lines below' nodes' c m most_nodes)
      (inners_same below nodes c m below' nodes' m most_nodes (λ i h r. clear_inner below below' (off_line levels) c m i r (off_other c e) (off_clear c i e)))
      (under (withheld_text m.place) (asking_line d' nodes' below' c m m.asks rest))

  -- ---- those on the path

  -- one above the node is the same
  pub path_same : (x : ℕ) (p : Node) → on_path up nodes at (Some old) x ≡ true → (x == at) ≡ false → slice_get nodes x ≡ Some p → slice_get nodes' x ≡ Some p
  path_same x p on other here = by (ch.others x other)
    where
      by : SameOrMore at (slice_get nodes x) (slice_get nodes' x) → slice_get nodes' x ≡ Some p
      by (Same f) = sym f ∙ here
      by (Its f g) =
          let its : is_its at (Some p) ≡ true = sym (ap (is_its at) here) ∙ f in
          absurd (no_loop nodes up at x old p ch.there heard on here (its_captured at p its) (its_parent at p its))

  -- the parent of one on it is another
  pub above_other : (x : ℕ) (n : Node) → on_path up nodes at (Some old) x ≡ true → slice_get nodes x ≡ Some n → is_captured n.place ≡ true → (n.parent == at) ≡ false
  above_other x n on here captured = by (n.parent == at) refl
    where
      by : (b : Bool) → (n.parent == at) ≡ b → b ≡ false
      by true f = absurd (no_loop nodes up at x old n ch.there heard on here captured (eqb-true n.parent at f))
      by false f = refl

  -- and no other subrequest of that is on it
  pub beside_clear : (x : ℕ) (n : Node) (c : ℕ) → on_path up nodes at (Some old) x ≡ true → slice_get nodes x ≡ Some n → is_captured n.place ≡ true → (c == x) ≡ false → Clear n.parent c
  beside_clear x n c on here captured other m here_c captured_c parent = by (on_path up nodes at (Some old) c) refl
    where
      by : (b : Bool) → on_path up nodes at (Some old) c ≡ b → b ≡ false
      by true f = absurd (false_true (sym other ∙ ap (λ i. i == x) (one_of nodes up at c x old m n ch.there heard f on here_c here captured_c captured parent) ∙ eq_self x))
      by false f = refl

  -- nor one of the node itself
  pub own_clear : (c : ℕ) → Clear at c
  own_clear c m here captured parent = by (on_path up nodes at (Some old) c) refl
    where
      by : (b : Bool) → on_path up nodes at (Some old) c ≡ b → b ≡ false
      by true f = absurd (no_loop nodes up at c old m ch.there heard f here captured parent)
      by false f = refl

  -- ---- its own subrequests

  -- one that is the same
  pub own_inner : (below below' : ℕ → Node → Line → Line) → AsMuch below below' → (c : ℕ) (rest : Line) → slice_get nodes c ≡ slice_get nodes' c → is_asked c old.asks ≡ is_asked c new.asks →
      inner_line below at old c (slice_get nodes c) rest ≡ inner_line below' at new c (slice_get nodes' c) rest
  own_inner below below' ih c rest same asks = of (slice_get nodes c) refl ∙ ap (λ o. inner_line below' at new c o rest) same
    where
      one : (m : Node) → slice_get nodes c ≡ Some m → (b p : Bool) → is_captured m.place ≡ b → (m.parent == at) ≡ p →
          cond (b && (p && (nat_lt at c && (not m.over && not (is_asked c new.asks))))) (under m.before (put_by (stub_in m.place) (below c m) rest)) rest
          ≡ cond (b && (p && (nat_lt at c && (not m.over && not (is_asked c new.asks))))) (under m.before (put_by (stub_in m.place) (below' c m) rest)) rest
      one m here false p f g = refl
      one m here true false f g = refl
      one m here true true f g =
          ap (λ line. cond (nat_lt at c && (not m.over && not (is_asked c new.asks))) (under m.before line) rest) (put_same below below' c (stub_in m.place) m rest (λ r. ih c m r here (own_clear c m here f (eqb-true m.parent at g))))

      of : (o : Option Node) → slice_get nodes c ≡ o → inner_line below at old c o rest ≡ inner_line below' at new c o rest
      of None f = refl
      of (Some m) f =
          ap (λ a. cond (is_captured m.place && ((m.parent == at) && (nat_lt at c && (not m.over && not a)))) (under m.before (put_by (stub_in m.place) (below c m) rest)) rest) asks
          ∙ one m f (is_captured m.place) (m.parent == at) refl refl

  -- what is said of a node that isn't on the path
  pub off_stance : (levels j : ℕ) → off j → stance_in d nodes levels j ≡ stance_in d' nodes' levels j
  off_stance levels j e = beside (ch.others j (off_other j e))
    where
      in_row : (n : Node) (asks : Option ℕ) → row_stance d nodes levels j n asks ≡ row_stance d' nodes' levels j n asks
      in_row n None = ap (Going n.left) (ch.acts j n (off_other j e))
      in_row n (Some c) =
          ap (λ line. Waiting line n.left (d.heard j n)) (clear_waited (line_from d nodes levels) (line_from d' nodes' levels) (off_line levels) j c Nil (off_other j e) (off_clear j c e))
          ∙ ap (Waiting (waited_line (line_from d' nodes' levels) j c (slice_get nodes' c) Nil) n.left) (ch.heard j n (off_other j e))

      at_place : (n : Node) → slice_get nodes j ≡ Some n → (p : Place) → place_stance d nodes levels j n p ≡ place_stance d' nodes' levels j n p
      at_place n here Row = in_row n n.asks
      at_place n here (Stub stub text) = ap (λ line. Apart line stub) (off_line (suc levels) j n Nil here e)
      at_place n here (Gathers stub text) = ap (λ line. Apart line stub) (off_line (suc levels) j n Nil here e)
      at_place n here (Captured stub text) = refl

      of : (o : Option Node) → slice_get nodes j ≡ o → stance_of d nodes levels j o ≡ stance_of d' nodes' levels j o
      of None f = refl
      of (Some n) f = at_place n f n.place

      none : (e : Doing) (ns : List Node) (m : Node) (p : Place) → is_captured p ≡ true → place_stance e ns levels j m p ≡ Hidden
      none e ns m Row f = cc
      none e ns m (Stub stub text) f = cc
      none e ns m (Gathers stub text) f = cc
      none e ns m (Captured stub text) f = refl

      its : (e : Doing) (ns : List Node) (o : Option Node) → is_its at o ≡ true → stance_of e ns levels j o ≡ Hidden
      its e ns None f = refl
      its e ns (Some m) f = none e ns m m.place (its_captured at m f)

      beside : SameOrMore at (slice_get nodes j) (slice_get nodes' j) → stance_in d nodes levels j ≡ stance_in d' nodes' levels j
      beside (Same f) = of (slice_get nodes j) refl ∙ ap (stance_of d' nodes' levels j) f
      beside (Its f g) = its d nodes (slice_get nodes j) f ∙ sym (its d' nodes' (slice_get nodes' j) g)

  -- and of one on the path whose bytes come to its parent
  pub hidden_stance : (levels j : ℕ) (n : Node) → slice_get nodes j ≡ Some n → is_captured n.place ≡ true → stance_in d nodes levels j ≡ stance_in d' nodes' levels j
  hidden_stance levels j n here captured = ap (stance_of d nodes levels j) here ∙ none d nodes n n.place captured ∙ by (j == at) refl
    where
      none : (e : Doing) (ns : List Node) (m : Node) (p : Place) → is_captured p ≡ true → place_stance e ns levels j m p ≡ Hidden
      none e ns m Row f = cc
      none e ns m (Stub stub text) f = cc
      none e ns m (Gathers stub text) f = cc
      none e ns m (Captured stub text) f = refl

      beside : SameOrMore at (slice_get nodes j) (slice_get nodes' j) → Hidden ≡ stance_in d' nodes' levels j
      beside (Same f) = sym (ap (stance_of d' nodes' levels j) (sym f ∙ here) ∙ none d' nodes' n n.place captured)
      beside (Its f g) = sym (its (slice_get nodes' j) g)
        where
          its : (o : Option Node) → is_its at o ≡ true → stance_of d' nodes' levels j o ≡ Hidden
          its None e = refl
          its (Some m) e = none d' nodes' m m.place (its_captured at m e)

      by : (b : Bool) → (j == at) ≡ b → Hidden ≡ stance_in d' nodes' levels j
      by true f =
          let same : n ≡ old = some_same n old (sym here ∙ ap (slice_get nodes) (eqb-true j at f) ∙ ch.there) in
          sym (ap (stance_of d' nodes' levels j) (ap (slice_get nodes') (eqb-true j at f) ∙ ch.then) ∙ none d' nodes' new new.place (ch.captured ∙ ap (λ (x : Node). is_captured x.place) (sym same) ∙ captured))
      by false f = beside (ch.others j f)

  -- and of the number of none
  pub none_stance : (levels j : ℕ) → (j == at) ≡ false → slice_get nodes j ≡ None → stance_in d nodes levels j ≡ stance_in d' nodes' levels j
  none_stance levels j e here = by (ch.others j e)
    where
      its : (o : Option Node) → is_its at o ≡ true → stance_of d' nodes' levels j o ≡ Hidden
      its None f = refl
      its (Some m) f = by m.place (its_captured at m f)
        where
          by : (p : Place) → is_captured p ≡ true → place_stance d' nodes' levels j m p ≡ Hidden
          by Row g = cc
          by (Stub stub text) g = cc
          by (Gathers stub text) g = cc
          by (Captured stub text) g = refl

      by : SameOrMore at (slice_get nodes j) (slice_get nodes' j) → stance_in d nodes levels j ≡ stance_in d' nodes' levels j
      by (Same f) = ap (stance_of d nodes levels j) here ∙ sym (ap (stance_of d' nodes' levels j) (sym f ∙ here))
      by (Its f g) = ap (stance_of d nodes levels j) here ∙ sym (its (slice_get nodes' j) g)

  -- the one for which it waits
  pub own_waited : (below below' : ℕ → Node → Line → Line) → AsMuch below below' → (c : ℕ) (rest : Line) → ((c == at) ≡ false → slice_get nodes c ≡ slice_get nodes' c) →
      waited_line below at c (slice_get nodes c) rest ≡ waited_line below' at c (slice_get nodes' c) rest
  own_waited below below' ih c rest same = by (c == at) refl
    where
      one : (m : Node) → slice_get nodes c ≡ Some m → (b p : Bool) → is_captured m.place ≡ b → (m.parent == at) ≡ p →
          cond (b && p) (put_by (stub_in m.place) (below c m) rest) rest ≡ cond (b && p) (put_by (stub_in m.place) (below' c m) rest) rest
      one m here false p f g = refl
      one m here true false f g = refl
      one m here true true f g = put_same below below' c (stub_in m.place) m rest (λ r. ih c m r here (own_clear c m here f (eqb-true m.parent at g)))

      of : (o : Option Node) → slice_get nodes c ≡ o → waited_line below at c o rest ≡ waited_line below' at c o rest
      of None f = refl
      of (Some m) f = one m f (is_captured m.place) (m.parent == at) refl refl

      none : (line : ℕ → Node → Line → Line) (m : Node) → is_captured m.place ≡ is_captured old.place → m.parent ≡ old.parent → (b : Bool) → (is_captured m.place && (m.parent == at)) ≡ b → waited_line line at c (Some m) rest ≡ rest
      none line m f g false e = ap (λ b. cond b (put_by (stub_in m.place) (line c m) rest) rest) e
      none line m f g true e =
          absurd (no_loop nodes up at at old old ch.there heard (itself nodes up at old) ch.there (sym f ∙ left_true (is_captured m.place) (m.parent == at) e) (sym g ∙ eqb-true m.parent at (right_true (is_captured m.place) (m.parent == at) e)))

      by : (b : Bool) → (c == at) ≡ b → waited_line below at c (slice_get nodes c) rest ≡ waited_line below' at c (slice_get nodes' c) rest
      by true f =
          ap (λ o. waited_line below at c o rest) (ap (slice_get nodes) (eqb-true c at f) ∙ ch.there) ∙ none below old refl refl (is_captured old.place && (old.parent == at)) refl
          ∙ sym (ap (λ o. waited_line below' at c o rest) (ap (slice_get nodes') (eqb-true c at f) ∙ ch.then) ∙ none below' new ch.captured ch.parent (is_captured new.place && (new.parent == at)) refl)
      by false f = of (slice_get nodes c) refl ∙ ap (λ o. waited_line below' at c o rest) (same f)

  -- of all but the one that has the line the same is said
  pub changed_same : (levels h : ℕ) → ((j : ℕ) (n : Node) → on_path up nodes at (Some old) j ≡ true → (j == h) ≡ false → slice_get nodes j ≡ Some n → is_captured n.place ≡ true) →
      (j : ℕ) → (j == h) ≡ false → stance_in d nodes levels j ≡ stance_in d' nodes' levels j
  changed_same levels h path j other = by (on_path up nodes at (Some old) j) refl
    where
      missing : slice_get nodes j ≡ None → (b : Bool) → (j == at) ≡ b → b ≡ false
      missing e true f = absurd (none_some old (sym e ∙ ap (slice_get nodes) (eqb-true j at f) ∙ ch.there))
      missing e false f = refl

      of : (o : Option Node) → slice_get nodes j ≡ o → on_path up nodes at (Some old) j ≡ true → stance_in d nodes levels j ≡ stance_in d' nodes' levels j
      of None e on = none_stance levels j (missing e (j == at) refl) e
      of (Some n) e on = hidden_stance levels j n e (path j n on other e)

      by : (b : Bool) → on_path up nodes at (Some old) j ≡ b → stance_in d nodes levels j ≡ stance_in d' nodes' levels j
      by true f = of (slice_get nodes j) refl f
      by false f = off_stance levels j f
