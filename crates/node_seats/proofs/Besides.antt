-- Nodes whose bytes come to no other make no difference to what is said of others; nor does how many subrequests a node has.
use Rattle.std.proofs.Common.{◌≡◌, ℕ, zero, suc, ◌==◌, ◌&&◌, nat_lt, Bool, true, false, not, cond, List, Option, None, Some, slice_get, refl, sym, ap, ◌∙◌}
use Rattle.family_meaning.specs.Line.{Line}
use Rattle.family_meaning.specs.Line.Line.{Nil, Gives, Waits, Stubs}
use Rattle.family_order.specs.Items.Stance.{Going, Waiting, Apart}
use Rattle.node_line.specs.node_turn.Stages.{is_capturing}
use Rattle.node_line.specs.node_turn.declared.node.Node.{Node}
use Rattle.node_line.specs.node_turn.declared.node.Place.{Place}
use Rattle.node_line.specs.node_turn.declared.node.Place.TheVariants.{Row, Stub, Gathers, Captured}
use Rattle.node_line.specs.Stances.{under}
use Rattle.node_seats.proofs.Inners.{ahead_same, inners_same, no_inner}
use Rattle.node_seats.specs.Seats.{Doing, ahead_line, asking_line, inner_line, inner_lines, is_asked, is_inner, most_nodes, withheld_text, is_captured, line_from, place_stance, put_by, row_stance, stance_in, stance_of, stub_in, waited_line}

-- A node and another with its number that is in the same place and does the same.
pub record IsAsMuch (d d' : Doing) (j : ℕ) (n n' : Node) : Type 0 where
  pub place : n.place ≡ n'.place
  pub parent : n.parent ≡ n'.parent
  pub left : n.left ≡ n'.left
  pub asks : n.asks ≡ n'.asks
  pub before : n.before ≡ n'.before
  pub over : n.over ≡ n'.over
  pub capturing : is_capturing n.stage ≡ is_capturing n'.stage
  pub act : d.act j n ≡ d'.act j n'
  pub heard : d.heard j n ≡ d'.heard j n'

-- the same node, which does so
pub as_much : (d d' : Doing) (j : ℕ) (n : Node) → d.act j n ≡ d'.act j n → d.heard j n ≡ d'.heard j n → IsAsMuch d d' j n n
as_much d d' j n act heard = record { place = refl; parent = refl; left = refl; asks = refl; before = refl; over = refl; capturing = refl; act = act; heard = heard }

-- the bytes of a node come to no other
abbrev pub is_free : Option Node → Bool
is_free None = true
is_free (Some n) = not (is_captured n.place)

-- What is at a number: nothing; a node that is in the same place and does the same; or one whose bytes come to no
-- other, before and then.
pub data Beside (d d' : Doing) (j : ℕ) (o o' : Option Node) : Type 0 where
  Neither : o ≡ None → o' ≡ None → Beside d d' j o o'
  Both : (n n' : Node) → o ≡ Some n → o' ≡ Some n' → IsAsMuch d d' j n n' → Beside d d' j o o'
  Free : is_free o ≡ true → is_free o' ≡ true → Beside d d' j o o'

module _ (d : Doing) (nodes : List Node) (d' : Doing) (nodes' : List Node) (beside : (j : ℕ) → Beside d d' j (slice_get nodes j) (slice_get nodes' j)) where
  -- the lines below are the same
  abbrev Below : (ℕ → Node → Line → Line) → (ℕ → Node → Line → Line) → Type 0
  Below below below' = (j : ℕ) (n n' : Node) (rest : Line) → IsAsMuch d d' j n n' → below j n rest ≡ below' j n' rest

  free_line : (below : ℕ → Node → Line → Line) (x c : ℕ) (o : Option Node) (rest : Line) → is_free o ≡ true → waited_line below x c o rest ≡ rest
  free_line below x c None rest e = refl
  free_line below x c (Some m) rest e = by (is_captured m.place) refl
    where
      by : (b : Bool) → is_captured m.place ≡ b → cond (is_captured m.place && (m.parent == x)) (put_by (stub_in m.place) (below c m) rest) rest ≡ rest
      by true f = absurd (no (ap not (sym f) ∙ e))
        where
          no : false ≡ true → ⊥
          no g = cc
      by false f = ap (λ b. cond (b && (m.parent == x)) (put_by (stub_in m.place) (below c m) rest) rest) f

  same_waited : (below below' : ℕ → Node → Line → Line) → Below below below' → (x c : ℕ) (rest : Line) →
      waited_line below x c (slice_get nodes c) rest ≡ waited_line below' x c (slice_get nodes' c) rest
  same_waited below below' ih x c rest = by (beside c)
    where
      put_same : (s : Option (List ℕ)) (m m' : Node) → IsAsMuch d d' c m m' → put_by s (below c m) rest ≡ put_by s (below' c m') rest
      put_same None m m' e = ih c m m' rest e
      put_same (Some stub) m m' e = ap (λ line. Stubs line stub rest) (ih c m m' Nil e)

      both : (m m' : Node) → IsAsMuch d d' c m m' → waited_line below x c (Some m) rest ≡ waited_line below' x c (Some m') rest
      both m m' e =
          ap (λ line. cond (is_captured m.place && (m.parent == x)) line rest) (put_same (stub_in m.place) m m' e)
          ∙ ap (λ p. cond (is_captured p && (m.parent == x)) (put_by (stub_in p) (below' c m') rest) rest) e.place
          ∙ ap (λ i. cond (is_captured m'.place && (i == x)) (put_by (stub_in m'.place) (below' c m') rest) rest) e.parent

      by : Beside d d' c (slice_get nodes c) (slice_get nodes' c) → waited_line below x c (slice_get nodes c) rest ≡ waited_line below' x c (slice_get nodes' c) rest
      by (Neither e f) = ap (λ o. waited_line below x c o rest) e ∙ sym (ap (λ o. waited_line below' x c o rest) f)
      by (Both m m' e f same) = ap (λ o. waited_line below x c o rest) e ∙ both m m' same ∙ sym (ap (λ o. waited_line below' x c o rest) f)
      by (Free e f) = free_line below x c (slice_get nodes c) rest e ∙ sym (free_line below' x c (slice_get nodes' c) rest f)

  same_asking : (below below' : ℕ → Node → Line → Line) → Below below below' → (j : ℕ) (n n' : Node) (rest : Line) → IsAsMuch d d' j n n' → (asks : Option ℕ) →
      asking_line d nodes below j n asks rest ≡ asking_line d' nodes' below' j n' asks rest
  same_asking below below' ih j n n' rest e None = ap (λ l. Gives j l (d.act j n) rest) e.left ∙ ap (λ m. Gives j n'.left m rest) e.act
  same_asking below below' ih j n n' rest e (Some c) =
      ap (λ b. cond b (Waits j (waited_line below j c (slice_get nodes c) Nil) n.left (d.heard j n) rest) (waited_line below j c (slice_get nodes c) (Gives j n.left (d.act j n) rest))) e.capturing
      ∙ by (is_capturing n'.stage)
    where
      by : (b : Bool) → cond b (Waits j (waited_line below j c (slice_get nodes c) Nil) n.left (d.heard j n) rest) (waited_line below j c (slice_get nodes c) (Gives j n.left (d.act j n) rest))
          ≡ cond b (Waits j (waited_line below' j c (slice_get nodes' c) Nil) n'.left (d'.heard j n') rest) (waited_line below' j c (slice_get nodes' c) (Gives j n'.left (d'.act j n') rest))
      by true =
          ap (λ line. Waits j line n.left (d.heard j n) rest) (same_waited below below' ih j c Nil)
          ∙ ap (λ l. Waits j (waited_line below' j c (slice_get nodes' c) Nil) l (d.heard j n) rest) e.left
          ∙ ap (λ k. Waits j (waited_line below' j c (slice_get nodes' c) Nil) n'.left k rest) e.heard
      by false =
          ap (λ l. waited_line below j c (slice_get nodes c) (Gives j l (d.act j n) rest)) e.left
          ∙ ap (λ m. waited_line below j c (slice_get nodes c) (Gives j n'.left m rest)) e.act
          ∙ same_waited below below' ih j c (Gives j n'.left (d'.act j n') rest)

  free_inner : (below : ℕ → Node → Line → Line) (x : ℕ) (n : Node) (c : ℕ) (o : Option Node) (rest : Line) → is_free o ≡ true → inner_line below x n c o rest ≡ rest
  free_inner below x n c None rest e = refl
  free_inner below x n c (Some m) rest e = no_inner below x n c m rest (by (is_captured m.place) refl)
    where
      by : (b : Bool) → is_captured m.place ≡ b → is_inner x n c m ≡ false
      by true f = absurd (no (ap not (sym f) ∙ e))
        where
          no : false ≡ true → ⊥
          no g = cc
      by false f = ap (λ b. b && ((m.parent == x) && (nat_lt x c && (not m.over && not (is_asked c n.asks))))) f

  same_inner : (below below' : ℕ → Node → Line → Line) → Below below below' → (x : ℕ) (n n' : Node) → n.asks ≡ n'.asks → (c : ℕ) (rest : Line) →
      inner_line below x n c (slice_get nodes c) rest ≡ inner_line below' x n' c (slice_get nodes' c) rest
  same_inner below below' ih x n n' asks c rest = by (beside c)
    where
      put_same : (s : Option (List ℕ)) (m m' : Node) → IsAsMuch d d' c m m' → put_by s (below c m) rest ≡ put_by s (below' c m') rest
      put_same None m m' e = ih c m m' rest e
      put_same (Some stub) m m' e = ap (λ line. Stubs line stub rest) (ih c m m' Nil e)

      both : (m m' : Node) → IsAsMuch d d' c m m' → inner_line below x n c (Some m) rest ≡ inner_line below' x n' c (Some m') rest
      both m m' e =
          ap (λ line. cond (is_captured m.place && ((m.parent == x) && (nat_lt x c && (not m.over && not (is_asked c n.asks))))) (under m.before line) rest) (put_same (stub_in m.place) m m' e)
          ∙ ap (λ b. cond (is_captured m.place && ((m.parent == x) && (nat_lt x c && (not m.over && not (is_asked c n.asks))))) (under b (put_by (stub_in m.place) (below' c m') rest)) rest) e.before
          ∙ ap (λ p. cond (is_captured p && ((m.parent == x) && (nat_lt x c && (not m.over && not (is_asked c n.asks))))) (under m'.before (put_by (stub_in p) (below' c m') rest)) rest) e.place
          ∙ ap (λ i. cond (is_captured m'.place && ((i == x) && (nat_lt x c && (not m.over && not (is_asked c n.asks))))) (under m'.before (put_by (stub_in m'.place) (below' c m') rest)) rest) e.parent
          ∙ ap (λ o. cond (is_captured m'.place && ((m'.parent == x) && (nat_lt x c && (not o && not (is_asked c n.asks))))) (under m'.before (put_by (stub_in m'.place) (below' c m') rest)) rest) e.over
          ∙ ap (λ a. cond (is_captured m'.place && ((m'.parent == x) && (nat_lt x c && (not m'.over && not (is_asked c a))))) (under m'.before (put_by (stub_in m'.place) (below' c m') rest)) rest) asks

      by : Beside d d' c (slice_get nodes c) (slice_get nodes' c) → inner_line below x n c (slice_get nodes c) rest ≡ inner_line below' x n' c (slice_get nodes' c) rest
      by (Neither e f) = ap (λ o. inner_line below x n c o rest) e ∙ sym (ap (λ o. inner_line below' x n' c o rest) f)
      by (Both m m' e f same) = ap (λ o. inner_line below x n c o rest) e ∙ both m m' same ∙ sym (ap (λ o. inner_line below' x n' c o rest) f)
      by (Free e f) = free_inner below x n c (slice_get nodes c) rest e ∙ sym (free_inner below' x n' c (slice_get nodes' c) rest f)

  same_line : (levels : ℕ) → Below (line_from d nodes levels) (line_from d' nodes' levels)
  unfolding line_from
  same_line zero j n n' rest e =
      ap (λ p. under (withheld_text p) (Gives j n.left (d.act j n) rest)) e.place
      ∙ ap (λ l. under (withheld_text n'.place) (Gives j l (d.act j n) rest)) e.left
      ∙ ap (λ m. under (withheld_text n'.place) (Gives j n'.left m rest)) e.act
  same_line (suc levels) j n n' rest e =
      ap (λ p. ahead_line p (inner_lines (line_from d nodes levels) nodes j n most_nodes) (under (withheld_text p) (asking_line d nodes (line_from d nodes levels) j n n.asks rest))) e.place
      ∙ ahead_same n'.place (inner_lines (line_from d nodes levels) nodes j n most_nodes) (inner_lines (line_from d' nodes' levels) nodes' j n' most_nodes)
      (inners_same (line_from d nodes levels) nodes j n (line_from d' nodes' levels) nodes' n' most_nodes (λ c h r. same_inner (line_from d nodes levels) (line_from d' nodes' levels) (same_line levels) j n n' e.asks c r))
      (under (withheld_text n'.place) (asking_line d nodes (line_from d nodes levels) j n n.asks rest))
      ∙ ap (λ l. ahead_line n'.place (inner_lines (line_from d' nodes' levels) nodes' j n' most_nodes) (under (withheld_text n'.place) l)) (same_asking (line_from d nodes levels) (line_from d' nodes' levels) (same_line levels) j n n' rest e n.asks
      ∙ ap (λ a. asking_line d' nodes' (line_from d' nodes' levels) j n' a rest) e.asks)

  -- what is said of a node that is in the same place and does the same
  pub same_stance : (levels j : ℕ) (n n' : Node) → slice_get nodes j ≡ Some n → slice_get nodes' j ≡ Some n' → IsAsMuch d d' j n n' → stance_in d nodes levels j ≡ stance_in d' nodes' levels j
  same_stance levels j n n' there then e =
      ap (stance_of d nodes levels j) there ∙ ap (place_stance d nodes levels j n) e.place ∙ at_place n'.place ∙ sym (ap (stance_of d' nodes' levels j) then)
    where
      in_row : (asks : Option ℕ) → row_stance d nodes levels j n asks ≡ row_stance d' nodes' levels j n' asks
      in_row None = ap (λ l. Going l (d.act j n)) e.left ∙ ap (Going n'.left) e.act
      in_row (Some c) =
          ap (λ line. Waiting line n.left (d.heard j n)) (same_waited (line_from d nodes levels) (line_from d' nodes' levels) (same_line levels) j c Nil)
          ∙ ap (λ l. Waiting (waited_line (line_from d' nodes' levels) j c (slice_get nodes' c) Nil) l (d.heard j n)) e.left
          ∙ ap (Waiting (waited_line (line_from d' nodes' levels) j c (slice_get nodes' c) Nil) n'.left) e.heard

      at_place : (p : Place) → place_stance d nodes levels j n p ≡ place_stance d' nodes' levels j n' p
      at_place Row = ap (row_stance d nodes levels j n) e.asks ∙ in_row n'.asks
      at_place (Stub stub text) = ap (λ line. Apart line stub) (same_line (suc levels) j n n' Nil e)
      at_place (Gathers stub text) = ap (λ line. Apart line stub) (same_line (suc levels) j n n' Nil e)
      at_place (Captured stub text) = refl

  -- and of the number of none
  pub none_stance : (levels j : ℕ) → slice_get nodes j ≡ None → slice_get nodes' j ≡ None → stance_in d nodes levels j ≡ stance_in d' nodes' levels j
  none_stance levels j there then = ap (stance_of d nodes levels j) there ∙ sym (ap (stance_of d' nodes' levels j) then)

  -- where the same is there
  pub still_stance : (levels j : ℕ) → slice_get nodes j ≡ slice_get nodes' j → ((n : Node) → slice_get nodes j ≡ Some n → IsAsMuch d d' j n n) → stance_in d nodes levels j ≡ stance_in d' nodes' levels j
  still_stance levels j same much = by (slice_get nodes j) refl
    where
      by : (o : Option Node) → slice_get nodes j ≡ o → stance_in d nodes levels j ≡ stance_in d' nodes' levels j
      by None e = none_stance levels j e (sym same ∙ e)
      by (Some n) e = same_stance levels j n n e (sym same ∙ e) (much n e)
