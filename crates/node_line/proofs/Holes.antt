-- A row by what comes before and after the place of a node, where another goes on right before it.
use Rattle.std.proofs.Common.{◌≡◌, ℕ, true, false, ◌&&◌, ◌==◌, Bool, List, [], ◌∷◌, ◌++◌, map, length, not, cond, refl, sym, ap, ◌∙◌, append_assoc, append-nil, if◌then◌else◌}
use Rattle.std.proofs.lemmas.Bool.{eqb-true, eq-eqb, ne_eqb}
use Rattle.postpone_filter.specs.Row.{Piece, Row, is_place, is_open, at_place, closed, fresh, is_over, clean, ended, reopened}
use Rattle.postpone_filter.specs.Buffers.{IsLawful}
use Rattle.postpone_filter.proofs.Places.{place-node}
use Rattle.postpone_filter.proofs.Ops.{clean-open, end-open-other, end-open-own}
use Rattle.family_order.specs.Items.{Stance, Item, stance_items, row_items, with_stance}
use Rattle.family_order.specs.Items.Stance.{Hidden}
use Rattle.family_order.specs.Items.Item.{Byte}
use Rattle.family_order.proofs.Rows.{Split, node_items, row_items-append, row_items-clean, row_items-same, split}

-- the place of a node in a row
pub record Hole (at : ℕ) (ps : List Piece) : Type 0 where
  pub ahead : List Piece
  pub here : Piece
  pub behind : List Piece
  pub whole : ps ≡ ahead ++ (here ∷ behind)
  pub place : is_place at here ≡ true
  pub not_ahead : is_open at ahead ≡ false

-- what the row has before it, and after it
abbrev pub items_ahead : {at : ℕ} {ps : List Piece} → (ℕ → Stance) → Hole at ps → List Item
items_ahead stance h = row_items stance h.ahead ++ map Byte h.here.bytes

abbrev pub items_behind : {at : ℕ} {ps : List Piece} → (ℕ → Stance) → Hole at ps → List Item
items_behind stance h = row_items stance h.behind

pub hole : (nodes at : ℕ) (ps : List Piece) → IsLawful nodes ps → is_open at ps ≡ true → Hole at ps
hole nodes at ps l e = let s = split nodes at ps l e in record { ahead = s.ahead; here = s.at; behind = s.behind; whole = s.whole; place = s.place; not_ahead = s.not_ahead }

row_cons : (stance : ℕ → Stance) (p : Piece) (ps : List Piece) → row_items stance (p ∷ ps) ≡ map Byte p.bytes ++ (node_items stance p ++ row_items stance ps)
unfolding row_items
row_cons stance p ps = refl

place_items : (stance : ℕ → Stance) (at : ℕ) (p : Piece) → is_place at p ≡ true → node_items stance p ≡ stance_items at (stance at)
place_items stance at p e =
    let is = place-node at p e in
    ap (λ g. if g then stance_items p.node (stance p.node) else []) is.0 ∙ ap (λ k. stance_items k (stance k)) is.1

pub hole_items : {at : ℕ} {ps : List Piece} (stance : ℕ → Stance) (h : Hole at ps) → row_items stance ps ≡ items_ahead stance h ++ (stance_items at (stance at) ++ items_behind stance h)
hole_items {at} {ps} stance h =
    ap (row_items stance) h.whole ∙ row_items-append stance h.ahead (h.here ∷ h.behind)
    ∙ ap (λ z. row_items stance h.ahead ++ z) (row_cons stance h.here h.behind ∙ ap (λ z. map Byte h.here.bytes ++ (z ++ row_items stance h.behind)) (place_items stance at h.here h.place))
    ∙ sym (append_assoc (row_items stance h.ahead) (map Byte h.here.bytes) (stance_items at (stance at) ++ row_items stance h.behind))

-- ---- the first pieces that give nothing more

not_over : (p : Piece) → p.grows ≡ true → is_over p ≡ false
not_over p e = ap (λ g. not g && (length p.bytes == 0)) e

clean_hole : (xs : List Piece) (p : Piece) (ys : List Piece) → p.grows ≡ true → clean (xs ++ (p ∷ ys)) ≡ clean xs ++ (p ∷ ys)
unfolding clean
clean_hole [] p ys e = ap (λ t. if t then clean ys else p ∷ ys) (not_over p e)
clean_hole (x ∷ xs) p ys e = elim (is_over x) as (λ t. (if t then clean (xs ++ (p ∷ ys)) else x ∷ (xs ++ (p ∷ ys))) ≡ (if t then clean xs else x ∷ xs) ++ (p ∷ ys)) [
  | true ↦ clean_hole xs p ys e
  | false ↦ refl
]

-- ---- a change at the place of another

change_first : (j : ℕ) (g : Piece → List Piece) (xs ys : List Piece) → is_open j xs ≡ true → at_place j g (xs ++ ys) ≡ at_place j g xs ++ ys
unfolding at_place is_open
change_first j g [] ys e = cc
change_first j g (x ∷ xs) ys e = elim (is_place j x) as (λ t. (if t then true else is_open j xs) ≡ true → (if t then g x ++ (xs ++ ys) else x ∷ at_place j g (xs ++ ys)) ≡ (if t then g x ++ xs else x ∷ at_place j g xs) ++ ys) [
  | true ↦ λ h. sym (append_assoc (g x) xs ys)
  | false ↦ λ h. ap (λ z. x ∷ z) (change_first j g xs ys h)
] e

change_last : (j : ℕ) (g : Piece → List Piece) (xs ys : List Piece) → is_open j xs ≡ false → at_place j g (xs ++ ys) ≡ xs ++ at_place j g ys
unfolding at_place is_open
change_last j g [] ys e = refl
change_last j g (x ∷ xs) ys e = elim (is_place j x) as (λ t. (if t then true else is_open j xs) ≡ false → (if t then g x ++ (xs ++ ys) else x ∷ at_place j g (xs ++ ys)) ≡ x ∷ (xs ++ at_place j g ys)) [
  | true ↦ λ h. cc
  | false ↦ λ h. ap (λ z. x ∷ z) (change_last j g xs ys h)
] e

change_here : (j : ℕ) (g : Piece → List Piece) (p : Piece) (ys : List Piece) → is_place j p ≡ true → at_place j g (p ∷ ys) ≡ g p ++ ys
unfolding at_place
change_here j g p ys e = ap (λ t. if t then g p ++ ys else p ∷ at_place j g ys) e

change_past : (j : ℕ) (g : Piece → List Piece) (p : Piece) (ys : List Piece) → is_place j p ≡ false → at_place j g (p ∷ ys) ≡ p ∷ at_place j g ys
unfolding at_place
change_past j g p ys e = ap (λ t. if t then g p ++ ys else p ∷ at_place j g ys) e

-- a hidden node that ends has nothing there
closed_items : (j : ℕ) (stance : ℕ → Stance) → stance j ≡ Hidden → (xs : List Piece) → row_items stance (at_place j (λ p. closed p ∷ []) xs) ≡ row_items stance xs
unfolding at_place row_items
closed_items j stance hidden [] = refl
closed_items j stance hidden (x ∷ xs) = elim (is_place j x) as (λ t. is_place j x ≡ t → row_items stance (if t then closed x ∷ xs else x ∷ at_place j (λ p. closed p ∷ []) xs) ≡ map Byte x.bytes ++ (node_items stance x ++ row_items stance xs)) [
  | true ↦ λ t. ap (λ z. map Byte x.bytes ++ (z ++ row_items stance xs)) (sym (place_items stance j x t ∙ ap (stance_items j) hidden))
  | false ↦ λ t. ap (λ z. map Byte x.bytes ++ (node_items stance x ++ z)) (closed_items j stance hidden xs)
] refl

not_place : (at j : ℕ) (p : Piece) → is_place at p ≡ true → (j ≡ at → ⊥) → is_place j p ≡ false
not_place at j p e apart =
    let is = place-node at p e in
    ap (λ k. p.grows && (k == j)) is.1 ∙ ap (λ b. p.grows && b) (ne_eqb at j (λ v. apart (sym v))) ∙ none p.grows
  where
    none : (g : Bool) → (g && false) ≡ false
    none true = refl
    none false = refl

-- a row in which another, which is hidden, has ended
pub record Kept (at : ℕ) (j : ℕ) (ps : List Piece) (h : Hole at ps) (qs : List Piece) : Type 0 where
  pub now : Hole at qs
  pub ahead : (stance : ℕ → Stance) → stance j ≡ Hidden → items_ahead stance now ≡ items_ahead stance h
  pub behind : (stance : ℕ → Stance) → stance j ≡ Hidden → items_behind stance now ≡ items_behind stance h

ends_hole : (at j : ℕ) (ps : List Piece) (h : Hole at ps) → (j ≡ at → ⊥) → Kept at j ps h (clean (at_place j (λ p. closed p ∷ []) ps))
ends_hole at j ps h apart = by (is_open j h.ahead) refl
  where
    grows : h.here.grows ≡ true
    grows = (place-node at h.here h.place).0

    by : (b : Bool) → is_open j h.ahead ≡ b → Kept at j ps h (clean (at_place j (λ p. closed p ∷ []) ps))
    by true e = record {
      now = record {
        ahead = clean (at_place j (λ p. closed p ∷ []) h.ahead);
        here = h.here;
        behind = h.behind;
        whole = ap (λ z. clean (at_place j (λ p. closed p ∷ []) z)) h.whole ∙ ap clean (change_first j (λ p. closed p ∷ []) h.ahead (h.here ∷ h.behind) e)
            ∙ clean_hole (at_place j (λ p. closed p ∷ []) h.ahead) h.here h.behind grows;
        place = h.place;
        not_ahead = clean-open at (at_place j (λ p. closed p ∷ []) h.ahead) ∙ end-open-other j at h.ahead apart ∙ h.not_ahead;
      };
      ahead = λ stance hidden. ap (λ z. z ++ map Byte h.here.bytes) (row_items-clean stance (at_place j (λ p. closed p ∷ []) h.ahead) ∙ closed_items j stance hidden h.ahead);
      behind = λ stance hidden. refl;
    }
    by false e = record {
      now = record {
        ahead = clean h.ahead;
        here = h.here;
        behind = at_place j (λ p. closed p ∷ []) h.behind;
        whole = ap (λ z. clean (at_place j (λ p. closed p ∷ []) z)) h.whole ∙ ap clean (change_last j (λ p. closed p ∷ []) h.ahead (h.here ∷ h.behind) e
            ∙ ap (λ z. h.ahead ++ z) (change_past j (λ p. closed p ∷ []) h.here h.behind (not_place at j h.here h.place apart)))
            ∙ clean_hole h.ahead h.here (at_place j (λ p. closed p ∷ []) h.behind) grows;
        place = h.place;
        not_ahead = clean-open at h.ahead ∙ h.not_ahead;
      };
      ahead = λ stance hidden. ap (λ z. z ++ map Byte h.here.bytes) (row_items-clean stance h.ahead);
      behind = λ stance hidden. closed_items j stance hidden h.behind;
    }

-- ---- another goes on right before the place

pub record Seated (at : ℕ) (j : ℕ) (ps : List Piece) (h : Hole at ps) (qs : List Piece) : Type 0 where
  pub now : Hole at qs
  pub ahead : (stance : ℕ → Stance) → items_ahead stance now ≡ items_ahead stance h ++ stance_items j (stance j)
  pub behind : (stance : ℕ → Stance) → items_behind stance now ≡ items_behind stance h

fresh_items : (stance : ℕ → Stance) (j : ℕ) → row_items stance (fresh j ∷ []) ≡ stance_items j (stance j)
unfolding row_items
fresh_items stance j = append-nil (stance_items j (stance j))

closed_piece : (stance : ℕ → Stance) (p : Piece) → row_items stance (closed p ∷ []) ≡ map Byte p.bytes
unfolding row_items
closed_piece stance p = append-nil (map Byte p.bytes)

no_items : (stance : ℕ → Stance) → row_items stance [] ≡ []
unfolding row_items
no_items stance = refl

open_append : (n : ℕ) (xs ys : List Piece) → is_open n xs ≡ false → is_open n ys ≡ false → is_open n (xs ++ ys) ≡ false
unfolding is_open
open_append n [] ys e f = f
open_append n (x ∷ xs) ys e f = elim (is_place n x) as (λ t. (if t then true else is_open n xs) ≡ false → (if t then true else is_open n (xs ++ ys)) ≡ false) [
  | true ↦ λ h. cc
  | false ↦ λ h. open_append n xs ys h f
] e

closed_open : (n : ℕ) (p : Piece) → is_open n (closed p ∷ []) ≡ false
unfolding is_open
closed_open n p = refl

fresh_open : (n j : ℕ) → (j ≡ n → ⊥) → is_open n (fresh j ∷ []) ≡ false
unfolding is_open
fresh_open n j apart = ap (λ t. if t then true else false) (ne_eqb j n apart)

pub opens_hole : (at j : ℕ) (ps : List Piece) (h : Hole at ps) → (j ≡ at → ⊥) → Seated at j ps h (clean (at_place at (λ p. closed p ∷ fresh j ∷ fresh at ∷ []) ps))
opens_hole at j ps h apart = record {
  now = record {
    ahead = clean before ++ (fresh j ∷ []);
    here = fresh at;
    behind = h.behind;
    whole = ap (λ z. clean (at_place at (λ p. closed p ∷ fresh j ∷ fresh at ∷ []) z)) h.whole
        ∙ ap clean (change_last at (λ p. closed p ∷ fresh j ∷ fresh at ∷ []) h.ahead (h.here ∷ h.behind) h.not_ahead
        ∙ ap (λ z. h.ahead ++ z) (change_here at (λ p. closed p ∷ fresh j ∷ fresh at ∷ []) h.here h.behind h.place)
        ∙ sym (append_assoc h.ahead (closed h.here ∷ []) (fresh j ∷ fresh at ∷ h.behind)))
        ∙ clean_hole before (fresh j) (fresh at ∷ h.behind) refl
        ∙ sym (append_assoc (clean before) (fresh j ∷ []) (fresh at ∷ h.behind));
    place = eq-eqb at at refl;
    not_ahead = open_append at (clean before) (fresh j ∷ []) (clean-open at before ∙ open_append at h.ahead (closed h.here ∷ []) h.not_ahead (closed_open at h.here)) (fresh_open at j apart);
  };
  ahead = λ stance.
      append-nil (row_items stance (clean before ++ (fresh j ∷ [])))
      ∙ row_items-append stance (clean before) (fresh j ∷ [])
      ∙ ap (λ z. z ++ row_items stance (fresh j ∷ [])) (row_items-clean stance before ∙ row_items-append stance h.ahead (closed h.here ∷ []) ∙ ap (λ z. row_items stance h.ahead ++ z) (closed_piece stance h.here))
      ∙ ap (λ z. (row_items stance h.ahead ++ map Byte h.here.bytes) ++ z) (fresh_items stance j);
  behind = λ stance. refl;
}
  where
    before : List Piece
    before = h.ahead ++ (closed h.here ∷ [])

-- ---- both

none_first : (j : ℕ) (xs ys : List Piece) → is_open j (xs ++ ys) ≡ false → is_open j xs ≡ false
unfolding is_open
none_first j [] ys e = refl
none_first j (x ∷ xs) ys e = elim (is_place j x) as (λ t. (if t then true else is_open j (xs ++ ys)) ≡ false → (if t then true else is_open j xs) ≡ false) [
  | true ↦ λ h. cc
  | false ↦ λ h. none_first j xs ys h
] e

none_last : (j : ℕ) (xs ys : List Piece) → is_open j (xs ++ ys) ≡ false → is_open j ys ≡ false
unfolding is_open
none_last j [] ys e = e
none_last j (x ∷ xs) ys e = elim (is_place j x) as (λ t. (if t then true else is_open j (xs ++ ys)) ≡ false → is_open j ys ≡ false) [
  | true ↦ λ h. cc
  | false ↦ λ h. none_last j xs ys h
] e

none_next : (j : ℕ) (p : Piece) (ys : List Piece) → is_open j (p ∷ ys) ≡ false → is_open j ys ≡ false
unfolding is_open
none_next j p ys e = elim (is_place j p) as (λ t. (if t then true else is_open j ys) ≡ false → is_open j ys ≡ false) [ true ↦ λ h. cc | false ↦ λ h. h ] e

-- where what is said of one node changes, and it has no place
ahead_same : {at : ℕ} {ps : List Piece} (h : Hole at ps) (j : ℕ) (s : Stance) (stance : ℕ → Stance) → is_open j ps ≡ false → items_ahead (with_stance j s stance) h ≡ items_ahead stance h
ahead_same {at} {ps} h j s stance e =
    ap (λ z. z ++ map Byte h.here.bytes) (row_items-same j (with_stance j s stance) stance h.ahead (none_first j h.ahead (h.here ∷ h.behind) (sym (ap (is_open j) h.whole) ∙ e)) (λ i f. ap (λ b. cond b s (stance i)) f))

behind_same : {at : ℕ} {ps : List Piece} (h : Hole at ps) (j : ℕ) (s : Stance) (stance : ℕ → Stance) → is_open j ps ≡ false → items_behind (with_stance j s stance) h ≡ items_behind stance h
behind_same {at} {ps} h j s stance e =
    row_items-same j (with_stance j s stance) stance h.behind (none_next j h.here h.behind (none_last j h.ahead (h.here ∷ h.behind) (sym (ap (is_open j) h.whole) ∙ e))) (λ i f. ap (λ b. cond b s (stance i)) f)

-- a hidden node goes on right before the place, and this is said of it then
pub record Reseated (at : ℕ) (j : ℕ) (row : Row) (h : Hole at row.pieces) : Type 0 where
  pub now : Hole at (reopened at j (ended j row)).pieces
  pub ahead : (s : Stance) (stance : ℕ → Stance) → stance j ≡ Hidden → items_ahead (with_stance j s stance) now ≡ items_ahead stance h ++ stance_items j s
  pub behind : (s : Stance) (stance : ℕ → Stance) → stance j ≡ Hidden → items_behind (with_stance j s stance) now ≡ items_behind stance h

pub reseated : (at j : ℕ) (row : Row) (h : Hole at row.pieces) → IsLawful row.nodes row.pieces → (j ≡ at → ⊥) → Reseated at j row h
reseated at j row h lawful apart =
    let kept = ends_hole at j row.pieces h apart in
    let seated = opens_hole at j (ended j row).pieces kept.now apart in
    let over : is_open j (ended j row).pieces ≡ false = clean-open j (at_place j (λ p. closed p ∷ []) row.pieces) ∙ end-open-own row.nodes j row.pieces lawful in
    record {
      now = seated.now;
      ahead = λ s stance hidden.
          seated.ahead (with_stance j s stance)
          ∙ ap (λ z. z ++ stance_items j (with_stance j s stance j)) (ahead_same kept.now j s stance over ∙ kept.ahead stance hidden)
          ∙ ap (λ b. items_ahead stance h ++ stance_items j (cond b s (stance j))) (eq-eqb j j refl);
      behind = λ s stance hidden. seated.behind (with_stance j s stance) ∙ behind_same kept.now j s stance over ∙ kept.behind stance hidden;
    }
