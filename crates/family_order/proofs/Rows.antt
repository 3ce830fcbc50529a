-- What a row has, and the one place of a node in it.
use Rattle.std.proofs.Common.{◌≡◌, ℕ, true, false, ◌&&◌, ◌==◌, List, [], ◌∷◌, ◌++◌, map, length, not, refl, sym, ap, ◌∙◌, append_assoc, if◌then◌else◌}
use Rattle.std.proofs.lemmas.Bool.{eqb-true, eq-eqb}
use Rattle.std.proofs.lemmas.List.{nil_from_length}
use Rattle.postpone_filter.specs.Row.{Piece, is_place, is_open, at_place, is_over, clean}
use Rattle.postpone_filter.specs.Buffers.{IsLawful}
use Rattle.postpone_filter.proofs.Places.{lawful-later, place-node, unnamed-behind, unnamed-open}
use Rattle.family_order.specs.Items.{Stance, Item, stance_items, row_items}
use Rattle.family_order.specs.Items.Item.{Byte}

-- what comes after the bytes of a piece: the node, where it goes on
abbrev pub node_items : (ℕ → Stance) → Piece → List Item
node_items stance p = if p.grows then stance_items p.node (stance p.node) else []

pub row_items-append : (stance : ℕ → Stance) (a b : List Piece) → row_items stance (a ++ b) ≡ row_items stance a ++ row_items stance b
unfolding row_items
row_items-append stance [] b = refl
row_items-append stance (p ∷ a) b =
    ap (λ z. map Byte p.bytes ++ (node_items stance p ++ z)) (row_items-append stance a b)
    ∙ ap (λ z. map Byte p.bytes ++ z) (sym (append_assoc (node_items stance p) (row_items stance a) (row_items stance b)))
    ∙ sym (append_assoc (map Byte p.bytes) (node_items stance p ++ row_items stance a) (row_items stance b))

-- the head of a row in which a node goes on nowhere is not its place
not_here : (n : ℕ) (p : Piece) (ps : List Piece) → is_open n (p ∷ ps) ≡ false → (is_place n p ≡ false) × (is_open n ps ≡ false)
unfolding is_open
not_here n p ps e = elim (is_place n p) as (λ t. (if t then true else is_open n ps) ≡ false → (t ≡ false) × (is_open n ps ≡ false)) [
  | true ↦ λ h. cc
  | false ↦ λ h. (refl, h)
] e

same_node : (n : ℕ) (now was : ℕ → Stance) (p : Piece) → is_place n p ≡ false → ((j : ℕ) → (j == n) ≡ false → now j ≡ was j) → node_items now p ≡ node_items was p
same_node n now was p e k = elim p.grows as (λ g. (g && (p.node == n)) ≡ false → (if g then stance_items p.node (now p.node) else []) ≡ (if g then stance_items p.node (was p.node) else [])) [
  | true ↦ λ h. ap (stance_items p.node) (k p.node h)
  | false ↦ λ h. refl
] e

-- what a node does that goes on nowhere makes no difference
pub row_items-same : (n : ℕ) (now was : ℕ → Stance) (ps : List Piece) → is_open n ps ≡ false → ((j : ℕ) → (j == n) ≡ false → now j ≡ was j) → row_items now ps ≡ row_items was ps
unfolding row_items
row_items-same n now was [] e k = refl
row_items-same n now was (p ∷ ps) e k =
    let h = not_here n p ps e in
    ap (λ z. map Byte p.bytes ++ (z ++ row_items now ps)) (same_node n now was p h.0 k)
    ∙ ap (λ z. map Byte p.bytes ++ (node_items was p ++ z)) (row_items-same n now was ps h.1 k)

pub over-parts : (p : Piece) → is_over p ≡ true → (p.grows ≡ false) × (p.bytes ≡ [])
over-parts p e = elim p.grows as (λ g. (not g && (length p.bytes == 0)) ≡ true → (g ≡ false) × (p.bytes ≡ [])) [
  | true ↦ λ h. cc
  | false ↦ λ h. (refl, nil_from_length p.bytes (eqb-true (length p.bytes) 0 h))
] e

pub open_later : (n : ℕ) (p : Piece) (ps : List Piece) → is_open n ps ≡ true → is_open n (p ∷ ps) ≡ true
unfolding is_open
open_later n p ps h = elim (is_place n p) as (λ t. (if t then true else is_open n ps) ≡ true) [
  | true ↦ refl
  | false ↦ h
]

pub open_here : (p : Piece) (ps : List Piece) → p.grows ≡ true → is_open p.node (p ∷ ps) ≡ true
unfolding is_open
open_here p ps g =
    ap (λ u. if u && (p.node == p.node) then true else is_open p.node ps) g
    ∙ ap (λ u. if u then true else is_open p.node ps) (eq-eqb p.node p.node refl)

alike_node : (now was : ℕ → Stance) (p : Piece) (ps : List Piece) → ((n : ℕ) → is_open n (p ∷ ps) ≡ true → was n ≡ now n) → node_items was p ≡ node_items now p
alike_node now was p ps k = elim p.grows as (λ g. p.grows ≡ g → (if g then stance_items p.node (was p.node) else []) ≡ (if g then stance_items p.node (now p.node) else [])) [
  | true ↦ λ g. ap (stance_items p.node) (k p.node (open_here p ps g))
  | false ↦ λ g. refl
] refl

-- what is said of nodes that don't go on makes no difference
pub row_items-alike : (now was : ℕ → Stance) (ps : List Piece) → ((n : ℕ) → is_open n ps ≡ true → was n ≡ now n) → row_items was ps ≡ row_items now ps
unfolding row_items
row_items-alike now was [] k = refl
row_items-alike now was (p ∷ ps) k =
    ap (λ z. map Byte p.bytes ++ (z ++ row_items was ps)) (alike_node now was p ps k)
    ∙ ap (λ z. map Byte p.bytes ++ (node_items now p ++ z)) (row_items-alike now was ps (λ n h. k n (open_later n p ps h)))

-- the first pieces that give nothing more have nothing
pub row_items-clean : (stance : ℕ → Stance) (ps : List Piece) → row_items stance (clean ps) ≡ row_items stance ps
unfolding row_items clean
row_items-clean stance [] = refl
row_items-clean stance (p ∷ ps) = elim (is_over p) as (λ t. is_over p ≡ t → row_items stance (if t then clean ps else p ∷ ps) ≡ map Byte p.bytes ++ (node_items stance p ++ row_items stance ps)) [
  | true ↦ λ t. let o = over-parts p t in
      row_items-clean stance ps
      ∙ ap (λ bytes. map Byte bytes ++ row_items stance ps) (sym o.1)
      ∙ ap (λ g. map Byte p.bytes ++ ((if g then stance_items p.node (stance p.node) else []) ++ row_items stance ps)) (sym o.0)
  | false ↦ λ t. refl
] refl

-- A row in which a node goes on: the pieces ahead of its place, the piece right before it, and those after.
pub record Split (n : ℕ) (ps : List Piece) : Type 0 where
  pub ahead : List Piece
  pub at : Piece
  pub behind : List Piece
  pub whole : ps ≡ ahead ++ (at ∷ behind)
  pub place : is_place n at ≡ true
  pub not_ahead : is_open n ahead ≡ false
  pub not_behind : is_open n behind ≡ false
  pub change : (g : Piece → List Piece) → at_place n g ps ≡ ahead ++ (g at ++ behind)

pub no_pieces : {A : Type 0} (n : ℕ) → is_open n [] ≡ true → A
unfolding is_open
no_pieces n e = cc

split_here : (nodes n : ℕ) (p : Piece) (ps : List Piece) → IsLawful nodes (p ∷ ps) → is_place n p ≡ true → Split n (p ∷ ps)
unfolding is_open at_place
split_here nodes n p ps l t = record {
  ahead = [];
  at = p;
  behind = ps;
  whole = refl;
  place = t;
  not_ahead = refl;
  not_behind = unnamed-open n ps (unnamed-behind nodes n p ps l t);
  change = λ g. ap (λ u. if u then g p ++ ps else p ∷ at_place n g ps) t;
}

split_there : (n : ℕ) (p : Piece) (ps : List Piece) → is_place n p ≡ false → Split n ps → Split n (p ∷ ps)
unfolding is_open at_place
split_there n p ps t s = record {
  ahead = p ∷ s.ahead;
  at = s.at;
  behind = s.behind;
  whole = ap (λ z. p ∷ z) s.whole;
  place = s.place;
  not_ahead = ap (λ u. if u then true else is_open n s.ahead) t ∙ s.not_ahead;
  not_behind = s.not_behind;
  change = λ g. ap (λ u. if u then g p ++ ps else p ∷ at_place n g ps) t ∙ ap (λ z. p ∷ z) (s.change g);
}

pub open_there : (n : ℕ) (p : Piece) (ps : List Piece) → is_place n p ≡ false → is_open n (p ∷ ps) ≡ true → is_open n ps ≡ true
unfolding is_open
open_there n p ps t e = sym (ap (λ u. if u then true else is_open n ps) t) ∙ e

pub split : (nodes n : ℕ) (ps : List Piece) → IsLawful nodes ps → is_open n ps ≡ true → Split n ps
split nodes n [] l e = no_pieces n e
split nodes n (p ∷ ps) l e = elim (is_place n p) as (λ t. is_place n p ≡ t → Split n (p ∷ ps)) [
  | true ↦ λ t. split_here nodes n p ps l t
  | false ↦ λ t. split_there n p ps t (split nodes n ps (lawful-later nodes p ps l) (open_there n p ps t e))
] refl

-- what the row has by its place: the node between what is ahead and what is after
abbrev pub ahead_items : (ℕ → Stance) → List Piece → Piece → List Item
ahead_items stance ahead p = row_items stance ahead ++ map Byte p.bytes

pub at_node : (n : ℕ) (stance : ℕ → Stance) (p : Piece) (ps : List Piece) → is_place n p ≡ true → row_items stance (p ∷ ps) ≡ map Byte p.bytes ++ (stance_items n (stance n) ++ row_items stance ps)
unfolding row_items
at_node n stance p ps e =
    let at = place-node n p e in
    ap (λ g. map Byte p.bytes ++ ((if g then stance_items p.node (stance p.node) else []) ++ row_items stance ps)) at.0
    ∙ ap (λ j. map Byte p.bytes ++ (stance_items j (stance j) ++ row_items stance ps)) at.1

pub split_items : (n : ℕ) (stance : ℕ → Stance) (ps : List Piece) (s : Split n ps) → row_items stance ps ≡ ahead_items stance s.ahead s.at ++ (stance_items n (stance n) ++ row_items stance s.behind)
split_items n stance ps s =
    ap (row_items stance) s.whole
    ∙ row_items-append stance s.ahead (s.at ∷ s.behind)
    ∙ ap (λ z. row_items stance s.ahead ++ z) (at_node n stance s.at s.behind s.place)
    ∙ sym (append_assoc (row_items stance s.ahead) (map Byte s.at.bytes) (stance_items n (stance n) ++ row_items stance s.behind))

-- and where other things are at its place
pub change_items : (n : ℕ) (stance now : ℕ → Stance) (ps : List Piece) (s : Split n ps) (g : Piece → List Piece) (mid : List Item)
    → ((j : ℕ) → (j == n) ≡ false → now j ≡ stance j)
    → row_items now (g s.at) ≡ map Byte s.at.bytes ++ mid
    → row_items now (at_place n g ps) ≡ ahead_items stance s.ahead s.at ++ (mid ++ row_items stance s.behind)
change_items n stance now ps s g mid k e =
    ap (row_items now) (s.change g)
    ∙ row_items-append now s.ahead (g s.at ++ s.behind)
    ∙ ap (λ z. z ++ row_items now (g s.at ++ s.behind)) (row_items-same n now stance s.ahead s.not_ahead k)
    ∙ ap (λ z. row_items stance s.ahead ++ z) (row_items-append now (g s.at) s.behind ∙ ap (λ z. z ++ row_items now s.behind) e ∙ ap (λ z. (map Byte s.at.bytes ++ mid) ++ z) (row_items-same n now stance s.behind s.not_behind k) ∙ append_assoc (map Byte s.at.bytes) mid (row_items stance s.behind))
    ∙ sym (append_assoc (row_items stance s.ahead) (map Byte s.at.bytes) (mid ++ row_items stance s.behind))

-- a change that changes nothing
pub at_place-same : (n : ℕ) (ps : List Piece) → at_place n (λ p. p ∷ []) ps ≡ ps
unfolding at_place
at_place-same n [] = refl
at_place-same n (p ∷ ps) = elim (is_place n p) as (λ t. (if t then p ∷ ps else p ∷ at_place n (λ q. q ∷ []) ps) ≡ p ∷ ps) [
  | true ↦ refl
  | false ↦ ap (λ z. p ∷ z) (at_place-same n ps)
]
