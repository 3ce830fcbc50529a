-- The operations of a row keep its root after all other nodes.
use Rattle.std.proofs.Common.{◌≡◌, ◌≢◌, ℕ, ◌<◌, true, false, ◌&&◌, ◌==◌, List, [], ◌∷◌, ◌++◌, refl, sym, ap, ◌∙◌, arith, if◌then◌else◌}
use Rattle.std.proofs.lemmas.Bool.{eqb-true, eq-eqb}
use Rattle.postpone_filter.specs.Row.{Piece, Row, is_place, is_open, at_place, longer, closed, fresh, is_over, clean, reopened, shorter}
use Rattle.postpone_filter.specs.Runs.{Call, step}
use Rattle.postpone_filter.specs.Runs.Call.{Append, AddChild, End, Use}
use Rattle.postpone_filter.specs.Buffers.{names, IsLawful}
use Rattle.postpone_filter.proofs.Places.{lawful-later, place-node, at_place-none, unnamed-open}
use Rattle.postpone_filter.proofs.Ops.{append-open, child-open-other, end-open-other, clean-open, shorter-open, unnamed-new}
use Rattle.postpone_filter.proofs.Orders.{step-lawful}
use Rattle.family_order.specs.Items.{Stance, is_shown, any_goes_on, goes_on_behind, Family, IsWellRow, IsWell, with_stance, doing, placing, opening, ending, leaving}
use Rattle.family_order.specs.Laws.{KeepsRoot, RowStaysWell}
use Rattle.family_order.proofs.Rows.{over-parts, open_there}

-- where no node goes on, none goes on after another
none_behind : (n : ℕ) (ps : List Piece) → any_goes_on ps ≡ false → goes_on_behind n ps ≡ false
unfolding any_goes_on goes_on_behind
none_behind n [] e = refl
none_behind n (p ∷ ps) e = elim p.grows as (λ g. (if g then true else any_goes_on ps) ≡ false → (if g && (p.node == n) then any_goes_on ps else goes_on_behind n ps) ≡ false) [
  | true ↦ λ h. cc
  | false ↦ λ h. none_behind n ps h
] e

none_open : (n : ℕ) (ps : List Piece) → any_goes_on ps ≡ false → is_open n ps ≡ false
unfolding is_open any_goes_on
none_open n [] e = refl
none_open n (p ∷ ps) e = elim p.grows as (λ g. (if g then true else any_goes_on ps) ≡ false → (if g && (p.node == n) then true else is_open n ps) ≡ false) [
  | true ↦ λ h. cc
  | false ↦ λ h. none_open n ps h
] e

none_changed : (n : ℕ) (g : Piece → List Piece) (ps : List Piece) → any_goes_on ps ≡ false → any_goes_on (at_place n g ps) ≡ false
none_changed n g ps e = ap any_goes_on (sym (at_place-none n g ps (none_open n ps e))) ∙ e

-- a change at the place of a node, where it keeps another node after all others
behind-change : (nodes n m : ℕ) (g : Piece → List Piece) (ps : List Piece)
    → ((p : Piece) (rest : List Piece) → IsLawful nodes (p ∷ rest) → is_place n p ≡ true → goes_on_behind m (p ∷ rest) ≡ false → goes_on_behind m (g p ++ rest) ≡ false)
    → IsLawful nodes ps → goes_on_behind m ps ≡ false → goes_on_behind m (at_place n g ps) ≡ false
unfolding at_place goes_on_behind
behind-change nodes n m g [] k l e = refl
behind-change nodes n m g (p ∷ ps) k l e = elim (is_place n p) as (λ t. is_place n p ≡ t → goes_on_behind m (if t then g p ++ ps else p ∷ at_place n g ps) ≡ false) [
  | true ↦ λ t. k p ps l t e
  | false ↦ λ t. elim (is_place m p) as (λ u. (if u then any_goes_on ps else goes_on_behind m ps) ≡ false → (if u then any_goes_on (at_place n g ps) else goes_on_behind m (at_place n g ps)) ≡ false) [
    | true ↦ λ h. none_changed n g ps h
    | false ↦ λ h. behind-change nodes n m g ps k (lawful-later nodes p ps l) h
  ] e
] refl

behind-append : (root n : ℕ) (bytes : List ℕ) (p : Piece) (rest : List Piece) → goes_on_behind root (p ∷ rest) ≡ false → goes_on_behind root (longer bytes p ∷ rest) ≡ false
unfolding goes_on_behind
behind-append root n bytes p rest e = e

behind-end : (root : ℕ) (p : Piece) (rest : List Piece) → goes_on_behind root (p ∷ rest) ≡ false → goes_on_behind root (closed p ∷ rest) ≡ false
unfolding goes_on_behind
behind-end root p rest e = elim (is_place root p) as (λ t. (if t then any_goes_on rest else goes_on_behind root rest) ≡ false → goes_on_behind root rest ≡ false) [
  | true ↦ λ h. none_behind root rest h
  | false ↦ λ h. h
] e

behind-child : (root nodes n : ℕ) (p : Piece) (rest : List Piece) → (nodes == root) ≡ false → is_place n p ≡ true → goes_on_behind root (p ∷ rest) ≡ false →
    goes_on_behind root (closed p ∷ fresh nodes ∷ fresh n ∷ rest) ≡ false
unfolding goes_on_behind
behind-child root nodes n p rest k t e =
    let at = place-node n p t in
    ap (λ u. if u then any_goes_on (fresh n ∷ rest) else goes_on_behind root (fresh n ∷ rest)) k
    ∙ ap (λ j. if j == root then any_goes_on rest else goes_on_behind root rest) (sym at.1)
    ∙ ap (λ g. if g && (p.node == root) then any_goes_on rest else goes_on_behind root rest) (sym at.0)
    ∙ e

behind-clean : (n : ℕ) (ps : List Piece) → goes_on_behind n ps ≡ false → goes_on_behind n (clean ps) ≡ false
unfolding goes_on_behind clean
behind-clean n [] e = refl
behind-clean n (p ∷ ps) e = elim (is_over p) as (λ t. is_over p ≡ t → goes_on_behind n (if t then clean ps else p ∷ ps) ≡ false) [
  | true ↦ λ t. behind-clean n ps (sym (ap (λ g. if g && (p.node == n) then any_goes_on ps else goes_on_behind n ps) (over-parts p t).0) ∙ e)
  | false ↦ λ t. e
] refl

behind-shorter : (n count : ℕ) (ps : List Piece) → goes_on_behind n ps ≡ false → goes_on_behind n (shorter count ps) ≡ false
unfolding goes_on_behind shorter
behind-shorter n count [] e = refl
behind-shorter n count (p ∷ ps) e = e

-- a number that no node of the row has yet
pub fresh_none : (row : Row) → IsLawful row.nodes row.pieces → is_open row.nodes row.pieces ≡ false
fresh_none row l = unnamed-open row.nodes row.pieces (unnamed-new row.nodes row.nodes row.pieces (omega arith) l)

clash : {A : Type 0} → false ≡ true → A
clash e = cc

-- another number than that of a node that goes on
pub not_fresh : (n : ℕ) (row : Row) → IsLawful row.nodes row.pieces → is_open n row.pieces ≡ true → (n == row.nodes) ≡ false
not_fresh n row l e = elim (n == row.nodes) as (λ t. (n == row.nodes) ≡ t → t ≡ false) [
  | true ↦ λ t. clash (sym (fresh_none row l) ∙ ap (λ j. is_open j row.pieces) (sym (eqb-true n row.nodes t)) ∙ e)
  | false ↦ λ t. refl
] refl

pub not_parent : (n : ℕ) (row : Row) → (n == row.nodes) ≡ false → (row.nodes == n) ≡ false
not_parent n row e = elim (row.nodes == n) as (λ t. (row.nodes == n) ≡ t → t ≡ false) [
  | true ↦ λ t. sym (eq-eqb n row.nodes (sym (eqb-true row.nodes n t))) ∙ e
  | false ↦ λ t. refl
] refl

last_stays : (root : ℕ) (c : Call) (row : Row) → IsWellRow root row → goes_on_behind root (step c row).pieces ≡ false
last_stays root (Append n bytes) row h =
    behind-change row.nodes n root (λ p. longer bytes p ∷ []) row.pieces (λ p rest l t e. behind-append root n bytes p rest e) h.lawful h.root_is_last
last_stays root (AddChild n) row h =
    behind-clean root _ (behind-change row.nodes n root (λ p. closed p ∷ fresh row.nodes ∷ fresh n ∷ []) row.pieces
    (λ p rest l t e. behind-child root row.nodes n p rest (not_parent root row (not_fresh root row h.lawful h.root_goes_on)) t e) h.lawful h.root_is_last)
last_stays root (End n) row h =
    behind-clean root _ (behind-change row.nodes n root (λ p. closed p ∷ []) row.pieces (λ p rest l t e. behind-end root p rest e) h.lawful h.root_is_last)
last_stays root (Use count) row h = behind-clean root _ (behind-shorter root count row.pieces h.root_is_last)

root_stays : (root : ℕ) (c : Call) (row : Row) → IsWellRow root row → KeepsRoot root c → is_open root (step c row).pieces ≡ true
root_stays root (Append n bytes) row h k = append-open n root bytes row.pieces ∙ h.root_goes_on
root_stays root (AddChild n) row h k =
    clean-open root (at_place n (λ p. closed p ∷ fresh row.nodes ∷ fresh n ∷ []) row.pieces)
    ∙ child-open-other n row.nodes root row.pieces (λ z. clash (sym (fresh_none row h.lawful) ∙ ap (λ j. is_open j row.pieces) z ∙ h.root_goes_on))
    ∙ h.root_goes_on
root_stays root (End n) row h k = clean-open root (at_place n (λ p. closed p ∷ []) row.pieces) ∙ end-open-other n root row.pieces k ∙ h.root_goes_on
root_stays root (Use count) row h k = clean-open root (shorter count row.pieces) ∙ shorter-open count root row.pieces ∙ h.root_goes_on

pub step-well : (root : ℕ) (c : Call) (row : Row) → IsWellRow root row → KeepsRoot root c → IsWellRow root (step c row)
step-well root c row h k = record { lawful = step-lawful c row h.lawful; root_is_last = last_stays root c row h; root_goes_on = root_stays root c row h k }

-- a node that has ended goes on again, right before the place of another
pub well-reopened : (root parent id : ℕ) (row : Row) → IsWellRow root row → (id == root) ≡ false → IsLawful (reopened parent id row).nodes (reopened parent id row).pieces → IsWellRow root (reopened parent id row)
well-reopened root parent id row h other lawful = record {
  lawful = lawful;
  root_is_last = behind-clean root _ (behind-change row.nodes parent root (λ p. closed p ∷ fresh id ∷ fresh parent ∷ []) row.pieces (λ p rest l t e. behind-child root id parent p rest other t e) h.lawful h.root_is_last);
  root_goes_on = clean-open root (at_place parent (λ p. closed p ∷ fresh id ∷ fresh parent ∷ []) row.pieces)
      ∙ child-open-other parent id root row.pieces (λ z. clash (sym other ∙ eq-eqb id root z))
      ∙ h.root_goes_on;
}

pub begun-well : (root nodes : ℕ) → root < nodes → IsWellRow root (record { pieces = fresh root ∷ []; nodes = nodes })
unfolding goes_on_behind any_goes_on is_open IsLawful names
begun-well root nodes h = record {
  lawful = (h, ((λ e. refl), tt));
  root_is_last = ap (λ t. if t then false else false) (eq-eqb root root refl);
  root_goes_on = ap (λ t. if t then true else false) (eq-eqb root root refl);
}

pub stays_well : RowStaysWell
stays_well = record { begins = begun-well; steps = step-well }

-- ---- the root comes after each other node

other_place : (root n : ℕ) (p : Piece) → n ≢ root → is_place n p ≡ true → is_place root p ≡ false
other_place root n p k t = elim (is_place root p) as (λ u. is_place root p ≡ u → u ≡ false) [
  | true ↦ λ u. absurd (k (sym (place-node n p t).1 ∙ (place-node root p u).1))
  | false ↦ λ u. refl
] refl

any_at : (n : ℕ) (ahead : List Piece) (p : Piece) (behind : List Piece) → is_place n p ≡ true → any_goes_on (ahead ++ (p ∷ behind)) ≡ true
unfolding any_goes_on
any_at n [] p behind t = ap (λ g. if g then true else any_goes_on behind) (place-node n p t).0
any_at n (q ∷ ahead) p behind t = elim q.grows as (λ g. (if g then true else any_goes_on (ahead ++ (p ∷ behind))) ≡ true) [
  | true ↦ refl
  | false ↦ any_at n ahead p behind t
]

pub root_behind : (root n : ℕ) (ahead : List Piece) (p : Piece) (behind : List Piece) → n ≢ root → is_place n p ≡ true →
    goes_on_behind root (ahead ++ (p ∷ behind)) ≡ false → is_open root (ahead ++ (p ∷ behind)) ≡ true → is_open root behind ≡ true
unfolding goes_on_behind
root_behind root n [] p behind k t e f = open_there root p behind (other_place root n p k t) f
root_behind root n (q ∷ ahead) p behind k t e f =
    elim (is_place root q) as (λ u. is_place root q ≡ u → (if u then any_goes_on (ahead ++ (p ∷ behind)) else goes_on_behind root (ahead ++ (p ∷ behind))) ≡ false → is_open root behind ≡ true) [
      | true ↦ λ u h. clash (sym h ∙ any_at n ahead p behind t)
      | false ↦ λ u h. root_behind root n ahead p behind k t h (open_there root q (ahead ++ (p ∷ behind)) u f)
    ] refl e

-- ---- families

stance-well : (s : ℕ → Stance) (root n : ℕ) (t : Stance) → is_shown (s root) ≡ true → is_shown t ≡ true → is_shown (with_stance n t s root) ≡ true
stance-well s root n t h k = elim (root == n) as (λ u. is_shown (if u then t else s root) ≡ true) [
  | true ↦ k
  | false ↦ h
]

pub well-doing : (n : ℕ) (s : Stance) (f : Family) → IsWell f → is_shown s ≡ true → IsWell (doing n s f)
well-doing n s f h k = record { row_is = h.row_is; root_is_shown = stance-well f.stance f.root n s h.root_is_shown k }

pub well-append : (n : ℕ) (bytes : List ℕ) (f : Family) → IsWell f → IsWell (placing n bytes f)
well-append n bytes f h = record { row_is = step-well f.root (Append n bytes) f.row h.row_is tt; root_is_shown = h.root_is_shown }

pub well-child : (n : ℕ) (s : Stance) (f : Family) → IsWell f → IsWell (opening n s f)
well-child n s f h = record {
  row_is = step-well f.root (AddChild n) f.row h.row_is tt;
  root_is_shown = ap (λ u. is_shown (if u then s else f.stance f.root)) (not_fresh f.root f.row h.row_is.lawful h.row_is.root_goes_on) ∙ h.root_is_shown;
}

pub well-end : (n : ℕ) (f : Family) → IsWell f → n ≢ f.root → IsWell (ending n f)
well-end n f h k = record { row_is = step-well f.root (End n) f.row h.row_is k; root_is_shown = h.root_is_shown }

pub well-use : (count : ℕ) (f : Family) → IsWell f → IsWell (leaving count f)
well-use count f h = record { row_is = step-well f.root (Use count) f.row h.row_is tt; root_is_shown = h.root_is_shown }
