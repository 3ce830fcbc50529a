-- What comes out over the calls.
use Rattle.std.proofs.Common.{◌≡◌, ℕ, zero, suc, ◌+◌, true, false, ◌&&◌, ◌==◌, List, [], ◌∷◌, ◌++◌, length, take, drop, refl, sym, ap, ◌∙◌, arith, append_assoc, append-nil, not, if◌then◌else◌}
use Rattle.std.proofs.lemmas.Bool.{eqb-true, eq-eqb}
use Rattle.std.proofs.lemmas.List.{nil_from_length, take-append-drop}
use Rattle.postpone_filter.specs.Row.{Piece, Row, is_place, is_open, at_place, longer, closed, fresh, is_over, clean, shorter, front_of, begun}
use Rattle.postpone_filter.specs.Buffers.{names, IsLawful}
use Rattle.postpone_filter.specs.Runs.{filled, giving, Call, step, behind, leaves, output, text_of, TreeOrder}
use Rattle.postpone_filter.specs.Runs.Call.{Append, AddChild, End, Use}
use Rattle.postpone_filter.proofs.Places.{lawful-later, place-node, unnamed-behind, unnamed-open}
use Rattle.postpone_filter.proofs.Ops.{append-lawful, end-lawful, child-lawful, clean-lawful, shorter-lawful}

other-place : (id : ℕ) (change : List ℕ → List ℕ) (gives : ℕ → List ℕ) (p : Piece) → is_place id p ≡ false → (if p.grows then giving id change gives p.node else []) ≡ (if p.grows then gives p.node else [])
other-place id change gives p t = elim p.grows as (λ g. (g && (p.node == id)) ≡ false → (if g then giving id change gives p.node else []) ≡ (if g then gives p.node else [])) [ true ↦ λ h. ap (λ u. if u then change (gives p.node) else gives p.node) h | false ↦ λ h. refl ] t

-- what a node gives that goes on nowhere
filled-closed : (id : ℕ) (change : List ℕ → List ℕ) (gives : ℕ → List ℕ) (ps : List Piece) → is_open id ps ≡ false → filled (giving id change gives) ps ≡ filled gives ps
unfolding filled is_open
filled-closed id change gives [] e = refl
filled-closed id change gives (p ∷ ps) e =
    elim (is_place id p) as (λ t. is_place id p ≡ t → (if t then true else is_open id ps) ≡ false → p.bytes ++ ((if p.grows then giving id change gives p.node else []) ++ filled (giving id change gives) ps) ≡ p.bytes ++ ((if p.grows then gives p.node else []) ++ filled gives ps)) [
      | true ↦ λ t w. cc
      | false ↦ λ t w. ap (λ z. p.bytes ++ (z ++ filled (giving id change gives) ps)) (other-place id change gives p t) ∙ ap (λ z. p.bytes ++ ((if p.grows then gives p.node else []) ++ z)) (filled-closed id change gives ps w)
    ] refl e

-- a change at a node's place that stands for what the node gives
filled-change : (n id : ℕ) (change : List ℕ → List ℕ) (f : Piece → List Piece) (gives : ℕ → List ℕ) (ps : List Piece)
    → ((p : Piece) (rest : List Piece) → is_place id p ≡ true → p.bytes ++ (change (gives id) ++ filled gives rest) ≡ filled gives (f p ++ rest))
    → IsLawful n ps → filled (giving id change gives) ps ≡ filled gives (at_place id f ps)
unfolding filled at_place
filled-change n id change f gives [] k l = refl
filled-change n id change f gives (p ∷ ps) k l =
    elim (is_place id p) as (λ t. is_place id p ≡ t → p.bytes ++ ((if p.grows then giving id change gives p.node else []) ++ filled (giving id change gives) ps) ≡ filled gives (if t then f p ++ ps else p ∷ at_place id f ps)) [
      | true ↦ λ t.
          let at = place-node id p t in
          let own : (if p.grows then giving id change gives p.node else []) ≡ change (gives id) =
          ap (λ g. if g then giving id change gives p.node else []) at.0 ∙ ap (λ j. giving id change gives j) at.1 ∙ ap (λ u. if u then change (gives id) else gives id) (eq-eqb id id refl) in
          ap (λ z. p.bytes ++ (z ++ filled (giving id change gives) ps)) own
          ∙ ap (λ z. p.bytes ++ (change (gives id) ++ z)) (filled-closed id change gives ps (unnamed-open id ps (unnamed-behind n id p ps l t)))
          ∙ k p ps t
      | false ↦ λ t.
          ap (λ z. p.bytes ++ (z ++ filled (giving id change gives) ps)) (other-place id change gives p t)
          ∙ ap (λ z. p.bytes ++ ((if p.grows then gives p.node else []) ++ z)) (filled-change n id change f gives ps k (lawful-later n p ps l))
    ] refl

pub filled-append : (n id : ℕ) (more : List ℕ) (gives : ℕ → List ℕ) (ps : List Piece) → IsLawful n ps → filled (giving id (λ t. more ++ t) gives) ps ≡ filled gives (at_place id (λ p. longer more p ∷ []) ps)
unfolding filled
filled-append n id more gives ps l = filled-change n id (λ t. more ++ t) (λ p. longer more p ∷ []) gives ps (λ p rest e.
    let at = place-node id p e in
    ap (λ z. p.bytes ++ z) (append_assoc more (gives id) (filled gives rest))
    ∙ sym (append_assoc p.bytes more (gives id ++ filled gives rest))
    ∙ ap (λ j. (p.bytes ++ more) ++ (gives j ++ filled gives rest)) (sym at.1)
    ∙ sym (ap (λ g. (p.bytes ++ more) ++ ((if g then gives p.node else []) ++ filled gives rest)) at.0)) l

pub filled-child : (n id child : ℕ) (gives : ℕ → List ℕ) (ps : List Piece) → IsLawful n ps → filled (giving id (λ t. gives child ++ t) gives) ps ≡ filled gives (at_place id (λ p. closed p ∷ fresh child ∷ fresh id ∷ []) ps)
unfolding filled
filled-child n id child gives ps l = filled-change n id (λ t. gives child ++ t) (λ p. closed p ∷ fresh child ∷ fresh id ∷ []) gives ps (λ p rest e.
    ap (λ z. p.bytes ++ z) (append_assoc (gives child) (gives id) (filled gives rest))) l

pub filled-end : (n id : ℕ) (gives : ℕ → List ℕ) (ps : List Piece) → IsLawful n ps → filled (giving id (λ _. []) gives) ps ≡ filled gives (at_place id (λ p. closed p ∷ []) ps)
unfolding filled
filled-end n id gives ps l = filled-change n id (λ _. []) (λ p. closed p ∷ []) gives ps (λ p rest e. refl) l

over-parts : (p : Piece) → is_over p ≡ true → (p.grows ≡ false) × (p.bytes ≡ [])
over-parts p e = elim p.grows as (λ g. (not g && (length p.bytes == 0)) ≡ true → (g ≡ false) × (p.bytes ≡ [])) [ true ↦ λ h. cc | false ↦ λ h. (refl, nil_from_length p.bytes (eqb-true (length p.bytes) 0 h)) ] e

pub filled-clean : (gives : ℕ → List ℕ) (ps : List Piece) → filled gives (clean ps) ≡ filled gives ps
unfolding clean filled
filled-clean gives [] = refl
filled-clean gives (p ∷ ps) =
    elim (is_over p) as (λ t. is_over p ≡ t → filled gives (if t then clean ps else p ∷ ps) ≡ p.bytes ++ ((if p.grows then gives p.node else []) ++ filled gives ps)) [
      | true ↦ λ t. let o = over-parts p t in filled-clean gives ps ∙ ap (λ z. z ++ filled gives ps) (sym o.1) ∙ ap (λ g. p.bytes ++ ((if g then gives p.node else []) ++ filled gives ps)) (sym o.0)
      | false ↦ λ t. refl
    ] refl

no_front : (n : ℕ) → ◌≡◌ {A = List ℕ} (take n []) []
no_front zero = refl
no_front (suc n) = refl

before : (n : ℕ) (gives : ℕ → List ℕ) (ps : List Piece) → filled gives ps ≡ take n (front_of ps) ++ filled gives (shorter n ps)
unfolding shorter filled front_of
before n gives [] = sym (ap (λ z. z ++ []) (no_front n))
before n gives (p ∷ ps) =
    ap (λ z. z ++ ((if p.grows then gives p.node else []) ++ filled gives ps)) (sym (take-append-drop n p.bytes))
    ∙ append_assoc (take n p.bytes) (drop n p.bytes) ((if p.grows then gives p.node else []) ++ filled gives ps)

pub filled-used : (n : ℕ) (gives : ℕ → List ℕ) (ps : List Piece) → filled gives ps ≡ take n (front_of ps) ++ filled gives (clean (shorter n ps))
filled-used n gives ps = before n gives ps ∙ ap (λ z. take n (front_of ps) ++ z) (sym (filled-clean gives (shorter n ps)))

pub step-lawful : (c : Call) (row : Row) → IsLawful row.nodes row.pieces → IsLawful (step c row).nodes (step c row).pieces
step-lawful (Append id bytes) row l = append-lawful row.nodes id bytes row.pieces l
step-lawful (AddChild parent) row l = clean-lawful (row.nodes + 1) _ (child-lawful row.nodes parent row.pieces l)
step-lawful (End id) row l = clean-lawful row.nodes _ (end-lawful row.nodes id row.pieces l)
step-lawful (Use count) row l = clean-lawful row.nodes _ (shorter-lawful row.nodes count row.pieces l)

step-filled : (c : Call) (cs : List Call) (row : Row) → IsLawful row.nodes row.pieces → leaves c row ++ filled (text_of (step c row).nodes cs) (step c row).pieces ≡ filled (text_of row.nodes (c ∷ cs)) row.pieces
unfolding text_of
step-filled (Append id bytes) cs row l = sym (filled-append row.nodes id bytes (text_of row.nodes cs) row.pieces l)
step-filled (AddChild parent) cs row l = filled-clean (text_of (row.nodes + 1) cs) _ ∙ sym (filled-child row.nodes parent row.nodes (text_of (row.nodes + 1) cs) row.pieces l)
step-filled (End id) cs row l = filled-clean (text_of row.nodes cs) _ ∙ sym (filled-end row.nodes id (text_of row.nodes cs) row.pieces l)
step-filled (Use count) cs row l = sym (filled-used count (text_of row.nodes cs) row.pieces)

no_calls : (row : Row) → filled (λ _. []) row.pieces ≡ filled (text_of row.nodes []) row.pieces
unfolding text_of
no_calls row = refl

runs : (calls : List Call) (row : Row) → IsLawful row.nodes row.pieces → output calls row ++ filled (λ _. []) (behind calls row).pieces ≡ filled (text_of row.nodes calls) row.pieces
unfolding output behind
runs [] row l = no_calls row
runs (c ∷ cs) row l =
    append_assoc (leaves c row) (output cs (step c row)) (filled (λ _. []) (behind cs (step c row)).pieces)
    ∙ ap (λ z. leaves c row ++ z) (runs cs (step c row) (step-lawful c row l))
    ∙ step-filled c cs row l

pub begun-lawful : IsLawful 1 begun.pieces
unfolding IsLawful names
begun-lawful = (omega arith, ((λ e. refl), tt))

pub runs-in-order : TreeOrder
unfolding filled
runs-in-order calls = runs calls begun begun-lawful ∙ append-nil (text_of 1 calls 0)
