-- What a change at a node's place leaves.
use Rattle.std.proofs.Common.{◌≡◌, ℕ, ◌<◌, ◌≤◌, true, false, ◌==◌, List, [], ◌∷◌, ◌++◌, refl, ap, ◌∙◌, arith, if◌then◌else◌}
use Rattle.postpone_filter.specs.Row.{Piece, is_place, is_open, bytes_of, at_place}
use Rattle.postpone_filter.specs.Buffers.{names, IsLawful}

-- a node whose bytes the change leaves
pub bytes-same : (id j : ℕ) (f : Piece → List Piece) (ps : List Piece) → ((p : Piece) (rest : List Piece) → is_place id p ≡ true → bytes_of j (f p ++ rest) ≡ bytes_of j (p ∷ rest)) → bytes_of j (at_place id f ps) ≡ bytes_of j ps
unfolding bytes_of at_place
bytes-same id j f [] k = refl
bytes-same id j f (p ∷ ps) k =
    elim (is_place id p) as (λ t. is_place id p ≡ t → bytes_of j (if t then f p ++ ps else p ∷ at_place id f ps) ≡ (if p.node == j then p.bytes ++ bytes_of j ps else bytes_of j ps)) [
      | true ↦ λ t. k p ps t
      | false ↦ λ t. ap (λ z. if p.node == j then p.bytes ++ z else z) (bytes-same id j f ps k)
    ] refl

pub open-same : (id j : ℕ) (f : Piece → List Piece) (ps : List Piece) → ((p : Piece) (rest : List Piece) → is_place id p ≡ true → is_open j (f p ++ rest) ≡ is_open j (p ∷ rest)) → is_open j (at_place id f ps) ≡ is_open j ps
unfolding is_open at_place
open-same id j f [] k = refl
open-same id j f (p ∷ ps) k =
    elim (is_place id p) as (λ t. is_place id p ≡ t → is_open j (if t then f p ++ ps else p ∷ at_place id f ps) ≡ (if is_place j p then true else is_open j ps)) [
      | true ↦ λ t. k p ps t
      | false ↦ λ t. ap (λ z. if is_place j p then true else z) (open-same id j f ps k)
    ] refl

pub names-same : (id j : ℕ) (f : Piece → List Piece) (ps : List Piece) → ((p : Piece) (rest : List Piece) → is_place id p ≡ true → names j (f p ++ rest) ≡ names j (p ∷ rest)) → names j (at_place id f ps) ≡ names j ps
unfolding names at_place
names-same id j f [] k = refl
names-same id j f (p ∷ ps) k =
    elim (is_place id p) as (λ t. is_place id p ≡ t → names j (if t then f p ++ ps else p ∷ at_place id f ps) ≡ (if p.node == j then true else names j ps)) [
      | true ↦ λ t. k p ps t
      | false ↦ λ t. ap (λ z. if p.node == j then true else z) (names-same id j f ps k)
    ] refl

-- a change that keeps the laws where it is made
pub lawful-change : (n m id : ℕ) (f : Piece → List Piece) (ps : List Piece) → n ≤ m
    → ((p : Piece) (rest : List Piece) → is_place id p ≡ true → IsLawful n (p ∷ rest) → IsLawful m (f p ++ rest))
    → ((j : ℕ) → j < n → (p : Piece) (rest : List Piece) → is_place id p ≡ true → names j (f p ++ rest) ≡ names j (p ∷ rest))
    → ((p : Piece) (rest : List Piece) → IsLawful n (p ∷ rest) → p.node < n)
    → IsLawful n ps → IsLawful m (at_place id f ps)
unfolding IsLawful at_place
lawful-change n m id f [] h k g b l = tt
lawful-change n m id f (p ∷ ps) h k g b l =
    elim (is_place id p) as (λ t. is_place id p ≡ t → IsLawful m (if t then f p ++ ps else p ∷ at_place id f ps)) [
      | true ↦ λ t. k p ps t l
      | false ↦ λ t. (omega (arith, l.0, h), (λ e. names-same id p.node f ps (g p.node l.0) ∙ l.1.0 e, lawful-change n m id f ps h k g b l.1.1))
    ] refl
