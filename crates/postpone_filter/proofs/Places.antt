-- The one place of a node.
use Rattle.std.proofs.Common.{◌≡◌, ℕ, zero, suc, ◌<◌, Bool, true, false, ◌&&◌, ◌==◌, List, [], ◌∷◌, ◌++◌, length, get_or, take, drop, set, refl, sym, ap, ◌∙◌, arith, if◌then◌else◌}
use Rattle.std.proofs.lemmas.List.{set_split}
use Rattle.std.proofs.lemmas.Bool.{and_parts, eqb-true}
use Rattle.std.specs.List.{insert}
use Rattle.postpone_filter.specs.Row.{Piece, is_place, is_open, bytes_of, at_place}
use Rattle.postpone_filter.specs.Buffers.{names, IsLawful}

pub lawful-later : (n : ℕ) (p : Piece) (ps : List Piece) → IsLawful n (p ∷ ps) → IsLawful n ps
unfolding IsLawful
lawful-later n p ps l = l.1.1

pub place-node : (id : ℕ) (p : Piece) → is_place id p ≡ true → (p.grows ≡ true) × (p.node ≡ id)
place-node id p e = let parts : (p.grows ≡ true) × ((p.node == id) ≡ true) = and_parts p.grows (p.node == id) e in (parts.0, eqb-true p.node id parts.1)

-- a node that no piece is of goes on nowhere and has no bytes
pub unnamed-open : (id : ℕ) (ps : List Piece) → names id ps ≡ false → is_open id ps ≡ false
unfolding names is_open
unnamed-open id [] e = refl
unnamed-open id (p ∷ ps) e =
    elim (p.node == id) as (λ t. (if t then true else names id ps) ≡ false → (if p.grows && t then true else is_open id ps) ≡ false) [
      | true ↦ λ h. cc
      | false ↦ λ h. elim p.grows as (λ g. (if g && false then true else is_open id ps) ≡ false) [ true ↦ unnamed-open id ps h | false ↦ unnamed-open id ps h ]
    ] e

pub unnamed-bytes : (id : ℕ) (ps : List Piece) → names id ps ≡ false → bytes_of id ps ≡ []
unfolding names bytes_of
unnamed-bytes id [] e = refl
unnamed-bytes id (p ∷ ps) e =
    elim (p.node == id) as (λ t. (if t then true else names id ps) ≡ false → (if t then p.bytes ++ bytes_of id ps else bytes_of id ps) ≡ []) [
      | true ↦ λ h. cc
      | false ↦ λ h. unnamed-bytes id ps h
    ] e

-- after the place of a node there is no piece of it
pub unnamed-behind : (n id : ℕ) (p : Piece) (ps : List Piece) → IsLawful n (p ∷ ps) → is_place id p ≡ true → names id ps ≡ false
unfolding IsLawful
unnamed-behind n id p ps l e = let at = place-node id p e in ap (λ k. names k ps) (sym at.1) ∙ l.1.0 at.0

open-here : (id : ℕ) (ps : List Piece) (i : ℕ) (d : Piece) → i < length ps → is_place id (get_or ps i d) ≡ true → is_open id ps ≡ true
unfolding is_open
open-here id [] i d h e = absurd (omega arith)
open-here id (p ∷ ps) zero d h e = ap (λ t. if t then true else is_open id ps) e
open-here id (p ∷ ps) (suc i) d h e =
    elim (is_place id p) as (λ t. (if t then true else is_open id ps) ≡ true) [ true ↦ refl | false ↦ open-here id ps i d (omega arith) e ]

pub place-open : (id : ℕ) (ps : List Piece) (i : ℕ) (d : Piece) → i < length ps → is_place id (get_or ps i d) ≡ true → is_open id ps ≡ true
place-open = open-here

one_place : (n id : ℕ) (p : Piece) (ps : List Piece) (i : ℕ) (d : Piece) → IsLawful n (p ∷ ps) → i < length ps → is_place id (get_or ps i d) ≡ true → is_place id p ≡ true → ⊥
one_place n id p ps i d l h e t =
    let none : is_open id ps ≡ false = unnamed-open id ps (unnamed-behind n id p ps l t) in
    let some : is_open id ps ≡ true = open-here id ps i d h e in
    cc

pub at_place-split : (n id : ℕ) (f : Piece → List Piece) (ps : List Piece) (i : ℕ) (d : Piece) → i < length ps → IsLawful n ps → is_place id (get_or ps i d) ≡ true → at_place id f ps ≡ take i ps ++ (f (get_or ps i d) ++ drop (suc i) ps)
unfolding at_place
at_place-split n id f [] i d h l e = absurd (omega arith)
at_place-split n id f (p ∷ ps) zero d h l e = ap (λ t. if t then f p ++ ps else p ∷ at_place id f ps) e
at_place-split n id f (p ∷ ps) (suc i) d h l e =
    elim (is_place id p) as (λ t. is_place id p ≡ t → (if t then f p ++ ps else p ∷ at_place id f ps) ≡ p ∷ (take i ps ++ (f (get_or ps i d) ++ drop (suc i) ps))) [
      | true ↦ λ t. absurd (one_place n id p ps i d l (omega arith) e t)
      | false ↦ λ t. ap (λ z. p ∷ z) (at_place-split n id f ps i d (omega arith) (lawful-later n p ps l) e)
    ] refl

pub at_place-set : (n id : ℕ) (f : Piece → Piece) (ps : List Piece) (i : ℕ) (d : Piece) → i < length ps → IsLawful n ps → is_place id (get_or ps i d) ≡ true → set ps i (f (get_or ps i d)) ≡ at_place id (λ p. f p ∷ []) ps
at_place-set n id f ps i d h l e = set_split ps i (f (get_or ps i d)) h ∙ sym (at_place-split n id (λ p. f p ∷ []) ps i d h l e)

pub at_place-none : (id : ℕ) (f : Piece → List Piece) (ps : List Piece) → is_open id ps ≡ false → ps ≡ at_place id f ps
unfolding is_open at_place
at_place-none id f [] e = refl
at_place-none id f (p ∷ ps) e =
    elim (is_place id p) as (λ t. (if t then true else is_open id ps) ≡ false → p ∷ ps ≡ (if t then f p ++ ps else p ∷ at_place id f ps)) [
      | true ↦ λ h. cc
      | false ↦ λ h. ap (λ z. p ∷ z) (at_place-none id f ps h)
    ] e

two : {A : Type 0} → (xs : List A) (i : ℕ) (q a b : A) → i < length xs → insert (insert (set xs i q) (suc i) a) (suc (suc i)) b ≡ take i xs ++ (q ∷ a ∷ b ∷ drop (suc i) xs)
two [] i q a b h = absurd (omega arith)
two (x ∷ xs) zero q a b h = refl
two (x ∷ xs) (suc i) q a b h = ap (λ z. x ∷ z) (two xs i q a b (omega arith))

pub insert-two : {A : Type 0} → (xs : List A) (i j k : ℕ) (q a b : A) → j ≡ suc i → k ≡ suc (suc i) → i < length xs → insert (insert (set xs i q) j a) k b ≡ take i xs ++ (q ∷ a ∷ b ∷ drop (suc i) xs)
insert-two xs i j k q a b e w h = ap (λ n. insert (insert (set xs i q) n a) k b) e ∙ ap (λ n. insert (insert (set xs i q) (suc i) a) n b) w ∙ two xs i q a b h

-- whether a piece after the place of a node is of another
unfoldable pub named_behind : (child id : ℕ) → List Piece → Bool
named_behind child id [] = false
named_behind child id (p ∷ ps) = if is_place id p then names child ps else named_behind child id ps

names_later : (child : ℕ) (p : Piece) (ps : List Piece) → names child (p ∷ ps) ≡ false → names child ps ≡ false
unfolding names
names_later child p ps e = elim (p.node == child) as (λ t. (if t then true else names child ps) ≡ false → names child ps ≡ false) [ true ↦ λ h. cc | false ↦ λ h. h ] e

pub none_behind : (n child id : ℕ) (ps : List Piece) (i : ℕ) (d : Piece) → i < length ps → IsLawful n ps → is_place id (get_or ps i d) ≡ true → names child (drop i ps) ≡ false → named_behind child id ps ≡ false
unfolding named_behind
none_behind n child id [] i d h l e u = refl
none_behind n child id (p ∷ ps) zero d h l e u = ap (λ t. if t then names child ps else named_behind child id ps) e ∙ names_later child p ps u
none_behind n child id (p ∷ ps) (suc i) d h l e u =
    elim (is_place id p) as (λ t. is_place id p ≡ t → (if t then names child ps else named_behind child id ps) ≡ false) [
      | true ↦ λ t. absurd (one_place n id p ps i d l (omega arith) e t)
      | false ↦ λ t. none_behind n child id ps i d (omega arith) (lawful-later n p ps l) e u
    ] refl
