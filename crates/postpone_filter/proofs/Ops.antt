-- What the calls leave of the nodes.
use Rattle.std.proofs.Common.{◌≡◌, ℕ, ◌+◌, ◌<◌, ◌≤◌, true, false, ◌&&◌, ◌==◌, List, [], ◌∷◌, ◌++◌, length, drop, refl, sym, ap, subst, ◌∙◌, arith, append_assoc, append-nil, not, if◌then◌else◌}
use Rattle.std.proofs.lemmas.Bool.{eqb-true, eq-eqb, ne_eqb}
use Rattle.std.proofs.lemmas.List.{nil_from_length, drop-append-le}
use Rattle.postpone_filter.specs.Row.{Piece, is_place, is_open, bytes_of, at_place, longer, closed, fresh, is_over, clean, shorter}
use Rattle.postpone_filter.specs.Buffers.{names, IsLawful, starts_over}
use Rattle.postpone_filter.proofs.Places.{lawful-later, named_behind, place-node, unnamed-behind, unnamed-bytes, unnamed-open}
use Rattle.postpone_filter.proofs.Changes.{bytes-same, names-same, open-same, lawful-change}

pub eqb-other : (a b : ℕ) → (a ≡ b → ⊥) → (a == b) ≡ false
eqb-other a b h = ne_eqb a b h

lawful-node : (n : ℕ) (p : Piece) (ps : List Piece) → IsLawful n (p ∷ ps) → p.node < n
unfolding IsLawful
lawful-node n p ps l = l.0

-- bytes are placed

pub append-bytes-other : (id j : ℕ) (more : List ℕ) (ps : List Piece) → (id ≡ j → ⊥) → bytes_of j (at_place id (λ p. longer more p ∷ []) ps) ≡ bytes_of j ps
unfolding bytes_of
append-bytes-other id j more ps h = bytes-same id j (λ p. longer more p ∷ []) ps (λ p rest e. let at = place-node id p e in let other : (p.node == j) ≡ false = ne_eqb p.node j (λ w. h (sym at.1 ∙ w)) in ap (λ t. if t then (p.bytes ++ more) ++ bytes_of j rest else bytes_of j rest) other ∙ sym (ap (λ t. if t then p.bytes ++ bytes_of j rest else bytes_of j rest) other))

pub append-bytes-own : (n id : ℕ) (more : List ℕ) (ps : List Piece) → IsLawful n ps → is_open id ps ≡ true → bytes_of id (at_place id (λ p. longer more p ∷ []) ps) ≡ bytes_of id ps ++ more
unfolding bytes_of at_place is_open
append-bytes-own n id more [] l e = cc
append-bytes-own n id more (p ∷ ps) l e =
    elim (is_place id p) as (λ t. is_place id p ≡ t → (if t then true else is_open id ps) ≡ true → bytes_of id (if t then longer more p ∷ ps else p ∷ at_place id (λ q. longer more q ∷ []) ps) ≡ (if p.node == id then p.bytes ++ bytes_of id ps else bytes_of id ps) ++ more) [
      | true ↦ λ t w.
          let own : (p.node == id) ≡ true = eq-eqb p.node id (place-node id p t).1 in
          let none : bytes_of id ps ≡ [] = unnamed-bytes id ps (unnamed-behind n id p ps l t) in
          ap (λ u. if u then (p.bytes ++ more) ++ bytes_of id ps else bytes_of id ps) own
          ∙ ap (λ z. (p.bytes ++ more) ++ z) none ∙ append-nil (p.bytes ++ more)
          ∙ ap (λ z. z ++ more) (sym (append-nil p.bytes)) ∙ ap (λ z. (p.bytes ++ z) ++ more) (sym none)
          ∙ sym (ap (λ u. (if u then p.bytes ++ bytes_of id ps else bytes_of id ps) ++ more) own)
      | false ↦ λ t w.
          ap (λ z. if p.node == id then p.bytes ++ z else z) (append-bytes-own n id more ps (lawful-later n p ps l) w)
          ∙ elim (p.node == id) as (λ u. (if u then p.bytes ++ (bytes_of id ps ++ more) else bytes_of id ps ++ more) ≡ (if u then p.bytes ++ bytes_of id ps else bytes_of id ps) ++ more) [ true ↦ sym (append_assoc p.bytes (bytes_of id ps) more) | false ↦ refl ]
    ] refl e

pub append-open : (id j : ℕ) (more : List ℕ) (ps : List Piece) → is_open j (at_place id (λ p. longer more p ∷ []) ps) ≡ is_open j ps
unfolding is_open
append-open id j more ps = open-same id j (λ p. longer more p ∷ []) ps (λ p rest e. refl)

pub append-lawful : (n id : ℕ) (more : List ℕ) (ps : List Piece) → IsLawful n ps → IsLawful n (at_place id (λ p. longer more p ∷ []) ps)
unfolding IsLawful names
append-lawful n id more ps l = lawful-change n n id (λ p. longer more p ∷ []) ps (omega arith) (λ p rest e k. k) (λ j h p rest e. refl) (λ p rest k. k.0) l

-- a node has ended

pub end-bytes : (id j : ℕ) (ps : List Piece) → bytes_of j (at_place id (λ p. closed p ∷ []) ps) ≡ bytes_of j ps
unfolding bytes_of
end-bytes id j ps = bytes-same id j (λ p. closed p ∷ []) ps (λ p rest e. refl)

pub end-open-other : (id j : ℕ) (ps : List Piece) → (id ≡ j → ⊥) → is_open j (at_place id (λ p. closed p ∷ []) ps) ≡ is_open j ps
unfolding is_open
end-open-other id j ps h = open-same id j (λ p. closed p ∷ []) ps (λ p rest e.
    let at = place-node id p e in
    let other : (p.node == j) ≡ false = ne_eqb p.node j (λ w. h (sym at.1 ∙ w)) in
    sym (ap (λ t. if p.grows && t then true else is_open j rest) other ∙ ap (λ g. if g && false then true else is_open j rest) at.0))

pub end-open-own : (n id : ℕ) (ps : List Piece) → IsLawful n ps → is_open id (at_place id (λ p. closed p ∷ []) ps) ≡ false
unfolding is_open at_place
end-open-own n id [] l = refl
end-open-own n id (p ∷ ps) l =
    elim (is_place id p) as (λ t. is_place id p ≡ t → is_open id (if t then closed p ∷ ps else p ∷ at_place id (λ q. closed q ∷ []) ps) ≡ false) [
      | true ↦ λ t. unnamed-open id ps (unnamed-behind n id p ps l t)
      | false ↦ λ t. ap (λ u. if u then true else is_open id (at_place id (λ q. closed q ∷ []) ps)) t ∙ end-open-own n id ps (lawful-later n p ps l)
    ] refl

pub end-lawful : (n id : ℕ) (ps : List Piece) → IsLawful n ps → IsLawful n (at_place id (λ p. closed p ∷ []) ps)
unfolding IsLawful names
end-lawful n id ps l = lawful-change n n id (λ p. closed p ∷ []) ps (omega arith) (λ p rest e k. (k.0, (λ w. cc, k.1.1))) (λ j h p rest e. refl) (λ p rest k. k.0) l

-- a child is added

pub child-bytes : (id child j : ℕ) (ps : List Piece) → bytes_of j (at_place id (λ p. closed p ∷ fresh child ∷ fresh id ∷ []) ps) ≡ bytes_of j ps
unfolding bytes_of
child-bytes id child j ps = bytes-same id j (λ p. closed p ∷ fresh child ∷ fresh id ∷ []) ps (λ p rest e.
    ap (λ z. if p.node == j then p.bytes ++ z else z)
    (elim (child == j) as (λ t. (if t then (if id == j then bytes_of j rest else bytes_of j rest) else (if id == j then bytes_of j rest else bytes_of j rest)) ≡ bytes_of j rest) [
      | true ↦ elim (id == j) as (λ u. (if u then bytes_of j rest else bytes_of j rest) ≡ bytes_of j rest) [ true ↦ refl | false ↦ refl ]
      | false ↦ elim (id == j) as (λ u. (if u then bytes_of j rest else bytes_of j rest) ≡ bytes_of j rest) [ true ↦ refl | false ↦ refl ]
    ]))

pub child-open-other : (id child j : ℕ) (ps : List Piece) → (child ≡ j → ⊥) → is_open j (at_place id (λ p. closed p ∷ fresh child ∷ fresh id ∷ []) ps) ≡ is_open j ps
unfolding is_open
child-open-other id child j ps h = open-same id j (λ p. closed p ∷ fresh child ∷ fresh id ∷ []) ps (λ p rest e.
    let at = place-node id p e in
    let other : (child == j) ≡ false = ne_eqb child j h in
    ap (λ t. if t then true else (if id == j then true else is_open j rest)) other
    ∙ ap (λ k. if k == j then true else is_open j rest) (sym at.1)
    ∙ sym (ap (λ g. if g && (p.node == j) then true else is_open j rest) at.0))

pub child-open-own : (id child : ℕ) (ps : List Piece) → is_open id ps ≡ true → is_open child (at_place id (λ p. closed p ∷ fresh child ∷ fresh id ∷ []) ps) ≡ true
unfolding is_open at_place
child-open-own id child [] e = cc
child-open-own id child (p ∷ ps) e =
    elim (is_place id p) as (λ t. is_place id p ≡ t → (if t then true else is_open id ps) ≡ true → is_open child (if t then closed p ∷ fresh child ∷ fresh id ∷ ps else p ∷ at_place id (λ q. closed q ∷ fresh child ∷ fresh id ∷ []) ps) ≡ true) [
      | true ↦ λ t w. ap (λ u. if u then true else (if id == child then true else is_open child ps)) (eq-eqb child child refl)
      | false ↦ λ t w. elim (is_place child p) as (λ u. (if u then true else is_open child (at_place id (λ q. closed q ∷ fresh child ∷ fresh id ∷ []) ps)) ≡ true) [ true ↦ refl | false ↦ child-open-own id child ps w ]
    ] refl e

-- no piece is of a node that there isn't yet
pub unnamed-new : (n j : ℕ) (ps : List Piece) → n ≤ j → IsLawful n ps → names j ps ≡ false
unfolding IsLawful names
unnamed-new n j [] h l = refl
unnamed-new n j (p ∷ ps) h l =
    let other : (p.node == j) ≡ false = ne_eqb p.node j (λ w. absurd (omega (arith, w, l.0, h))) in
    ap (λ t. if t then true else names j ps) other ∙ unnamed-new n j ps h l.1.1

lawful-more : (n m : ℕ) (ps : List Piece) → n ≤ m → IsLawful n ps → IsLawful m ps
unfolding IsLawful
lawful-more n m [] h l = tt
lawful-more n m (p ∷ ps) h l = (omega (arith, l.0, h), (l.1.0, lawful-more n m ps h l.1.1))

pub child-lawful : (n id : ℕ) (ps : List Piece) → IsLawful n ps → IsLawful (n + 1) (at_place id (λ p. closed p ∷ fresh n ∷ fresh id ∷ []) ps)
unfolding IsLawful names
child-lawful n id ps l = lawful-change n (n + 1) id (λ p. closed p ∷ fresh n ∷ fresh id ∷ []) ps (omega arith)
    (λ p rest e k.
    let at = place-node id p e in
    let low : id < n = omega (arith, k.0, at.1) in
    let other : (id == n) ≡ false = ne_eqb id n (λ w. absurd (omega (arith, w, low))) in
    let behind : names id rest ≡ false = unnamed-behind n id p rest k e in
    (omega (arith, k.0), ((λ w. cc), (omega arith, ((λ w. ap (λ t. if t then true else names n rest) other ∙ unnamed-new n n rest (omega arith) k.1.1), (omega (arith, low), ((λ w. behind), lawful-more n (n + 1) rest (omega arith) k.1.1)))))))
    (λ j h p rest e.
    let at = place-node id p e in
    let other : (n == j) ≡ false = ne_eqb n j (λ w. absurd (omega (arith, w, h))) in
    elim (p.node == j) as (λ t. (p.node == j) ≡ t → (if t then true else (if n == j then true else (if id == j then true else names j rest))) ≡ (if t then true else names j rest)) [
      | true ↦ λ t. refl
      | false ↦ λ t. ap (λ u. if u then true else (if id == j then true else names j rest)) other ∙ ap (λ u. if u then true else names j rest) (ap (λ k. k == j) (sym at.1) ∙ t)
    ] refl)
    (λ p rest k. k.0) l

-- a node goes on again

again-names : (id child j : ℕ) (ps : List Piece) → (child ≡ j → ⊥) → names j (at_place id (λ p. closed p ∷ fresh child ∷ fresh id ∷ []) ps) ≡ names j ps
unfolding names
again-names id child j ps h = names-same id j (λ p. closed p ∷ fresh child ∷ fresh id ∷ []) ps (λ p rest e.
    let at = place-node id p e in
    let other : (child == j) ≡ false = ne_eqb child j h in
    elim (p.node == j) as (λ t. (p.node == j) ≡ t → (if t then true else (if child == j then true else (if id == j then true else names j rest))) ≡ (if t then true else names j rest)) [
      | true ↦ λ t. refl
      | false ↦ λ t. ap (λ u. if u then true else (if id == j then true else names j rest)) other ∙ ap (λ u. if u then true else names j rest) (ap (λ k. k == j) (sym at.1) ∙ t)
    ] refl)

not-open : (child : ℕ) (p : Piece) (ps : List Piece) → is_open child (p ∷ ps) ≡ false → child ≡ p.node → p.grows ≡ true → ⊥
unfolding is_open
not-open child p ps o v w =
    let here : is_place child p ≡ true = ap (λ g. g && (p.node == child)) w ∙ eq-eqb p.node child (sym v) in
    let bad : true ≡ false = sym (ap (λ t. if t then true else is_open child ps) here) ∙ o in
    cc

open-later : (child : ℕ) (p : Piece) (ps : List Piece) → is_open child (p ∷ ps) ≡ false → is_open child ps ≡ false
unfolding is_open
open-later child p ps o = elim (is_place child p) as (λ t. (if t then true else is_open child ps) ≡ false → is_open child ps ≡ false) [ true ↦ λ e. cc | false ↦ λ e. e ] o

pub again-lawful : (n id child : ℕ) (ps : List Piece) → child < n → is_open child ps ≡ false → named_behind child id ps ≡ false → (child ≡ id → ⊥) → IsLawful n ps → IsLawful n (at_place id (λ p. closed p ∷ fresh child ∷ fresh id ∷ []) ps)
unfolding IsLawful names at_place named_behind
again-lawful n id child [] h o b apart l = tt
again-lawful n id child (p ∷ ps) h o b apart l =
    elim (is_place id p) as (λ t. is_place id p ≡ t → (if t then names child ps else named_behind child id ps) ≡ false → IsLawful n (if t then closed p ∷ fresh child ∷ fresh id ∷ ps else p ∷ at_place id (λ q. closed q ∷ fresh child ∷ fresh id ∷ []) ps)) [
      | true ↦ λ t u.
          let at = place-node id p t in
          let other : (id == child) ≡ false = ne_eqb id child (λ w. apart (sym w)) in
          (l.0, ((λ w. cc), (h, ((λ w. ap (λ z. if z then true else names child ps) other ∙ u), (subst (λ k. k < n) at.1 l.0, ((λ w. unnamed-behind n id p ps l t), l.1.1))))))
      | false ↦ λ t u.
          (l.0, ((λ w. again-names id child p.node ps (λ v. not-open child p ps o v w) ∙ l.1.0 w), again-lawful n id child ps h (open-later child p ps o) u apart l.1.1))
    ] refl b

-- the first pieces that give nothing more are taken away

over-bytes : (p : Piece) → is_over p ≡ true → (p.grows ≡ false) × (p.bytes ≡ [])
over-bytes p e = elim p.grows as (λ g. (not g && (length p.bytes == 0)) ≡ true → (g ≡ false) × (p.bytes ≡ [])) [ true ↦ λ h. cc | false ↦ λ h. (refl, nil_from_length p.bytes (eqb-true (length p.bytes) 0 h)) ] e

pub clean-bytes : (j : ℕ) (ps : List Piece) → bytes_of j (clean ps) ≡ bytes_of j ps
unfolding clean bytes_of
clean-bytes j [] = refl
clean-bytes j (p ∷ ps) =
    elim (is_over p) as (λ t. is_over p ≡ t → bytes_of j (if t then clean ps else p ∷ ps) ≡ (if p.node == j then p.bytes ++ bytes_of j ps else bytes_of j ps)) [
      | true ↦ λ t. clean-bytes j ps ∙ elim (p.node == j) as (λ u. bytes_of j ps ≡ (if u then p.bytes ++ bytes_of j ps else bytes_of j ps)) [ true ↦ ap (λ z. z ++ bytes_of j ps) (sym (over-bytes p t).1) | false ↦ refl ]
      | false ↦ λ t. refl
    ] refl

pub clean-open : (j : ℕ) (ps : List Piece) → is_open j (clean ps) ≡ is_open j ps
unfolding clean is_open
clean-open j [] = refl
clean-open j (p ∷ ps) =
    elim (is_over p) as (λ t. is_over p ≡ t → is_open j (if t then clean ps else p ∷ ps) ≡ (if is_place j p then true else is_open j ps)) [
      | true ↦ λ t. clean-open j ps ∙ sym (ap (λ g. if g && (p.node == j) then true else is_open j ps) (over-bytes p t).0)
      | false ↦ λ t. refl
    ] refl

pub clean-lawful : (n : ℕ) (ps : List Piece) → IsLawful n ps → IsLawful n (clean ps)
unfolding clean IsLawful
clean-lawful n [] l = tt
clean-lawful n (p ∷ ps) l = elim (is_over p) as (λ t. IsLawful n (if t then clean ps else p ∷ ps)) [ true ↦ clean-lawful n ps l.1.1 | false ↦ l ]

pub clean-starts : (ps : List Piece) → starts_over (clean ps) ≡ false
unfolding clean
clean-starts [] = refl
clean-starts (p ∷ ps) = elim (is_over p) as (λ t. is_over p ≡ t → starts_over (if t then clean ps else p ∷ ps) ≡ false) [ true ↦ λ t. clean-starts ps | false ↦ λ t. t ] refl

pub append-starts : (id : ℕ) (more : List ℕ) (ps : List Piece) → starts_over ps ≡ false → starts_over (at_place id (λ p. longer more p ∷ []) ps) ≡ false
unfolding at_place
append-starts id more [] e = refl
append-starts id more (p ∷ ps) e =
    elim (is_place id p) as (λ t. is_place id p ≡ t → starts_over (if t then longer more p ∷ ps else p ∷ at_place id (λ q. longer more q ∷ []) ps) ≡ false) [
      | true ↦ λ t. ap (λ g. not g && (length (p.bytes ++ more) == 0)) (place-node id p t).0
      | false ↦ λ t. e
    ] refl

-- the first piece loses its first bytes

pub shorter-bytes-own : (n : ℕ) (p : Piece) (ps : List Piece) → n ≤ length p.bytes → bytes_of p.node (shorter n (p ∷ ps)) ≡ drop n (bytes_of p.node (p ∷ ps))
unfolding shorter bytes_of
shorter-bytes-own n p ps h =
    let own : (p.node == p.node) ≡ true = eq-eqb p.node p.node refl in
    ap (λ u. if u then drop n p.bytes ++ bytes_of p.node ps else bytes_of p.node ps) own
    ∙ sym (drop-append-le n p.bytes (bytes_of p.node ps) h)
    ∙ sym (ap (λ u. drop n (if u then p.bytes ++ bytes_of p.node ps else bytes_of p.node ps)) own)

pub shorter-bytes-other : (n j : ℕ) (p : Piece) (ps : List Piece) → (p.node ≡ j → ⊥) → bytes_of j (shorter n (p ∷ ps)) ≡ bytes_of j (p ∷ ps)
unfolding shorter bytes_of
shorter-bytes-other n j p ps h =
    let other : (p.node == j) ≡ false = ne_eqb p.node j h in
    ap (λ u. if u then drop n p.bytes ++ bytes_of j ps else bytes_of j ps) other ∙ sym (ap (λ u. if u then p.bytes ++ bytes_of j ps else bytes_of j ps) other)

pub shorter-open : (n j : ℕ) (ps : List Piece) → is_open j (shorter n ps) ≡ is_open j ps
unfolding shorter is_open
shorter-open n j [] = refl
shorter-open n j (p ∷ ps) = refl

pub shorter-lawful : (n m : ℕ) (ps : List Piece) → IsLawful n ps → IsLawful n (shorter m ps)
unfolding shorter IsLawful
shorter-lawful n m [] l = l
shorter-lawful n m (p ∷ ps) l = l
