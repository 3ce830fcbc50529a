-- What is done to the parts and the buffers is done to the row.
use Rattle.std.proofs.Common.{◌≡◌, ℕ, zero, suc, ◌+◌, ◌<◌, ◌≤◌, true, false, ◌&&◌, ◌==◌, List, [], ◌∷◌, ◌++◌, length, get_or, take, drop, set, map, refl, sym, ap, subst, ◌∙◌, arith, length-append, not, if◌then◌else◌}
use Rattle.std.proofs.lemmas.List.{take_at, drop_at, length-map, length-set, get_or-map, get_or-set_same, get_or-set_other, get_or_at}
use Rattle.std.proofs.lemmas.Bool.{eqb-true, eq-eqb}
use Rattle.postpone_filter.specs.declared.part.Part.{Part}
use Rattle.postpone_filter.specs.Row.{Piece, is_place, is_open, bytes_of, clean}
use Rattle.postpone_filter.specs.Buffers.{Buffer, no_buffer, waiting_at, open_at, part_of, is_part_place, cut, shown, pieces_of, IsLawful, Shows, AreTied, has_place, clean_parts}
use Rattle.postpone_filter.proofs.Ops.{clean-bytes, clean-open, clean-lawful}

shown-of : (ps : List Piece) (waiting : ℕ → List ℕ) → ((j : ℕ) → waiting j ≡ bytes_of j ps) → shown (map part_of ps) waiting ≡ ps
unfolding shown bytes_of
shown-of [] waiting e = refl
shown-of (p ∷ ps) waiting e =
    let own : waiting p.node ≡ p.bytes ++ bytes_of p.node ps = e p.node ∙ ap (λ t. if t then p.bytes ++ bytes_of p.node ps else bytes_of p.node ps) (eq-eqb p.node p.node refl) in
    let bytes : take (length p.bytes) (waiting p.node) ≡ p.bytes = ap (take (length p.bytes)) own ∙ take_at p.bytes (bytes_of p.node ps) (length p.bytes) refl in
    ap (λ z. let q : Piece = record { node = p.node; bytes = z; grows = p.grows } in q ∷ shown (map part_of ps) (cut (part_of p) waiting)) bytes
    ∙ ap (λ z. p ∷ z) (shown-of ps (cut (part_of p) waiting) (λ j.
    elim (p.node == j) as (λ t. (p.node == j) ≡ t → (if t then drop (length p.bytes) (waiting j) else waiting j) ≡ bytes_of j ps) [
      | true ↦ λ t. ap (drop (length p.bytes)) (e j ∙ ap (λ u. if u then p.bytes ++ bytes_of j ps else bytes_of j ps) t) ∙ drop_at p.bytes (bytes_of j ps) (length p.bytes) refl
      | false ↦ λ t. e j ∙ ap (λ u. if u then p.bytes ++ bytes_of j ps else bytes_of j ps) t
    ] refl))

pub shows-pieces : (ps : List Piece) (parts : List Part) (buffers : List Buffer) → Shows ps parts buffers → pieces_of parts buffers ≡ ps
shows-pieces ps parts buffers s = ap (λ z. shown z (waiting_at buffers)) s.parts_are ∙ shown-of ps (waiting_at buffers) s.waiting_are

pub shows-tied : (ps : List Piece) (parts : List Part) (buffers : List Buffer) → Shows ps parts buffers → AreTied parts buffers
shows-tied ps parts buffers s = subst (λ z. Shows z parts buffers) (sym (shows-pieces ps parts buffers s)) s

-- of a part
pub part-length : (ps : List Piece) (parts : List Part) (buffers : List Buffer) → Shows ps parts buffers → length parts ≡ length ps
part-length ps parts buffers s = ap length s.parts_are ∙ length-map ps part_of

pub part-at : (ps : List Piece) (parts : List Part) (buffers : List Buffer) (i : ℕ) (s : Part) (d : Piece) → Shows ps parts buffers → i < length parts → s ≡ get_or parts i s → s ≡ part_of (get_or ps i d)
part-at ps parts buffers i s d w h e =
    e ∙ ap (λ z. get_or z i s) w.parts_are ∙ get_or-map part_of ps i d s (omega (arith, part-length ps parts buffers w, h))

pub part-place : (id : ℕ) (ps : List Piece) (parts : List Part) (buffers : List Buffer) (i : ℕ) (d : Piece) → Shows ps parts buffers → i < length parts → ((s : Part) → is_part_place id (get_or parts i s) ≡ true) → is_place id (get_or ps i d) ≡ true
part-place id ps parts buffers i d w h e =
    ap (is_part_place id) (sym (get_or-map part_of ps i d (part_of d) (omega (arith, part-length ps parts buffers w, h))) ∙ sym (ap (λ z. get_or z i (part_of d)) w.parts_are)) ∙ e (part_of d)

node-within : (n : ℕ) (ps : List Piece) (i : ℕ) (d : Piece) → IsLawful n ps → i < length ps → (get_or ps i d).node < n
unfolding IsLawful
node-within n [] i d l h = absurd (omega arith)
node-within n (p ∷ ps) zero d l h = l.0
node-within n (p ∷ ps) (suc i) d l h = node-within n ps i d l.1.1 (omega arith)

bytes-within : (ps : List Piece) (i : ℕ) (d : Piece) → i < length ps → length (get_or ps i d).bytes ≤ length (bytes_of (get_or ps i d).node ps)
unfolding bytes_of
bytes-within [] i d h = absurd (omega arith)
bytes-within (p ∷ ps) zero d h = subst (λ t. length p.bytes ≤ length (if t then p.bytes ++ bytes_of p.node ps else bytes_of p.node ps)) (sym (eq-eqb p.node p.node refl)) (omega (arith, length-append p.bytes (bytes_of p.node ps)))
bytes-within (p ∷ ps) (suc i) d h =
    let j = (get_or ps i d).node in
    let here : length (get_or ps i d).bytes ≤ length (bytes_of j ps) = bytes-within ps i d (omega arith) in
    elim (p.node == j) as (λ t. length (get_or ps i d).bytes ≤ length (if t then p.bytes ++ bytes_of j ps else bytes_of j ps)) [
      | true ↦ omega (arith, here, length-append p.bytes (bytes_of j ps))
      | false ↦ here
    ]

pub part-node : (ps : List Piece) (parts : List Part) (buffers : List Buffer) (i : ℕ) (s : Part) → Shows ps parts buffers → i < length parts → s ≡ get_or parts i s → s.node < length buffers
part-node ps parts buffers i s w h e =
    let d : Piece = record { node = 0; bytes = []; grows = false } in
    let at : s ≡ part_of (get_or ps i d) = part-at ps parts buffers i s d w h e in
    let low : (get_or ps i d).node < length buffers = node-within (length buffers) ps i d w.lawful (omega (arith, part-length ps parts buffers w, h)) in
    subst (λ n. n < length buffers) (sym (ap (λ (z : Part). z.node) at)) low

pub part-len : (ps : List Piece) (parts : List Part) (buffers : List Buffer) (i : ℕ) (s : Part) → Shows ps parts buffers → i < length parts → s ≡ get_or parts i s → s.len ≤ length (waiting_at buffers s.node)
part-len ps parts buffers i s w h e =
    let d : Piece = record { node = 0; bytes = []; grows = false } in
    let at : s ≡ part_of (get_or ps i d) = part-at ps parts buffers i s d w h e in
    let low : length (get_or ps i d).bytes ≤ length (bytes_of (get_or ps i d).node ps) = bytes-within ps i d (omega (arith, part-length ps parts buffers w, h)) in
    omega (arith, low, ap (λ (z : Part). z.len) at, ap length (ap (waiting_at buffers) (ap (λ (z : Part). z.node) at) ∙ w.waiting_are (get_or ps i d).node))

-- a buffer that changes
waiting-own : (buffers : List Buffer) (id : ℕ) (b : Buffer) → id < length buffers → waiting_at (set buffers id b) id ≡ b.waiting
waiting-own buffers id b h = ap (λ (z : Buffer). z.waiting) (get_or-set_same buffers id b no_buffer h)

open-own : (buffers : List Buffer) (id : ℕ) (b : Buffer) → id < length buffers → open_at (set buffers id b) id ≡ b.goes_on
open-own buffers id b h = ap (λ (z : Buffer). z.goes_on) (get_or-set_same buffers id b no_buffer h)

pub shows-change : (ps qs : List Piece) (parts new_parts : List Part) (buffers : List Buffer) (id : ℕ) (b : Buffer)
    → Shows ps parts buffers → id < length buffers → new_parts ≡ map part_of qs
    → b.waiting ≡ bytes_of id qs → b.goes_on ≡ is_open id qs
    → ((j : ℕ) → (id ≡ j → ⊥) → bytes_of j qs ≡ bytes_of j ps) → ((j : ℕ) → (id ≡ j → ⊥) → is_open j qs ≡ is_open j ps)
    → IsLawful (length buffers) qs → Shows qs new_parts (set buffers id b)
shows-change ps qs parts new_parts buffers id b w h e waiting opened others_waiting others_open l = record {
  parts_are = e;
  waiting_are = λ j. elim (id == j) as (λ t. (id == j) ≡ t → waiting_at (set buffers id b) j ≡ bytes_of j qs) [
    | true ↦ λ t. let same : id ≡ j = eqb-true id j t in ap (waiting_at (set buffers id b)) (sym same) ∙ waiting-own buffers id b h ∙ waiting ∙ ap (λ k. bytes_of k qs) same
    | false ↦ λ t. let apart : id ≡ j → ⊥ = λ v. let bad : (id == j) ≡ true = eq-eqb id j v in cc in
        ap (λ (z : Buffer). z.waiting) (get_or-set_other buffers id j b no_buffer (λ v. apart (sym v))) ∙ w.waiting_are j ∙ sym (others_waiting j apart)
  ] refl;
  open_are = λ j. elim (id == j) as (λ t. (id == j) ≡ t → open_at (set buffers id b) j ≡ is_open j qs) [
    | true ↦ λ t. let same : id ≡ j = eqb-true id j t in ap (open_at (set buffers id b)) (sym same) ∙ open-own buffers id b h ∙ opened ∙ ap (λ k. is_open k qs) same
    | false ↦ λ t. let apart : id ≡ j → ⊥ = λ v. let bad : (id == j) ≡ true = eq-eqb id j v in cc in
        ap (λ (z : Buffer). z.goes_on) (get_or-set_other buffers id j b no_buffer (λ v. apart (sym v))) ∙ w.open_are j ∙ sym (others_open j apart)
  ] refl;
  lawful = subst (λ n. IsLawful n qs) (sym (length-set buffers id b)) l;
}

-- one buffer more
waiting-more : (buffers : List Buffer) (b : Buffer) (j : ℕ) → b.waiting ≡ [] → waiting_at (buffers ++ b ∷ []) j ≡ waiting_at buffers j
waiting-more [] b zero e = e
waiting-more [] b (suc j) e = refl
waiting-more (c ∷ buffers) b zero e = refl
waiting-more (c ∷ buffers) b (suc j) e = waiting-more buffers b j e

open-more : (buffers : List Buffer) (b : Buffer) (j : ℕ) → (length buffers ≡ j → ⊥) → open_at (buffers ++ b ∷ []) j ≡ open_at buffers j
open-more [] b zero h = absurd (h refl)
open-more [] b (suc j) h = refl
open-more (c ∷ buffers) b zero h = refl
open-more (c ∷ buffers) b (suc j) h = open-more buffers b j (λ e. h (ap suc e))

pub shows-more : (ps qs : List Piece) (parts new_parts : List Part) (buffers : List Buffer) (b : Buffer)
    → Shows ps parts buffers → new_parts ≡ map part_of qs
    → b.waiting ≡ [] → b.goes_on ≡ true → is_open (length buffers) qs ≡ true
    → ((j : ℕ) → bytes_of j qs ≡ bytes_of j ps) → ((j : ℕ) → (length buffers ≡ j → ⊥) → is_open j qs ≡ is_open j ps)
    → IsLawful (length buffers + 1) qs → Shows qs new_parts (buffers ++ b ∷ [])
shows-more ps qs parts new_parts buffers b w e waiting opened is others_waiting others_open l = record {
  parts_are = e;
  waiting_are = λ j. waiting-more buffers b j waiting ∙ w.waiting_are j ∙ sym (others_waiting j);
  open_are = λ j. elim (length buffers == j) as (λ t. (length buffers == j) ≡ t → open_at (buffers ++ b ∷ []) j ≡ is_open j qs) [
    | true ↦ λ t. let same : length buffers ≡ j = eqb-true (length buffers) j t in
        ap (open_at (buffers ++ b ∷ [])) (sym same) ∙ ap (λ (z : Buffer). z.goes_on) (get_or_at buffers b [] no_buffer (length buffers) refl) ∙ opened ∙ sym is ∙ ap (λ k. is_open k qs) same
    | false ↦ λ t. let apart : length buffers ≡ j → ⊥ = λ v. let bad : (length buffers == j) ≡ true = eq-eqb (length buffers) j v in cc in
        open-more buffers b j apart ∙ w.open_are j ∙ sym (others_open j apart)
  ] refl;
  lawful = subst (λ n. IsLawful n qs) (sym (length-append buffers (b ∷ []))) l;
}

-- the first pieces that give nothing more are taken away
clean-map : (ps : List Piece) → clean_parts (map part_of ps) ≡ map part_of (clean ps)
unfolding clean clean_parts
clean-map [] = refl
clean-map (p ∷ ps) =
    elim p.grows as (λ g. (if (if g then false else length p.bytes == 0) then clean_parts (map part_of ps) else part_of p ∷ map part_of ps) ≡ map part_of (if not g && (length p.bytes == 0) then clean ps else p ∷ ps)) [
      | true ↦ refl
      | false ↦ elim (length p.bytes == 0) as (λ t. (if t then clean_parts (map part_of ps) else part_of p ∷ map part_of ps) ≡ map part_of (if t then clean ps else p ∷ ps)) [ true ↦ clean-map ps | false ↦ refl ]
    ]

pub shows-clean : (ps : List Piece) (parts : List Part) (buffers : List Buffer) → Shows ps parts buffers → Shows (clean ps) (clean_parts parts) buffers
shows-clean ps parts buffers w = record {
  parts_are = ap clean_parts w.parts_are ∙ clean-map ps;
  waiting_are = λ j. w.waiting_are j ∙ sym (clean-bytes j ps);
  open_are = λ j. w.open_are j ∙ sym (clean-open j ps);
  lawful = clean-lawful (length buffers) ps w.lawful;
}

-- where a node goes on
place-map : (id : ℕ) (ps : List Piece) → has_place id (map part_of ps) ≡ is_open id ps
unfolding has_place is_open
place-map id [] = refl
place-map id (p ∷ ps) = ap (λ z. if is_place id p then true else z) (place-map id ps)

pub shows-place : (id : ℕ) (ps : List Piece) (parts : List Part) (buffers : List Buffer) → Shows ps parts buffers → has_place id parts ≡ is_open id ps
shows-place id ps parts buffers w = ap (has_place id) w.parts_are ∙ place-map id ps
