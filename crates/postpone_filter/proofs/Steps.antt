-- The steps on parts and buffers.
use Rattle.std.proofs.Common.{◌≡◌, ℕ, zero, suc, ◌+◌, ◌-◌, ◌<◌, ◌≤◌, min, true, false, ◌==◌, List, [], ◌∷◌, ◌++◌, length, get_or, take, drop, set, map, refl, sym, ap, subst, ◌∙◌, arith, length-append, length-drop, length-take, if◌then◌else◌}
use Rattle.std.proofs.lemmas.List.{take_at, map-set, map-append, take-map, get_or_read, get_or_default}
use Rattle.std.proofs.lemmas.Bool.{and_parts, eqb-true, eq-eqb}
use Rattle.std.specs.List.{insert}
use Rattle.postpone_filter.specs.declared.part.Part.{Part}
use Rattle.postpone_filter.specs.Row.{Piece, is_place, is_open, bytes_of, at_place, longer, closed, fresh, shorter, front_of, room, most, is_first}
use Rattle.postpone_filter.specs.Buffers.{Buffer, no_buffer, waiting_at, part_of, is_named, is_part_place, names, IsLawful, Shows, first_part_is}
use Rattle.postpone_filter.proofs.Places.{none_behind, place-node, place-open, at_place-set, at_place-split, insert-two}
use Rattle.postpone_filter.proofs.Ops.{append-bytes-other, append-bytes-own, append-open, append-lawful, end-bytes, end-open-other, end-open-own, end-lawful, child-bytes, child-open-other, child-open-own, child-lawful, again-lawful, shorter-bytes-own, shorter-bytes-other, shorter-open, shorter-lawful}
use Rattle.postpone_filter.proofs.Ties.{part-length, part-at, part-place, part-node, part-len, shows-change, shows-more}

abbrev none : Piece
none = record { node = 0; bytes = []; grows = false }

abbrev IsPlaceAt : ℕ → List Part → ℕ → Type 0
IsPlaceAt id parts i = (s : Part) → is_part_place id (get_or parts i s) ≡ true

pub id-within : (id : ℕ) (ps : List Piece) (parts : List Part) (buffers : List Buffer) (i : ℕ) → Shows ps parts buffers → i < length parts → IsPlaceAt id parts i → id < length buffers
id-within id ps parts buffers i w h e =
    let at = place-node id (get_or ps i none) (part-place id ps parts buffers i none w h e) in
    let d : Part = part_of none in
    let r : Part = get_or parts i d in
    let is : r ≡ part_of (get_or ps i none) = part-at ps parts buffers i r none w h (get_or_default parts i d r h) in
    let low : r.node < length buffers = part-node ps parts buffers i r w h (get_or_default parts i d r h) in
    omega (arith, low, ap (λ (z : Part). z.node) is, at.1)

part-id : (id : ℕ) (s : Part) → is_part_place id s ≡ true → s.node ≡ id
part-id id s e = eqb-true s.node id (and_parts s.grows (s.node == id) e).1

waiting-is : (ps : List Piece) (parts : List Part) (buffers : List Buffer) (id : ℕ) (b : Buffer) → Shows ps parts buffers → id < length buffers → b ≡ get_or buffers id b → b.waiting ≡ bytes_of id ps
waiting-is ps parts buffers id b w h e = ap (λ (z : Buffer). z.waiting) (get_or_read buffers id b h e no_buffer) ∙ w.waiting_are id

open-is : (ps : List Piece) (parts : List Part) (buffers : List Buffer) (id : ℕ) (b : Buffer) → Shows ps parts buffers → id < length buffers → b ≡ get_or buffers id b → b.goes_on ≡ is_open id ps
open-is ps parts buffers id b w h e = ap (λ (z : Buffer). z.goes_on) (get_or_read buffers id b h e no_buffer) ∙ w.open_are id

-- a part that changes as its piece does
changed-parts : (id : ℕ) (f : Piece → Piece) (ps : List Piece) (parts : List Part) (buffers : List Buffer) (i : ℕ) (r : Part) → Shows ps parts buffers → i < length parts → IsPlaceAt id parts i → r ≡ part_of (f (get_or ps i none)) → set parts i r ≡ map part_of (at_place id (λ p. f p ∷ []) ps)
changed-parts id f ps parts buffers i r w h e is =
    ap (λ z. set z i r) w.parts_are ∙ ap (set (map part_of ps) i) is ∙ sym (map-set part_of ps i (f (get_or ps i none)))
    ∙ ap (map part_of) (at_place-set (length buffers) id f ps i none (omega (arith, part-length ps parts buffers w, h)) w.lawful (part-place id ps parts buffers i none w h e))

open-place : (id : ℕ) (ps : List Piece) (parts : List Part) (buffers : List Buffer) (i : ℕ) → Shows ps parts buffers → i < length parts → IsPlaceAt id parts i → is_open id ps ≡ true
open-place id ps parts buffers i w h e = place-open id ps i none (omega (arith, part-length ps parts buffers w, h)) (part-place id ps parts buffers i none w h e)

pub part-open : (id : ℕ) (ps : List Piece) (parts : List Part) (buffers : List Buffer) (i : ℕ) → Shows ps parts buffers → i < length parts → ((s : Part) → is_part_place id (get_or parts i s) ≡ true) → is_open id ps ≡ true
part-open id ps parts buffers i w h e = open-place id ps parts buffers i w h e

pub shows-append : (id : ℕ) (ps : List Piece) (parts : List Part) (buffers : List Buffer) (i : ℕ) (r : Part) (b new : Buffer) (more : List ℕ) (n : ℕ)
    → Shows ps parts buffers → i < length parts → IsPlaceAt id parts i → r ≡ get_or parts i r → b ≡ get_or buffers id b
    → new.waiting ≡ b.waiting ++ more → new.goes_on ≡ b.goes_on → n ≡ length more
    → Shows (at_place id (λ p. longer more p ∷ []) ps) (set parts i (record { node = r.node; len = r.len + n; grows = r.grows })) (set buffers id new)
shows-append id ps parts buffers i r b new more n w h e at own waiting opened count =
    let low : id < length buffers = id-within id ps parts buffers i w h e in
    let q : Piece = get_or ps i none in
    let is : r ≡ part_of q = part-at ps parts buffers i r none w h at in
    let size : length q.bytes + n ≡ length (q.bytes ++ more) = omega (arith, length-append q.bytes more, count) in
    let part : (let s : Part = record { node = r.node; len = r.len + n; grows = r.grows } in s) ≡ part_of (longer more q) =
    ap (λ (z : Part). let s : Part = record { node = z.node; len = z.len + n; grows = z.grows } in s) is ∙ ap (λ k. let s : Part = record { node = q.node; len = k; grows = q.grows } in s) size in
    shows-change ps (at_place id (λ p. longer more p ∷ []) ps) parts _ buffers id new w low
    (changed-parts id (longer more) ps parts buffers i _ w h e part)
    (waiting ∙ ap (λ z. z ++ more) (waiting-is ps parts buffers id b w low own) ∙ sym (append-bytes-own (length buffers) id more ps w.lawful (open-place id ps parts buffers i w h e)))
    (opened ∙ open-is ps parts buffers id b w low own ∙ sym (append-open id id more ps))
    (λ j apart. append-bytes-other id j more ps apart) (λ j apart. append-open id j more ps) (append-lawful (length buffers) id more ps w.lawful)

pub shows-close : (id : ℕ) (ps : List Piece) (parts : List Part) (buffers : List Buffer) (i : ℕ) (r : Part) (b new : Buffer)
    → Shows ps parts buffers → i < length parts → IsPlaceAt id parts i → r ≡ get_or parts i r → b ≡ get_or buffers id b
    → new.waiting ≡ b.waiting → new.goes_on ≡ false
    → Shows (at_place id (λ p. closed p ∷ []) ps) (set parts i (record { node = r.node; len = r.len; grows = false })) (set buffers id new)
shows-close id ps parts buffers i r b new w h e at own waiting opened =
    let low : id < length buffers = id-within id ps parts buffers i w h e in
    let is : r ≡ part_of (get_or ps i none) = part-at ps parts buffers i r none w h at in
    shows-change ps (at_place id (λ p. closed p ∷ []) ps) parts _ buffers id new w low
    (changed-parts id closed ps parts buffers i _ w h e (ap (λ (z : Part). let s : Part = record { node = z.node; len = z.len; grows = false } in s) is))
    (waiting ∙ waiting-is ps parts buffers id b w low own ∙ sym (end-bytes id id ps))
    (opened ∙ sym (end-open-own (length buffers) id ps w.lawful))
    (λ j apart. end-bytes id j ps) (λ j apart. end-open-other id j ps apart) (end-lawful (length buffers) id ps w.lawful)

drop-map : (i : ℕ) (ps : List Piece) → map part_of (drop i ps) ≡ drop i (map part_of ps)
drop-map zero ps = refl
drop-map (suc i) [] = refl
drop-map (suc i) (p ∷ ps) = drop-map i ps

-- a place and two more in the place of one
put-two : (id child : ℕ) (ps : List Piece) (parts : List Part) (buffers : List Buffer) (i : ℕ) (r : Part)
    → Shows ps parts buffers → i < length parts → IsPlaceAt id parts i → r ≡ get_or parts i r
    → insert (insert (set parts i (record { node = r.node; len = r.len; grows = false })) (i + 1) (part_of (fresh child))) (i + 2) (part_of (fresh id)) ≡ map part_of (at_place id (λ p. closed p ∷ fresh child ∷ fresh id ∷ []) ps)
put-two id child ps parts buffers i r w h e at =
    let inside : i < length ps = omega (arith, part-length ps parts buffers w, h) in
    let q : Piece = get_or ps i none in
    let place : is_place id q ≡ true = part-place id ps parts buffers i none w h e in
    let is : r ≡ part_of q = part-at ps parts buffers i r none w h at in
    let f : Piece → List Piece = λ p. closed p ∷ fresh child ∷ fresh id ∷ [] in
    let part : (let s : Part = record { node = r.node; len = r.len; grows = false } in s) ≡ part_of (closed q) = ap (λ (z : Part). let s : Part = record { node = z.node; len = z.len; grows = false } in s) is in
    insert-two parts i (i + 1) (i + 2) _ (part_of (fresh child)) (part_of (fresh id)) (omega arith) (omega arith) h
    ∙ ap (λ (z : Part). take i parts ++ (z ∷ part_of (fresh child) ∷ part_of (fresh id) ∷ drop (suc i) parts)) part
    ∙ ap (λ z. take i z ++ (part_of (closed q) ∷ part_of (fresh child) ∷ part_of (fresh id) ∷ drop (suc i) z)) w.parts_are
    ∙ ap (λ z. z ++ (part_of (closed q) ∷ part_of (fresh child) ∷ part_of (fresh id) ∷ drop (suc i) (map part_of ps))) (take-map part_of i ps)
    ∙ ap (λ z. map part_of (take i ps) ++ (part_of (closed q) ∷ part_of (fresh child) ∷ part_of (fresh id) ∷ z)) (sym (drop-map (suc i) ps))
    ∙ sym (map-append part_of (take i ps) (closed q ∷ fresh child ∷ fresh id ∷ drop (suc i) ps))
    ∙ ap (map part_of) (sym (at_place-split (length buffers) id f ps i none inside w.lawful place))

pub shows-child : (id child : ℕ) (ps : List Piece) (parts : List Part) (buffers : List Buffer) (i : ℕ) (r : Part) (new : Buffer)
    → Shows ps parts buffers → i < length parts → IsPlaceAt id parts i → r ≡ get_or parts i r
    → new.waiting ≡ [] → new.goes_on ≡ true → child ≡ length buffers
    → Shows (at_place id (λ p. closed p ∷ fresh child ∷ fresh id ∷ []) ps) (insert (insert (set parts i (record { node = r.node; len = r.len; grows = false })) (i + 1) (part_of (fresh child))) (i + 2) (part_of (fresh id))) (buffers ++ new ∷ [])
shows-child id child ps parts buffers i r new w h e at waiting opened number =
    let f : Piece → List Piece = λ p. closed p ∷ fresh child ∷ fresh id ∷ [] in
    let is_new : is_open (length buffers) (at_place id f ps) ≡ true = ap (λ k. is_open k (at_place id f ps)) (sym number) ∙ child-open-own id child ps (open-place id ps parts buffers i w h e) in
    let lawful : IsLawful (length buffers + 1) (at_place id f ps) =
    subst (λ k. IsLawful (length buffers + 1) (at_place id (λ p. closed p ∷ fresh k ∷ fresh id ∷ []) ps)) (sym number) (child-lawful (length buffers) id ps w.lawful) in
    shows-more ps (at_place id f ps) parts _ buffers new w (put-two id child ps parts buffers i r w h e at) waiting opened is_new
    (λ j. child-bytes id child j ps) (λ j apart. child-open-other id child j ps (λ v. apart (sym number ∙ v))) lawful

-- a node goes on again
names-map : (id : ℕ) (ps : List Piece) → is_named id (map part_of ps) ≡ names id ps
unfolding is_named names
names-map id [] = refl
names-map id (p ∷ ps) = ap (λ z. if p.node == id then true else z) (names-map id ps)

pub shows-again : (id child : ℕ) (ps : List Piece) (parts : List Part) (buffers : List Buffer) (i : ℕ) (r : Part) (b new : Buffer)
    → Shows ps parts buffers → i < length parts → IsPlaceAt id parts i → r ≡ get_or parts i r → child < length buffers → b ≡ get_or buffers child b
    → new.waiting ≡ b.waiting → new.goes_on ≡ true → is_open child ps ≡ false → is_named child (drop i parts) ≡ false
    → Shows (at_place id (λ p. closed p ∷ fresh child ∷ fresh id ∷ []) ps) (insert (insert (set parts i (record { node = r.node; len = r.len; grows = false })) (i + 1) (part_of (fresh child))) (i + 2) (part_of (fresh id))) (set buffers child new)
shows-again id child ps parts buffers i r b new w h e at low own waiting opened over unnamed =
    let inside : i < length ps = omega (arith, part-length ps parts buffers w, h) in
    let place : is_place id (get_or ps i none) ≡ true = part-place id ps parts buffers i none w h e in
    let f : Piece → List Piece = λ p. closed p ∷ fresh child ∷ fresh id ∷ [] in
    let is : is_open id ps ≡ true = open-place id ps parts buffers i w h e in
    let apart : child ≡ id → ⊥ = λ v. clash (sym over ∙ ap (λ k. is_open k ps) v ∙ is) in
    let none_left : names child (drop i ps) ≡ false = sym (names-map child (drop i ps)) ∙ ap (is_named child) (drop-map i ps ∙ ap (drop i) (sym w.parts_are)) ∙ unnamed in
    shows-change ps (at_place id f ps) parts _ buffers child new w low
    (put-two id child ps parts buffers i r w h e at)
    (waiting ∙ waiting-is ps parts buffers child b w low own ∙ sym (child-bytes id child child ps))
    (opened ∙ sym (child-open-own id child ps is))
    (λ j other. child-bytes id child j ps) (λ j other. child-open-other id child j ps other)
    (again-lawful (length buffers) id child ps low over (none_behind (length buffers) child id ps i none inside w.lawful place none_left) apart w.lawful)
  where
    clash : {A : Type 0} → false ≡ true → A
    clash u = cc

first-is : (p : Piece) (ps : List Piece) (parts : List Part) (buffers : List Buffer) (r : Part) → Shows (p ∷ ps) parts buffers → r ≡ get_or parts 0 r → r ≡ part_of p
first-is p ps parts buffers r w at = at ∙ ap (λ z. get_or z 0 r) w.parts_are

shorter-parts : (count : ℕ) (p : Piece) (ps : List Piece) (parts : List Part) (r : Part) → parts ≡ map part_of (p ∷ ps) → r ≡ part_of p → count ≤ length p.bytes → set parts 0 (record { node = r.node; len = r.len - count; grows = r.grows }) ≡ map part_of (shorter count (p ∷ ps))
unfolding shorter
shorter-parts count p ps parts r e is fits =
    ap (λ z. set z 0 (record { node = r.node; len = r.len - count; grows = r.grows })) e
    ∙ ap (λ (z : Part). let s : Part = record { node = z.node; len = z.len - count; grows = z.grows } in s ∷ map part_of ps) is
    ∙ ap (λ k. let s : Part = record { node = p.node; len = k; grows = p.grows } in s ∷ map part_of ps) (sym (length-drop count p.bytes))

within : (p : Piece) (ps : List Piece) (count : ℕ) → count ≤ length (front_of (p ∷ ps)) → count ≤ length p.bytes
unfolding front_of
within p ps count fits = fits

first_used : (p : Piece) (ps : List Piece) (parts : List Part) (buffers : List Buffer) (r : Part) (b new : Buffer) (count : ℕ)
    → Shows (p ∷ ps) parts buffers → 0 < length parts → r ≡ get_or parts 0 r → b ≡ get_or buffers r.node b
    → count ≤ length p.bytes → new.waiting ≡ drop count b.waiting → new.goes_on ≡ b.goes_on
    → Shows (shorter count (p ∷ ps)) (set parts 0 (record { node = r.node; len = r.len - count; grows = r.grows })) (set buffers r.node new)
first_used p ps parts buffers r b new count w h at own fits waiting opened =
    let is : r ≡ part_of p = first-is p ps parts buffers r w at in
    let node : r.node ≡ p.node = ap (λ (z : Part). z.node) is in
    let low : r.node < length buffers = part-node (p ∷ ps) parts buffers 0 r w h at in
    shows-change (p ∷ ps) (shorter count (p ∷ ps)) parts _ buffers r.node new w low
    (shorter-parts count p ps parts r w.parts_are is fits)
    (waiting ∙ ap (drop count) (waiting-is (p ∷ ps) parts buffers r.node b w low own ∙ ap (λ k. bytes_of k (p ∷ ps)) node) ∙ sym (shorter-bytes-own count p ps fits) ∙ ap (λ k. bytes_of k (shorter count (p ∷ ps))) (sym node))
    (opened ∙ open-is (p ∷ ps) parts buffers r.node b w low own ∙ sym (shorter-open count r.node (p ∷ ps)))
    (λ j apart. shorter-bytes-other count j p ps (λ v. apart (node ∙ v)))
    (λ j apart. shorter-open count j (p ∷ ps))
    (shorter-lawful (length buffers) count (p ∷ ps) w.lawful)

pub shows-used : (ps : List Piece) (parts : List Part) (buffers : List Buffer) (r : Part) (b new : Buffer) (count : ℕ)
    → Shows ps parts buffers → 0 < length parts → r ≡ get_or parts 0 r → b ≡ get_or buffers r.node b
    → count ≤ length (front_of ps) → new.waiting ≡ drop count b.waiting → new.goes_on ≡ b.goes_on
    → Shows (shorter count ps) (set parts 0 (record { node = r.node; len = r.len - count; grows = r.grows })) (set buffers r.node new)
shows-used [] parts buffers r b new count w h at own fits waiting opened = absurd (omega (arith, part-length [] parts buffers w, h))
shows-used (p ∷ ps) parts buffers r b new count w h at own fits waiting opened = first_used p ps parts buffers r b new count w h at own (within p ps count fits) waiting opened

pub front-fits : (ps : List Piece) (parts : List Part) (buffers : List Buffer) (r : Part) (count : ℕ) → Shows ps parts buffers → 0 < length parts → r ≡ get_or parts 0 r → count ≤ length (front_of ps) → count ≤ r.len
unfolding front_of
front-fits [] parts buffers r count w h at fits = absurd (omega (arith, part-length [] parts buffers w, h))
front-fits (p ∷ ps) parts buffers r count w h at fits = omega (arith, ap (λ (z : Part). z.len) (first-is p ps parts buffers r w at), fits)

pub front-bytes : (ps : List Piece) (parts : List Part) (buffers : List Buffer) (r : Part) (b : Buffer) → Shows ps parts buffers → 0 < length parts → r ≡ get_or parts 0 r → r.node < length buffers → b ≡ get_or buffers r.node b → take r.len b.waiting ≡ front_of ps
unfolding front_of bytes_of
front-bytes [] parts buffers r b w h at low own = absurd (omega (arith, part-length [] parts buffers w, h))
front-bytes (p ∷ ps) parts buffers r b w h at low own =
    let is : r ≡ part_of p = first-is p ps parts buffers r w at in
    ap (take r.len) (waiting-is (p ∷ ps) parts buffers r.node b w low own)
    ∙ ap (λ (z : Part). take z.len (bytes_of z.node (p ∷ ps))) is
    ∙ ap (λ t. take (length p.bytes) (if t then p.bytes ++ bytes_of p.node ps else bytes_of p.node ps)) (eq-eqb p.node p.node refl)
    ∙ take_at p.bytes (bytes_of p.node ps) (length p.bytes) refl

pub front-none : (ps : List Piece) (parts : List Part) (buffers : List Buffer) → Shows ps parts buffers → length parts ≡ 0 → [] ≡ front_of ps
unfolding front_of
front-none [] parts buffers w h = refl
front-none (p ∷ ps) parts buffers w h = absurd (omega (arith, part-length (p ∷ ps) parts buffers w, h))

pub shorter-none : (n : ℕ) (ps : List Piece) (parts : List Part) (buffers : List Buffer) → Shows ps parts buffers → length parts ≡ 0 → ps ≡ shorter n ps
unfolding shorter
shorter-none n [] parts buffers w h = refl
shorter-none n (p ∷ ps) parts buffers w h = absurd (omega (arith, part-length (p ∷ ps) parts buffers w, h))

pub first-node : (id : ℕ) (ps : List Piece) (parts : List Part) (buffers : List Buffer) → Shows ps parts buffers → first_part_is id parts ≡ is_first id ps
unfolding is_first
first-node id [] parts buffers w = ap (first_part_is id) w.parts_are
first-node id (p ∷ ps) parts buffers w = ap (first_part_is id) w.parts_are

pub append-count : (id len n : ℕ) (ps : List Piece) (parts : List Part) (buffers : List Buffer) (i : ℕ) (b : Buffer) → Shows ps parts buffers → i < length parts → IsPlaceAt id parts i → b ≡ get_or buffers id b → n ≡ (if b.goes_on then min len (most - length b.waiting) else 0) → n ≡ min len (room id ps)
append-count id len n ps parts buffers i b w h e own is =
    let low : id < length buffers = id-within id ps parts buffers i w h e in
    let opened : is_open id ps ≡ true = open-place id ps parts buffers i w h e in
    is ∙ ap (λ g. if g then min len (most - length b.waiting) else 0) (open-is ps parts buffers id b w low own ∙ opened)
    ∙ ap (λ z. min len (most - length z)) (waiting-is ps parts buffers id b w low own)
    ∙ ap (λ g. min len (if g then most - length (bytes_of id ps) else 0)) (sym opened)

pub append-fits : (id n : ℕ) (ps : List Piece) (parts : List Part) (buffers : List Buffer) (i : ℕ) (r : Part) (b : Buffer) (waiting more : List ℕ) → Shows ps parts buffers → i < length parts → IsPlaceAt id parts i → r ≡ get_or parts i r → b ≡ get_or buffers id b → waiting ≡ b.waiting ++ more → n ≡ length more → r.len + n ≤ length waiting
append-fits id n ps parts buffers i r b waiting more w h e at own is count =
    let low : id < length buffers = id-within id ps parts buffers i w h e in
    let node : r.node ≡ id = part-id id r (ap (is_part_place id) at ∙ e r) in
    let len : r.len ≤ length (waiting_at buffers r.node) = part-len ps parts buffers i r w h at in
    let same : waiting_at buffers r.node ≡ b.waiting = ap (waiting_at buffers) node ∙ sym (ap (λ (z : Buffer). z.waiting) (get_or_read buffers id b low own no_buffer)) in
    omega (arith, len, ap length same, ap length is, length-append b.waiting more, count)

pub used-fits : (ps : List Piece) (parts : List Part) (buffers : List Buffer) (r : Part) (b : Buffer) (count : ℕ) → Shows ps parts buffers → 0 < length parts → r ≡ get_or parts 0 r → b ≡ get_or buffers r.node b → count ≤ length (front_of ps) → count ≤ length b.waiting
used-fits ps parts buffers r b count w h at own fits =
    let low : r.node < length buffers = part-node ps parts buffers 0 r w h at in
    let len : r.len ≤ length (waiting_at buffers r.node) = part-len ps parts buffers 0 r w h at in
    let same : waiting_at buffers r.node ≡ b.waiting = sym (ap (λ (z : Buffer). z.waiting) (get_or_read buffers r.node b low own no_buffer)) in
    omega (arith, len, ap length same, front-fits ps parts buffers r count w h at fits)

pub taken : (n room : ℕ) (bytes : List ℕ) → n ≡ min (length bytes) room → n ≡ length (take n bytes)
taken n room bytes e = omega (arith, length-take n bytes, e)

pub front-part : (ps : List Piece) (parts : List Part) (buffers : List Buffer) (r : Part) (b : Buffer) → Shows ps parts buffers → 0 < length parts → r ≡ get_or parts 0 r → b ≡ get_or buffers r.node b → r.len ≤ length b.waiting
front-part ps parts buffers r b w h at own =
    let low : r.node < length buffers = part-node ps parts buffers 0 r w h at in
    let len : r.len ≤ length (waiting_at buffers r.node) = part-len ps parts buffers 0 r w h at in
    let same : waiting_at buffers r.node ≡ b.waiting = sym (ap (λ (z : Buffer). z.waiting) (get_or_read buffers r.node b low own no_buffer)) in
    omega (arith, len, ap length same)

pub none-long : (n : ℕ) → (0 < n → false ≡ true) → n ≡ 0
none-long zero h = refl
none-long (suc n) h = let bad : false ≡ true = h (omega arith) in cc

pub child-put : (id child : ℕ) (ps : List Piece) (parts : List Part) (buffers : List Buffer) (i : ℕ) (r : Part) (new : Buffer) (one two : Part) (first second : List Part) (more : List Buffer)
    → Shows ps parts buffers → i < length parts → IsPlaceAt id parts i → r ≡ get_or parts i r
    → new.waiting ≡ [] → new.goes_on ≡ true → child ≡ length buffers → one ≡ part_of (fresh child) → two ≡ part_of (fresh id)
    → first ≡ insert (set parts i (record { node = r.node; len = r.len; grows = false })) (i + 1) one → second ≡ insert first (i + 2) two → more ≡ buffers ++ new ∷ []
    → Shows (at_place id (λ p. closed p ∷ fresh child ∷ fresh id ∷ []) ps) second more
child-put id child ps parts buffers i r new one two first second more w h e at waiting opened number a b f g m =
    let cut_part : Part = record { node = r.node; len = r.len; grows = false } in
    let rows : second ≡ insert (insert (set parts i cut_part) (i + 1) (part_of (fresh child))) (i + 2) (part_of (fresh id)) =
    g ∙ ap (λ z. insert z (i + 2) two) (f ∙ ap (insert (set parts i cut_part) (i + 1)) a) ∙ ap (insert (insert (set parts i cut_part) (i + 1) (part_of (fresh child))) (i + 2)) b in
    subst (λ z. Shows (at_place id (λ p. closed p ∷ fresh child ∷ fresh id ∷ []) ps) z more) (sym rows)
    (subst (λ z. Shows (at_place id (λ p. closed p ∷ fresh child ∷ fresh id ∷ []) ps) (insert (insert (set parts i cut_part) (i + 1) (part_of (fresh child))) (i + 2) (part_of (fresh id))) z) (sym m)
    (shows-child id child ps parts buffers i r new w h e at waiting opened number))

pub again-put : (id child : ℕ) (ps : List Piece) (parts : List Part) (buffers : List Buffer) (i : ℕ) (r : Part) (b new : Buffer) (one two : Part) (first second : List Part) (more : List Buffer)
    → Shows ps parts buffers → i < length parts → IsPlaceAt id parts i → r ≡ get_or parts i r → child < length buffers → b ≡ get_or buffers child b
    → new.waiting ≡ b.waiting → new.goes_on ≡ true → is_open child ps ≡ false → is_named child (drop i parts) ≡ false → one ≡ part_of (fresh child) → two ≡ part_of (fresh id)
    → first ≡ insert (set parts i (record { node = r.node; len = r.len; grows = false })) (i + 1) one → second ≡ insert first (i + 2) two → more ≡ set buffers child new
    → Shows (at_place id (λ p. closed p ∷ fresh child ∷ fresh id ∷ []) ps) second more
again-put id child ps parts buffers i r b new one two first second more w h e at low own waiting opened over unnamed a c f g m =
    let cut_part : Part = record { node = r.node; len = r.len; grows = false } in
    let rows : second ≡ insert (insert (set parts i cut_part) (i + 1) (part_of (fresh child))) (i + 2) (part_of (fresh id)) =
    g ∙ ap (λ z. insert z (i + 2) two) (f ∙ ap (insert (set parts i cut_part) (i + 1)) a) ∙ ap (insert (insert (set parts i cut_part) (i + 1) (part_of (fresh child))) (i + 2)) c in
    subst (λ z. Shows (at_place id (λ p. closed p ∷ fresh child ∷ fresh id ∷ []) ps) z more) (sym rows)
    (subst (λ z. Shows (at_place id (λ p. closed p ∷ fresh child ∷ fresh id ∷ []) ps) (insert (insert (set parts i cut_part) (i + 1) (part_of (fresh child))) (i + 2) (part_of (fresh id))) z) (sym m)
    (shows-again id child ps parts buffers i r b new w h e at low own waiting opened over unnamed))
