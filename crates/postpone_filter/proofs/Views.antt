-- What the calls do to the row that contracts see.
use Rattle.std.proofs.Common.{◌≡◌, ℕ, zero, suc, ◌+◌, ◌<◌, true, false, ◌&&◌, ◌==◌, List, [], ◌∷◌, ◌++◌, length, get_or, take, set, Option, Some, None, IfSome, refl, sym, ap, subst, ◌∙◌, arith, not, if◌then◌else◌}
use Rattle.std.proofs.lemmas.List.{set-get_or}
use Rattle.std.proofs.lemmas.Bool.{eqb-true, eq-eqb, ne_eqb}
use Rattle.postpone_filter.specs.declared.part.Part.{Part}
use Rattle.postpone_filter.specs.Row.{Piece, Row, is_open, bytes_of, at_place, longer, closed, fresh, clean, front_of, FirstGives, begun, appended, with_child, reopened, ended, used}
use Rattle.postpone_filter.specs.Buffers.{Buffer, waiting_at, open_at, part_of, is_part_place, pieces_of, IsLawful, Shows, AreTied, clean_parts, starts_over}
use Rattle.postpone_filter.specs.Runs.{filled, giving}
use Rattle.postpone_filter.proofs.Places.{at_place-none}
use Rattle.postpone_filter.proofs.Ops.{clean-starts, append-starts, clean-open, append-open, end-open-own, end-open-other, child-open-own, child-open-other, shorter-open}
use Rattle.postpone_filter.proofs.Ties.{shows-tied, shows-pieces, shows-clean}
use Rattle.postpone_filter.proofs.Steps.{part-open}
use Rattle.postpone_filter.proofs.Orders.{filled-append, filled-child, filled-end, filled-used, filled-clean, begun-lawful}

abbrev row_of : List Part → List Buffer → Row
row_of parts buffers = record { pieces = pieces_of parts buffers; nodes = length buffers }

abbrev IsSound : List Part → List Buffer → Type 0
IsSound parts buffers = AreTied parts buffers × (starts_over (pieces_of parts buffers) ≡ false)

abbrev row : List Piece → ℕ → Row
row pieces nodes = record { pieces = pieces; nodes = nodes }

cleaned : (parts new : List Part) (buffers : List Buffer) → AreTied parts buffers → new ≡ clean_parts parts → Shows (clean (pieces_of parts buffers)) new buffers
cleaned parts new buffers w e = subst (λ z. Shows (clean (pieces_of parts buffers)) z buffers) (sym e) (shows-clean (pieces_of parts buffers) parts buffers w)

pub sound-clean : (parts new : List Part) (buffers : List Buffer) → AreTied parts buffers → new ≡ clean_parts parts → IsSound new buffers
sound-clean parts new buffers w e =
    let shows = cleaned parts new buffers w e in
    (shows-tied _ new buffers shows, subst (λ z. starts_over z ≡ false) (sym (shows-pieces _ new buffers shows)) (clean-starts (pieces_of parts buffers)))

clean-same : (ps : List Piece) → starts_over ps ≡ false → ps ≡ clean ps
unfolding clean
clean-same [] e = refl
clean-same (p ∷ ps) e = sym (ap (λ t. if t then clean ps else p ∷ ps) e)

-- a change and a cleaning
pub view-changed : (change : List Piece → List Piece) (old : Row) (parts mid new : List Part) (buffers seen left : List Buffer) (nodes : ℕ)
    → row_of parts buffers ≡ old → seen ≡ buffers → AreTied mid left → pieces_of mid left ≡ change (pieces_of parts seen) → new ≡ clean_parts mid → length left ≡ nodes
    → row_of new left ≡ row (clean (change old.pieces)) nodes
view-changed change old parts mid new buffers seen left nodes v same w e is count =
    ap (λ z. row z (length left)) (shows-pieces _ new left (cleaned mid new left w is) ∙ ap clean (e ∙ ap (λ z. change (pieces_of parts z)) same ∙ ap (λ (z : Row). change z.pieces) v))
    ∙ ap (row (clean (change old.pieces))) count

-- a change
pub view-put : (change : List Piece → List Piece) (old : Row) (parts mid : List Part) (buffers seen left : List Buffer)
    → row_of parts buffers ≡ old → seen ≡ buffers → pieces_of mid left ≡ change (pieces_of parts seen) → length left ≡ length seen
    → row_of mid left ≡ row (change old.pieces) old.nodes
view-put change old parts mid buffers seen left v same e count =
    ap (λ z. row z (length left)) (e ∙ ap (λ z. change (pieces_of parts z)) same ∙ ap (λ (z : Row). change z.pieces) v)
    ∙ ap (row (change old.pieces)) (count ∙ ap length same ∙ ap (λ (z : Row). z.nodes) v)

pub view-count : (old : Row) (parts : List Part) (buffers seen left : List Buffer) → row_of parts buffers ≡ old → seen ≡ buffers → length left ≡ length seen → length left ≡ old.nodes
view-count old parts buffers seen left v same e = e ∙ ap length same ∙ ap (λ (z : Row). z.nodes) v

-- no change
pub view-same : (old : Row) (parts : List Part) (buffers seen : List Buffer) → row_of parts buffers ≡ old → seen ≡ buffers → row_of parts seen ≡ old
view-same old parts buffers seen v same = ap (row_of parts) same ∙ v

sound-row : (old : Row) (parts : List Part) (buffers : List Buffer) → row_of parts buffers ≡ old → IsSound parts buffers → starts_over old.pieces ≡ false
sound-row old parts buffers v s = subst (λ (z : Row). starts_over z.pieces ≡ false) v s.1

pub closed-append : (id : ℕ) (old : Row) (parts : List Part) (buffers : List Buffer) → row_of parts buffers ≡ old → is_open id (pieces_of parts buffers) ≡ false → old ≡ appended id [] old
closed-append id old parts buffers v e = ap (λ z. row z old.nodes) (at_place-none id (λ p. longer [] p ∷ []) old.pieces (subst (λ (z : Row). is_open id z.pieces ≡ false) v e))

pub closed-end : (id : ℕ) (old : Row) (parts : List Part) (buffers : List Buffer) → row_of parts buffers ≡ old → IsSound parts buffers → is_open id (pieces_of parts buffers) ≡ false → old ≡ ended id old
closed-end id old parts buffers v s e =
    ap (λ z. row z old.nodes) (clean-same old.pieces (sound-row old parts buffers v s) ∙ ap clean (at_place-none id (λ p. closed p ∷ []) old.pieces (subst (λ (z : Row). is_open id z.pieces ≡ false) v e)))

pub sound-append : (id : ℕ) (more : List ℕ) (parts mid : List Part) (buffers seen left : List Buffer) → IsSound parts buffers → seen ≡ buffers → AreTied mid left → pieces_of mid left ≡ at_place id (λ p. longer more p ∷ []) (pieces_of parts seen) → IsSound mid left
sound-append id more parts mid buffers seen left s same w e =
    (w, subst (λ z. starts_over z ≡ false) (sym (e ∙ ap (λ z. at_place id (λ p. longer more p ∷ []) (pieces_of parts z)) same)) (append-starts id more (pieces_of parts buffers) s.1))

-- the same of a text that is given back where it isn't taken over
pub sound-taken : {A : Type 0} (P : A → Type 0) (id : ℕ) (more : List ℕ) (given : Option A) (parts mid : List Part) (buffers seen left : List Buffer)
    → IsSound parts buffers → seen ≡ buffers → AreTied mid left
    → (given ≡ None → pieces_of mid left ≡ at_place id (λ p. longer more p ∷ []) (pieces_of parts seen))
    → IfSome given (λ text. P text × ((mid ≡ parts) × (left ≡ seen))) → IsSound mid left
sound-taken P id more None parts mid buffers seen left s same w taken given = sound-append id more parts mid buffers seen left s same w (taken refl)
sound-taken P id more (Some text) parts mid buffers seen left s same w taken given =
    (w, ap (λ (x : List Part). starts_over (pieces_of x left)) given.1.0 ∙ (ap (λ (x : List Buffer). starts_over (pieces_of parts x)) (given.1.1 ∙ same) ∙ s.1))

pub row-lawful : (old : Row) (parts : List Part) (buffers : List Buffer) → row_of parts buffers ≡ old → IsSound parts buffers → IsLawful old.nodes old.pieces
row-lawful old parts buffers v s = subst (λ (z : Row). IsLawful z.nodes z.pieces) v s.0.lawful

pub order-append : (id : ℕ) (more : List ℕ) (old new : Row) → IsLawful old.nodes old.pieces → new ≡ appended id more old → (gives : ℕ → List ℕ) → filled (giving id (λ text. more ++ text) gives) old.pieces ≡ filled gives new.pieces
order-append id more old new l e gives = filled-append old.nodes id more gives old.pieces l ∙ ap (λ (z : Row). filled gives z.pieces) (sym e)

pub order-child : (parent : ℕ) (old new : Row) → IsLawful old.nodes old.pieces → new ≡ with_child parent old → (gives : ℕ → List ℕ) → filled (giving parent (λ text. gives old.nodes ++ text) gives) old.pieces ≡ filled gives new.pieces
order-child parent old new l e gives = filled-child old.nodes parent old.nodes gives old.pieces l ∙ sym (filled-clean gives _) ∙ ap (λ (z : Row). filled gives z.pieces) (sym e)

pub order-end : (id : ℕ) (old new : Row) → IsLawful old.nodes old.pieces → new ≡ ended id old → (gives : ℕ → List ℕ) → filled (giving id (λ _. []) gives) old.pieces ≡ filled gives new.pieces
order-end id old new l e gives = filled-end old.nodes id gives old.pieces l ∙ sym (filled-clean gives _) ∙ ap (λ (z : Row). filled gives z.pieces) (sym e)

pub order-used : (count : ℕ) (old new : Row) → new ≡ used count old → (gives : ℕ → List ℕ) → filled gives old.pieces ≡ take count (front_of old.pieces) ++ filled gives new.pieces
order-used count old new e gives = filled-used count gives old.pieces ∙ ap (λ (z : Row). take count (front_of old.pieces) ++ filled gives z.pieces) (sym e)

first_gives : (ps : List Piece) → starts_over ps ≡ false → FirstGives ps
unfolding FirstGives
first_gives [] e = tt
first_gives (p ∷ ps) e = λ h. elim p.grows as (λ g. (not g && (length p.bytes == 0)) ≡ false → g ≡ true) [ true ↦ λ _. refl | false ↦ λ w. let bad : (length p.bytes == 0) ≡ true = eq-eqb (length p.bytes) 0 h in cc ] e

pub first-gives : (old : Row) (parts : List Part) (buffers : List Buffer) → row_of parts buffers ≡ old → IsSound parts buffers → FirstGives old.pieces
first-gives old parts buffers v s = first_gives old.pieces (sound-row old parts buffers v s)

-- a node
pub node-waiting : (id : ℕ) (old : Row) (parts : List Part) (buffers : List Buffer) → row_of parts buffers ≡ old → AreTied parts buffers → waiting_at buffers id ≡ bytes_of id old.pieces
node-waiting id old parts buffers v w = w.waiting_are id ∙ ap (λ (z : Row). bytes_of id z.pieces) v

pub node-open : (id : ℕ) (old : Row) (parts : List Part) (buffers : List Buffer) → row_of parts buffers ≡ old → AreTied parts buffers → open_at buffers id ≡ is_open id old.pieces
node-open id old parts buffers v w = w.open_are id ∙ ap (λ (z : Row). is_open id z.pieces) v

one_waiting : (j : ℕ) → waiting_at (record { waiting = []; goes_on = true } ∷ []) j ≡ bytes_of j (fresh 0 ∷ [])
unfolding bytes_of
one_waiting zero = refl
one_waiting (suc j) = elim (0 == suc j) as (λ t. [] ≡ (if t then ◌++◌ {A = ℕ} [] [] else [])) [ true ↦ refl | false ↦ refl ]

one_open : (j : ℕ) → open_at (record { waiting = []; goes_on = true } ∷ []) j ≡ is_open j (fresh 0 ∷ [])
unfolding is_open
one_open zero = refl
one_open (suc j) = sym (ap (λ t. if t then true else false) (ne_eqb 0 (suc j) (λ e. absurd (omega arith))))

pub begun-shows : Shows (fresh 0 ∷ []) (part_of (fresh 0) ∷ []) (record { waiting = []; goes_on = true } ∷ [])
unfolding bytes_of is_open
begun-shows = record {
  parts_are = refl;
  waiting_are = λ j. one_waiting j;
  open_are = λ j. one_open j;
  lawful = begun-lawful;
}

pub back : (nodes : List Buffer) (id : ℕ) (b c : Buffer) → b ≡ get_or nodes id b → c ≡ b → set nodes id c ≡ nodes
back nodes id b c e is = ap (set nodes id) (is ∙ e) ∙ set-get_or nodes id b

pub begun-sound : (parts : List Part) (buffers : List Buffer) (s : Part) (b : Buffer) → parts ≡ s ∷ [] → buffers ≡ b ∷ [] → s ≡ part_of (fresh 0) → b.waiting ≡ [] → b.goes_on ≡ true → IsSound parts buffers × (row_of parts buffers ≡ begun)
begun-sound parts buffers s b e f is waiting opened =
    let first : parts ≡ part_of (fresh 0) ∷ [] = e ∙ ap (λ (z : Part). z ∷ []) is in
    let second : buffers ≡ record { waiting = []; goes_on = true } ∷ [] = f ∙ ap (λ z. let c : Buffer = record { waiting = z; goes_on = b.goes_on } in c ∷ []) waiting ∙ ap (λ z. let c : Buffer = record { waiting = []; goes_on = z } in c ∷ []) opened in
    let at_first : Shows (fresh 0 ∷ []) parts (record { waiting = []; goes_on = true } ∷ []) = subst (λ z. Shows (fresh 0 ∷ []) z (record { waiting = []; goes_on = true } ∷ [])) (sym first) begun-shows in
    let shows : Shows (fresh 0 ∷ []) parts buffers = subst (λ z. Shows (fresh 0 ∷ []) parts z) (sym second) at_first in (
      (shows-tied _ parts buffers shows, subst (λ z. starts_over z ≡ false) (sym (shows-pieces _ parts buffers shows)) refl),
      ap (λ z. row z (length buffers)) (shows-pieces _ parts buffers shows) ∙ ap (λ z. row (fresh 0 ∷ []) (length z)) second,
    )

pub child-view : (parent child : ℕ) (old : Row) (parts got mid new : List Part) (buffers seen left : List Buffer)
    → row_of parts buffers ≡ old → got ≡ parts → seen ≡ buffers → child ≡ length buffers → AreTied mid left
    → pieces_of mid left ≡ at_place parent (λ p. closed p ∷ fresh child ∷ fresh parent ∷ []) (pieces_of got seen) → length left ≡ length seen + 1 → new ≡ clean_parts mid
    → row_of new left ≡ with_child parent old
child-view parent child old parts got mid new buffers seen left v same_parts same number w e count is =
    view-changed (at_place parent (λ p. closed p ∷ fresh child ∷ fresh parent ∷ [])) old parts mid new buffers seen left (old.nodes + 1) v same w
    (e ∙ ap (λ z. at_place parent (λ p. closed p ∷ fresh child ∷ fresh parent ∷ []) (pieces_of z seen)) same_parts) is
    (count ∙ ap (λ n. n + 1) (ap length same ∙ ap (λ (z : Row). z.nodes) v))
    ∙ ap (λ n. row (clean (at_place parent (λ p. closed p ∷ fresh n ∷ fresh parent ∷ []) old.pieces)) (old.nodes + 1)) (number ∙ ap (λ (z : Row). z.nodes) v)

pub again-view : (parent id : ℕ) (old : Row) (parts got mid new : List Part) (buffers seen left : List Buffer)
    → row_of parts buffers ≡ old → got ≡ parts → seen ≡ buffers → AreTied mid left
    → pieces_of mid left ≡ at_place parent (λ p. closed p ∷ fresh id ∷ fresh parent ∷ []) (pieces_of got seen) → length left ≡ length seen → new ≡ clean_parts mid
    → row_of new left ≡ reopened parent id old
again-view parent id old parts got mid new buffers seen left v same_parts same w e count is =
    view-changed (at_place parent (λ p. closed p ∷ fresh id ∷ fresh parent ∷ [])) old parts mid new buffers seen left old.nodes v same w
    (e ∙ ap (λ z. at_place parent (λ p. closed p ∷ fresh id ∷ fresh parent ∷ []) (pieces_of z seen)) same_parts) is
    (view-count old parts buffers seen left v same count)

pub order-again : (parent id : ℕ) (old new : Row) → IsLawful old.nodes old.pieces → new ≡ reopened parent id old → (gives : ℕ → List ℕ) → filled (giving parent (λ text. gives id ++ text) gives) old.pieces ≡ filled gives new.pieces
order-again parent id old new l e gives = filled-child old.nodes parent id gives old.pieces l ∙ sym (filled-clean gives _) ∙ ap (λ (z : Row). filled gives z.pieces) (sym e)

-- which nodes have not ended

at_new : (j : ℕ) (old new : Row) (ps : List Piece) → new.pieces ≡ clean ps → is_open j new.pieces ≡ is_open j ps
at_new j old new ps e = ap (is_open j) e ∙ clean-open j ps

pub open-append : (id : ℕ) (more : List ℕ) (old new : Row) → new ≡ appended id more old → (j : ℕ) → is_open j new.pieces ≡ is_open j old.pieces
open-append id more old new e j = ap (λ (z : Row). is_open j z.pieces) e ∙ append-open id j more old.pieces

pub open-child : (parent : ℕ) (old new : Row) → is_open parent old.pieces ≡ true → new ≡ with_child parent old → (j : ℕ) → is_open j new.pieces ≡ (if j == old.nodes then true else is_open j old.pieces)
open-child parent old new o e j =
    at_new j old new _ (ap (λ (z : Row). z.pieces) e)
    ∙ elim (j == old.nodes) as (λ t. (j == old.nodes) ≡ t → is_open j (at_place parent (λ p. closed p ∷ fresh old.nodes ∷ fresh parent ∷ []) old.pieces) ≡ (if t then true else is_open j old.pieces)) [
      | true ↦ λ t. ap (λ k. is_open k (at_place parent (λ p. closed p ∷ fresh old.nodes ∷ fresh parent ∷ []) old.pieces)) (eqb-true j old.nodes t) ∙ child-open-own parent old.nodes old.pieces o
      | false ↦ λ t. child-open-other parent old.nodes j old.pieces (λ v. let bad : (j == old.nodes) ≡ true = eq-eqb j old.nodes (sym v) in cc)
    ] refl

-- a node of which a part is the place has not ended
pub seen-open : (id : ℕ) (old : Row) (parts got : List Part) (buffers seen : List Buffer) (i : ℕ)
    → row_of parts buffers ≡ old → IsSound parts buffers → got ≡ parts → seen ≡ buffers → i < length got → ((s : Part) → is_part_place id (get_or got i s) ≡ true) → is_open id old.pieces ≡ true
seen-open id old parts got buffers seen i v s same_parts same h e =
    sym (ap (λ (z : Row). is_open id z.pieces) v)
    ∙ part-open id (pieces_of parts buffers) parts buffers i s.0 (subst (λ z. i < length z) same_parts h) (λ d. sym (ap (λ z. is_part_place id (get_or z i d)) same_parts) ∙ e d)

pub open-again : (parent id : ℕ) (old new : Row) → is_open parent old.pieces ≡ true → new ≡ reopened parent id old → (j : ℕ) → is_open j new.pieces ≡ (if j == id then true else is_open j old.pieces)
open-again parent id old new o e j =
    at_new j old new _ (ap (λ (z : Row). z.pieces) e)
    ∙ elim (j == id) as (λ t. (j == id) ≡ t → is_open j (at_place parent (λ p. closed p ∷ fresh id ∷ fresh parent ∷ []) old.pieces) ≡ (if t then true else is_open j old.pieces)) [
      | true ↦ λ t. ap (λ k. is_open k (at_place parent (λ p. closed p ∷ fresh id ∷ fresh parent ∷ []) old.pieces)) (eqb-true j id t) ∙ child-open-own parent id old.pieces o
      | false ↦ λ t. child-open-other parent id j old.pieces (λ v. let bad : (j == id) ≡ true = eq-eqb j id (sym v) in cc)
    ] refl

pub open-end : (id : ℕ) (old new : Row) → IsLawful old.nodes old.pieces → new ≡ ended id old → (j : ℕ) → is_open j new.pieces ≡ (if j == id then false else is_open j old.pieces)
open-end id old new l e j =
    at_new j old new _ (ap (λ (z : Row). z.pieces) e)
    ∙ elim (j == id) as (λ t. (j == id) ≡ t → is_open j (at_place id (λ p. closed p ∷ []) old.pieces) ≡ (if t then false else is_open j old.pieces)) [
      | true ↦ λ t. ap (λ k. is_open k (at_place id (λ p. closed p ∷ []) old.pieces)) (eqb-true j id t) ∙ end-open-own old.nodes id old.pieces l
      | false ↦ λ t. end-open-other id j old.pieces (λ v. let bad : (j == id) ≡ true = eq-eqb j id (sym v) in cc)
    ] refl

pub open-used : (count : ℕ) (old new : Row) → new ≡ used count old → (j : ℕ) → is_open j new.pieces ≡ is_open j old.pieces
open-used count old new e j = at_new j old new _ (ap (λ (z : Row). z.pieces) e) ∙ shorter-open count j old.pieces
