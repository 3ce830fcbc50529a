-- The text of a path as segments end.
use Rattle.std.proofs.Common.{◌≡◌, ◌≢◌, inl, inr, ℕ, ◌+◌, ◌-◌, ◌<◌, ◌≤◌, zero, suc, ◌&&◌, ◌==◌, Bool, true, false, not, cond, List, [], ◌∷◌, ◌++◌, None, length, get_or, take, drop, refl, sym, ap, ◌∙◌, arith, append_assoc, append-nil, length-append}
use Rattle.std.proofs.lemmas.Bool.{and_parts, and_from, not-true, eq-eqb, both_ways, cases_order}
use Rattle.std.proofs.lemmas.List.{take_at, drop_at, get_or_append_left, get_or_at, get_or-append_right}
use Rattle.uri_text.specs.declared.segment.Segment.{Segment}
use Rattle.uri_text.specs.declared.segment.Segment.TheVariants.{Empty, Dot, Dots, Name}
use Rattle.uri_text.specs.Target.{kind_of, entered, spelled}
use Rattle.uri_text.specs.Steps.{has_no_slash, have_no_slash, Stands, SpellsAll}

no_slash_at : (f : List ℕ) (j : ℕ) → has_no_slash f ≡ true → j < length f → get_or f j 0 ≡ 47 → ⊥
no_slash_at [] j free inside is = absurd (omega arith)
no_slash_at (b ∷ f) zero free inside is = both_ways _ (not-true _ (and_parts (not (b == 47)) (has_no_slash f) free).0) (eq-eqb b 47 is)
no_slash_at (b ∷ f) (suc j) free inside is = no_slash_at f j (and_parts (not (b == 47)) (has_no_slash f) free).1 (omega arith) is

-- such a text ends in a slash
spelled-end : (kept : List (List ℕ)) → (front : List ℕ) × (spelled kept ≡ front ++ 47 ∷ [])
unfolding spelled
spelled-end [] = ([], refl)
spelled-end (f ∷ kept) = (spelled kept ++ f, sym (append_assoc (spelled kept) f (47 ∷ [])))

spelled-folder : (f : List ℕ) (kept : List (List ℕ)) → spelled (f ∷ kept) ≡ spelled kept ++ (f ++ 47 ∷ [])
unfolding spelled
spelled-folder f kept = refl

spelled-root : length (spelled []) ≡ 1
unfolding spelled
spelled-root = refl

spelled-some : (kept : List (List ℕ)) → 0 < length (spelled kept)
spelled-some kept = let e = spelled-end kept in omega (arith, ap length e.1, length-append e.0 (47 ∷ []))

spelled-last : (kept : List (List ℕ)) (n : ℕ) → n + 1 ≡ length (spelled kept) → get_or (spelled kept) n 0 ≡ 47
spelled-last kept n is =
    let e = spelled-end kept in
    ap (λ t. get_or t n 0) e.1 ∙ get_or_at e.0 47 [] 0 n (omega (arith, ap length e.1, length-append e.0 (47 ∷ [])))

pub last_is : (f : List ℕ) (kept : List (List ℕ)) (text : List ℕ) (at : ℕ) → have_no_slash (f ∷ kept) ≡ true → text ≡ spelled (f ∷ kept) → 0 < at → at < length text → ((k : ℕ) → at ≤ k → k + 1 < length text → get_or text k 0 ≢ 47) → (1 < at → get_or text (at - 1) 0 ≡ 47) → at ≡ length (spelled kept)
last_is f kept text at free is some inside none stop =
    let n = length (spelled kept) in
    let text_is : text ≡ spelled kept ++ (f ++ 47 ∷ []) = is ∙ spelled-folder f kept in
    let long : length text ≡ n + (length f + 1) = ap length text_is ∙ length-append (spelled kept) (f ++ 47 ∷ []) ∙ ap (λ m. n + m) (length-append f (47 ∷ [])) in
    let before : (n - 1) + 1 ≡ n = omega (arith, spelled-some kept) in
    elim (cases_order at n) [
      | inl same ↦ same
      | inr (inl below) ↦ absurd (none (n - 1) (omega arith) (omega arith) (ap (λ t. get_or t (n - 1) 0) text_is ∙ get_or_append_left (spelled kept) (f ++ 47 ∷ []) 0 (n - 1) (omega arith) ∙ spelled-last kept (n - 1) before))
      | inr (inr above) ↦ absurd (no_slash_at f (at - 1 - n) (and_parts (has_no_slash f) (have_no_slash kept) free).0 (omega arith)
          (sym (ap (λ t. get_or t (at - 1) 0) text_is ∙ get_or-append_right (spelled kept) (f ++ 47 ∷ []) n (at - 1) 0 refl (omega arith) ∙ get_or_append_left f (47 ∷ []) 0 (at - 1 - n) (omega arith)) ∙ stop (omega (arith, spelled-some kept))))
    ]

-- ---- one segment

taken : (kept : List (List ℕ)) (segment text : List ℕ) (start : ℕ) → Stands kept segment text start → take start text ≡ spelled kept
taken kept segment text start s = ap (take start) s.spells ∙ take_at (spelled kept) segment start (sym s.starts)

left : (kept : List (List ℕ)) (segment text : List ℕ) (start : ℕ) → Stands kept segment text start → drop start text ≡ segment
left kept segment text start s = ap (drop start) s.spells ∙ drop_at (spelled kept) segment start (sym s.starts)

-- a segment's kind from the text
pub kind_left : (kept : List (List ℕ)) (segment text : List ℕ) (start : ℕ) (kind : Segment) → Stands kept segment text start → kind ≡ kind_of (drop start text) → kind_of segment ≡ kind
kind_left kept segment text start kind s is = sym (ap kind_of (left kept segment text start s)) ∙ sym is

pub start_within : (kept : List (List ℕ)) (segment text : List ℕ) (start : ℕ) → Stands kept segment text start → start ≤ length text
start_within kept segment text start s = omega (arith, s.starts, ap length s.spells, length-append (spelled kept) segment)

stays : (kept : List (List ℕ)) (text : List ℕ) (start : ℕ) → text ≡ spelled kept → start ≡ length (spelled kept) → have_no_slash kept ≡ true → Stands kept [] text start
stays kept text start is starts free = record { spells = is ∙ sym (append-nil (spelled kept)); starts = starts; folders_free = free; segment_free = refl }

pub enter-dot : (merge : Bool) (kept : List (List ℕ)) (segment text : List ℕ) (start : ℕ) → Stands kept segment text start → Dot ≡ kind_of (drop start text) → SpellsAll (entered merge (kind_of segment) segment kept) (take start text) start
enter-dot merge kept segment text start s is =
    rw (kind_left kept segment text start Dot s is) (stays kept (take start text) start (taken kept segment text start s) s.starts s.folders_free)

pub enter-above : (merge : Bool) (kept : List (List ℕ)) (segment text : List ℕ) (start : ℕ) → Stands kept segment text start → Dots ≡ kind_of (drop start text) → start ≤ 1 → entered merge (kind_of segment) segment kept ≡ None
enter-above merge [] segment text start s is low = rw (kind_left [] segment text start Dots s is) refl
enter-above merge (f ∷ kept) segment text start s is low =
    absurd (omega (arith, s.starts, ap length (spelled-folder f kept), length-append (spelled kept) (f ++ 47 ∷ []), length-append f (47 ∷ []), spelled-some kept))

pub enter-up : (merge : Bool) (kept : List (List ℕ)) (segment text : List ℕ) (start up : ℕ) → Stands kept segment text start → Dots ≡ kind_of (drop start text) → 1 < start → ((f : List ℕ) (kept' : List (List ℕ)) → have_no_slash (f ∷ kept') ≡ true → take start text ≡ spelled (f ∷ kept') → up ≡ length (spelled kept')) → SpellsAll (entered merge (kind_of segment) segment kept) (take up text) up
enter-up merge [] segment text start up s is high find = absurd (omega (arith, s.starts, spelled-root))
enter-up merge (f ∷ kept) segment text start up s is high find =
    let up_is : up ≡ length (spelled kept) = find f kept s.folders_free (taken (f ∷ kept) segment text start s) in
    let text_is : text ≡ spelled kept ++ ((f ++ 47 ∷ []) ++ segment) = s.spells ∙ ap (λ t. t ++ segment) (spelled-folder f kept) ∙ append_assoc (spelled kept) (f ++ 47 ∷ []) segment in
    rw (kind_left (f ∷ kept) segment text start Dots s is)
    (stays kept (take up text) up (ap (take up) text_is ∙ take_at (spelled kept) _ up (sym up_is)) up_is (and_parts (has_no_slash f) (have_no_slash kept) s.folders_free).1)

empty-is : (segment : List ℕ) → kind_of segment ≡ Empty → segment ≡ []
unfolding kind_of
empty-is [] is = refl
empty-is (b ∷ []) is = elim (b == 46) as (λ t. cond t Dot Name ≡ Empty → b ∷ [] ≡ []) [ true ↦ λ e. cc | false ↦ λ e. cc ] is
empty-is (b ∷ c ∷ []) is = elim ((b == 46) && (c == 46)) as (λ t. cond t Dots Name ≡ Empty → b ∷ c ∷ [] ≡ []) [ true ↦ λ e. cc | false ↦ λ e. cc ] is
empty-is (b ∷ c ∷ d ∷ more) is = cc

pub enter-merged : (merge : Bool) (kept : List (List ℕ)) (segment text : List ℕ) (start : ℕ) → Stands kept segment text start → Empty ≡ kind_of (drop start text) → merge ≡ true → SpellsAll (entered merge (kind_of segment) segment kept) text start
enter-merged merge kept segment text start s is merges =
    let kind = kind_left kept segment text start Empty s is in
    rw (kind, merges) (stays kept text start (s.spells ∙ ap (λ t. spelled kept ++ t) (empty-is segment kind) ∙ append-nil (spelled kept)) s.starts s.folders_free)

pushed : (kept : List (List ℕ)) (segment text new : List ℕ) (start at : ℕ) → Stands kept segment text start → new ≡ text ++ 47 ∷ [] → at ≡ length new → Stands (segment ∷ kept) [] new at
pushed kept segment text new start at s new_is is =
    let text_is : new ≡ spelled (segment ∷ kept) = new_is ∙ ap (λ t. t ++ 47 ∷ []) s.spells ∙ append_assoc (spelled kept) segment (47 ∷ []) ∙ sym (spelled-folder segment kept) in
    stays (segment ∷ kept) new at text_is (is ∙ ap length text_is) (and_from _ _ s.segment_free s.folders_free)

pub enter-name : (merge : Bool) (kept : List (List ℕ)) (segment text new : List ℕ) (start at : ℕ) → Stands kept segment text start → Name ≡ kind_of (drop start text) → new ≡ text ++ 47 ∷ [] → at ≡ length new → SpellsAll (entered merge (kind_of segment) segment kept) new at
enter-name merge kept segment text new start at s is new_is at_is =
    rw (kind_left kept segment text start Name s is) (pushed kept segment text new start at s new_is at_is)

pub enter-empty : (merge : Bool) (kept : List (List ℕ)) (segment text new : List ℕ) (start at : ℕ) → Stands kept segment text start → Empty ≡ kind_of (drop start text) → merge ≡ false → new ≡ text ++ 47 ∷ [] → at ≡ length new → SpellsAll (entered merge (kind_of segment) segment kept) new at
enter-empty merge kept segment text new start at s is merges new_is at_is =
    rw (kind_left kept segment text start Empty s is, merges) (pushed kept segment text new start at s new_is at_is)
