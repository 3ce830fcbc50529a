-- The parts on their own.
use Rattle.std.proofs.Common.{◌≡◌, ℕ, ◌+◌, ◌<◌, ◌≤◌, true, false, ◌==◌, List, [], ◌∷◌, length, get_or, drop, refl, sym, ap, ◌∙◌, if◌then◌else◌}
use Rattle.std.proofs.lemmas.List.{drop_more, drop_all}
use Rattle.postpone_filter.specs.declared.part.Part.{Part}
use Rattle.postpone_filter.specs.Buffers.{is_part_place, has_place, is_named, clean_parts, parts_start_over}

pub has_place-past : (id : ℕ) (ss : List Part) (i : ℕ) → length ss ≤ i → has_place id (drop i ss) ≡ false
unfolding has_place
has_place-past id ss i h = ap (has_place id) (drop_all i ss h)

has_place-cons : (id : ℕ) (s : Part) (ss : List Part) → has_place id (s ∷ ss) ≡ (if is_part_place id s then true else has_place id ss)
unfolding has_place
has_place-cons id s ss = refl

pub has_place-on : (id : ℕ) (ss : List Part) (i : ℕ) (d : Part) → i < length ss → is_part_place id (get_or ss i d) ≡ false → has_place id (drop i ss) ≡ has_place id (drop (i + 1) ss)
has_place-on id ss i d h e = ap (has_place id) (drop_more ss i d h) ∙ has_place-cons id (get_or ss i d) (drop (i + 1) ss) ∙ ap (λ t. if t then true else has_place id (drop (i + 1) ss)) e

pub is_named-past : (id : ℕ) (ss : List Part) (i : ℕ) → length ss ≤ i → is_named id (drop i ss) ≡ false
unfolding is_named
is_named-past id ss i h = ap (is_named id) (drop_all i ss h)

is_named-cons : (id : ℕ) (s : Part) (ss : List Part) → is_named id (s ∷ ss) ≡ (if s.node == id then true else is_named id ss)
unfolding is_named
is_named-cons id s ss = refl

pub is_named-on : (id : ℕ) (ss : List Part) (i : ℕ) (d : Part) → i < length ss → ((get_or ss i d).node == id) ≡ false → is_named id (drop i ss) ≡ is_named id (drop (i + 1) ss)
is_named-on id ss i d h e = ap (is_named id) (drop_more ss i d h) ∙ is_named-cons id (get_or ss i d) (drop (i + 1) ss) ∙ ap (λ t. if t then true else is_named id (drop (i + 1) ss)) e

pub clean_parts-over : (ss : List Part) → parts_start_over ss ≡ true → clean_parts (drop 1 ss) ≡ clean_parts ss
unfolding clean_parts
clean_parts-over [] e = cc
clean_parts-over (s ∷ ss) e = sym (ap (λ t. if t then clean_parts ss else s ∷ ss) e)

pub clean_parts-done : (ss : List Part) → parts_start_over ss ≡ false → ss ≡ clean_parts ss
unfolding clean_parts
clean_parts-done [] e = refl
clean_parts-done (s ∷ ss) e = sym (ap (λ t. if t then clean_parts ss else s ∷ ss) e)
