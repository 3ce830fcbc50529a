-- Values, byte after byte.
use Rattle.std.proofs.Common.{◌≡◌, ℕ, suc, ◌+◌, ◌<◌, ◌≤◌, Bool, true, false, not, ◌||◌, eqb, leb, ltb, List, [], ◌∷◌, ◌++◌, length, drop, get_or, drop-cons, append_assoc, append-nil, add-one, refl, sym, ap, ◌∙◌, arith}
use Rattle.std.specs.List.{list_all}
use Rattle.std.proofs.lemmas.Bool.{and_parts, and_from, ltb-true, ne_eqb}
use Rattle.std.proofs.lemmas.List.{drop_all}
use Rattle.httparse.specs.Grammar.{is_value_byte}
use Rattle.resp_head.specs.Values.{value_byte, value_text, is_printable, is_visible, location_byte, location_text}

pub value_text_cons : (b : ℕ) (bs : List ℕ) → value_text (b ∷ bs) ≡ value_byte b ∷ value_text bs
unfolding value_text
value_text_cons b bs = refl

pub value_text_nil : value_text [] ≡ []
unfolding value_text
value_text_nil = refl

pub location_text_cons : (b : ℕ) (bs : List ℕ) → location_text (b ∷ bs) ≡ location_byte b ++ location_text bs
unfolding location_text
location_text_cons b bs = refl

pub location_text_nil : location_text [] ≡ []
unfolding location_text
location_text_nil = refl

printable_value : (b : ℕ) → is_printable b ≡ true → is_value_byte b ≡ true
printable_value b e =
    let parts = and_parts (leb 32 b) (ltb b 127) e in
    let high : b < 127 = ltb-true b 127 parts.1 in
    let other : eqb b 127 ≡ false = ne_eqb b 127 (λ is. absurd (omega (arith, is, high))) in
    ap (λ t. eqb b 9 || t) (and_from (leb 32 b) (not (eqb b 127)) parts.0 (ap not other)) ∙ either (eqb b 9)
  where
    either : (t : Bool) → (t || true) ≡ true
    either true = refl
    either false = refl

value_byte_same : (b : ℕ) → is_printable b ≡ true → value_byte b ≡ b
unfolding value_byte
value_byte_same b e = rw (printable_value b e) refl

location_byte_same : (b : ℕ) → is_visible b ≡ true → location_byte b ≡ b ∷ []
unfolding location_byte
location_byte_same b e = rw e refl

-- a text without such bytes stands for itself
pub value_text_same : (bs : List ℕ) → list_all is_printable bs ≡ true → value_text bs ≡ bs
value_text_same [] e = value_text_nil
value_text_same (b ∷ bs) e =
    let parts = and_parts (is_printable b) (list_all is_printable bs) e in
    value_text_cons b bs ∙ rw (value_byte_same b parts.0, value_text_same bs parts.1) refl

pub location_text_same : (bs : List ℕ) → list_all is_visible bs ≡ true → location_text bs ≡ bs
location_text_same [] e = location_text_nil
location_text_same (b ∷ bs) e =
    let parts = and_parts (is_visible b) (list_all is_visible bs) e in
    location_text_cons b bs ∙ rw (location_byte_same b parts.0, location_text_same bs parts.1) refl

-- a byte more
pub value_more : (bs out next : List ℕ) (i d : ℕ) → i < length bs → next ≡ out ++ value_byte (get_or bs i d) ∷ [] → next ++ value_text (drop (i + 1) bs) ≡ out ++ value_text (drop i bs)
value_more bs out next i d h e = rw (e, drop-cons bs i d h, value_text_cons (get_or bs i d) (drop (suc i) bs), add-one i) (append_assoc out (value_byte (get_or bs i d) ∷ []) (value_text (drop (suc i) bs)))

pub location_more : (bs out next : List ℕ) (i d : ℕ) → i < length bs → next ≡ out ++ location_byte (get_or bs i d) → next ++ location_text (drop (i + 1) bs) ≡ out ++ location_text (drop i bs)
location_more bs out next i d h e = rw (e, drop-cons bs i d h, location_text_cons (get_or bs i d) (drop (suc i) bs), add-one i) (append_assoc out (location_byte (get_or bs i d)) (location_text (drop (suc i) bs)))

-- no byte more
pub value_done : (bs out : List ℕ) (i : ℕ) → length bs ≤ i → out ≡ out ++ value_text (drop i bs)
value_done bs out i h = rw (drop_all i bs h, value_text_nil) (sym (append-nil out))

pub location_done : (bs out : List ℕ) (i : ℕ) → length bs ≤ i → out ≡ out ++ location_text (drop i bs)
location_done bs out i h = rw (drop_all i bs h, location_text_nil) (sym (append-nil out))
