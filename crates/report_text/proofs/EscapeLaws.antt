-- Escapes: how they are appended, that they are printable, and that they stand for what was escaped.
use Rattle.std.proofs.Common.{◌≡◌, ℕ, ◌+◌, ◌-◌, ◌*◌, ◌/◌, ◌%◌, ◌<◌, ◌≤◌, Bool, true, false, cond, eqb, ltb, List, [], ◌∷◌, ◌++◌, length, get_or, take, drop, Ok, Err, refl, ap, sym, ◌∙◌, arith, append_assoc, append-nil, length-drop}
use Rattle.std.specs.List.{list_all}
use Rattle.std.specs.Char.{digit_value}
use Rattle.std.specs.Fmt.{digit_glyph}
use Rattle.std.proofs.lemmas.Bool.{cond-true, cond-false, and_parts, and_from, lt-ltb, ltb-true}
use Rattle.std.proofs.lemmas.Bool.Decides.{nat_tests}
use Rattle.std.proofs.lemmas.List.{take_more, drop_more, take_all, get_or-drop}
use Rattle.std.proofs.lemmas.List.Folds.{list_all-append}
use Rattle.percent_encoding.specs.Percent.{percent_encode_byte}
use Rattle.replay_words.specs.declared.faults.FaultKind.TheVariants.{Escape}
use Rattle.replay_words.specs.Escapes.{is_hex, with_byte, unescaped, AreBytes}
use Rattle.report_text.specs.Escapes.{is_plain, escaped_byte, escaped}
use Rattle.report_text.specs.Laws.{is_printable}

pub escaped_nil : escaped [] ≡ []
unfolding escaped
escaped_nil = refl

escaped_cons : (b : ℕ) (bs : List ℕ) → escaped (b ∷ bs) ≡ escaped_byte b ++ escaped bs
unfolding escaped
escaped_cons b bs = refl

escaped_plain : (b : ℕ) (bs : List ℕ) → is_plain b ≡ true → escaped (b ∷ bs) ≡ b ∷ escaped bs
escaped_plain b bs h = escaped_cons b bs ∙ ap (λ t. t ++ escaped bs) (cond-true _ _ _ h)

escaped_other : (b : ℕ) (bs : List ℕ) → is_plain b ≡ false → escaped (b ∷ bs) ≡ percent_encode_byte b ++ escaped bs
escaped_other b bs h = escaped_cons b bs ∙ ap (λ t. t ++ escaped bs) (cond-false _ _ _ h)

-- appending

-- no byte is passed over yet
pub plain_none : (bs : List ℕ) → escaped bs ≡ take 0 bs ++ escaped (drop 0 bs)
plain_none bs = refl

-- one plain byte more
pub plain_more : (bs : List ℕ) (i d : ℕ) → i < length bs → is_plain (get_or bs i d) ≡ true → escaped bs ≡ take i bs ++ escaped (drop i bs) → escaped bs ≡ take (i + 1) bs ++ escaped (drop (i + 1) bs)
plain_more bs i d inside plain so_far =
    so_far
    ∙ ap (λ t. take i bs ++ t) (ap escaped (drop_more bs i d inside) ∙ escaped_plain (get_or bs i d) (drop (i + 1) bs) plain)
    ∙ sym (ap (λ t. t ++ escaped (drop (i + 1) bs)) (take_more bs i d inside) ∙ append_assoc (take i bs) (get_or bs i d ∷ []) (escaped (drop (i + 1) bs)))

-- the byte after the plain ones
next_of : (rest others : List ℕ) (n b : ℕ) → b ∷ others ≡ drop n rest → (n < length rest → is_plain (get_or rest n 0) ≡ false) → is_plain b ≡ false
next_of rest others n b behind next =
    let len : length rest - n ≡ length (b ∷ others) = sym (length-drop n rest) ∙ ap length (sym behind) in
    let inside : n < length rest = omega arith in
    let here : get_or rest n 0 ≡ b = ap (λ k. get_or rest k 0) (let e : n ≡ n + 0 = omega arith in e) ∙ sym (get_or-drop n rest 0 0) ∙ ap (λ t. get_or t 0 0) (sym behind) in
    sym (ap is_plain here) ∙ next inside

-- what comes after the first byte
others_of : (b : ℕ) (bs : List ℕ) → take (length (b ∷ bs) - 1) (drop 1 (b ∷ bs)) ≡ bs
others_of b bs = take_all (length (b ∷ bs) - 1) bs (omega arith)

-- a run of plain bytes, and the byte after it
pub run_more : (out plain more rest behind : List ℕ) (n : ℕ) → escaped rest ≡ take n rest ++ escaped (drop n rest) → (n < length rest → is_plain (get_or rest n 0) ≡ false) → plain ≡ out ++ take n rest → behind ≡ drop n rest → 1 ≤ length behind → more ≡ plain ++ percent_encode_byte (get_or behind 0 0) → more ++ escaped (take (length behind - 1) (drop 1 behind)) ≡ out ++ escaped rest
run_more out plain more rest [] n found next is behind some e = absurd (omega arith)
run_more out plain more rest (b ∷ others) n found next is behind some e =
    rw (others_of b others, found, ← behind, escaped_other b others (next_of rest others n b behind next), e, is) (simp append_assoc)

-- the last run
pub run_last : (out plain rest behind : List ℕ) (n : ℕ) → escaped rest ≡ take n rest ++ escaped (drop n rest) → plain ≡ out ++ take n rest → behind ≡ drop n rest → length behind < 1 → plain ≡ out ++ escaped rest
run_last out plain rest [] n found is behind none = rw (found, ← behind, escaped_nil, append-nil) is
run_last out plain rest (b ∷ others) n found is behind none = absurd (omega arith)

-- printable bytes

printable_glyph : (d : ℕ) → d < 16 → is_printable (digit_glyph true d) ≡ true
printable_glyph d h = grind (arith, nat_tests)

printable_plain : (b : ℕ) → is_plain b ≡ true → is_printable b ≡ true
printable_plain b h = grind (arith, nat_tests)

printable_escape : (b : ℕ) → list_all is_printable (percent_encode_byte b) ≡ true
unfolding percent_encode_byte
printable_escape b =
    and_from _ _ refl (and_from _ _ (printable_glyph (b / 16 % 16) (omega arith)) (and_from _ _ (printable_glyph (b % 16) (omega arith)) refl))

printable_by : (b : ℕ) (t : Bool) → (t ≡ true → is_printable b ≡ true) → list_all is_printable (cond t (b ∷ []) (percent_encode_byte b)) ≡ true
printable_by b true plain = and_from _ _ (plain refl) refl
printable_by b false plain = printable_escape b

pub escaped_printable : (bs : List ℕ) → list_all is_printable (escaped bs) ≡ true
escaped_printable [] = ap (list_all is_printable) escaped_nil
escaped_printable (b ∷ bs) =
    ap (list_all is_printable) (escaped_cons b bs) ∙ list_all-append is_printable (escaped_byte b) (escaped bs)
    ∙ and_from _ _ (printable_by b (is_plain b) (printable_plain b)) (escaped_printable bs)

-- what escapes stand for

pub unescaped_nil : unescaped [] ≡ Ok []
unfolding unescaped
unescaped_nil = refl

glyph_value : (d : ℕ) → d < 16 → digit_value (digit_glyph true d) ≡ d
glyph_value d h = grind (arith, nat_tests)

plain_no_percent : (b : ℕ) → is_plain b ≡ true → eqb b 37 ≡ false
plain_no_percent b h = grind (arith, nat_tests)

hex_by : (h l b : ℕ) (rest : List ℕ) (t : Bool) → t ≡ true → 16 * digit_value h + digit_value l ≡ b → cond t (with_byte (16 * digit_value h + digit_value l) (unescaped rest)) (Err Escape) ≡ with_byte b (unescaped rest)
hex_by h l b rest t e k = cond-true _ _ _ e ∙ ap (λ n. with_byte n (unescaped rest)) k

escape_stands : (b : ℕ) (rest : List ℕ) → b < 256 → unescaped (percent_encode_byte b ++ rest) ≡ with_byte b (unescaped rest)
unfolding percent_encode_byte unescaped
escape_stands b rest small =
    let high : digit_value (digit_glyph true (b / 16 % 16)) ≡ b / 16 = glyph_value (b / 16 % 16) (omega arith) ∙ (let e : b / 16 % 16 ≡ b / 16 = omega arith in e) in
    let low : digit_value (digit_glyph true (b % 16)) ≡ b % 16 = glyph_value (b % 16) (omega arith) in
    let is_high : is_hex (digit_glyph true (b / 16 % 16)) ≡ true = lt-ltb _ _ (omega arith) in
    let is_low : is_hex (digit_glyph true (b % 16)) ≡ true = lt-ltb _ _ (omega arith) in
    hex_by (digit_glyph true (b / 16 % 16)) (digit_glyph true (b % 16)) b rest _ (and_from _ _ is_high is_low) (omega arith)

plain_stands : (b : ℕ) (rest : List ℕ) → eqb b 37 ≡ false → unescaped (b ∷ rest) ≡ with_byte b (unescaped rest)
unfolding unescaped
plain_stands b rest h = cond-false _ _ _ h

byte_stands : (b : ℕ) (rest : List ℕ) (t : Bool) → (t ≡ true → eqb b 37 ≡ false) → b < 256 → unescaped (cond t (b ∷ []) (percent_encode_byte b) ++ rest) ≡ with_byte b (unescaped rest)
byte_stands b rest true plain small = plain_stands b rest (plain refl)
byte_stands b rest false plain small = escape_stands b rest small

pub unescaped-escaped : (bs : List ℕ) → AreBytes bs → unescaped (escaped bs) ≡ Ok bs
unescaped-escaped [] h = ap unescaped escaped_nil ∙ unescaped_nil
unescaped-escaped (b ∷ bs) h =
    let k = and_parts (ltb b 256) (list_all (λ b. ltb b 256) bs) h in
    ap unescaped (escaped_cons b bs) ∙ byte_stands b (escaped bs) (is_plain b) (plain_no_percent b) (ltb-true b 256 k.0)
    ∙ ap (with_byte b) (unescaped-escaped bs k.1)
