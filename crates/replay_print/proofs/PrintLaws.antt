-- What is printed is read again: lines, words, numbers and escapes.
use Rattle.std.proofs.Common.{◌≡◌, ℕ, ◌+◌, ◌-◌, ◌*◌, ◌/◌, ◌%◌, ◌^◌, ◌<◌, ◌≤◌, Bool, true, false, cond, eqb, ltb, not, ◌&&◌, ◌||◌, List, [], ◌∷◌, ◌++◌, length, flat_map, decimal, Ok, Err, refl, ap, ◌∙◌, append_assoc, arith, eq-eqb, ne_eqb, le-leb}
use Rattle.std.specs.List.{list_all}
use Rattle.std.specs.Cmp.Lexicographic.{pointwise}
use Rattle.std.specs.Char.{digit_char, digit_value}
use Rattle.std.proofs.lemmas.List.Folds.{list_all-append}
use Rattle.std.proofs.lemmas.Fmt.{decimal_by_steps}
use Rattle.std.proofs.lemmas.Str.{digit_value-digit_char}
use Rattle.std.proofs.lemmas.Bool.{lt-ltb, ltb-true}
use Rattle.std.proofs.lemmas.Bool.Decides.{nat_tests}
use Rattle.replay_words.specs.declared.faults.FaultKind.TheVariants.{Escape}
use Rattle.replay_words.specs.Lines.{begun, lines_of, pieces_of}
use Rattle.replay_words.specs.Words.{is_graphic, is_word, words_of, is_dash}
use Rattle.text_words.specs.Digits.{is_decimal, value_behind}
use Rattle.replay_words.specs.Numbers.{is_numeral, number}
use Rattle.replay_words.specs.Escapes.{is_hex, with_byte, unescaped, behind_percent, AreBytes}
use Rattle.replay_print.specs.Printed.{is_plain, printed_byte, printed, spaced, ended}

-- tests

pub false_true : false ≡ true → ⊥
false_true h = cc

pub true_false : true ≡ false → ⊥
true_false h = cc

pub not_true : {a : Bool} → not a ≡ true → a ≡ false
not_true {a = true} h = absurd (false_true h)
not_true {a = false} h = refl

or_right : (a : Bool) → (a || true) ≡ true
or_right true = refl
or_right false = refl

unescaped_none : unescaped [] ≡ Ok []
unfolding unescaped
unescaped_none = refl

pub both_true : {a b : Bool} → (a && b) ≡ true → (a ≡ true) × (b ≡ true)
both_true {a = true} h = (refl, h)
both_true {a = false} h = absurd (false_true h)

pub and_true : {a b : Bool} → a ≡ true → b ≡ true → (a && b) ≡ true
and_true h k = cc

-- a test that each byte passes
pub all_weaker : (p q : ℕ → Bool) → ((b : ℕ) → p b ≡ true → q b ≡ true) → (bs : List ℕ) → list_all p bs ≡ true → list_all q bs ≡ true
all_weaker p q f [] h = refl
all_weaker p q f (b ∷ bs) h = let k = both_true h in and_true (f b k.0) (all_weaker p q f bs k.1)

pub all_append : (p : ℕ → Bool) (xs ys : List ℕ) → list_all p xs ≡ true → list_all p ys ≡ true → list_all p (xs ++ ys) ≡ true
all_append p xs ys h k = list_all-append p xs ys ∙ and_true h k

-- neither a space nor a line feed
abbrev pub no_byte : ℕ → ℕ → Bool
no_byte c b = not (eqb b c)

graphic_no_space : (b : ℕ) → is_graphic b ≡ true → no_byte 32 b ≡ true
graphic_no_space b h = grind (arith, nat_tests)

graphic_no_feed : (b : ℕ) → is_graphic b ≡ true → no_byte 10 b ≡ true
graphic_no_feed b h = grind (arith, nat_tests)

-- lines and pieces

abbrev pub Cuts : ℕ → (List ℕ → List (List ℕ)) → Type 0
Cuts c F = (b : ℕ) (bs : List ℕ) → F (b ∷ bs) ≡ cond (eqb b c) ([] ∷ F bs) (begun b (F bs))

cut_by : (F : List ℕ → List (List ℕ)) (c b : ℕ) (bs rest : List ℕ) (t : Bool) → not t ≡ true → F (bs ++ c ∷ rest) ≡ bs ∷ F rest → cond t ([] ∷ F (bs ++ c ∷ rest)) (begun b (F (bs ++ c ∷ rest))) ≡ (b ∷ bs) ∷ F rest
cut_by F c b bs rest true h ih = absurd (false_true h)
cut_by F c b bs rest false h ih = ap (begun b) ih

cut_here : (F : List ℕ → List (List ℕ)) (c : ℕ) → Cuts c F → (bs rest : List ℕ) → list_all (no_byte c) bs ≡ true → F (bs ++ c ∷ rest) ≡ bs ∷ F rest
cut_here F c step [] rest h = step c rest ∙ ap (λ t. cond t ([] ∷ F rest) (begun c (F rest))) (eq-eqb c c refl)
cut_here F c step (b ∷ bs) rest h =
    let k = both_true h in
    step b (bs ++ c ∷ rest) ∙ cut_by F c b bs rest (eqb b c) k.0 (cut_here F c step bs rest k.1)

pub lines_step : Cuts 10 lines_of
unfolding lines_of
lines_step b bs = refl

pieces_step : Cuts 32 pieces_of
unfolding pieces_of
pieces_step b bs = refl

pub lines_none : lines_of [] ≡ []
unfolding lines_of
lines_none = refl

-- lines that hold no line feed
abbrev pub AreLines : List (List ℕ) → Type 0
AreLines [] = Unit {0}
AreLines (line ∷ lines) = (list_all (no_byte 10) line ≡ true) × AreLines lines

pub lines_ended : (lines : List (List ℕ)) → AreLines lines → lines_of (flat_map ended lines) ≡ lines
lines_ended [] h = lines_none
lines_ended (line ∷ lines) h =
    ap lines_of (append_assoc line (10 ∷ []) (flat_map ended lines)) ∙ cut_here lines_of 10 lines_step line (flat_map ended lines) h.0 ∙ ap (λ ls. line ∷ ls) (lines_ended lines h.1)

pieces_one : (w : List ℕ) → list_all (no_byte 32) w ≡ true → pieces_of w ≡ w ∷ []
unfolding pieces_of
pieces_one [] h = refl
pieces_one (b ∷ bs) h = let k = both_true h in one_by b bs (eqb b 32) k.0 (pieces_one bs k.1)
  where
    one_by : (b : ℕ) (bs : List ℕ) (t : Bool) → not t ≡ true → pieces_of bs ≡ bs ∷ [] → cond t ([] ∷ pieces_of bs) (begun b (pieces_of bs)) ≡ (b ∷ bs) ∷ []
    one_by b bs true h ih = absurd (false_true h)
    one_by b bs false h ih = ap (begun b) ih

-- texts of graphic bytes, at least one
abbrev pub AreWords : List (List ℕ) → Type 0
AreWords words = list_all is_word words ≡ true

pub word_graphic : (w : List ℕ) → is_word w ≡ true → list_all is_graphic w ≡ true
word_graphic [] h = refl
word_graphic (b ∷ bs) h = h

pub graphic_word : (w : List ℕ) → 0 < length w → list_all is_graphic w ≡ true → is_word w ≡ true
graphic_word [] h k = absurd (omega arith)
graphic_word (b ∷ bs) h k = k

pub pieces_spaced : (w : List ℕ) (ws : List (List ℕ)) → AreWords (w ∷ ws) → pieces_of (spaced (w ∷ ws)) ≡ w ∷ ws
pieces_spaced w [] h = pieces_one w (all_weaker is_graphic (no_byte 32) graphic_no_space w (word_graphic w (both_true h).0))
pieces_spaced w (v ∷ ws) h =
    let k = both_true {a = is_word w} {b = list_all is_word (v ∷ ws)} h in
    cut_here pieces_of 32 pieces_step w (spaced (v ∷ ws)) (all_weaker is_graphic (no_byte 32) graphic_no_space w (word_graphic w k.0)) ∙ ap (λ ps. w ∷ ps) (pieces_spaced v ws k.1)

pub words_spaced : (w : List ℕ) (ws : List (List ℕ)) → AreWords (w ∷ ws) → words_of (spaced (w ∷ ws)) ≡ Ok (w ∷ ws)
unfolding words_of
words_spaced w ws h = rw (pieces_spaced w ws h, h) refl

-- a line of words holds no line feed
pub spaced_line : (ws : List (List ℕ)) → AreWords ws → list_all (no_byte 10) (spaced ws) ≡ true
spaced_line [] h = refl
spaced_line (w ∷ []) h = all_weaker is_graphic (no_byte 10) graphic_no_feed w (word_graphic w (both_true h).0)
spaced_line (w ∷ v ∷ ws) h =
    let k = both_true {a = is_word w} {b = list_all is_word (v ∷ ws)} h in
    all_append (no_byte 10) w (32 ∷ spaced (v ∷ ws)) (all_weaker is_graphic (no_byte 10) graphic_no_feed w (word_graphic w k.0)) (spaced_line (v ∷ ws) k.1)

-- escapes

hex_by : (h l b : ℕ) (rest : List ℕ) (t : Bool) → t ≡ true → 16 * digit_value h + digit_value l ≡ b → cond t (with_byte (16 * digit_value h + digit_value l) (unescaped rest)) (Err Escape) ≡ with_byte b (unescaped rest)
hex_by h l b rest t e k = ap (λ t. cond t (with_byte (16 * digit_value h + digit_value l) (unescaped rest)) (Err Escape)) e ∙ ap (λ n. with_byte n (unescaped rest)) k

byte_by : (b : ℕ) (rest : List ℕ) (t : Bool) → (t ≡ true → eqb b 37 ≡ false) → b < 256 → unescaped (cond t (b ∷ []) (37 ∷ digit_char (b / 16) ∷ digit_char (b % 16) ∷ []) ++ rest) ≡ with_byte b (unescaped rest)
unfolding unescaped
byte_by b rest true plain small = ap (λ t. cond t (behind_percent rest) (with_byte b (unescaped rest))) (plain refl)
byte_by b rest false plain small =
    let high : digit_value (digit_char (b / 16)) ≡ b / 16 = digit_value-digit_char (b / 16) (omega arith) in
    let low : digit_value (digit_char (b % 16)) ≡ b % 16 = digit_value-digit_char (b % 16) (omega arith) in
    let is_high : is_hex (digit_char (b / 16)) ≡ true = lt-ltb _ _ (omega arith) in
    let is_low : is_hex (digit_char (b % 16)) ≡ true = lt-ltb _ _ (omega arith) in
    hex_by (digit_char (b / 16)) (digit_char (b % 16)) b rest _ (and_true is_high is_low) (omega arith)

plain_no_percent : (b : ℕ) → is_plain b ≡ true → eqb b 37 ≡ false
plain_no_percent b h = not_true (both_true (both_true {a = is_graphic b} {b = not (eqb b 37) && not (eqb b 45)} h).1).0

pub unescaped-printed : (bs : List ℕ) → AreBytes bs → unescaped (printed bs) ≡ Ok bs
unescaped-printed [] h = unescaped_none
unescaped-printed (b ∷ bs) h =
    let k = both_true {a = ltb b 256} {b = list_all (λ b. ltb b 256) bs} h in
    byte_by b (printed bs) (is_plain b) (plain_no_percent b) (ltb-true b 256 k.0) ∙ ap (with_byte b) (unescaped-printed bs k.1)

graphic_digit : (d : ℕ) → d < 16 → is_graphic (digit_char d) ≡ true
graphic_digit d h = grind (arith, nat_tests)

graphic_by : (b : ℕ) (t : Bool) → (t ≡ true → is_graphic b ≡ true) → b < 256 → list_all is_graphic (cond t (b ∷ []) (37 ∷ digit_char (b / 16) ∷ digit_char (b % 16) ∷ [])) ≡ true
graphic_by b true plain small = and_true (plain refl) refl
graphic_by b false plain small = and_true (graphic_digit (b / 16) (omega arith)) (and_true (graphic_digit (b % 16) (omega arith)) refl)

pub printed_graphic : (bs : List ℕ) → AreBytes bs → list_all is_graphic (printed bs) ≡ true
printed_graphic [] h = refl
printed_graphic (b ∷ bs) h =
    let k = both_true {a = ltb b 256} {b = list_all (λ b. ltb b 256) bs} h in
    all_append is_graphic (printed_byte b) (printed bs) (graphic_by b (is_plain b) (λ e. (both_true {a = is_graphic b} {b = not (eqb b 37) && not (eqb b 45)} e).0) (ltb-true b 256 k.0)) (printed_graphic bs k.1)

some_by : (b : ℕ) (rest : List ℕ) (t : Bool) → 0 < length (cond t (b ∷ []) (37 ∷ digit_char (b / 16) ∷ digit_char (b % 16) ∷ []) ++ rest)
some_by b rest true = omega arith
some_by b rest false = omega arith

pub printed_some : (b : ℕ) (bs : List ℕ) → 0 < length (printed (b ∷ bs))
printed_some b bs = some_by b (printed bs) (is_plain b)

dash_by : (b : ℕ) (rest : List ℕ) (t : Bool) → (t ≡ true → eqb b 45 ≡ false) → is_dash (cond t (b ∷ []) (37 ∷ digit_char (b / 16) ∷ digit_char (b % 16) ∷ []) ++ rest) ≡ false
unfolding is_dash
dash_by b rest true h = ap (λ t. t && pointwise eqb rest []) (h refl)
dash_by b rest false h = refl

pub printed_no_dash : (b : ℕ) (bs : List ℕ) → is_dash (printed (b ∷ bs)) ≡ false
printed_no_dash b bs = dash_by b (printed bs) (is_plain b) (λ h. not_true (both_true {a = not (eqb b 37)} {b = not (eqb b 45)} (both_true {a = is_graphic b} {b = not (eqb b 37) && not (eqb b 45)} h).1).1)

-- numbers

-- the first digit is `0`, or there is none
abbrev begins_zero : List ℕ → Bool
begins_zero [] = true
begins_zero (b ∷ bs) = eqb b 48

-- what a number's digits are
pub record Writes (n : ℕ) (ds : List ℕ) : Type 0 where
  pub digits : list_all is_decimal ds ≡ true
  pub numeral : is_numeral ds ≡ true
  pub first : 0 < n → begins_zero ds ≡ false
  pub value : value_behind 0 ds ≡ n

decimal_digit : (d : ℕ) → d < 10 → is_decimal (48 + d) ≡ true
decimal_digit d h = grind (arith, nat_tests)

value_behind-last : (m d : ℕ) (ds : List ℕ) → value_behind m (ds ++ d ∷ []) ≡ value_behind m ds * 10 + (d - 48)
value_behind-last m d [] = refl
value_behind-last m d (b ∷ bs) = value_behind-last (m * 10 + (b - 48)) d bs

numeral_by : (ds : List ℕ) (d : ℕ) → list_all is_decimal (ds ++ d ∷ []) ≡ true → begins_zero ds ≡ false → is_numeral (ds ++ d ∷ []) ≡ true
numeral_by [] d h k = absurd (true_false k)
numeral_by (b ∷ bs) d h k = and_true h (ap (λ t. not t || eqb (length (bs ++ d ∷ [])) 0) k)

begins_append : (ds : List ℕ) (d : ℕ) → begins_zero ds ≡ false → begins_zero (ds ++ d ∷ []) ≡ false
begins_append [] d k = absurd (true_false k)
begins_append (b ∷ bs) d k = k

writes_one : (n : ℕ) → n < 10 → Writes n ((48 + n) ∷ [])
writes_one n h = record {
  digits = and_true (decimal_digit n h) refl;
  numeral = and_true (and_true (decimal_digit n h) refl) (or_right (not (eqb (48 + n) 48)));
  first = λ some. ne_eqb (48 + n) 48 (omega arith);
  value = omega arith;
}

writes_more : (n : ℕ) (ds : List ℕ) → 10 ≤ n → Writes (n / 10) ds → Writes n (ds ++ ((48 + n % 10) ∷ []))
writes_more n ds h w =
    let digits = all_append is_decimal ds ((48 + n % 10) ∷ []) w.digits (and_true (decimal_digit (n % 10) (omega arith)) refl) in
    record {
      digits = digits;
      numeral = numeral_by ds (48 + n % 10) digits (w.first (omega arith));
      first = λ some. begins_append ds (48 + n % 10) (w.first (omega arith));
      value = value_behind-last 0 (48 + n % 10) ds ∙ ap (λ v. v * 10 + ((48 + n % 10) - 48)) w.value ∙ (let e : (n / 10) * 10 + ((48 + n % 10) - 48) ≡ n = omega arith in e);
    }

pub writes_decimal : (n : ℕ) → n < 2 ^ 64 → Writes n (decimal n)
writes_decimal n h = decimal_by_steps Writes writes_one writes_more n h

pub number-decimal : (most n : ℕ) → n ≤ most → n < 2 ^ 64 → number most (decimal n) ≡ Ok n
unfolding number
number-decimal most n h small =
    let w = writes_decimal n small in
    rw (w.numeral, w.value, le-leb n most h) refl

graphic_decimal : (b : ℕ) → is_decimal b ≡ true → is_graphic b ≡ true
graphic_decimal b h = grind (arith, nat_tests)

numeral_word : (ds : List ℕ) → is_numeral ds ≡ true → list_all is_decimal ds ≡ true → is_word ds ≡ true
numeral_word [] h k = h
numeral_word (b ∷ bs) h k = all_weaker is_decimal is_graphic graphic_decimal (b ∷ bs) k

pub decimal_word : (n : ℕ) → n < 2 ^ 64 → is_word (decimal n) ≡ true
decimal_word n h = let w = writes_decimal n h in numeral_word (decimal n) w.numeral w.digits
