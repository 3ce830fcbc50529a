-- The digits of a chunk's size.
use Rattle.std.proofs.Common.{◌≡◌, ℕ, suc, ◌/◌, ◌%◌, ◌<◌, ◌≤◌, false, cond, List, [], ◌∷◌, refl, ap, ◌∙◌, ⊎_elim, arith}
use Rattle.std.specs.Fmt.{digits, digits_onto, digit_glyph}
use Rattle.std.proofs.lemmas.Bool.{eq-eqb, ne_eqb, cases_lt}
use Rattle.chunk_out.specs.Chunks.{hex}

abbrev pub glyph : ℕ → ℕ
glyph d = digit_glyph false d

hex-onto : (n : ℕ) → hex n ≡ digits_onto 64 16 false n []
unfolding digits
hex-onto n = refl

last : (k n : ℕ) (acc : List ℕ) → n / 16 ≡ 0 → digits_onto (suc k) 16 false n acc ≡ glyph (n % 16) ∷ acc
last k n acc e = ap (λ t. cond t (glyph (n % 16) ∷ acc) (digits_onto k 16 false (n / 16) (glyph (n % 16) ∷ acc))) (eq-eqb (n / 16) 0 e)

step : (k n : ℕ) (acc : List ℕ) → (n / 16 ≡ 0 → ⊥) → digits_onto (suc k) 16 false n acc ≡ digits_onto k 16 false (n / 16) (glyph (n % 16) ∷ acc)
step k n acc e = ap (λ t. cond t (glyph (n % 16) ∷ acc) (digits_onto k 16 false (n / 16) (glyph (n % 16) ∷ acc))) (ne_eqb (n / 16) 0 e)

pub one_digit : (n : ℕ) → n < 16 → hex n ≡ glyph (n % 16) ∷ []
one_digit n small = hex-onto n ∙ last 63 n [] (omega arith)

pub two_digits : (n : ℕ) → 16 ≤ n → n < 256 → hex n ≡ glyph (n / 16 % 16) ∷ glyph (n % 16) ∷ []
two_digits n low small =
    hex-onto n ∙ step 63 n [] (λ e. omega arith) ∙ last 62 (n / 16) (glyph (n % 16) ∷ []) (omega arith)

pub three_digits : (n : ℕ) → 256 ≤ n → n < 4096 → hex n ≡ glyph (n / 256) ∷ glyph (n / 16 % 16) ∷ glyph (n % 16) ∷ []
three_digits n low small =
    let high : n / 16 / 16 % 16 ≡ n / 256 = omega arith in
    hex-onto n
    ∙ step 63 n [] (λ e. omega arith)
    ∙ step 62 (n / 16) (glyph (n % 16) ∷ []) (λ e. omega arith)
    ∙ last 61 (n / 16 / 16) (glyph (n / 16 % 16) ∷ glyph (n % 16) ∷ []) (omega arith)
    ∙ ap (λ d. glyph d ∷ glyph (n / 16 % 16) ∷ glyph (n % 16) ∷ []) high

pub block_digits : hex 4096 ≡ 49 ∷ 48 ∷ 48 ∷ 48 ∷ []
unfolding digits
block_digits = refl

-- a size up to 4096 has one to four digits
pub data Digits (n : ℕ) : Type 0 where
  One : (a : ℕ) → a < 16 → hex n ≡ glyph a ∷ [] → Digits n
  Two : (a b : ℕ) → a < 16 → b < 16 → hex n ≡ glyph a ∷ glyph b ∷ [] → Digits n
  Three : (a b c : ℕ) → a < 16 → b < 16 → c < 16 → hex n ≡ glyph a ∷ glyph b ∷ glyph c ∷ [] → Digits n
  Four : hex n ≡ 49 ∷ 48 ∷ 48 ∷ 48 ∷ [] → Digits n

pub digits_are : (n : ℕ) → n ≤ 4096 → Digits n
digits_are n most =
    ⊎_elim (λ small. One (n % 16) (omega arith) (one_digit n small))
    (λ low. ⊎_elim (λ small. Two (n / 16 % 16) (n % 16) (omega arith) (omega arith) (two_digits n low small))
    (λ mid. ⊎_elim (λ small. Three (n / 256) (n / 16 % 16) (n % 16) (omega arith) (omega arith) (omega arith) (three_digits n mid small))
    (λ all. let is : n ≡ 4096 = omega arith in Four (ap hex is ∙ block_digits))
    (cases_lt n 4096))
    (cases_lt n 256))
    (cases_lt n 16)
