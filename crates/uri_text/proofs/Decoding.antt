-- The first byte of a text with escapes.
use Rattle.std.proofs.Common.{◌≡◌, ℕ, ◌-◌, ◌<◌, ◌≤◌, true, false, ◌&&◌, if◌then◌else◌, List, [], ◌∷◌, Option, None, Some, length, get_or, take, drop, refl, sym, ap, ◌∙◌, arith, cond, ◌==◌}
use Rattle.std.proofs.lemmas.Bool.{eq-eqb, ne_eqb, cond-true, cond-false}
use Rattle.std.proofs.lemmas.List.{take_rest}
use Rattle.std.specs.Char.{is_digit}
use Rattle.uri_text.specs.declared.fault.UriFault.TheVariants.{BadEscape, Zero}
use Rattle.uri_text.specs.Target.{Decoded, nothing, faulty, with_byte, with_escape, escape_value, decoded}

pub decoded-nil : decoded [] ≡ nothing
unfolding decoded
decoded-nil = refl

pub decoded-plain : (b : ℕ) (rest : List ℕ) → (b ≡ 37 → ⊥) → decoded (b ∷ rest) ≡ with_byte b (decoded rest)
unfolding decoded
decoded-plain b [] other = cond-false _ _ _ (ne_eqb b 37 other)
decoded-plain b (c ∷ []) other = cond-false _ _ _ (ne_eqb b 37 other)
decoded-plain b (c ∷ d ∷ more) other = cond-false _ _ _ (ne_eqb b 37 other)

decoded-short : (b : ℕ) (rest : List ℕ) → b ≡ 37 → length rest < 2 → decoded (b ∷ rest) ≡ faulty BadEscape
unfolding decoded
decoded-short b [] is short = cond-true _ _ _ (eq-eqb b 37 is)
decoded-short b (c ∷ []) is short = cond-true _ _ _ (eq-eqb b 37 is)
decoded-short b (c ∷ d ∷ more) is short = absurd (omega arith)

decoded-escape : (b high low : ℕ) (rest : List ℕ) → b ≡ 37 → decoded (b ∷ high ∷ low ∷ rest) ≡ with_escape high low (decoded rest)
unfolding decoded
decoded-escape b high low rest is = cond-true _ _ _ (eq-eqb b 37 is)

-- a text by its first bytes and the rest
pub split_one : (text : List ℕ) → 1 ≤ length text → text ≡ get_or text 0 0 ∷ take (length text - 1) (drop 1 text)
split_one [] long = absurd (omega arith)
split_one (b ∷ rest) long = ap (λ t. b ∷ t) (sym (take_rest (b ∷ rest) 1))

pub split_two : (text : List ℕ) → 2 ≤ length text → text ≡ get_or text 0 0 ∷ get_or text 1 0 ∷ take (length text - 2) (drop 2 text)
split_two [] long = absurd (omega arith)
split_two (b ∷ []) long = absurd (omega arith)
split_two (b ∷ c ∷ rest) long = ap (λ t. b ∷ c ∷ t) (sym (take_rest (b ∷ c ∷ rest) 2))

pub front-plain : (b : ℕ) (rest text : List ℕ) → text ≡ b ∷ rest → (b ≡ 37 → ⊥) → (decoded text ≡ with_byte b (decoded rest)) × (length rest < length text)
front-plain b rest text is other = (ap decoded is ∙ decoded-plain b rest other, omega (arith, ap length is))

pub front-short : (b : ℕ) (rest text : List ℕ) → text ≡ b ∷ rest → b ≡ 37 → length rest < 2 → decoded text ≡ faulty BadEscape
front-short b rest text is escape short = ap decoded is ∙ decoded-short b rest escape short

-- what `byte_of` answers
abbrev pub read_byte : ℕ → ℕ → Option ℕ
read_byte high low = if is_digit high 16 && is_digit low 16 then Some (escape_value high low) else None

read_none : (high low : ℕ) (after : Decoded) → read_byte high low ≡ None → with_escape high low after ≡ faulty BadEscape
read_none high low after is = elim (is_digit high 16 && is_digit low 16) as (λ t. (if t then Some (escape_value high low) else None) ≡ None → (if t then (cond (escape_value high low == 0) (faulty Zero) (with_byte (escape_value high low) after)) else faulty BadEscape) ≡ faulty BadEscape) [
  | true ↦ λ e. cc
  | false ↦ λ e. refl
] is

read_some : (high low b : ℕ) (after : Decoded) → read_byte high low ≡ Some b → with_escape high low after ≡ cond (b == 0) (faulty Zero) (with_byte b after)
read_some high low b after is = elim (is_digit high 16 && is_digit low 16) as (λ t. (if t then Some (escape_value high low) else None) ≡ Some b → (if t then (cond (escape_value high low == 0) (faulty Zero) (with_byte (escape_value high low) after)) else faulty BadEscape) ≡ cond (b == 0) (faulty Zero) (with_byte b after)) [
  | true ↦ λ e. let same : escape_value high low ≡ b = cc in ap (λ n. cond (n == 0) (faulty Zero) (with_byte n after)) same
  | false ↦ λ e. cc
] is

pub front-none : (b high low : ℕ) (rest text : List ℕ) → text ≡ b ∷ high ∷ low ∷ rest → b ≡ 37 → read_byte high low ≡ None → decoded text ≡ faulty BadEscape
front-none b high low rest text is escape none = ap decoded is ∙ decoded-escape b high low rest escape ∙ read_none high low (decoded rest) none

pub front-zero : (b high low : ℕ) (rest text : List ℕ) → text ≡ b ∷ high ∷ low ∷ rest → b ≡ 37 → read_byte high low ≡ Some 0 → decoded text ≡ faulty Zero
front-zero b high low rest text is escape some = ap decoded is ∙ decoded-escape b high low rest escape ∙ read_some high low 0 (decoded rest) some

pub front-escape : (b high low n : ℕ) (rest text : List ℕ) → text ≡ b ∷ high ∷ low ∷ rest → b ≡ 37 → read_byte high low ≡ Some n → (n ≡ 0 → ⊥) → (decoded text ≡ with_byte n (decoded rest)) × (length rest < length text)
front-escape b high low n rest text is escape some other =
    (ap decoded is ∙ decoded-escape b high low rest escape ∙ read_some high low n (decoded rest) some ∙ cond-false _ _ _ (ne_eqb n 0 other), omega (arith, ap length is))
