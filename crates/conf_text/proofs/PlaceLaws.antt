-- Steps from place to place.
use Rattle.std.proofs.Common.{◌≡◌, ℕ, suc, ◌+◌, ◌-◌, ◌≤◌, true, false, ◌==◌, List, ◌∷◌, length, refl, sym, ap, ◌∙◌, arith, subst, if◌then◌else◌}
use Rattle.conf_text.specs.Words.{line_behind}
use Rattle.conf_text.specs.Tokens.{tokens}
use Rattle.conf_text.specs.Places.{Passed}

pub line_behind-within : (line b : ℕ) → line_behind line b ≤ line + 1
line_behind-within line b =
    elim (b == 10) as (λ t. (if t then line + 1 else line) ≤ line + 1) [ true ↦ omega arith | false ↦ omega arith ]

pub line_behind-same : (line b : ℕ) → (b == 10) ≡ false → line_behind line b ≡ line
line_behind-same line b e = ap (λ t. if t then line + 1 else line) e

pub tokens-step : (more line b : ℕ) (bs : List ℕ) → tokens (suc more) line (b ∷ bs) ≡ tokens more (line_behind line b) bs
unfolding tokens
tokens-step more line b bs = refl

pub passed-none : (line : ℕ) (rest : List ℕ) → Passed line rest line rest
passed-none line rest = record {
  within = omega arith;
  lines = omega arith;
  tokens_there = λ more. let e : (length rest - length rest) + more ≡ more = omega arith in ap (λ n. tokens n line rest) e;
}

-- one byte more
pub passed-step : (line : ℕ) (rest : List ℕ) (line' b : ℕ) (after : List ℕ) → Passed line rest line' (b ∷ after) → Passed line rest (line_behind line' b) after
passed-step line rest line' b after p =
    let w : suc (length after) ≤ length rest = p.within in
    let l : line' + suc (length after) ≤ line + length rest = p.lines in
    let k : line_behind line' b ≤ line' + 1 = line_behind-within line' b in
    record {
      within = omega arith;
      lines = omega arith;
      tokens_there = λ more.
          let e : (length rest - length after) + more ≡ (length rest - suc (length after)) + suc more = omega arith in
          ap (λ n. tokens n line rest) e ∙ p.tokens_there (suc more) ∙ tokens-step more line' b after;
    }

-- the same, where the rest is known by an equation
pub passed-byte : (line : ℕ) (rest : List ℕ) (line' : ℕ) (rest' : List ℕ) (b : ℕ) (after : List ℕ) → Passed line rest line' rest' → rest' ≡ b ∷ after → Passed line rest (line_behind line' b) after
passed-byte line rest line' rest' b after p e = passed-step line rest line' b after (subst (λ r. Passed line rest line' r) e p)

-- a byte that is no line feed
pub passed-within_line : (line : ℕ) (rest : List ℕ) (line' : ℕ) (rest' : List ℕ) (b : ℕ) (after : List ℕ) → Passed line rest line' rest' → rest' ≡ b ∷ after → (b == 10) ≡ false → Passed line rest line' after
passed-within_line line rest line' rest' b after p e f =
    subst (λ l. Passed line rest l after) (line_behind-same line' b f) (passed-byte line rest line' rest' b after p e)

-- a backslash and the byte that it takes along
pub passed-pair : (line : ℕ) (rest : List ℕ) (line' : ℕ) (rest' : List ℕ) (b : ℕ) (after : List ℕ) (c : ℕ) (beyond : List ℕ) (line'' : ℕ)
    → Passed line rest line' rest' → rest' ≡ b ∷ after → b ≡ 92 → after ≡ c ∷ beyond → line'' ≡ line_behind line' c → Passed line rest line'' beyond
passed-pair line rest line' rest' b after c beyond line'' p e f g h =
    let q : Passed line rest line' after = passed-within_line line rest line' rest' b after p e (ap (λ x. x == 10) f) in
    subst (λ l. Passed line rest l beyond) (sym h) (passed-byte line rest line' after c beyond q g)
