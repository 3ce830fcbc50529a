-- Cuts of a text at a byte.
use Rattle.std.specs.Prelude.{ℕ, ◌+◌, List, [], ◌∷◌, length, take, drop, ◌==◌, Option, Some, None, if◌then◌else◌}
use Rattle.std.specs.List.{position_or_len}

-- the text before the first byte of this value, or all of it
abbrev pub before_byte : ℕ → List ℕ → List ℕ
before_byte c text = take (position_or_len (λ b. b == c) text) text

-- the text after the first byte of this value, if there is one
abbrev pub behind_byte : ℕ → List ℕ → Option (List ℕ)
behind_byte c text =
    let at = position_or_len (λ b. b == c) text in
    if at == length text then None else Some (drop (at + 1) text)

-- what comes after a colon at the front
abbrev pub behind_colon : Option (List ℕ) → Option (List ℕ)
behind_colon None = None
behind_colon (Some []) = None
behind_colon (Some (b ∷ bs)) = if b == 58 then Some bs else None
