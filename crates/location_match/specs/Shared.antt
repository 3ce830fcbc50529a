-- How many bytes two texts share at their front.
use Rattle.std.specs.Prelude.{ℕ, ◌+◌, ◌<◌, ◌≤◌, nat_eq, List, [], ◌∷◌, length, if◌then◌else◌}
use Rattle.location_match.specs.Prefixes.{text_at}

unfoldable pub shared : List ℕ → List ℕ → ℕ
shared [] ys = 0
shared (x ∷ xs) [] = 0
shared (x ∷ xs) (y ∷ ys) = if nat_eq x y then shared xs ys + 1 else 0

-- each two of the texts share as many
abbrev pub AllShare : List (List ℕ) → ℕ → Type 0
AllShare texts common = (i j : ℕ) → i < length texts → j < length texts → common ≤ shared (text_at texts i) (text_at texts j)
