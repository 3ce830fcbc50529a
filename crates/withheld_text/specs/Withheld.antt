-- What is kept of a text that is withheld.
use Rattle.std.specs.Prelude.{◌≡◌, ℕ, ◌<◌, ◌≤◌, Bool, true, false, List, [], length}

-- the first bytes are kept and the others are gone, or none is
abbrev pub IsKept : Bool → List ℕ → List ℕ → Type 0
IsKept true kept gone = length kept ≡ 16385
IsKept false kept gone = (gone ≡ []) × (length kept ≤ 16385)

-- the bytes are those of the text, or both are too long for a variable
pub data IsFront (text bytes : List ℕ) : Type 0 where
  All : bytes ≡ text → IsFront text bytes
  Longer : 16384 < length text → 16384 < length bytes → IsFront text bytes
