-- The moments that a clock of a list has told.
use Rattle.std.specs.Prelude.{ℕ, zero, suc, ◌-◌, List, [], ◌∷◌, ◌++◌, length, min, slice_index}

-- the moment of a call, counted from 0: that of the list, or its last
abbrev pub moment_at : List ℕ → ℕ → ℕ
moment_at moments call = slice_index moments (min call (length moments - 1))

-- the moments of the first calls
unfoldable pub moments_told : List ℕ → ℕ → List ℕ
moments_told moments zero = []
moments_told moments (suc calls) = moments_told moments calls ++ moment_at moments calls ∷ []
