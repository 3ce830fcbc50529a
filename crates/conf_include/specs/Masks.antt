-- Masks of names (POSIX.1-2017, Shell and Utilities, 2.13, without bracket expressions).
use Rattle.std.specs.Prelude.{ℕ, Bool, true, false, ◌&&◌, ◌||◌, ◌==◌, List, [], ◌∷◌, if◌then◌else◌}

-- some end of a text passes, the whole and the empty one among them
abbrev pub some_end : (List ℕ → Bool) → List ℕ → Bool
some_end p [] = p []
some_end p (b ∷ bs) = p (b ∷ bs) || some_end p bs

-- the text begins with a byte that a mask's byte means, any byte for `?`, and the rest passes
abbrev pub after_byte : ℕ → (List ℕ → Bool) → List ℕ → Bool
after_byte m p [] = false
after_byte m p (b ∷ bs) = ((m == 63) || (m == b)) && p bs

abbrev pub is_empty : List ℕ → Bool
is_empty [] = true
is_empty (b ∷ bs) = false

-- a mask matches a name: `*` means any bytes, none too, `?` one byte, each other byte itself
unfoldable pub matches : (mask name : List ℕ) → Bool
matches [] = is_empty
matches (m ∷ mask) = λ name. if m == 42 then some_end (matches mask) name else after_byte m (matches mask) name
