-- Texts of lines.
use Rattle.std.specs.Prelude.{ℕ, List, [], ◌∷◌, ◌++◌, flat_map}

-- a line and its line feed
unfoldable pub ended : List ℕ → List ℕ
ended line = line ++ 10 ∷ []

-- lines, one after another
unfoldable pub lines_text : List (List ℕ) → List ℕ
lines_text lines = flat_map ended lines
