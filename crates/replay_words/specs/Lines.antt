-- The lines of a text, and the pieces of a line.
use Rattle.std.specs.Prelude.{ℕ, List, [], ◌∷◌, ◌==◌, Option, Some, None, if◌then◌else◌}

-- a byte before the first of these texts
abbrev pub begun : ℕ → List (List ℕ) → List (List ℕ)
begun b [] = (b ∷ []) ∷ []
begun b (text ∷ texts) = (b ∷ text) ∷ texts

-- The lines of a text, without the line feeds that end them. The last line may lack its line feed.
unfoldable pub lines_of : List ℕ → List (List ℕ)
lines_of [] = []
lines_of (b ∷ bs) = if b == 10 then [] ∷ lines_of bs else begun b (lines_of bs)

-- what is between the spaces of a line, empty texts too
unfoldable pub pieces_of : List ℕ → List (List ℕ)
pieces_of [] = [] ∷ []
pieces_of (b ∷ bs) = if b == 32 then [] ∷ pieces_of bs else begun b (pieces_of bs)

-- the pieces after a space, if there is one
abbrev pub pieces_behind : Option (List ℕ) → List (List ℕ)
pieces_behind None = []
pieces_behind (Some text) = pieces_of text

-- the text at the front of a line, up to a space
abbrev pub front_of : List (List ℕ) → List ℕ
front_of [] = []
front_of (piece ∷ pieces) = piece
