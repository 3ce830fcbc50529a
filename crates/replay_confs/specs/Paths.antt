-- Paths that lie in folders.
use Rattle.std.specs.Prelude.{ℕ, ◌==◌, List, [], ◌∷◌, ◌++◌, Option, None, Some, if◌then◌else◌}

-- what is after a front, where the text begins with it
abbrev pub behind : List ℕ → List ℕ → Option (List ℕ)
behind [] text = Some text
behind (b ∷ front) [] = None
behind (b ∷ front) (c ∷ text) = if b == c then behind front text else None

-- what is before the slash of a folder's children: the root's path is a slash alone
abbrev pub front_of : List ℕ → List ℕ
front_of [] = []
front_of (b ∷ []) = if b == 47 then [] else b ∷ []
front_of (b ∷ c ∷ bytes) = b ∷ c ∷ bytes

-- how a path goes on below a folder, where it does
abbrev pub below : (folder path : List ℕ) → Option (List ℕ)
below folder path = behind (front_of folder ++ 47 ∷ []) path

-- a text up to its first slash
abbrev pub first_name : List ℕ → List ℕ
first_name [] = []
first_name (b ∷ bs) = if b == 47 then [] else b ∷ first_name bs
