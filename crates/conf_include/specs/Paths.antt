-- The paths that an include names.
use Rattle.std.specs.Prelude.{ℕ, zero, suc, Bool, false, ◌||◌, ◌==◌, List, [], ◌∷◌, ◌++◌, take, drop, codes, if◌then◌else◌}
use Rattle.std.specs.List.{list_any}

-- where the text after a byte ends with its last slash, the place of that end; or the end of the byte if it is one
abbrev pub end_behind : ℕ → ℕ → ℕ
end_behind b zero = if b == 47 then 1 else 0
end_behind b (suc n) = suc (suc n)

-- how many bytes of a path come up to its last slash, with it
unfoldable pub slash_end : List ℕ → ℕ
slash_end [] = 0
slash_end (b ∷ bs) = end_behind b (slash_end bs)

-- the path up to its last slash, with it, and what comes after: its last component
abbrev pub front_of : List ℕ → List ℕ
front_of path = take (slash_end path) path

abbrev pub last_of : List ℕ → List ℕ
last_of path = drop (slash_end path) path

abbrev pub begins_with_slash : List ℕ → Bool
begins_with_slash [] = false
begins_with_slash (b ∷ bs) = b == 47

-- the path of an include's word: a relative one starts at the folder of the main file
unfoldable pub path_of : (main word : List ℕ) → List ℕ
path_of main word = if begins_with_slash word then word else front_of main ++ word

-- a mask has `*` or `?` in its last component
unfoldable pub is_mask : List ℕ → Bool
is_mask path = list_any (λ b. (b == 42) || (b == 63)) (last_of path)

-- the folder of a path whose first bytes, this many, end with its last slash: the root's path is a slash alone, and
-- that of no bytes a dot
abbrev pub folder_up_to : ℕ → List ℕ → List ℕ
folder_up_to zero path = codes "."
folder_up_to (suc zero) path = codes "/"
folder_up_to (suc (suc n)) path = take (suc n) path

-- the folder of a path
unfoldable pub folder_of : List ℕ → List ℕ
folder_of path = folder_up_to (slash_end path) path
