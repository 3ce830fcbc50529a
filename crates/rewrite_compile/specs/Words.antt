-- Words and the spaces between them.
use Rattle.std.specs.Prelude.{ℕ, ◌-◌, ◌==◌, Bool, false, List, [], ◌∷◌, ◌++◌, length, take, flat_map, slice_get, Option, None, Some, if◌then◌else◌}
use Rattle.std.specs.List.{before_first, after_first}

abbrev pub is_space : ℕ → Bool
is_space b = b == 32

-- the words of a directive with a space between each and the next
unfoldable pub joined : List (List ℕ) → List ℕ
joined [] = []
joined (word ∷ words) = word ++ flat_map (λ w. 32 ∷ w) words

-- without the spaces at the front, and at the end
unfoldable pub trim_front : List ℕ → List ℕ
trim_front [] = []
trim_front (b ∷ bs) = if is_space b then trim_front bs else b ∷ bs

abbrev pub kept_back : ℕ → List ℕ → List ℕ
kept_back b [] = if is_space b then [] else b ∷ []
kept_back b (c ∷ cs) = b ∷ c ∷ cs

unfoldable pub trim_back : List ℕ → List ℕ
trim_back [] = []
trim_back (b ∷ bs) = kept_back b (trim_back bs)

abbrev pub trimmed : List ℕ → List ℕ
trimmed text = trim_back (trim_front text)

-- the first word, and what comes after it without the spaces around it
abbrev pub first_word : List ℕ → List ℕ
first_word text = before_first is_space text

abbrev pub other_words : List ℕ → List ℕ
other_words text = trimmed (after_first is_space text)

-- what is within parentheses
abbrev pub ends_by : Option ℕ → Bool
ends_by None = false
ends_by (Some b) = b == 41

abbrev pub before_end : List ℕ → Option (List ℕ)
before_end bs = if ends_by (slice_get bs (length bs - 1)) then Some (take (length bs - 1) bs) else None

unfoldable pub within : List ℕ → Option (List ℕ)
within [] = None
within (b ∷ bs) = if b == 40 then before_end bs else None
