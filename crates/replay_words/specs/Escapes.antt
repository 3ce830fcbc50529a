-- What the words of paths and bytes spell.
use Rattle.std.specs.Prelude.{◌≡◌, ℕ, ◌+◌, ◌*◌, List, [], ◌∷◌, ◌++◌, length, ◌==◌, Bool, true, false, ◌&&◌, ◌||◌, nat_lt, Result, Ok, Err, if◌then◌else◌}
use Rattle.std.specs.Char.{digit_value}
use Rattle.std.specs.List.{list_all}
use Rattle.replay_words.specs.declared.faults.FaultKind.{FaultKind}
use Rattle.replay_words.specs.declared.faults.FaultKind.TheVariants.{Word, Escape}

-- numbers that are bytes
abbrev pub AreBytes : List ℕ → Type 0
AreBytes bytes = list_all (λ b. nat_lt b 256) bytes ≡ true

-- a hexadecimal digit, in either case
abbrev pub is_hex : ℕ → Bool
is_hex b = nat_lt (digit_value b) 16

-- a byte before what was read
abbrev pub with_byte : ℕ → Result (List ℕ) FaultKind → Result (List ℕ) FaultKind
with_byte b (Ok bs) = Ok (b ∷ bs)
with_byte b (Err kind) = Err kind

-- `%` and two hexadecimal digits spell that byte, each other byte spells itself
unfoldable mutual
  pub unescaped : List ℕ → Result (List ℕ) FaultKind
  unescaped [] = Ok []
  unescaped (b ∷ bs) = if b == 37 then behind_percent bs else with_byte b (unescaped bs)

  pub behind_percent : List ℕ → Result (List ℕ) FaultKind
  behind_percent [] = Err Escape
  behind_percent (h ∷ []) = Err Escape
  behind_percent (h ∷ l ∷ bs) =
      if is_hex h && is_hex l then with_byte (16 * digit_value h + digit_value l) (unescaped bs)
      else Err Escape

-- a text before what was read
abbrev pub onto : List ℕ → Result (List ℕ) FaultKind → Result (List ℕ) FaultKind
onto front (Ok bs) = Ok (front ++ bs)
onto front (Err kind) = Err kind

-- how many bytes were read, after n others
abbrev pub measured : ℕ → Result (List ℕ) FaultKind → Result ℕ FaultKind
measured n (Ok bs) = Ok (n + length bs)
measured n (Err kind) = Err kind

-- the word's text begins with a slash
abbrev pub begins_with_slash : List ℕ → Bool
begins_with_slash [] = false
begins_with_slash (a ∷ []) = a == 47
begins_with_slash (a ∷ b ∷ []) = a == 47
begins_with_slash (a ∷ b ∷ c ∷ rest) = a == 47 || (a == 37 && (b == 50 && (c == 70 || c == 102)))

-- the word of a path, which begins with a slash
abbrev pub path_word : List ℕ → Result (List ℕ) FaultKind
path_word word = if begins_with_slash word then Ok word else Err Word
