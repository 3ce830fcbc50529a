-- Numbers in a script.
use Rattle.std.specs.Prelude.{ℕ, List, [], ◌∷◌, length, ◌==◌, Bool, false, ◌&&◌, ◌||◌, not, nat_le, Result, Ok, Err, if◌then◌else◌}
use Rattle.std.specs.List.{list_all}
use Rattle.text_words.specs.Digits.{is_decimal, value_behind}
use Rattle.replay_words.specs.declared.faults.FaultKind.{FaultKind}
use Rattle.replay_words.specs.declared.faults.FaultKind.TheVariants.{Number}

-- one decimal digit or more, the first of several not `0`
abbrev pub is_numeral : List ℕ → Bool
is_numeral [] = false
is_numeral (b ∷ bs) = list_all is_decimal (b ∷ bs) && (not (b == 48) || length bs == 0)

-- the number that a word writes, of at most this value
unfoldable pub number : ℕ → List ℕ → Result ℕ FaultKind
number most word =
    if is_numeral word && nat_le (value_behind 0 word) most then Ok (value_behind 0 word) else Err Number

-- the greatest number of a connection or a node
unfoldable pub most_id : ℕ
most_id = 4294967295

-- the greatest number of bytes that can be sent
unfoldable pub most_room : ℕ
most_room = 18446744073709551615

-- the greatest number of times that a term may take its word
unfoldable pub most_times : ℕ
most_times = 16777216

-- the last second of the year 9999, from 1970
unfoldable pub last_second : ℕ
last_second = 253402300799
