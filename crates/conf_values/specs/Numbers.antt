-- Numbers and times as the values of directives.
use Rattle.std.specs.Prelude.{ℕ, ◌*◌, List, [], ◌∷◌, take, drop, ◌==◌, Bool, false, not, ◌&&◌, ◌||◌, nat_le, Option, None, Some, codes, bytes_eq, if◌then◌else◌}
use Rattle.std.specs.List.{list_all, prefix_len}
use Rattle.text_words.specs.Digits.{is_decimal, value_behind}

-- decimal digits, the first not `0`
abbrev pub is_numeral : List ℕ → Bool
is_numeral [] = false
is_numeral (b ∷ bs) = list_all is_decimal (b ∷ bs) && not (b == 48)

-- a port from 1 to 65535 in decimals, with no leading zero
unfoldable pub port_of : List ℕ → Option ℕ
port_of text = if is_numeral text && nat_le (value_behind 0 text) 65535 then Some (value_behind 0 text) else None

-- a count from 1 to this one in decimals, with no leading zero
unfoldable pub count_to : (most : ℕ) → List ℕ → Option ℕ
count_to most text = if is_numeral text && nat_le (value_behind 0 text) most then Some (value_behind 0 text) else None

-- a count from 1 to 1000000000
abbrev pub count_of : List ℕ → Option ℕ
count_of text = count_to 1000000000 text

-- how many milliseconds a unit has; a second is the unit of a number alone
unfoldable pub unit_of : List ℕ → Option ℕ
unit_of word =
    if bytes_eq word [] then Some 1000
    else (if bytes_eq word (codes "ms") then Some 1
    else (if bytes_eq word (codes "s") then Some 1000
    else (if bytes_eq word (codes "m") then Some 60000
    else (if bytes_eq word (codes "h") then Some 3600000
    else (if bytes_eq word (codes "d") then Some 86400000
    else None)))))

-- how many digits the text begins with
unfoldable pub digits_before : List ℕ → ℕ
digits_before text = prefix_len is_decimal text

-- `count` units, where these are at most this number
abbrev pub in_units : (most count : ℕ) → (unit : Option ℕ) → Option ℕ
in_units most count None = None
in_units most count (Some unit) = if nat_le (count * unit) most then Some (count * unit) else None

-- A time in milliseconds, at most 2^40 seconds: digits, and after them its unit (nginx's documentation, "Configuration
-- file measurement units").
unfoldable pub time_of : List ℕ → Option ℕ
time_of text =
    if digits_before text == 0 then None
    else in_units 1099511627776000 (value_behind 0 (take (digits_before text) text)) (unit_of (drop (digits_before text) text))

-- how many bytes a unit has; a byte is the unit of a number alone
unfoldable pub bytes_of : List ℕ → Option ℕ
bytes_of word =
    if bytes_eq word [] then Some 1
    else (if bytes_eq word (codes "k") || bytes_eq word (codes "K") then Some 1024
    else (if bytes_eq word (codes "m") || bytes_eq word (codes "M") then Some 1048576
    else (if bytes_eq word (codes "g") || bytes_eq word (codes "G") then Some 1073741824
    else None)))

-- A size in bytes, at most this one: digits, and after them its unit (the same page).
unfoldable pub size_to : (most : ℕ) → List ℕ → Option ℕ
size_to most text =
    if digits_before text == 0 then None
    else in_units most (value_behind 0 (take (digits_before text) text)) (bytes_of (drop (digits_before text) text))

-- a size of at most 2^40 bytes
abbrev pub size_of : List ℕ → Option ℕ
size_of text = size_to 1099511627776 text
