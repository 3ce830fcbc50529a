-- Names of servers, and the numbers that they lead to.
use Rattle.std.specs.Prelude.{◌≡◌, ℕ, ◌<◌, nat_eq, nat_lt, Bool, true, false, ◌&&◌, List, [], ◌∷◌, length, Option, Some, None, bytes_eq, if◌then◌else◌}
use Rattle.std.specs.List.{starts_with, ends_with}
use Rattle.std.specs.HashMap.{get_by}
use Rattle.site_views.specs.Choice.{or_else}
use Rattle.server_choice.specs.declared.names.NameMap.{NameMap}

-- the number of a text
abbrev pub number_of : NameMap → List ℕ → Option ℕ
number_of names text = get_by (λ key. bytes_eq text key.items) names.numbers

-- the host ends with the text, or begins with it, and is longer: a star is at least one byte
abbrev pub is_ending : (host text : List ℕ) → Bool
is_ending host text = ends_with nat_eq host text && nat_lt (length text) (length host)

abbrev pub is_beginning : (host text : List ℕ) → Bool
is_beginning host text = starts_with nat_eq host text && nat_lt (length text) (length host)

-- this is the number of the longest text that fits and has one
pub record IsLongestNumber (fits : List ℕ → Bool) (numbers : List ℕ → Option ℕ) (number : ℕ) : Type 0 where
  pub text : List ℕ
  pub text_fits : fits text ≡ true
  pub has : numbers text ≡ Some number
  pub longest : (other : List ℕ) → fits other ≡ true → length text < length other → numbers other ≡ None

-- the number of the longest text that fits and has one; none where none that fits has one
abbrev pub IsLongestOf : (List ℕ → Bool) → (List ℕ → Option ℕ) → Option ℕ → Type 0
IsLongestOf fits numbers None = (text : List ℕ) → fits text ≡ true → numbers text ≡ None
IsLongestOf fits numbers (Some number) = IsLongestNumber fits numbers number

-- a text of a name `*.x` begins with a dot, and one of `x.*` ends with one; no other text has a number
abbrev pub begins_with_dot : List ℕ → Bool
begins_with_dot text = starts_with nat_eq text (46 ∷ [])

abbrev pub ends_with_dot : List ℕ → Bool
ends_with_dot text = ends_with nat_eq text (46 ∷ [])

abbrev pub AreAll : (List ℕ → Bool) → (List ℕ → Option ℕ) → Type 0
AreAll test numbers = (text : List ℕ) → test text ≡ false → numbers text ≡ None

-- the text has this number, unless it had one, and the others are as they were
abbrev pub GetsNumber : NameMap → NameMap → List ℕ → ℕ → Type 0
GetsNumber old new text number = (other : List ℕ) →
    number_of new other ≡ or_else (number_of old other) (if bytes_eq text other then Some number else None)

abbrev pub HasSameNumbers : NameMap → NameMap → Type 0
HasSameNumbers old new = (other : List ℕ) → number_of new other ≡ number_of old other
