-- Numbers by texts.
use Rattle.std.specs.Prelude.{◌≡◌, ℕ, ◌<◌, Bool, true, List, [], ◌∷◌, length, Option, Some, None, option_map, find, bytes_eq, if◌then◌else◌}
use Rattle.location_match.specs.Prefixes.{PrefixList}
use Rattle.location_match.specs.declared.texts.NumberedText.{NumberedText}

-- the number of the first of the texts with numbers that is this one
abbrev pub number_in : List NumberedText → List ℕ → Option ℕ
number_in texts text = option_map (λ (t : NumberedText). t.number) (find (λ (t : NumberedText). bytes_eq t.text text) texts)

-- the same of a list's texts
unfoldable pub first_number : List (List ℕ) → List ℕ → List ℕ → Option ℕ
first_number [] numbers text = None
first_number (t ∷ texts) [] text = None
first_number (t ∷ texts) (n ∷ numbers) text = if bytes_eq t text then Some n else first_number texts numbers text

abbrev pub number_of : PrefixList → List ℕ → Option ℕ
number_of list text = first_number list.texts list.locations text

-- the list leads from each text to this number
abbrev pub LeadsAs : PrefixList → (List ℕ → Option ℕ) → Type 0
LeadsAs list numbers = (text : List ℕ) → number_of list text ≡ numbers text

-- this is the number of the longest text that fits and has one
pub record IsLongestNumber (fits : List ℕ → Bool) (numbers : List ℕ → Option ℕ) (number : ℕ) : Type 0 where
  pub text : List ℕ
  pub text_fits : fits text ≡ true
  pub has : numbers text ≡ Some number
  pub longest : (other : List ℕ) → fits other ≡ true → length text < length other → numbers other ≡ None

-- the number of the longest text that fits and has one; none where none that fits has one
abbrev pub IsLongestOf : (List ℕ → Bool) → (List ℕ → Option ℕ) → Option ℕ → Type 0
IsLongestOf fits numbers None = (text : List ℕ) → fits text ≡ true → numbers text ≡ None
IsLongestOf fits numbers (Some number) = IsLongestNumber fits numbers number
