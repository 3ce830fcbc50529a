-- Sums of bytes.
use Rattle.std.specs.Prelude.{ℕ, zero, suc, ◌+◌, List, [], ◌∷◌, ◌++◌, length, nat_le, Option, Some, None, Result, Ok, Err, if◌then◌else◌}
use Rattle.replay_words.specs.declared.faults.FaultKind.{FaultKind}
use Rattle.replay_words.specs.declared.faults.FaultKind.TheVariants.{Word, Number}
use Rattle.replay_words.specs.Faults.{◌>>=◌}
use Rattle.replay_words.specs.Words.{is_plus, is_times, is_dash_alone}
use Rattle.replay_words.specs.Numbers.{number, most_times}
use Rattle.replay_words.specs.Escapes.{unescaped}

-- a term of a sum: a word, and the word that says how many times it is taken, if there is one
pub record Term : Type 0 where
  pub word : List ℕ
  pub times : Option (List ℕ)

-- the same with the number of times
pub record Counted : Type 0 where
  pub word : List ℕ
  pub count : ℕ

-- a term before others
abbrev pub with_term : Term → Result (List Term) FaultKind → Result (List Term) FaultKind
with_term t (Ok ts) = Ok (t ∷ ts)
with_term t (Err kind) = Err kind

-- terms joined by `+`; a term is a word, or a word, `times` and a number
unfoldable mutual
  pub terms_of : List (List ℕ) → Result (List Term) FaultKind
  terms_of [] = Err Word
  terms_of (word ∷ words) = behind_word word words

  pub behind_word : List ℕ → List (List ℕ) → Result (List Term) FaultKind
  behind_word word [] = Ok (record { word = word; times = None } ∷ [])
  behind_word word (w ∷ words) =
      if is_times w then behind_times word words
      else (if is_plus w then with_term (record { word = word; times = None }) (terms_of words) else Err Word)

  pub behind_times : List ℕ → List (List ℕ) → Result (List Term) FaultKind
  behind_times word [] = Err Word
  behind_times word (times ∷ words) = with_term (record { word = word; times = Some times }) (behind_term words)

  pub behind_term : List (List ℕ) → Result (List Term) FaultKind
  behind_term [] = Ok []
  behind_term (w ∷ words) = if is_plus w then terms_of words else Err Word

-- a sum of terms, or `-` alone, which has none
unfoldable pub sum_of : List (List ℕ) → Result (List Term) FaultKind
sum_of words = if is_dash_alone words then Ok [] else terms_of words

-- how many times the word of a term is taken
abbrev pub count_of : Option (List ℕ) → Result ℕ FaultKind
count_of None = Ok 1
count_of (Some times) = number most_times times

-- the numbers of the terms
unfoldable pub counts_of : List Term → Result (List Counted) FaultKind
counts_of [] = Ok []
counts_of (term ∷ terms) = do
  count ← count_of term.times
  others ← counts_of terms
  Ok (record { word = term.word; count = count } ∷ others)

-- a text this many times
abbrev pub repeated : ℕ → List ℕ → List ℕ
repeated zero text = []
repeated (suc n) text = text ++ repeated n text

-- the bytes of the sum
unfoldable pub sum_bytes : List Counted → Result (List ℕ) FaultKind
sum_bytes [] = Ok []
sum_bytes (term ∷ terms) = do
  text ← unescaped term.word
  others ← sum_bytes terms
  Ok (repeated term.count text ++ others)

-- the most bytes that all sums of a script may have together
unfoldable pub most_bytes : ℕ
most_bytes = 67108864

-- the bytes of a sum, where `used` bytes of the script come before it
unfoldable pub bytes_within : ℕ → List Counted → Result (List ℕ) FaultKind
bytes_within used terms = do
  bytes ← sum_bytes terms
  if nat_le (used + length bytes) most_bytes then Ok bytes else Err Number
