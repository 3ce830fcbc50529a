-- What the functions that read sums compute, a term at a time, and what contracts see of their values.
use Rattle.std.specs.Prelude.{◌≡◌, ℕ, ◌+◌, ◌-◌, ◌^◌, List, [], ◌∷◌, ◌++◌, length, map, min, take, drop, Option, Some, None, option_map, Result, Ok, Err, if◌then◌else◌}
use Rattle.replay_words.specs.declared.faults.FaultKind.{FaultKind}
use Rattle.replay_words.specs.declared.faults.FaultKind.TheVariants.{Word}
use Rattle.replay_words.specs.declared.faults.LineError.{LineError}
use Rattle.replay_words.specs.declared.faults.LineError.TheVariants as lines
use Rattle.replay_words.specs.declared.sums.TermWords.{TermWords}
use Rattle.replay_words.specs.declared.sums.CountedWord.{CountedWord}
use Rattle.replay_words.specs.Faults.{◌>>=◌}
use Rattle.replay_words.specs.Words.{is_plus, is_times, first_word}
use Rattle.replay_words.specs.Sums.{Term, Counted, repeated}

-- a term, and a word with its number, wherever they are in memory
abbrev pub term_view : TermWords → Term
term_view t = record { word = t.word.now; times = option_map (λ w. w.now) t.times }

abbrev pub term_views : List TermWords → List Term
term_views ts = map term_view ts

abbrev pub counted_view : CountedWord → Counted
counted_view t = record { word = t.word.now; count = t.count }

abbrev pub counted_views : List CountedWord → List Counted
counted_views ts = map counted_view ts

-- the words after a `+`, if the first word is one
abbrev pub behind_plus : List (List ℕ) → Result (Option (List (List ℕ))) FaultKind
behind_plus [] = Ok None
behind_plus (w ∷ words) = if is_plus w then Ok (Some words) else Err Word

-- a term whose number is due, and the words after the `+` that follows it
abbrev pub times_at : List ℕ → List (List ℕ) → Result (Term × Option (List (List ℕ))) FaultKind
times_at word words = do
  times ← first_word words
  behind ← behind_plus times.1
  Ok (record { word = word; times = Some times.0 }, behind)

-- the term that begins with a word, and the words after the `+` that follows it
abbrev pub term_behind : List ℕ → List (List ℕ) → Result (Term × Option (List (List ℕ))) FaultKind
term_behind word [] = Ok (record { word = word; times = None }, None)
term_behind word (w ∷ words) =
    if is_times w then times_at word words
    else (if is_plus w then Ok (record { word = word; times = None }, Some words) else Err Word)

abbrev pub term_at : List (List ℕ) → Result (Term × Option (List (List ℕ))) FaultKind
term_at words = do
  first ← first_word words
  term_behind first.0 first.1

-- terms before others
abbrev pub with_terms : List Term → Result (List Term) FaultKind → Result (List Term) FaultKind
with_terms front (Ok ts) = Ok (front ++ ts)
with_terms front (Err kind) = Err kind

abbrev pub with_counted : List Counted → Result (List Counted) FaultKind → Result (List Counted) FaultKind
with_counted front (Ok ts) = Ok (front ++ ts)
with_counted front (Err kind) = Err kind

-- a text n times
abbrev pub times_text : ℕ → Result (List ℕ) FaultKind → Result (List ℕ) FaultKind
times_text n (Ok text) = Ok (repeated n text)
times_text n (Err kind) = Err kind

-- how many bytes were read, after n others, up to the end of 64 bits
abbrev pub capped : ℕ → Result (List ℕ) FaultKind → Result ℕ FaultKind
capped n (Ok bs) = Ok (min (n + length bs) (2 ^ 64 - 1))
capped n (Err kind) = Err kind

-- the bytes from a place to the end are there n times, in place of once, unless memory ran out
abbrev pub RepeatsFrom : ℕ → ℕ → List ℕ → Result (Unit {0}) LineError → List ℕ → Type 0
RepeatsFrom start n old (Ok x) new = new ≡ take start old ++ repeated n (drop start old)
RepeatsFrom start n old (Err e) new = e ≡ lines.OutOfMemory
