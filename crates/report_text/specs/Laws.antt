-- What a reader of the printed text finds in it.
use Rattle.std.specs.Prelude.{◌≡◌, ◌≢◌, ℕ, Bool, true, ◌&&◌, nat_le, nat_eq, List, [], ◌∷◌, map, drop, codes, Option, Some, None, Result, Ok, if◌then◌else◌}
use Rattle.std.specs.List.{list_all, filter_map, starts_with, AllByRecursion}
use Rattle.replay_words.specs.declared.faults.FaultKind.{FaultKind}
use Rattle.replay_words.specs.Escapes.{unescaped, AreBytes}
use Rattle.replay_words.specs.Lines.{lines_of}
use Rattle.replay_words.specs.Words.{is_dash}
use Rattle.report_text.specs.Escapes.{escaped}
use Rattle.report_text.specs.Report.{Report, run_text}

-- a printable byte of ASCII, which neither ends a line nor moves a terminal
abbrev pub is_printable : ℕ → Bool
is_printable b = nat_le 32 b && nat_le b 126

-- bytes are printed in printable ones, and read back by the grammar of scripts
abbrev pub BytesReadBack : Type 0
BytesReadBack =
    (bytes : List ℕ) → AreBytes bytes
    → (list_all is_printable (escaped bytes) ≡ true) × (unescaped (escaped bytes) ≡ Ok bytes)

-- what comes after `sent ` in a line that begins so
unfoldable pub behind_sent : List ℕ → Option (List ℕ)
behind_sent line = if starts_with nat_eq line (codes "sent ") then Some (drop 5 line) else None

-- the bytes that the word after `sent ` spells: none for `-`
unfoldable pub bytes_of : List ℕ → Result (List ℕ) FaultKind
bytes_of word = if is_dash word then Ok [] else unescaped word

-- what the `sent` lines of a text tell
unfoldable pub sent_in : List ℕ → List (Result (List ℕ) FaultKind)
sent_in text = map bytes_of (filter_map behind_sent (lines_of text))

-- bytes other than the one byte `-`, which is printed as no bytes are
abbrev pub IsTold : Report → Type 0
IsTold r = AreBytes r.sent × (r.sent ≢ 45 ∷ [])

-- the `sent` lines of a run's text tell what was sent on each of its connections
abbrev pub SentReadsBack : Type 0
SentReadsBack =
    (reports : List Report) (skipped refused : ℕ) → AllByRecursion IsTold reports
    → sent_in (run_text reports skipped refused) ≡ map (λ r. Ok r.sent) reports
