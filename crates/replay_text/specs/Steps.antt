-- What the functions that read sections compute, a line at a time.
use Rattle.std.specs.Prelude.{ℕ, ◌+◌, List, [], ◌∷◌, ◌++◌, Result, Ok, Err, if◌then◌else◌}
use Rattle.replay_words.specs.Faults.{◌>>=◌}
use Rattle.replay_words.specs.Words.{is_dot}
use Rattle.replay_text.specs.declared.faults.ScriptFault.{ScriptFault}
use Rattle.replay_text.specs.declared.parts.TreeLine.{TreeLine}
use Rattle.replay_text.specs.declared.parts.EventLine.{EventLine}
use Rattle.replay_text.specs.Faults.{ends_at}
use Rattle.replay_text.specs.Grammar.{ReadTo, place}

-- the raw lines up to the line `.`, and the place after it
unfoldable pub raw_at : ℕ → List (List ℕ) → Result (List ℕ × ReadTo) ScriptFault
raw_at n [] = ends_at n
raw_at n (line ∷ lines) =
    if is_dot line then Ok ([], place (n + 1) lines)
    else (raw_at (n + 1) lines >>= λ x. Ok (line ++ 10 ∷ x.0, x.1))

-- what was read before others
abbrev pub with_raw : List ℕ → Result (List ℕ × ReadTo) ScriptFault → Result (List ℕ × ReadTo) ScriptFault
with_raw front (Ok x) = Ok (front ++ x.0, x.1)
with_raw front (Err f) = Err f

abbrev pub with_tree : List TreeLine → Result (List TreeLine × ℕ × ReadTo) ScriptFault → Result (List TreeLine × ℕ × ReadTo) ScriptFault
with_tree front (Ok x) = Ok (front ++ x.0, x.1, x.2)
with_tree front (Err f) = Err f

abbrev pub with_events : List EventLine → Result (List EventLine) ScriptFault → Result (List EventLine) ScriptFault
with_events front (Ok events) = Ok (front ++ events)
with_events front (Err f) = Err f
