-- What a note adds to the requests so far.
use Rattle.std.specs.Prelude.{ℕ, List, [], ◌∷◌, ◌++◌, Option, None, Some}
use Rattle.ngx_outside.specs.declared.event.Entry.{Entry}
use Rattle.request_journal.specs.declared.past.Note.{Note}
use Rattle.request_journal.specs.declared.past.Note.TheVariants.{Started, Over}

-- the last request is over, and this is logged of it
abbrev pub last_logged : List Entry → ℕ × ℕ → List Entry
last_logged [] log = []
last_logged (entry ∷ []) log = record entry { log = Some log } ∷ []
last_logged (entry ∷ later ∷ entries) log = entry ∷ last_logged (later ∷ entries) log

-- the same, where it is over
abbrev pub logged_if : List Entry → Option (ℕ × ℕ) → List Entry
logged_if entries None = entries
logged_if entries (Some log) = last_logged entries log

abbrev pub noted : List Entry → Note → List Entry
noted entries (Started entry) = entries ++ entry ∷ []
noted entries (Over log) = logged_if entries log
