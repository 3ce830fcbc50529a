-- The faults of a script, by their lines.
use Rattle.std.specs.Prelude.{◌≡◌, ℕ, Result, Ok, Err}
use Rattle.replay_words.specs.declared.faults.FaultKind.{FaultKind}
use Rattle.replay_words.specs.declared.faults.FaultKind.TheVariants.{Section}
use Rattle.replay_words.specs.declared.faults.LineError.{LineError}
use Rattle.replay_words.specs.declared.faults.LineError.TheVariants as lines
use Rattle.replay_text.specs.declared.faults.ScriptFault.{ScriptFault}
use Rattle.replay_text.specs.declared.faults.ScriptError.{ScriptError}
use Rattle.replay_text.specs.declared.faults.ScriptError.TheVariants as script

-- a fault of this kind in the line of this number
abbrev pub fault : ℕ → FaultKind → ScriptFault
fault n kind = record { kind = kind; line = n }

-- what was read in the line of this number
abbrev pub at_line : {A : Type 0} → ℕ → Result A FaultKind → Result A ScriptFault
at_line n (Ok x) = Ok x
at_line n (Err kind) = Err (fault n kind)

-- a fault of a line, with the line's number
abbrev pub script_error : ℕ → LineError → ScriptError
script_error n lines.OutOfMemory = script.OutOfMemory
script_error n (lines.Fault kind) = script.Fault (fault n kind)

-- the text ends before the line of this number, where one is due
abbrev pub ends_at : {A : Type 0} → ℕ → Result A ScriptFault
ends_at n = Err (fault n Section)

-- What a reader of lines returned, seen by view, is what reading gives, unless memory ran out.
abbrev pub Fails : {Y : Type 0} → ScriptError → Result Y ScriptFault → Type 0
Fails script.OutOfMemory read = Unit {0}
Fails (script.Fault f) read = read ≡ Err f

abbrev pub Gives : {X Y : Type 0} → (X → Y) → Result X ScriptError → Result Y ScriptFault → Type 0
Gives view (Ok x) read = read ≡ Ok (view x)
Gives view (Err e) read = Fails e read
