-- Reading that may find a fault.
use Rattle.std.specs.Prelude.{◌≡◌, Result, Ok, Err}
use Rattle.replay_words.specs.declared.faults.FaultKind.{FaultKind}
use Rattle.replay_words.specs.declared.faults.LineError.{LineError}
use Rattle.replay_words.specs.declared.faults.LineError.TheVariants as lines

-- the first fault, or the value of what follows
infixl 10 ◌>>=◌
abbrev pub ◌>>=◌ : {A B E : Type 0} → Result A E → (A → Result B E) → Result B E
(Ok x) >>= f = f x
(Err e) >>= f = Err e

-- What a reader of a line returned, seen by view, is what reading gives, unless memory ran out.
abbrev pub LineFails : {Y : Type 0} → LineError → Result Y FaultKind → Type 0
LineFails lines.OutOfMemory read = Unit {0}
LineFails (lines.Fault kind) read = read ≡ Err kind

abbrev pub LineGives : {X Y : Type 0} → (X → Y) → Result X LineError → Result Y FaultKind → Type 0
LineGives view (Ok x) read = read ≡ Ok (view x)
LineGives view (Err e) read = LineFails e read
