-- Reading that may find a fault.
use Rattle.std.specs.Prelude.{◌≡◌, ⊤, Option, None, Some, Result, Ok, Err}
use Rattle.conf_text.specs.declared.directive.Directive.{Directive}
use Rattle.conf_text.specs.declared.fault.FaultKind.{FaultKind}
use Rattle.conf_text.specs.declared.fault.ConfFault.{ConfFault}
use Rattle.conf_text.specs.declared.fault.FaultKind.TheVariants.{PatternTooBig}
use Rattle.conf_check.specs.declared.error.ReadError.{ReadError}
use Rattle.conf_check.specs.declared.error.ReadError.TheVariants as reads

-- the first fault, or the value of what follows
infixl 10 ◌>>=◌
unfoldable pub ◌>>=◌ : {A B E : Type 0} → Result A E → (A → Result B E) → Result B E
(Ok x) >>= f = f x
(Err e) >>= f = Err e

infixl 10 ◌>>◌
unfoldable pub ◌>>◌ : {A B E : Type 0} → Result A E → Result B E → Result B E
(Ok x) >> r = r
(Err e) >> r = Err e

-- no fault
abbrev pub sound : Result (Unit {0}) ConfFault
sound = Ok tt

-- a fault of this kind of a directive: at its place, and by its name
abbrev pub fault_of : Directive → FaultKind → ConfFault
fault_of d kind = record { kind = kind; file = d.file; line = d.line; word = Some d.name }

-- the fault of this kind, if there is one
unfoldable pub faulty : Directive → Option FaultKind → Result (Unit {0}) ConfFault
faulty d None = sound
faulty d (Some kind) = Err (fault_of d kind)

-- what was returned, seen by view, is what the definition gives, unless memory ran out, or a pattern was too big for its maker,
-- where that may refuse some
abbrev pub FailsBy : {Y : Type 0} → (refused : Type 0) → ReadError → Result Y ConfFault → Type 0
FailsBy refused (reads.Fault f) meant = meant ≡ Err f
FailsBy refused (reads.TooBig f) meant = refused × (f.kind ≡ PatternTooBig)
FailsBy refused reads.OutOfMemory meant = ⊤

abbrev pub Reads : {X Y : Type 0} → (refused : Type 0) → (X → Y) → Result X ReadError → Result Y ConfFault → Type 0
Reads refused view (Ok x) meant = meant ≡ Ok (view x)
Reads refused view (Err e) meant = FailsBy refused e meant

-- and so where no maker does
abbrev pub ReadsAlone : {X Y : Type 0} → (X → Y) → Result X ReadError → Result Y ConfFault → Type 0
ReadsAlone view result meant = Reads ⊥ view result meant
