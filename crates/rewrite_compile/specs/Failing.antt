-- Why a level makes no program.
use Rattle.std.specs.Prelude.{◌≡◌, List, Some, Contains}
use Rattle.ngx_pattern.specs.declared.set.PatternFault.{PatternFault}
use Rattle.conf_text.specs.declared.fault.FaultKind.TheVariants as kinds
use Rattle.rewrite_compile.specs.declared.part.Part.{Part}
use Rattle.rewrite_compile.specs.declared.part.Spot.{Spot}
use Rattle.rewrite_compile.specs.declared.program.CompileError.{CompileError}
use Rattle.rewrite_compile.specs.declared.program.CompileError.TheVariants.{Fault, TooBig, OutOfMemory}
use Rattle.rewrite_compile.specs.Programs.{first_fault, refusals, fault_at}

-- It is the first fault of these, or that of a pattern that the maker refused, where it says so.
abbrev pub Says : (refused : Type 0) → List Part → CompileError → Type 0
Says refused parts (Fault fault) = first_fault parts ≡ Some fault
Says refused parts (TooBig fault) = refused × Contains (refusals parts) fault
Says refused parts OutOfMemory = Unit {0}

abbrev pub error_by : Spot → PatternFault → CompileError
error_by spot PatternFault.Bad = Fault (fault_at spot kinds.Pattern)
error_by spot PatternFault.TooBig = TooBig (fault_at spot kinds.PatternTooBig)
error_by spot PatternFault.OutOfMemory = OutOfMemory
