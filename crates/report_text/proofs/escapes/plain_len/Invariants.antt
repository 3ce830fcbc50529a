use Rattle.std.proofs.Common.{◌≡◌, ◌++◌, take, drop}
use Rattle.report_text.specs.Escapes.{escaped}
use Rattle.report_text.proofs.escapes.plain_len.Given as goal

abbrev pub invariant-loop-i : goal.invariant-loop-i
invariant-loop-i l = escaped l.bytes ≡ take l.i l.bytes ++ escaped (drop l.i l.bytes)
