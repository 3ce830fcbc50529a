use Rattle.std.proofs.Common.{◌≡◌, ◌++◌, length}
use Rattle.report_text.specs.Escapes.{escaped}
use Rattle.report_text.proofs.escapes.put_escaped.Given as goal

abbrev pub invariant-runs : goal.invariant-runs
invariant-runs l = l.out ++ escaped l.rest ≡ l.fn.out ++ escaped l.fn.bytes

abbrev pub decreases-runs : goal.decreases-runs
decreases-runs l = length l.rest
