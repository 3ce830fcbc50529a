use Rattle.plain_core.proofs.LineLaws.{Sought}
use Rattle.plain_core.proofs.lines.line_size.Given as goal

abbrev pub invariant-loop-i : goal.invariant-loop-i
invariant-loop-i l = Sought l.bytes l.i
