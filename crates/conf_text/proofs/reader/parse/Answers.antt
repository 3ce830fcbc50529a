use Rattle.std.proofs.Common.{sym, subst}
use Rattle.conf_text.proofs.StepLaws.{Parsed, parsed-none, parsed-done, nested-reading}
use Rattle.conf_text.proofs.reader.parse.Goals as goal

pub loop-lines-init : goal.loop-lines-init
loop-lines-init c = subst (λ ds. Parsed c.args.file c.args.bytes.now ds 0 1 c.args.bytes.now) (sym c.new-lines.ensures) (parsed-none c.args.file c.args.bytes.now)

pub returns-in-Done-clause-nested : goal.returns-in-Done-clause-nested
returns-in-Done-clause-nested c =
    nested-reading c.args.file c.args.bytes.now c.loop-lines.lines
    (parsed-done _ _ _ _ _ _ c.loop-lines.invariant (c.in-Done.ensures _ _ _ _ _ c.in_ok-statement.ensures))
