use Rattle.std.proofs.Common.{◌≡◌, ◌++◌, drop, map}
use Rattle.report_text.specs.Lines.{lines_text}
use Rattle.report_text.specs.Report.{log_line}
use Rattle.report_text.proofs.lines.put_log_lines.Given as goal

abbrev pub invariant-loop-entry : goal.invariant-loop-entry
invariant-loop-entry l = l.out ++ lines_text (map log_line (drop l.entry-index l.journal)) ≡ l.initial.out ++ lines_text (map log_line l.journal)
