use Rattle.std.proofs.Common.{◌∙◌}
use Rattle.report_text.specs.Report.{log_line}
use Rattle.report_text.proofs.LineLaws.{line_more, line_done}
use Rattle.report_text.proofs.lines.put_log_lines.Goals as goal

pub loop-entry-preserved : goal.loop-entry-preserved
loop-entry-preserved c =
    line_more log_line c.args.journal.now c.loop-entry.out c.put_log_line.new.out c.loop-entry.entry-index _ c.loop-entry-test.true c.in_ok-put_log_line.ensures
    ∙ c.loop-entry.invariant

pub returns : goal.returns
returns c = line_done log_line c.args.journal.now c.loop-entry.out c.loop-entry.entry-index c.loop-entry-test.false ∙ c.loop-entry.invariant
