use Rattle.report_text.specs.Report.{report_of}
use Rattle.report_text.proofs.LineLaws.{whole_conn}
use Rattle.report_text.proofs.report.conn_text.Goals as goal

pub returns : goal.returns
returns c =
    whole_conn (report_of c.args.report.now) c.args.out.now _ _ _ (rw c.reserve.ensures at c.in_ok-put_conn_line.ensures) c.in_ok-put_log_lines.ensures
    c.in_ok-put_sent_line.ensures
