use Rattle.report_text.proofs.EscapeLaws.{escaped_printable, unescaped-escaped}
use Rattle.report_text.proofs.laws.printed_bytes_read_back.Goals as goal

pub returns : goal.returns
returns c bytes h = (escaped_printable bytes, unescaped-escaped bytes h)
