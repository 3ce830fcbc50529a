use Rattle.report_text.proofs.SentLaws.{sent_in-run_text}
use Rattle.report_text.proofs.laws.what_was_sent_is_read_back.Goals as goal

pub returns : goal.returns
returns c = sent_in-run_text
