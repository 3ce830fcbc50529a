use Rattle.conf_text.proofs.PrintLaws.{printed-is_read}
use Rattle.conf_text.proofs.law.what_is_printed_is_read.Goals as goal

pub returns : goal.returns
returns c = printed-is_read
