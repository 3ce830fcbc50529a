use Rattle.resp_head.proofs.LawLemmas.{head_reads_back}
use Rattle.resp_head.proofs.laws.head_reads_back.Goals as goal

pub returns : goal.returns
returns c = head_reads_back
