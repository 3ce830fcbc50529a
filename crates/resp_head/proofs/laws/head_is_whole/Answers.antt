use Rattle.resp_head.proofs.LawLemmas.{head_is_whole}
use Rattle.resp_head.proofs.laws.head_is_whole.Goals as goal

pub returns : goal.returns
returns c = head_is_whole
