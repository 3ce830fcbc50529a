use Rattle.req_head.proofs.StepLemmas.{head-stays}
use Rattle.req_head.proofs.laws.head_stays.Goals as goal

pub returns : goal.returns
returns c = head-stays
