use Rattle.req_head.proofs.StepLemmas.{full-decides}
use Rattle.req_head.proofs.laws.full_decides.Goals as goal

pub returns : goal.returns
returns c = full-decides
