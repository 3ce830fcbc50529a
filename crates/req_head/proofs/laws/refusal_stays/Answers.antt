use Rattle.req_head.proofs.StepLemmas.{refusal-stays}
use Rattle.req_head.proofs.laws.refusal_stays.Goals as goal

pub returns : goal.returns
returns c = refusal-stays
