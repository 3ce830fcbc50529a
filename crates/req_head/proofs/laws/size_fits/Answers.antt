use Rattle.req_head.proofs.StepLemmas.{size-fits}
use Rattle.req_head.proofs.laws.size_fits.Goals as goal

pub returns : goal.returns
returns c = size-fits
