use Rattle.request_meaning.proofs.Nests.{nest}
use Rattle.request_meaning.proofs.laws.subrequests_nest.Goals as goal

pub returns : goal.returns
returns c = nest
