use Rattle.ready_loop.proofs.LawProofs.{begins}
use Rattle.ready_loop.proofs.laws.kept_begins.Goals as goal

pub returns : goal.returns
returns c = begins
