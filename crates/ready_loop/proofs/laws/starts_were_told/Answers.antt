use Rattle.ready_loop.proofs.LawProofs.{starts_told}
use Rattle.ready_loop.proofs.laws.starts_were_told.Goals as goal

pub returns : goal.returns
returns c = starts_told
