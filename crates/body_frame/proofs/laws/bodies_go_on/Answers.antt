use Rattle.body_frame.proofs.LawLemmas.{go_on}
use Rattle.body_frame.proofs.laws.bodies_go_on.Goals as goal

pub returns : goal.returns
returns c = go_on
