use Rattle.body_frame.proofs.LawLemmas.{stay}
use Rattle.body_frame.proofs.laws.bodies_stay.Goals as goal

pub returns : goal.returns
returns c = stay
