use Rattle.body_frame.proofs.LawLemmas.{compose}
use Rattle.body_frame.proofs.laws.takes_compose.Goals as goal

pub returns : goal.returns
returns c = compose
