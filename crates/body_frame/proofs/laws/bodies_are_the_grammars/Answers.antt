use Rattle.body_frame.proofs.GrammarLaw.{grammar}
use Rattle.body_frame.proofs.laws.bodies_are_the_grammars.Goals as goal

pub returns : goal.returns
returns c = grammar
