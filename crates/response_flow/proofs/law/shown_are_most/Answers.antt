use Rattle.response_flow.proofs.Showing.{shows_most}
use Rattle.response_flow.proofs.law.shown_are_most.Goals as goal

pub returns : goal.returns
returns c = shows_most
