use Rattle.response_flow.proofs.Ending.{shows_whole}
use Rattle.response_flow.proofs.law.shown_end_whole.Goals as goal

pub returns : goal.returns
returns c = shows_whole
