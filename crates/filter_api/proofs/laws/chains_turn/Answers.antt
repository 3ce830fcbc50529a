use Rattle.filter_api.proofs.Compositions.{chains-turn}
use Rattle.filter_api.proofs.laws.chains_turn.Goals as goal

pub returns : goal.returns
returns c = chains-turn
