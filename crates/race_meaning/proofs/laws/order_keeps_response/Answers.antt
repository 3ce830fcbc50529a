use Rattle.race_meaning.proofs.Mains.{keeps_response}
use Rattle.race_meaning.proofs.laws.order_keeps_response.Goals as goal

pub returns : goal.returns
returns c = keeps_response
