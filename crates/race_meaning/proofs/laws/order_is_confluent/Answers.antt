use Rattle.race_meaning.proofs.Mains.{confluent}
use Rattle.race_meaning.proofs.laws.order_is_confluent.Goals as goal

pub returns : goal.returns
returns c = confluent
