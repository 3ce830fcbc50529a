use Rattle.request_meaning.proofs.Nodes.{meant}
use Rattle.request_meaning.proofs.laws.node_is_meant.Goals as goal

pub returns : goal.returns
returns g c = meant
