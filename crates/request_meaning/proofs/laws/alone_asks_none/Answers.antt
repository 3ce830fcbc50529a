use Rattle.request_meaning.proofs.Nests.{alone}
use Rattle.request_meaning.proofs.laws.alone_asks_none.Goals as goal

pub returns : goal.returns
returns c = alone
