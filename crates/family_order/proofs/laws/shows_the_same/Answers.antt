use Rattle.family_order.proofs.Stubs.{the_same}
use Rattle.family_order.proofs.laws.shows_the_same.Goals as goal

pub returns : goal.returns
returns c = the_same
