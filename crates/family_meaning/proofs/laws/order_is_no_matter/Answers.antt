use Rattle.family_meaning.proofs.Orders.{no_matter}
use Rattle.family_meaning.proofs.laws.order_is_no_matter.Goals as goal

pub returns : goal.returns
returns c = no_matter
