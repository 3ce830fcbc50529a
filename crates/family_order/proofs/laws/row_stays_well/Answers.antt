use Rattle.family_order.proofs.Wells.{stays_well}
use Rattle.family_order.proofs.laws.row_stays_well.Goals as goal

pub returns : goal.returns
returns c = stays_well
