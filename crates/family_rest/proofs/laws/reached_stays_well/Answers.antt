use Rattle.family_rest.proofs.Steps.{stays_well}
use Rattle.family_rest.proofs.laws.reached_stays_well.Goals as goal

pub returns : goal.returns
returns c = stays_well
