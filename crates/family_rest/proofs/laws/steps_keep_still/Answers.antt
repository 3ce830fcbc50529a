use Rattle.family_rest.proofs.Steps.{keep_still}
use Rattle.family_rest.proofs.laws.steps_keep_still.Goals as goal

pub returns : goal.returns
returns c = keep_still
