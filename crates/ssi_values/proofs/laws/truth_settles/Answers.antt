use Rattle.ssi_values.proofs.Settles as settles
use Rattle.ssi_values.proofs.laws.truth_settles.Goals as goal

pub returns : goal.returns
returns c = settles.truth_settles
