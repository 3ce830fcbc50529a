use Rattle.ssi_values.proofs.Settles as settles
use Rattle.ssi_values.proofs.laws.filled_settles.Goals as goal

pub returns : goal.returns
returns c = settles.filled_settles
