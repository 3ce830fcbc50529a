use Rattle.target_text.proofs.Settles as settles
use Rattle.target_text.proofs.laws.fit_value_settles.Goals as goal

pub returns : goal.returns
returns c = settles.fit_value_settles
