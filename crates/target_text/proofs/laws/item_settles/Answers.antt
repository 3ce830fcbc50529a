use Rattle.target_text.proofs.Settles as settles
use Rattle.target_text.proofs.laws.item_settles.Goals as goal

pub returns : goal.returns
returns c = settles.item_settles
