use Rattle.file_path.proofs.Settles as settles
use Rattle.file_path.proofs.laws.located_settles.Goals as goal

pub returns : goal.returns
returns g c = settles.located_settles c.value_settles.ensures
