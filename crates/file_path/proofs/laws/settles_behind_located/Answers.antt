use Rattle.file_path.proofs.Settles as settles
use Rattle.file_path.proofs.laws.settles_behind_located.Goals as goal

pub returns : goal.returns
returns g c = settles.settles_behind_located c.value_settles.ensures
