use Rattle.file_path.proofs.Roots as roots
use Rattle.file_path.proofs.laws.paths_stay_in_root.Goals as goal

pub returns : goal.returns
returns c = roots.paths_stay_in_root
