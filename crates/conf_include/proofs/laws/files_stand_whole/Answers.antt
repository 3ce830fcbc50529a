use Rattle.conf_include.proofs.WholeLaws.{stands_whole}
use Rattle.conf_include.proofs.laws.files_stand_whole.Goals as goal

pub returns : goal.returns
returns c = stands_whole
