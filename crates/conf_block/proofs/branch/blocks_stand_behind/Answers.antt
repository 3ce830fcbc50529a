use Rattle.conf_block.proofs.ForestLaws.{first-forest}
use Rattle.conf_block.proofs.branch.blocks_stand_behind.Goals as goal

pub returns : goal.returns
returns c = first-forest
