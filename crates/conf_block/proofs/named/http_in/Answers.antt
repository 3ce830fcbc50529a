use Rattle.conf_block.proofs.LevelLaws.{http-none, http-some}
use Rattle.conf_block.proofs.named.http_in.Goals as goal

pub returns-in-None : goal.returns-in-None
returns-in-None c = http-none _ c.in-None.ensures.blocks

pub returns-in-Some : goal.returns-in-Some
returns-in-Some c = http-some _ c.in-Some.branch.directive.now _ _ c.in-Some.ensures.blocks
