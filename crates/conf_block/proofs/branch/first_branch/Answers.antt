use Rattle.conf_block.proofs.ForestLaws.{level-branch, level-none}
use Rattle.conf_block.proofs.branch.first_branch.Goals as goal

pub returns-in-None-clause-forest : goal.returns-in-None-clause-forest
returns-in-None-clause-forest c = level-none c.args.level.now c.in-None.ensures.cases

pub returns-in-Some-clause-forest : goal.returns-in-Some-clause-forest
returns-in-Some-clause-forest c =
    level-branch c.in-Some.directive.now _ c.in-Some.rest.now _ _ c.in-Some.ensures.cases.0 c.split_block.ensures.block c.split_block.ensures.whole
