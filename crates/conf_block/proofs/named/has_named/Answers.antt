use Rattle.std.proofs.Common.{◌∙◌}
use Rattle.conf_block.specs.Forest.{forest_of}
use Rattle.conf_block.specs.Blocks.{block_with, blocks_of}
use Rattle.conf_block.proofs.LevelLaws.{some-by}
use Rattle.conf_block.proofs.named.has_named.Goals as goal

pub returns : goal.returns
returns c =
    c.is_some.ensures
    ∙ some-by c.next_named.result (blocks_of c.args.name.now (forest_of c.args.level.now)) (λ b. block_with b.directive.now (forest_of b.block.now)) (λ b. blocks_of c.args.name.now (forest_of b.beside.now)) c.next_named.ensures.blocks
