use Rattle.std.proofs.Common.{ap, ◌∙◌, ◌++◌, map}
use Rattle.conf_values.specs.TextSet.{holds}
use Rattle.conf_block.specs.Forest.{forest_of}
use Rattle.conf_inherit.specs.Programs.{blocks_in}
use Rattle.race_places.specs.Places.{origins_by}
use Rattle.conf_races.specs.Origins.{outer_by, origins_in, block_origins}
use Rattle.conf_races.proofs.GrowLaws.{level_same}
use Rattle.conf_races.proofs.server.location_level.Goals as goal

pub returns-clause-lines : goal.returns-clause-lines
returns-clause-lines c = λ later g.
    let outer = outer_by later c.args.outer in
    level_same _ _ _ _ (c.level_lines-own.ensures later ∙ ap (origins_in outer (forest_of c.args.block.now)) c.in_ok-program.ensures)
    (c.in_ok-push_blocks.ensures.lines later g ∙ ap (λ bs. map (origins_by later) bs ++ map (block_origins outer) (blocks_in (holds c.args.known.now.keys) (forest_of c.args.block.now))) c.new-blocks.ensures.items)
