use Rattle.std.proofs.Common.{ap, ◌∙◌, map}
use Rattle.conf_block.specs.Forest.{forest_of}
use Rattle.race_places.specs.Places.{origins_by}
use Rattle.conf_races.specs.Origins.{outer_by, origins_in}
use Rattle.conf_races.proofs.GrowLaws.{level_same}
use Rattle.conf_races.proofs.server.server_level.Goals as goal

pub returns : goal.returns
returns c = λ lists.
    level_same _ _ _ _ (c.level_lines.ensures lists ∙ ap (origins_in (outer_by lists c.args.outer) (forest_of c.args.block.now)) c.in_ok-program.ensures) (ap (map (origins_by lists)) c.new.ensures.items)
