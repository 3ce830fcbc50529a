use Rattle.std.proofs.Common.{ap, ◌∙◌}
use Rattle.conf_block.specs.Forest.{forest_of}
use Rattle.conf_races.specs.Origins.{outer_over}
use Rattle.conf_races.proofs.named.around_servers.Goals as goal

pub returns : goal.returns
returns c = λ later g. c.in_ok-lines.ensures.lines later g ∙ ap (outer_over (forest_of c.args.http.now)) (c.nowhere.ensures later)
