use Rattle.std.proofs.Common.{ap, ◌∙◌, option_map}
use Rattle.pattern_search.specs.site_whole.Whole.{level_whole}
use Rattle.location_search.proofs.Named.{server-named}
use Rattle.location_search.proofs.locations.Locations.named.Goals as goal

pub returns : goal.returns
returns c = λ server of site patterns.
    ap (option_map (level_whole patterns site)) (c.number.ensures ∙ of.named c.args.name.now) ∙ server-named patterns site server c.args.name.now
