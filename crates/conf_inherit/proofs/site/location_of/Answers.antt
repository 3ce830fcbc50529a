use Rattle.std.proofs.Common.{ap, ◌∙◌}
use Rattle.conf_values.specs.TextSet.{holds}
use Rattle.site_whole.specs.Whole.{matching_by}
use Rattle.conf_block.specs.Forest.{forest_of}
use Rattle.conf_block.specs.Locations.{text_in}
use Rattle.conf_inherit.specs.Pools.{values_by, patterns_in}
use Rattle.conf_inherit.specs.Built.{matching_of}
use Rattle.conf_inherit.proofs.SiteLaws.{keeps-then, all-then, patterns-kept, fits-later, location-shown}
use Rattle.conf_inherit.proofs.site.location_of.Goals as goal

pub add_level-requires : goal.add_level-requires
add_level-requires g c = fits-later _ _ c.args.values (patterns-kept c.args.pool.now.shelf c.kind_of.new.patterns c.in_ok-kind.ensures.kept) c.requires

pub returns-clause-seen : goal.returns-clause-seen
returns-clause-seen g c = λ b h.
    let words = c.as_slice-words.result.now in
    location-shown (holds c.args.known.now.keys) b (record { text = c.in_ok-text.text; level = c.in_ok-level.level; kind = c.in_ok-kind.kind; depth = c.args.depth })
    c.args.branch.directive.now (forest_of c.args.branch.block.now) (values_by c.args.values)
    (ap (λ t. matching_by (patterns_in b) t c.in_ok-kind.kind) (c.in_ok-text.ensures ∙ c.text_in.ensures)
    ∙ c.in_ok-kind.ensures.seen b.patterns (keeps-then _ _ _ c.in_ok-level.ensures.shelf.patterns h.1.patterns) ∙ ap matching_of c.as_slice-words.ensures)
    (c.in_ok-level.ensures.seen b h)

pub returns-clause-there : goal.returns-clause-there
returns-clause-there g c = fits-later _ _ c.args.values (all-then _ _ _ (patterns-kept c.args.pool.now.shelf c.kind_of.new.patterns c.in_ok-kind.ensures.kept) c.in_ok-level.ensures.shelf) c.requires

pub returns-clause-shelf : goal.returns-clause-shelf
returns-clause-shelf g c = all-then _ _ _ (patterns-kept c.args.pool.now.shelf c.kind_of.new.patterns c.in_ok-kind.ensures.kept) c.in_ok-level.ensures.shelf
