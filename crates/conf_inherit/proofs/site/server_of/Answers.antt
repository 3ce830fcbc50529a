use Rattle.std.proofs.Common.{refl, ap, ◌∙◌}
use Rattle.site_model.specs.declared.site.Server.{Server}
use Rattle.conf_values.specs.TextSet.{holds}
use Rattle.conf_block.specs.Forest.{forest_of}
use Rattle.conf_lists.specs.Hosts.{first_shown}
use Rattle.conf_inherit.specs.Pools.{values_by}
use Rattle.conf_inherit.proofs.SiteLaws.{holds-before, keeps-then, all-then, patterns-kept, fits-later}
use Rattle.conf_inherit.proofs.BuiltLaws.{server-shown}
use Rattle.conf_inherit.proofs.site.server_of.Goals as goal

pub locations_in-requires : goal.locations_in-requires
locations_in-requires g c = fits-later _ _ c.args.values c.in_ok-level.ensures.shelf c.requires

pub named_in-requires : goal.named_in-requires
named_in-requires g c = fits-later _ _ c.args.values c.in_ok-locations.ensures.shelf (fits-later _ _ c.args.values c.in_ok-level.ensures.shelf c.requires)

pub returns-clause-seen : goal.returns-clause-seen
returns-clause-seen g c = λ b h.
    let server : Server = record {
      listens = c.in_ok-listens.listens;
      level = c.in_ok-level.level;
      locations = c.in_ok-locations.locations;
      defaults = c.in_ok-defaults.defaults;
      names = c.in_ok-names.names;
      first_name = c.in_ok-first_name.first_name;
      named = c.in_ok-named.named;
      merge = c.args.values.settings.merge;
      visible = c.in_ok-visible.visible;
    } in
    let last = holds-before c.named_in.new.pool.levels.items c.named_in.new.pool.levels.items c.named_in.new.pool.shelf _ b (λ n x q. q) (patterns-kept c.named_in.new.pool.shelf c.names_of.new.patterns c.in_ok-names.ensures.kept) h in
    let then = holds-before c.locations_in.new.pool.levels.items c.named_in.new.pool.levels.items c.locations_in.new.pool.shelf c.named_in.new.pool.shelf b
    c.in_ok-named.ensures.levels c.in_ok-named.ensures.shelf last in
    let before = holds-before c.add_own.new.pool.levels.items c.locations_in.new.pool.levels.items c.add_own.new.pool.shelf c.locations_in.new.pool.shelf b
    c.in_ok-locations.ensures.levels c.in_ok-locations.ensures.shelf then in
    server-shown (holds c.args.known.now.keys) b server (forest_of c.args.block.now) (values_by c.args.values) c.in_ok-listens.ensures c.in_ok-defaults.ensures (c.in_ok-names.ensures.seen b.patterns h.1.patterns)
    (c.in_ok-first_name.ensures ∙ c.first_shown.ensures ∙ ap first_shown c.word_in.ensures)
    (c.in_ok-level.ensures.seen b before) (c.in_ok-locations.ensures.seen b then) (c.in_ok-named.ensures.seen b last) refl c.in_ok-visible.ensures

pub returns-clause-levels : goal.returns-clause-levels
returns-clause-levels g c = keeps-then _ _ _ c.in_ok-level.ensures.levels (keeps-then _ _ _ c.in_ok-locations.ensures.levels c.in_ok-named.ensures.levels)

pub returns-clause-shelf : goal.returns-clause-shelf
returns-clause-shelf g c = all-then _ _ _ c.in_ok-level.ensures.shelf (all-then _ _ _ c.in_ok-locations.ensures.shelf (all-then _ _ _ c.in_ok-named.ensures.shelf (patterns-kept c.named_in.new.pool.shelf c.names_of.new.patterns c.in_ok-names.ensures.kept)))
