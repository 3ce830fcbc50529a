use Rattle.std.proofs.Common.{[], Some, sym, ap, subst, ◌∙◌}
use Rattle.std.specs.List.{slice_get}
use Rattle.conf_values.specs.TextSet.{holds}
use Rattle.conf_inherit.specs.declared.site.Built.{Built}
use Rattle.conf_block.specs.Forest.{forest_of}
use Rattle.conf_inherit.specs.Values.{Values, stated, over}
use Rattle.conf_inherit.specs.Pools.{FitsLists, values_by}
use Rattle.conf_inherit.proofs.SiteLaws.{all-here}
use Rattle.conf_inherit.proofs.BuiltLaws.{site-shown}
use Rattle.conf_inherit.proofs.site.site_of.Goals as goal

pub inner-requires : goal.inner-requires
inner-requires g c = record {
  types = ap (slice_get c.in_ok-pool.pool.shelf.types.items) c.defaults.ensures.types ∙ c.in_ok-pool.ensures.types ∙ ap (λ (v : Values). Some v.types) (sym c.defaults.ensures.values);
  lists = subst (FitsLists c.in_ok-pool.pool.shelf) (sym c.defaults.ensures.lists) c.in_ok-pool.ensures.lists;
}

pub returns : goal.returns
returns g c =
    let b : Built = record {
      patterns = c.servers_of.new.pool.shelf.patterns;
      site = record {
        folder = c.in_ok-from_slice.field-0;
        servers = c.in_ok-servers.servers;
        levels = c.servers_of.new.pool.levels;
        types = c.servers_of.new.pool.shelf.types;
        outside = c.in_ok-level_of.field-0;
        plain = c.in_ok-types_of.field-0;
        indexes = c.servers_of.new.pool.shelf.indexes;
        pages = c.servers_of.new.pool.shelf.pages;
        rules = c.servers_of.new.pool.shelf.rules;
        auth_sets = c.servers_of.new.pool.shelf.auth_sets;
        media = c.servers_of.new.pool.shelf.media;
      };
    } in
    site-shown (holds c.args.known.now.keys) b c.args.folder.now (forest_of c.args.http.now) (values_by c.in_ok-values.values) c.in_ok-from_slice.ensures
    (c.in_ok-values.ensures.values ∙ ap (over (stated (Some []) (forest_of c.args.http.now))) c.defaults.ensures.values)
    (c.in_ok-servers.ensures b ((λ n x h. h), all-here c.servers_of.new.pool.shelf))
