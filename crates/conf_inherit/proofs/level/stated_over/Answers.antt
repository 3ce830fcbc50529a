use Rattle.std.proofs.Common.{option_map}
use Rattle.conf_block.specs.Forest.{forest_of}
use Rattle.conf_inherit.specs.declared.level.Inherited.{Inherited}
use Rattle.conf_inherit.proofs.ShareLaws.{stated-shown}
use Rattle.conf_inherit.proofs.level.stated_over.Goals as goal

pub returns-clause-values : goal.returns-clause-values
returns-clause-values c =
    let inner : Inherited = record {
      place = c.place_over-place.result;
      entries = c.entries_over-entries.result;
      default_type = c.default_over-default_type.result;
      types = c.args.outer.types;
      settings = c.settings_in-settings.result;
      lists = c.args.lists;
      auth = c.auth_over-auth.result;
      before = c.added_over-before.result;
      after = c.added_over-after.result;
      visible = c.visible_over-visible.result;
      internal = c.internal_over-internal.result;
    } in
    stated-shown (option_map (λ t. t.now) c.args.prefix) (forest_of c.args.level.now) inner c.args.outer
    c.place_over-place.ensures c.entries_over-entries.ensures c.default_over-default_type.ensures c.settings_in-settings.ensures c.requires
    c.auth_over-auth.ensures c.added_over-before.ensures c.added_over-after.ensures c.visible_over-visible.ensures c.internal_over-internal.ensures
