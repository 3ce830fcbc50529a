use Rattle.std.proofs.Common.{refl, ap}
use Rattle.site_whole.specs.Whole.{media_seen}
use Rattle.conf_lists.specs.Lists.{Lists}
use Rattle.conf_inherit.specs.declared.level.Shared.{Shared}
use Rattle.conf_inherit.specs.declared.shelf.Shelf.{Shelf}
use Rattle.conf_inherit.specs.Values.{has_items, has_types}
use Rattle.conf_inherit.specs.Pools.{lists_at, index_names, page_rules, rules_in, sets_in}
use Rattle.conf_inherit.proofs.ShareLaws.{AreSaid, ArePlaced, says-by, shared-values, shared-fits, shared-kept}
use Rattle.conf_inherit.proofs.shared.share.Goals as goal

-- the lists afterwards, and the numbers that are given
abbrev new : goal.In_ok-addition_types → Shelf
new c = record {
  types = c.args.shelf.now.types;
  indexes = c.place.new.items;
  pages = c.place-2.new.items;
  rules = c.place-3.new.items;
  auth_sets = c.place-4.new.items;
  media = c.place-6.new.items;
  patterns = c.args.shelf.now.patterns;
}

abbrev given : goal.In_ok-addition_types → Shared
given c = record {
  index = c.in_ok-index.index;
  pages = c.in_ok-pages.pages;
  rules = c.in_ok-rules.rules;
  auth_sets = c.in_ok-auth_sets.auth_sets;
  ssi_types = c.in_ok-ssi_types.ssi_types;
  addition_types = c.in_ok-addition_types.addition_types;
}

said : (c : goal.In_ok-addition_types) → AreSaid c.args.block.now c.some_names-own_index.result c.some_pages-own_pages.result c.some_rules-own_rules.result c.some_sets-own_sets.result c.some_media-own_ssi.result c.some_media-own_addition.result
said c = record {
  index = says-by has_items index_names c.some_names-own_index.result _ (lists_at c.args.block.now).index (ap (λ (l : Lists). l.index) c.in_ok-stated.ensures) c.some_names-own_index.ensures;
  pages = says-by has_items page_rules c.some_pages-own_pages.result _ (lists_at c.args.block.now).pages (ap (λ (l : Lists). l.pages) c.in_ok-stated.ensures) c.some_pages-own_pages.ensures;
  rules = says-by has_items rules_in c.some_rules-own_rules.result _ (lists_at c.args.block.now).rules (ap (λ (l : Lists). l.rules) c.in_ok-stated.ensures) c.some_rules-own_rules.ensures;
  auth_sets = says-by has_items sets_in c.some_sets-own_sets.result _ (lists_at c.args.block.now).auth_sets (ap (λ (l : Lists). l.auth_sets) c.in_ok-stated.ensures) c.some_sets-own_sets.ensures;
  ssi_types = says-by has_types media_seen c.some_media-own_ssi.result _ (lists_at c.args.block.now).ssi_types (ap (λ (l : Lists). l.ssi_types) c.in_ok-stated.ensures) c.some_media-own_ssi.ensures;
  addition_types = says-by has_types media_seen c.some_media-own_addition.result _ (lists_at c.args.block.now).addition_types (ap (λ (l : Lists). l.addition_types) c.in_ok-stated.ensures) c.some_media-own_addition.ensures;
}

placed : (c : goal.In_ok-addition_types) → ArePlaced c.args.block.now c.args.shelf.now (new c) c.place-5.new.items.items c.args.outer (given c) c.some_names-own_index.result c.some_pages-own_pages.result c.some_rules-own_rules.result c.some_sets-own_sets.result c.some_media-own_ssi.result c.some_media-own_addition.result
placed c = record {
  index = c.in_ok-index.ensures;
  pages = c.in_ok-pages.ensures;
  rules = c.in_ok-rules.ensures;
  auth_sets = c.in_ok-auth_sets.ensures;
  ssi_types = c.in_ok-ssi_types.ensures;
  addition_types = c.in_ok-addition_types.ensures;
}

pub returns-clause-values : goal.returns-clause-values
returns-clause-values c = shared-values c.args.block.now c.args.shelf.now (new c) c.place-5.new.items.items c.args.outer (given c) c.some_names-own_index.result c.some_pages-own_pages.result c.some_rules-own_rules.result c.some_sets-own_sets.result c.some_media-own_ssi.result c.some_media-own_addition.result (said c) (placed c)

pub returns-clause-fits : goal.returns-clause-fits
returns-clause-fits c = shared-fits c.args.block.now c.args.shelf.now (new c) c.place-5.new.items.items c.args.outer (given c) c.some_names-own_index.result c.some_pages-own_pages.result c.some_rules-own_rules.result c.some_sets-own_sets.result c.some_media-own_ssi.result c.some_media-own_addition.result (said c) (placed c) c.requires

pub returns-clause-kept : goal.returns-clause-kept
returns-clause-kept c = shared-kept c.args.block.now c.args.shelf.now (new c) c.place-5.new.items.items c.args.outer (given c) c.some_names-own_index.result c.some_pages-own_pages.result c.some_rules-own_rules.result c.some_sets-own_sets.result c.some_media-own_ssi.result c.some_media-own_addition.result (said c) (placed c) refl refl
