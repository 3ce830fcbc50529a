-- Lists that levels state, and those that they share.
use Rattle.std.proofs.Common.{◌≡◌, ◌||◌, ℕ, Bool, List, [], Option, Some, None, option_map, unwrap_or, sym, ap, subst, ◌∙◌}
use Rattle.std.specs.List.{slice_get}
use Rattle.conf_text.specs.declared.directive.Directive.{Directive}
use Rattle.conf_lists.specs.Lists.{Lists}
use Rattle.conf_inherit.specs.declared.level.Listed.{Listed}
use Rattle.site_model.specs.declared.site.Rules.{Rules}
use Rattle.site_model.specs.declared.values.IndexNames.{IndexNames}
use Rattle.site_model.specs.declared.values.PageRules.{PageRules}
use Rattle.site_model.specs.declared.values.AuthSets.{AuthSets}
use Rattle.site_model.specs.declared.values.MediaTypes.{MediaTypes}
use Rattle.site_whole.specs.Whole.{default_index, no_media, media_seen}
use Rattle.conf_inherit.specs.declared.level.Shared.{Shared}
use Rattle.conf_inherit.specs.declared.shelf.Shelf.{Shelf}
use Rattle.std.specs.Prelude.{codes}
use Rattle.conf_block.specs.Forest.{Forest, roots}
use Rattle.conf_lists.specs.Lists.{stated_lists}
use Rattle.conf_lists.specs.Words.{variables_in}
use Rattle.conf_inherit.specs.declared.level.Inherited.{Inherited}
use Rattle.conf_inherit.specs.Values.{own_or, has_items, has_types, lists_over, place_in, entries_in, word_in, settings_in, auth_by, added_by, either, visible_in, internal_in, stated, over}
use Rattle.conf_inherit.specs.Pools.{place_by, entries_by, values_by, Keeps, KeepsAll, Stands, FitsLists, Says, IsPlaced, listed_by, listed_in, lists_at, lists_by, number_of, index_names, page_rules, rules_in, sets_in}
use Rattle.conf_inherit.proofs.InheritLaws.{own-none, own-some}
use Rattle.conf_inherit.proofs.SiteLaws.{keeps-same, keeps-then, stands-later}

module _ {A B : Type 0} (default none : B) (part : Lists → B) (view : A → B) (has : B → Bool) (old new : List A) (level : List Directive) (outer s : Option Listed) where
  pub placed-kept : (stated : Option A) → IsPlaced old new stated level outer s → Keeps old new
  placed-kept None p = keeps-same old new p.1
  placed-kept (Some item) p = p.kept

  pub placed-value : (stated : Option A) → Says has view stated (part (lists_at level)) → IsPlaced old new stated level outer s
      → listed_by default part s ≡ own_or has (part (lists_at level)) (listed_by default part outer)
  placed-value None h p = ap (listed_by default part) p.0 ∙ sym (own-none has (part (lists_at level)) (listed_by default part outer) h)
  placed-value (Some item) h p =
      ap (listed_by default part) p.is ∙ ap (λ l. part (lists_at l)) p.level_is ∙ sym (own-some has (part (lists_at level)) (listed_by default part outer) h.1)

  there-later : (items later : List A) (l : Listed) (item : A) → slice_get items l.number ≡ Some item → Keeps items later → listed_in default none view later (Some l.number) ≡ view item
  there-later items later l item e k = ap (λ o. unwrap_or (option_map view o) none) (k l.number item e)

  pub placed-stands : (stated : Option A) → Says has view stated (part (lists_at level)) → IsPlaced old new stated level outer s
      → Stands default none view old outer (listed_by default part outer) → Stands default none view new s (listed_by default part s)
  placed-stands None h p o later k =
      let k' : Keeps old later = subst (λ xs. Keeps xs later) p.1 k in
      subst (λ s. listed_in default none view later (number_of s) ≡ listed_by default part s) (sym p.0) (o later k')
  placed-stands (Some item) h p o later k =
      ap (λ s. listed_in default none view later (number_of s)) p.is ∙ there-later new later p.listed item p.there k ∙ h.0
      ∙ sym (ap (listed_by default part) p.is ∙ ap (λ l. part (lists_at l)) p.level_is)

-- ---- all values of a level

pub stated-shown : (prefix : Option (List ℕ)) (level : Forest) (v outer : Inherited)
    → place_by v.place ≡ unwrap_or (place_in prefix level) (place_by outer.place)
    → entries_by v.entries ≡ unwrap_or (entries_in level) (entries_by outer.entries)
    → v.default_type.now ≡ unwrap_or (word_in (codes "default_type") level) outer.default_type.now
    → v.settings ≡ settings_in (roots level) outer.settings
    → lists_by v.lists ≡ lists_over (stated_lists (roots level)) (lists_by outer.lists)
    → option_map (λ w. w.now) v.auth ≡ unwrap_or (option_map auth_by (word_in (codes "auth_request") level)) (option_map (λ w. w.now) outer.auth)
    → option_map (λ w. w.now) v.before ≡ unwrap_or (option_map added_by (word_in (codes "add_before_body") level)) (option_map (λ w. w.now) outer.before)
    → option_map (λ w. w.now) v.after ≡ unwrap_or (option_map added_by (word_in (codes "add_after_body") level)) (option_map (λ w. w.now) outer.after)
    → option_map (λ ws. variables_in ws.now) v.visible ≡ either (visible_in level) (option_map (λ ws. variables_in ws.now) outer.visible)
    → v.internal ≡ (internal_in level || outer.internal)
    → values_by v ≡ over (stated prefix level) (values_by outer)
unfolding stated
stated-shown prefix level v outer p e d s l a b f x n = λ i. record {
  place = p i;
  types = record { entries = e i; default_type = d i };
  settings = s i;
  lists = l i;
  auth = a i;
  before = b i;
  after = f i;
  visible = x i;
  internal = n i;
}

-- ---- all lists of a level

pub says-by : {A B : Type 0} (has : B → Bool) (view : A → B) (stated : Option A) (own meant : B) → own ≡ meant → Says has view stated own → Says has view stated meant
says-by has view stated own meant e h = subst (Says has view stated) e h

-- what was read of a level, by what it states of each list
pub record AreSaid (level : List Directive) (own_index : Option IndexNames) (own_pages : Option PageRules) (own_rules : Option Rules) (own_sets : Option AuthSets) (own_ssi own_addition : Option MediaTypes) : Type 0 where
  pub index : Says has_items index_names own_index (lists_at level).index
  pub pages : Says has_items page_rules own_pages (lists_at level).pages
  pub rules : Says has_items rules_in own_rules (lists_at level).rules
  pub auth_sets : Says has_items sets_in own_sets (lists_at level).auth_sets
  pub ssi_types : Says has_types media_seen own_ssi (lists_at level).ssi_types
  pub addition_types : Says has_types media_seen own_addition (lists_at level).addition_types

-- each is kept, those of `addition_types` after those of `ssi_types`
pub record ArePlaced (level : List Directive) (old new : Shelf) (between : List MediaTypes) (outer s : Shared)
    (own_index : Option IndexNames) (own_pages : Option PageRules) (own_rules : Option Rules) (own_sets : Option AuthSets) (own_ssi own_addition : Option MediaTypes) : Type 0 where
  pub index : IsPlaced old.indexes.items new.indexes.items own_index level outer.index s.index
  pub pages : IsPlaced old.pages.items new.pages.items own_pages level outer.pages s.pages
  pub rules : IsPlaced old.rules.items new.rules.items own_rules level outer.rules s.rules
  pub auth_sets : IsPlaced old.auth_sets.items new.auth_sets.items own_sets level outer.auth_sets s.auth_sets
  pub ssi_types : IsPlaced old.media.items between own_ssi level outer.ssi_types s.ssi_types
  pub addition_types : IsPlaced between new.media.items own_addition level outer.addition_types s.addition_types

module _ (level : List Directive) (old new : Shelf) (between : List MediaTypes) (outer s : Shared)
    (index : Option IndexNames) (pages : Option PageRules) (rules : Option Rules) (sets : Option AuthSets) (ssi addition : Option MediaTypes)
    (said : AreSaid level index pages rules sets ssi addition) (placed : ArePlaced level old new between outer s index pages rules sets ssi addition) where
  pub shared-values : lists_by s ≡ lists_over (lists_at level) (lists_by outer)
  shared-values = λ i. record {
    index = placed-value default_index [] (λ l. l.index) index_names has_items old.indexes.items new.indexes.items level outer.index s.index index said.index placed.index i;
    pages = placed-value [] [] (λ l. l.pages) page_rules has_items old.pages.items new.pages.items level outer.pages s.pages pages said.pages placed.pages i;
    rules = placed-value [] [] (λ l. l.rules) rules_in has_items old.rules.items new.rules.items level outer.rules s.rules rules said.rules placed.rules i;
    auth_sets = placed-value [] [] (λ l. l.auth_sets) sets_in has_items old.auth_sets.items new.auth_sets.items level outer.auth_sets s.auth_sets sets said.auth_sets placed.auth_sets i;
    ssi_types = placed-value no_media no_media (λ l. l.ssi_types) media_seen has_types old.media.items between level outer.ssi_types s.ssi_types ssi said.ssi_types placed.ssi_types i;
    addition_types = placed-value no_media no_media (λ l. l.addition_types) media_seen has_types between new.media.items level outer.addition_types s.addition_types addition said.addition_types placed.addition_types i;
  }

  pub shared-fits : FitsLists old outer → FitsLists new s
  shared-fits fits = record {
    index = placed-stands default_index [] (λ l. l.index) index_names has_items old.indexes.items new.indexes.items level outer.index s.index index said.index placed.index fits.index;
    pages = placed-stands [] [] (λ l. l.pages) page_rules has_items old.pages.items new.pages.items level outer.pages s.pages pages said.pages placed.pages fits.pages;
    rules = placed-stands [] [] (λ l. l.rules) rules_in has_items old.rules.items new.rules.items level outer.rules s.rules rules said.rules placed.rules fits.rules;
    auth_sets = placed-stands [] [] (λ l. l.auth_sets) sets_in has_items old.auth_sets.items new.auth_sets.items level outer.auth_sets s.auth_sets sets said.auth_sets placed.auth_sets fits.auth_sets;
    ssi_types = stands-later no_media no_media media_seen between new.media.items s.ssi_types (lists_by s).ssi_types (placed-kept no_media no_media (λ l. l.addition_types) media_seen has_types between new.media.items level outer.addition_types s.addition_types addition placed.addition_types) (placed-stands no_media no_media (λ l. l.ssi_types) media_seen has_types old.media.items between level outer.ssi_types s.ssi_types ssi said.ssi_types placed.ssi_types fits.ssi_types);
    addition_types = placed-stands no_media no_media (λ l. l.addition_types) media_seen has_types between new.media.items level outer.addition_types s.addition_types addition said.addition_types placed.addition_types
        (stands-later no_media no_media media_seen old.media.items between outer.addition_types (lists_by outer).addition_types (placed-kept no_media no_media (λ l. l.ssi_types) media_seen has_types old.media.items between level outer.ssi_types s.ssi_types ssi placed.ssi_types) fits.addition_types);
  }

  pub shared-kept : new.types ≡ old.types → new.patterns ≡ old.patterns → KeepsAll old new
  shared-kept same also = record {
    types = keeps-same old.types.items new.types.items (ap (λ ts. ts.items) same);
    indexes = placed-kept default_index [] (λ l. l.index) index_names has_items old.indexes.items new.indexes.items level outer.index s.index index placed.index;
    pages = placed-kept [] [] (λ l. l.pages) page_rules has_items old.pages.items new.pages.items level outer.pages s.pages pages placed.pages;
    rules = placed-kept [] [] (λ l. l.rules) rules_in has_items old.rules.items new.rules.items level outer.rules s.rules rules placed.rules;
    auth_sets = placed-kept [] [] (λ l. l.auth_sets) sets_in has_items old.auth_sets.items new.auth_sets.items level outer.auth_sets s.auth_sets sets placed.auth_sets;
    media = keeps-then old.media.items between new.media.items (placed-kept no_media no_media (λ l. l.ssi_types) media_seen has_types old.media.items between level outer.ssi_types s.ssi_types ssi placed.ssi_types) (placed-kept no_media no_media (λ l. l.addition_types) media_seen has_types between new.media.items level outer.addition_types s.addition_types addition placed.addition_types);
    patterns = keeps-same old.patterns new.patterns also;
  }
