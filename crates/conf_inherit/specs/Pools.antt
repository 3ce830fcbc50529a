-- How levels and lists are kept under numbers while a site is built.
use Rattle.std.specs.Prelude.{◌≡◌, ℕ, ◌+◌, ◌≤◌, Bool, true, false, List, [], ◌∷◌, ◌++◌, map, Option, None, Some, option_map, unwrap_or, codes, slice_get, length}
use Rattle.file_type.specs.declared.types.TypeEntry.{TypeEntry}
use Rattle.ngx_variables.specs.declared.request.FileRoot.{FileRoot}
use Rattle.ngx_variables.specs.declared.request.FileRoot.TheVariants as places
use Rattle.site_model.specs.declared.program.RewriteStep.{RewriteStep}
use Rattle.site_model.specs.declared.site.Level.{Level}
use Rattle.conf_inherit.specs.declared.site.Built.{Built}
use Rattle.site_model.specs.declared.site.Location.{Location as CodeLocation}
use Rattle.site_model.specs.declared.site.NamedLocation.{NamedLocation}
use Rattle.site_model.specs.declared.site.Server.{Server}
use Rattle.site_model.specs.declared.site.ServerName.{ServerName as CodeName}
use Rattle.site_model.specs.Levels.{raw_level}
use Rattle.site_views.specs.Pattern.{Pattern}
use Rattle.site_views.specs.Views.{LevelView, LocationView, Locations, NamedView, ServerName, ServerView, SiteView}
use Rattle.ngx_pattern.specs.Pattern.{Pattern as SetPattern}
use Rattle.pattern_search.specs.Found.{patterns_seen}
use Rattle.site_views.specs.Views.Locations.{NoMore, Location}
use Rattle.access_rules.specs.declared.rule.Rule.{Rule}
use Rattle.site_model.specs.declared.site.Rules.{Rules}
use Rattle.site_model.specs.declared.values.IndexNames.{IndexNames}
use Rattle.site_model.specs.declared.values.PageRules.{PageRules}
use Rattle.site_model.specs.declared.values.AuthSets.{AuthSets}
use Rattle.site_model.specs.declared.values.Tries.{Tries}
use Rattle.site_views.specs.Values.{Text, IndexName, PageRule, Values as AllValues}
use Rattle.site_whole.specs.Whole.{nested, values_seen, level_whole, location_whole, locations_whole, named_whole, name_seen, server_whole, whole, index_seen, page_seen, auth_set_seen, media_seen, default_index, no_media}
use Rattle.conf_text.specs.declared.directive.Directive.{Directive}
use Rattle.conf_values.specs.Texts.{pieces_of}
use Rattle.std.specs.Borrow.{Bor}
use Rattle.conf_inherit.specs.declared.level.PlaceText.{PlaceText}
use Rattle.conf_inherit.specs.declared.level.PlaceText.TheVariants.{Root, Rest, Whole}
use Rattle.conf_inherit.specs.declared.level.Inherited.{Inherited}
use Rattle.conf_inherit.specs.declared.level.Listed.{Listed}
use Rattle.conf_inherit.specs.declared.level.Shared.{Shared}
use Rattle.conf_inherit.specs.declared.shelf.Shelf.{Shelf}
use Rattle.conf_lists.specs.Words.{variables_in}
use Rattle.conf_lists.specs.Lists.{Lists, stated_lists}
use Rattle.conf_block.specs.Forest.{forest_of, roots}
use Rattle.conf_block.specs.Blocks.{blocks_of}
use Rattle.conf_block.specs.Forest.{Forest}
use Rattle.conf_inherit.specs.Programs.{AllAt}
use Rattle.conf_inherit.specs.Values.{Values, default_entries, all_entries, values_within}

abbrev pub place_by : PlaceText → FileRoot
place_by (Root text) = places.Root (pieces_of text.now)
place_by (Rest text prefix) = places.Rest (pieces_of text.now) prefix.now
place_by (Whole text) = places.Whole (pieces_of text.now)

-- the entries of the level that states some, or the default ones
abbrev pub entries_by : Option (Bor (List Directive)) → List TypeEntry
entries_by None = default_entries
entries_by (Some level) = all_entries (blocks_of (codes "types") (forest_of level.now))

-- the lists that the directives of a level state
abbrev pub lists_at : List Directive → Lists
lists_at level = stated_lists (roots (forest_of level))

-- the value of the level that states it, or the default one
abbrev pub listed_by : {A : Type 0} → (default : A) → (Lists → A) → Option Listed → A
listed_by default part None = default
listed_by default part (Some s) = part (lists_at s.level.now)

abbrev pub lists_by : Shared → Lists
lists_by s = record {
  index = listed_by default_index (λ l. l.index) s.index;
  pages = listed_by [] (λ l. l.pages) s.pages;
  rules = listed_by [] (λ l. l.rules) s.rules;
  auth_sets = listed_by [] (λ l. l.auth_sets) s.auth_sets;
  ssi_types = listed_by no_media (λ l. l.ssi_types) s.ssi_types;
  addition_types = listed_by no_media (λ l. l.addition_types) s.addition_types;
}

-- the values that directives are kept for
abbrev pub values_by : Inherited → Values
values_by v = record {
  place = place_by v.place;
  types = record { entries = entries_by v.entries; default_type = v.default_type.now };
  settings = v.settings;
  lists = lists_by v.lists;
  auth = option_map (λ w. w.now) v.auth;
  before = option_map (λ w. w.now) v.before;
  after = option_map (λ w. w.now) v.after;
  visible = option_map (λ ws. variables_in ws.now) v.visible;
  internal = v.internal;
}

-- no list is stated
abbrev pub none_shared : Shared
none_shared = record {
  index = None;
  pages = None;
  rules = None;
  auth_sets = None;
  ssi_types = None;
  addition_types = None;
}

abbrev pub number_of : Option Listed → Option ℕ
number_of s = option_map (λ (s : Listed). s.number) s

-- a level with these values, whose media types and lists have these numbers
abbrev pub level_by : Values → (types : ℕ) → Shared → Option Tries → List RewriteStep → Level
level_by v types lists tries program = record {
  place = v.place;
  types = types;
  requests = v.settings.requests;
  idle = v.settings.idle;
  index = number_of lists.index;
  tries = tries;
  internal = v.internal;
  pages = number_of lists.pages;
  recursive = v.settings.recursive;
  body_most = v.settings.body_most;
  send_wait = v.settings.send_wait;
  head_wait = v.settings.head_wait;
  absolute = v.settings.absolute;
  with_port = v.settings.with_port;
  with_server_name = v.settings.with_server_name;
  any = v.settings.any;
  rules = number_of lists.rules;
  auth = v.auth;
  auth_sets = number_of lists.auth_sets;
  ssi = v.settings.ssi;
  silent = v.settings.silent;
  ssi_types = number_of lists.ssi_types;
  value_most = v.settings.value_most;
  capture_most = v.settings.capture_most;
  before = v.before;
  after = v.after;
  addition_types = number_of lists.addition_types;
  program = program;
}

-- what has a number keeps it
abbrev pub Keeps : {A : Type 0} → List A → List A → Type 0
Keeps {A} old new = (n : ℕ) (x : A) → slice_get old n ≡ Some x → slice_get new n ≡ Some x

-- each of the lists keeps its number
pub record KeepsAll (old new : Shelf) : Type 0 where
  pub types : Keeps old.types.items new.types.items
  pub indexes : Keeps old.indexes.items new.indexes.items
  pub pages : Keeps old.pages.items new.pages.items
  pub rules : Keeps old.rules.items new.rules.items
  pub auth_sets : Keeps old.auth_sets.items new.auth_sets.items
  pub media : Keeps old.media.items new.media.items
  pub patterns : Keeps old.patterns new.patterns

abbrev pub shelf_of : Built → Shelf
shelf_of b = record {
  types = b.site.types;
  indexes = b.site.indexes;
  pages = b.site.pages;
  rules = b.site.rules;
  auth_sets = b.site.auth_sets;
  media = b.site.media;
  patterns = b.patterns;
}

-- these levels and lists are those of what is built, which may have more
abbrev pub Holds : List Level → Shelf → Built → Type 0
Holds levels shelf b = Keeps levels b.site.levels.items × KeepsAll shelf (shelf_of b)

-- ---- what is built, as its meaning sees it

abbrev pub patterns_in : Built → List Pattern
patterns_in b = patterns_seen b.patterns

abbrev pub level_built : Built → ℕ → LevelView
level_built b n = level_whole (patterns_in b) b.site n

-- the values of the level with a number
abbrev pub values_built : Built → ℕ → AllValues
values_built b n = values_seen b.site (raw_level b.site n)

abbrev pub location_built : Built → CodeLocation → LocationView
location_built b l = location_whole (patterns_in b) b.site l

abbrev pub named_built : Built → NamedLocation → NamedView
named_built b n = named_whole (patterns_in b) b.site n

abbrev pub server_built : Built → Server → ServerView
server_built b s = server_whole (patterns_in b) b.site s

abbrev pub site_built : Built → SiteView
site_built b = whole (patterns_in b) b.site

-- what a number means in a list: `default` without one, and `none` where it is no item's
abbrev pub listed_in : {A B : Type 0} → (default none : B) → (A → B) → List A → Option ℕ → B
listed_in default none view items None = default
listed_in default none view items (Some n) = unwrap_or (option_map view (slice_get items n)) none

-- the number means this, also in a list that has more
abbrev pub Stands : {A B : Type 0} → (default none : B) → (A → B) → List A → Option Listed → B
    → Type 0
Stands {A} default none view items s meaning =
    (later : List A) → Keeps items later → listed_in default none view later (number_of s) ≡ meaning

abbrev pub index_names : IndexNames → List IndexName
index_names n = map index_seen n.names.items

abbrev pub page_rules : PageRules → List PageRule
page_rules r = map page_seen r.rules.items

abbrev pub rules_in : Rules → List Rule
rules_in r = r.rules.items

abbrev pub sets_in : AuthSets → List (List ℕ × Text)
sets_in s = map auth_set_seen s.sets.items

-- the numbers of lists mean these lists
pub record FitsLists (shelf : Shelf) (s : Shared) : Type 0 where
  pub index : Stands default_index [] index_names shelf.indexes.items s.index (lists_by s).index
  pub pages : Stands [] [] page_rules shelf.pages.items s.pages (lists_by s).pages
  pub rules : Stands [] [] rules_in shelf.rules.items s.rules (lists_by s).rules
  pub auth_sets : Stands [] [] sets_in shelf.auth_sets.items s.auth_sets (lists_by s).auth_sets
  pub ssi_types : Stands no_media no_media media_seen shelf.media.items s.ssi_types
      (lists_by s).ssi_types
  pub addition_types : Stands no_media no_media media_seen shelf.media.items s.addition_types
      (lists_by s).addition_types

-- the numbers of media types and lists mean the values
pub record Fits (shelf : Shelf) (v : Inherited) : Type 0 where
  pub types : slice_get shelf.types.items v.types ≡ Some (values_by v).types
  pub lists : FitsLists shelf v.lists

-- what a level states of a list, if it states some
abbrev pub Says : {A B : Type 0} → (has : B → Bool) → (A → B) → Option A → B → Type 0
Says has view None own = has own ≡ false
Says has view (Some item) own = (view item ≡ own) × (has own ≡ true)

-- What a level states is kept under a number, and named by it; where it states nothing, what is around it is.
pub record Placed {A : Type 0} (old new : List A) (item : A) (level : List Directive)
    (s : Option Listed) : Type 0 where
  pub listed : Listed
  pub is : s ≡ Some listed
  pub level_is : listed.level.now ≡ level
  pub there : slice_get new listed.number ≡ Some item
  pub kept : Keeps old new

abbrev pub IsPlaced : {A : Type 0} → List A → List A → Option A → List Directive →
    (outer s : Option Listed) → Type 0
IsPlaced old new None level outer s = (s ≡ outer) × (new ≡ old)
IsPlaced old new (Some item) level outer s = Placed old new item level s

-- locations one level after those of another
unfoldable pub follow : Locations → Locations → Locations
follow NoMore others = others
follow (Location here inner later) others = Location here inner (follow later others)

-- what a list of locations is seen as
abbrev pub list_seen : Built → List CodeLocation → Locations
list_seen b ls = locations_whole (patterns_in b) b.site (nested ls)

-- none of them is less deep
abbrev pub AreDeep : ℕ → List CodeLocation → Type 0
AreDeep depth [] = Unit {0}
AreDeep depth (l ∷ ls) = (depth ≤ l.depth) × AreDeep depth ls

-- Locations were added, none less deep than this, as long as levels and lists were; those that are left to add, after
-- these, are all.
pub record Added (outer : Values) (depth : ℕ) (first last : List Level)
    (first_shelf last_shelf : Shelf) (old new : List CodeLocation)
    (left all : Locations) : Type 0 where
  pub added : List CodeLocation
  pub is : new ≡ old ++ added
  pub deep : AreDeep depth added
  pub levels_kept : Keeps first last
  pub shelf_kept : KeepsAll first_shelf last_shelf
  pub same : (b : Built) → Holds last last_shelf b → follow (list_seen b added) left ≡ all

-- names were added that are these, whatever patterns the set has after its own
pub record AreNamed (old new : List SetPattern) (before after : List CodeName)
    (names : List ServerName) : Type 0 where
  pub kept : Keeps old new
  pub seen : (all : List SetPattern) → Keeps new all →
      map (name_seen (patterns_seen all)) after ≡ map (name_seen (patterns_seen all)) before ++ names

-- the levels of blocks were added, each under the next number
pub record BlocksAdded (v : Values) (old new : List Level) (old_shelf new_shelf : Shelf)
    (blocks : List Forest) : Type 0 where
  pub levels_kept : Keeps old new
  pub shelf_kept : KeepsAll old_shelf new_shelf
  pub count : length new ≡ length old + length blocks
  pub same : (b : Built) → Holds new new_shelf b →
      AllAt (values_built b) (length old) (map (values_within v) blocks)
