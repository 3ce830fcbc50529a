-- The lists that the directives of a level state.
use Rattle.std.specs.Prelude.{ℕ, true, false, List, [], ◌∷◌, ◌++◌, map, codes, bytes_eq, if◌then◌else◌}
use Rattle.access_rules.specs.declared.rule.Rule.{Rule}
use Rattle.site_views.specs.Values.{Text, IndexName, PageRule, MediaTypes}
use Rattle.site_whole.specs.Whole.{index_seen, page_seen, auth_set_seen, media_seen, no_media}
use Rattle.conf_text.specs.declared.directive.Directive.{Directive}
use Rattle.conf_table.specs.declared.role.Role.{Role}
use Rattle.conf_table.specs.declared.role.Role.TheVariants as roles
use Rattle.conf_table.specs.declared.role.Listing.{Listing}
use Rattle.conf_table.specs.declared.role.Listing.TheVariants as listings
use Rattle.conf_block.specs.Roles.{role_of}
use Rattle.conf_lists.specs.Words.{index_name, one, page_of, rule_of, set_of, with_types}
use Rattle.conf_lists.specs.declared.lists.LevelLists.{LevelLists}

-- `index`; `error_page`; `allow` and `deny`; `auth_request_set`; `ssi_types` and `addition_types`: each in the order of the
-- text
pub record Lists : Type 0 where
  pub index : List IndexName
  pub pages : List PageRule
  pub rules : List Rule
  pub auth_sets : List (List ℕ × Text)
  pub ssi_types : MediaTypes
  pub addition_types : MediaTypes

abbrev pub no_lists : Lists
no_lists = record {
  index = [];
  pages = [];
  rules = [];
  auth_sets = [];
  ssi_types = no_media;
  addition_types = no_media;
}

abbrev pub lists_seen : LevelLists → Lists
lists_seen l = record {
  index = map index_seen l.index.items;
  pages = map page_seen l.pages.items;
  rules = l.rules.items;
  auth_sets = map auth_set_seen l.auth_sets.items;
  ssi_types = media_seen l.ssi_types;
  addition_types = media_seen l.addition_types;
}

-- the words of a directive of a list after those before it
abbrev pub with_listing : Listing → List (List ℕ) → Lists → Lists
with_listing listings.Index words l = record l { index = l.index ++ map index_name words }
with_listing listings.ErrorPage words l = record l { pages = l.pages ++ one (page_of words) }
with_listing listings.Allow words l = record l { rules = l.rules ++ one (rule_of true words) }
with_listing listings.Deny words l = record l { rules = l.rules ++ one (rule_of false words) }
with_listing listings.SsiTypes words l = record l { ssi_types = with_types l.ssi_types words }
with_listing listings.AdditionTypes words l =
    record l { addition_types = with_types l.addition_types words }
with_listing _ words l = l

-- `set` is no list; `auth_request_set` is one
abbrev pub with_set : Directive → Lists → Lists
with_set d l = if bytes_eq d.name (codes "auth_request_set")
    then record l { auth_sets = l.auth_sets ++ one (set_of d.args) } else l

abbrev pub with_role : Role → Directive → Lists → Lists
with_role (roles.Listing listing) d l = with_listing listing d.args l
with_role roles.Set d l = with_set d l
with_role _ d l = l

-- the lists of a level with these directives, after these
unfoldable pub lists_in : List Directive → Lists → Lists
lists_in [] l = l
lists_in (d ∷ ds) l = lists_in ds (with_role (role_of d.name) d l)

-- the lists that a level states
abbrev pub stated_lists : List Directive → Lists
stated_lists ds = lists_in ds no_lists
