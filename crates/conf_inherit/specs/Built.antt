-- The site that directives describe.
use Rattle.std.specs.Prelude.{ℕ, Bool, true, false, List, [], ◌∷◌, map, Option, None, Some, Result, Ok, codes, bytes_eq, if◌then◌else◌}
use Rattle.conf_text.specs.declared.directive.Directive.{Directive}
use Rattle.conf_text.specs.declared.fault.ConfFault.{ConfFault}
use Rattle.site_model.specs.declared.site.LocationKind.{LocationKind}
use Rattle.site_model.specs.declared.site.LocationKind.TheVariants.{Prefix, FirmPrefix, Exactly}
use Rattle.site_views.specs.Views.{Matching, LocationView, Locations, NamedView, ServerView, SiteView}
use Rattle.site_views.specs.Views.Locations.{NoMore, Location}
use Rattle.site_views.specs.Views.Matching.{Regex}
use Rattle.site_whole.specs.Whole.{matching_by, listen_seen}
use Rattle.conf_block.specs.Forest.{Forest, End, Branch, roots, forest_of}
use Rattle.conf_block.specs.Blocks.{Block, blocks_of, http_in}
use Rattle.conf_block.specs.Listening.{listens_of, or_default}
use Rattle.conf_block.specs.Locations.{text_in, alias_prefix, is_found}
use Rattle.conf_check.specs.Gives.{◌>>◌}
use Rattle.conf_check.specs.Faultless.{faultless}
use Rattle.conf_check.specs.Names.{is_set_in}
use Rattle.conf_check.specs.Patterns.{regex_case}
use Rattle.conf_table.specs.declared.rule.Context.TheVariants as places
use Rattle.conf_block.specs.declared.role.Content.TheVariants.{Directives}
use Rattle.conf_lists.specs.Hosts.{names_in, or_empty, first_shown, marked_in}
use Rattle.conf_inherit.specs.Values.{Values, defaults, word_in, stated, over, level_of, server_level}

-- how a location is matched that is found by a text
unfoldable pub plain_kind : List (List ℕ) → LocationKind
plain_kind [] = Prefix
plain_kind (word ∷ []) = Prefix
plain_kind (modifier ∷ word ∷ words) =
    if bytes_eq modifier (codes "=") then Exactly
    else (if bytes_eq modifier (codes "^~") then FirmPrefix else Prefix)

abbrev pub matching_with : Option Bool → List (List ℕ) → Matching
matching_with None args = matching_by [] (text_in args) (plain_kind args)
matching_with (Some nocase) args = Regex (record { text = text_in args; nocase = nocase })

-- How a location of these words is matched.
abbrev pub matching_of : List (List ℕ) → Matching
matching_of args = matching_with (regex_case args) args

-- the values of a location within these
abbrev pub inner_values : (outer : Values) → Directive → (block : Forest) → Values
inner_values outer d block = over (stated (alias_prefix d.args) block) outer

module _ (known : List ℕ → Bool) where
  abbrev pub location_with : Values → Directive → (block : Forest) → LocationView
  location_with v d block = record { matching = matching_of d.args; level = level_of known v block }

  -- The locations of a level that paths find, in the order of the text, each with those in it.
  unfoldable pub locations_in : (outer : Values) → Forest → Locations
  locations_in outer End = NoMore
  locations_in outer (Branch d block beside) =
      if is_found false d then Location (location_with (inner_values outer d block) d block)
      (locations_in (inner_values outer d block) block) (locations_in outer beside)
      else locations_in outer beside

  abbrev pub named_with : Values → Directive → (block : Forest) → NamedView
  named_with v d block = record { name = text_in d.args; level = level_of known v block }

  -- the locations `@name` of a server
  unfoldable pub named_in : (outer : Values) → Forest → List NamedView
  named_in outer End = []
  named_in outer (Branch d block beside) = if is_found true d then named_with
      (inner_values outer d block) d block ∷ named_in outer beside else named_in outer beside

  -- A server within these values, with its names, and with the addresses whose default server it is.
  abbrev pub server_with : Values → (block : Forest) → ServerView
  server_with v block = record {
    listens = map (listen_seen (marked_in (roots block))) (or_default (listens_of (roots block)));
    names = or_empty (names_in (blocks_of (codes "server_name") block));
    first_name = first_shown (word_in (codes "server_name") block);
    level = server_level known v block;
    locations = locations_in v block;
    named = named_in v block;
    merge = v.settings.merge;
    visible = v.visible;
  }

  abbrev pub server_in : (outer : Values) → Block → ServerView
  server_in outer b = server_with (over (stated (Some []) b.body) outer) b.body

  -- the site, whose relative paths start at this folder
  unfoldable pub site_of : (folder : List ℕ) → (http : Forest) → SiteView
  site_of folder http = record {
    folder = folder;
    servers = map
        (server_in (over (stated (Some []) http) defaults)) (blocks_of (codes "server") http);
  }

-- the names of the variables that some directive sets
abbrev pub set_in : List Directive → List ℕ → Bool
set_in ds = is_set_in (Directives places.Top) (forest_of ds)

-- What directives are read as, where relative paths start at this folder: the first fault of the configuration, or the site.
unfoldable pub built : (folder : List ℕ) → List Directive → Result SiteView ConfFault
built folder ds = do
  faultless ds
  Ok (site_of (set_in ds) folder (http_in (forest_of ds)))
