-- A site as the recursive meaning sees it: what the numbers of its levels, lists and patterns mean.
use Rattle.std.specs.Prelude.{ℕ, nat_lt, false, List, [], ◌∷◌, map, codes, Option, None, Some, option_map, slice_get, unwrap_or, if◌then◌else◌}
use Rattle.http_types.specs.declared.words.Addr.{Addr}
use Rattle.access_rules.specs.declared.rule.Rule.{Rule}
use Rattle.site_views.specs.ngx_variables.declared.value.Piece.TheVariants.{Literal}
use Rattle.site_model.specs.Levels.{types_at, raw_level}
use Rattle.site_model.specs.Listens.{listens_exactly}
use Rattle.site_model.specs.declared.program.RewriteStep.{RewriteStep}
use Rattle.site_model.specs.declared.program.RewriteStep.TheVariants as steps
use Rattle.site_model.specs.declared.program.Test.{Test as CodeTest}
use Rattle.site_model.specs.declared.program.Test.TheVariants as tests
use Rattle.site_model.specs.declared.program.FileTest.{FileTest as CodeFileTest}
use Rattle.site_model.specs.declared.program.FileTest.TheVariants as file_tests
use Rattle.site_model.specs.declared.program.Flag.{Flag as CodeFlag}
use Rattle.site_model.specs.declared.program.Flag.TheVariants as flags
use Rattle.site_model.specs.declared.values.IndexName.{IndexName as CodeIndexName}
use Rattle.site_model.specs.declared.values.IndexNames.{IndexNames}
use Rattle.site_model.specs.declared.values.LastTry.{LastTry as CodeLastTry}
use Rattle.site_model.specs.declared.values.LastTry.TheVariants as lasts
use Rattle.site_model.specs.declared.values.Tries.{Tries as CodeTries}
use Rattle.site_model.specs.declared.values.Shown.{Shown as CodeShown}
use Rattle.site_model.specs.declared.values.Shown.TheVariants as showns
use Rattle.site_model.specs.declared.values.PageTarget.{PageTarget as CodeTarget}
use Rattle.site_model.specs.declared.values.PageTarget.TheVariants as targets
use Rattle.site_model.specs.declared.values.PageRule.{PageRule as CodePageRule}
use Rattle.site_model.specs.declared.values.PageRules.{PageRules}
use Rattle.site_model.specs.declared.values.MediaTypes.{MediaTypes as CodeMediaTypes}
use Rattle.site_model.specs.declared.values.AuthSet.{AuthSet}
use Rattle.site_model.specs.declared.values.AuthSets.{AuthSets}
use Rattle.site_model.specs.declared.site.Rules.{Rules}
use Rattle.site_model.specs.declared.site.Level.{Level}
use Rattle.site_model.specs.declared.site.LocationKind.{LocationKind}
use Rattle.site_model.specs.declared.site.LocationKind.TheVariants as kinds
use Rattle.site_model.specs.declared.site.Location.{Location as CodeLocation}
use Rattle.site_model.specs.declared.site.NamedLocation.{NamedLocation}
use Rattle.site_model.specs.declared.site.ServerName.{ServerName as CodeName}
use Rattle.site_model.specs.declared.site.ServerName.TheVariants as names
use Rattle.site_model.specs.declared.site.Server.{Server}
use Rattle.site_model.specs.declared.site.Site.{Site}
use Rattle.site_views.specs.Pattern.{Pattern}
use Rattle.site_views.specs.Values.{Values, Text, IndexName, Tries, LastTry, Shown, PageRule, PageTarget, MediaTypes}
use Rattle.site_views.specs.Values.LastTry.{ToPath, ToLocation, ToCode}
use Rattle.site_views.specs.Values.Shown.{OwnCode, Fixed, ByAnswer}
use Rattle.site_views.specs.Values.PageTarget.{AtPath, AtLocation, AtUrl}
use Rattle.site_views.specs.Rewrites.{FileTest, Test, Flag, Directive, Program}
use Rattle.site_views.specs.Rewrites.FileTest.{IsFile, IsFolder, IsThere}
use Rattle.site_views.specs.Rewrites.Test.{IsSet, Equals, Matches, OnFile}
use Rattle.site_views.specs.Rewrites.Flag.{NoFlag, Last, Break, Redirect, Permanent}
use Rattle.site_views.specs.Rewrites.Directive.{Set, If, Rewrite, Return, Stop}
use Rattle.site_views.specs.Views.{LevelView, LocationView, Locations, Matching, NamedView, ListenView, ServerName, ServerView, SiteView}
use Rattle.site_views.specs.Views.Locations.{NoMore, Location}
use Rattle.site_views.specs.Views.Matching.{Exactly, Prefix, FirmPrefix, Regex}
use Rattle.site_views.specs.Views.ServerName.{Whole, Ending, Beginning, WithSubdomains, Like}

-- ---- what is named by a number

-- a number that no pattern has: a text that is no UTF-8, which nothing matches
abbrev pub no_pattern : Pattern
no_pattern = record { text = 0xFF ∷ []; nocase = false }

abbrev pub pattern_at : List Pattern → ℕ → Pattern
pattern_at patterns number = unwrap_or (slice_get patterns number) no_pattern

-- the list of a number, and none without one
abbrev pub listed : {A : Type 0} → (ℕ → Option (List A)) → Option ℕ → List A
listed at None = []
listed at (Some number) = unwrap_or (at number) []

abbrev pub index_seen : CodeIndexName → IndexName
index_seen n = record { text = n.text; is_path = n.is_path }

-- `index.html`, where no list is stated (ngx_http_index_module, #index)
unfoldable pub default_index : List IndexName
default_index = record { text = Literal (codes "index.html") ∷ []; is_path = false } ∷ []

abbrev pub index_at : Site → Option ℕ → List IndexName
index_at site None = default_index
index_at site (Some number) = unwrap_or (option_map (λ (n : IndexNames). map index_seen n.names.items) (slice_get site.indexes.items number)) []

abbrev pub last_seen : CodeLastTry → LastTry
last_seen (lasts.Path text) = ToPath text
last_seen (lasts.Location name) = ToLocation name
last_seen (lasts.Code code) = ToCode code

abbrev pub tries_seen : CodeTries → Tries
tries_seen t = record { names = t.names.items; last = last_seen t.last }

abbrev pub shown_seen : CodeShown → Shown
shown_seen showns.OwnCode = OwnCode
shown_seen (showns.Fixed code) = Fixed code
shown_seen showns.ByAnswer = ByAnswer

abbrev pub target_seen : CodeTarget → PageTarget
target_seen (targets.Path text) = AtPath text
target_seen (targets.Location name) = AtLocation name
target_seen (targets.Url text) = AtUrl text

abbrev pub page_seen : CodePageRule → PageRule
page_seen r = record { codes = r.codes.items; shown = shown_seen r.shown; target = target_seen r.target }

abbrev pub pages_at : Site → Option ℕ → List PageRule
pages_at site number = listed (λ n. option_map (λ (r : PageRules). map page_seen r.rules.items) (slice_get site.pages.items n)) number

abbrev pub rules_at : Site → Option ℕ → List Rule
rules_at site number = listed (λ n. option_map (λ (r : Rules). r.rules.items) (slice_get site.rules.items n)) number

abbrev pub auth_set_seen : AuthSet → List ℕ × Text
auth_set_seen s = (s.name, s.text)

abbrev pub auth_sets_at : Site → Option ℕ → List (List ℕ × Text)
auth_sets_at site number = listed (λ n. option_map (λ (s : AuthSets). map auth_set_seen s.sets.items) (slice_get site.auth_sets.items n)) number

-- text/html alone, where none is stated
abbrev pub no_media : MediaTypes
no_media = record { every = false; types = [] }

abbrev pub media_seen : CodeMediaTypes → MediaTypes
media_seen m = record { every = m.every; types = m.types }

abbrev pub media_at : Site → Option ℕ → MediaTypes
media_at site None = no_media
media_at site (Some number) = unwrap_or (option_map media_seen (slice_get site.media.items number)) no_media

-- ---- levels

unfoldable pub values_seen : Site → Level → Values
values_seen site l =
    record {
      place = l.place;
      types = types_at site l.types;
      index = index_at site l.index;
      tries = option_map tries_seen l.tries;
      internal = l.internal;
      pages = pages_at site l.pages;
      recursive = l.recursive;
      body_most = l.body_most;
      requests = l.requests;
      idle = l.idle;
      send_wait = l.send_wait;
      head_wait = l.head_wait;
      absolute = l.absolute;
      with_port = l.with_port;
      with_server_name = l.with_server_name;
      any = l.any;
      rules = rules_at site l.rules;
      auth = l.auth;
      auth_sets = auth_sets_at site l.auth_sets;
      ssi = l.ssi;
      silent = l.silent;
      ssi_types = media_at site l.ssi_types;
      value_most = l.value_most;
      capture_most = l.capture_most;
      before = l.before;
      after = l.after;
      addition_types = media_at site l.addition_types;
    }

abbrev pub file_test_seen : CodeFileTest → FileTest
file_test_seen file_tests.IsFile = IsFile
file_test_seen file_tests.IsFolder = IsFolder
file_test_seen file_tests.IsThere = IsThere

abbrev pub test_seen : List Pattern → CodeTest → Test
test_seen patterns (tests.IsSet variable) = IsSet variable
test_seen patterns (tests.Equals variable text) = Equals variable text
test_seen patterns (tests.Matches variable pattern) = Matches variable (pattern_at patterns pattern)
test_seen patterns (tests.OnFile test path) = OnFile (file_test_seen test) path

abbrev pub flag_seen : CodeFlag → Flag
flag_seen flags.NoFlag = NoFlag
flag_seen flags.Last = Last
flag_seen flags.Break = Break
flag_seen flags.Redirect = Redirect
flag_seen flags.Permanent = Permanent

abbrev pub step_seen : List Pattern → Site → RewriteStep → Directive
step_seen patterns site (steps.Set name text) = Set name text
step_seen patterns site (steps.If test negated block level) = If (test_seen patterns test) negated block (option_map (λ n. values_seen site (raw_level site n)) level)
step_seen patterns site (steps.Rewrite pattern to is_url flag) = Rewrite (pattern_at patterns pattern) to is_url (flag_seen flag)
step_seen patterns site (steps.Return code text) = Return code text
step_seen patterns site steps.Stop = Stop

abbrev pub program_seen : List Pattern → Site → Level → Program
program_seen patterns site l = map (step_seen patterns site) l.program

unfoldable pub level_whole : List Pattern → Site → ℕ → LevelView
level_whole patterns site number =
    let l = raw_level site number in
    record { values = values_seen site l; program = program_seen patterns site l }

-- ---- locations

abbrev pub matching_by : List Pattern → List ℕ → LocationKind → Matching
matching_by patterns text kinds.Prefix = Prefix text
matching_by patterns text kinds.FirmPrefix = FirmPrefix text
matching_by patterns text kinds.Exactly = Exactly text
matching_by patterns text (kinds.Regex pattern) = Regex (pattern_at patterns pattern)

abbrev pub location_whole : List Pattern → Site → CodeLocation → LocationView
location_whole patterns site l = record { matching = matching_by patterns l.text l.kind; level = level_whole patterns site l.level }

-- the locations of a level, each with its depth and with those in it
pub data Nested : Type 0 where
  NoneLeft : Nested
  Nest : (here : CodeLocation) → (inner later : Nested) → Nested

-- of the locations after one of this depth: those in it, up to the first that is no deeper; and those after them
unfoldable pub inside : (depth : ℕ) → Nested → Nested
inside depth NoneLeft = NoneLeft
inside depth (Nest l inner later) = if nat_lt depth l.depth then Nest l inner (inside depth later) else NoneLeft

unfoldable pub outside : (depth : ℕ) → Nested → Nested
outside depth NoneLeft = NoneLeft
outside depth (Nest l inner later) = if nat_lt depth l.depth then outside depth later else Nest l inner later

unfoldable pub nested : List CodeLocation → Nested
nested [] = NoneLeft
nested (l ∷ ls) = Nest l (inside l.depth (nested ls)) (outside l.depth (nested ls))

unfoldable pub locations_whole : List Pattern → Site → Nested → Locations
locations_whole patterns site NoneLeft = NoMore
locations_whole patterns site (Nest l inner later) =
    Location (location_whole patterns site l) (locations_whole patterns site inner) (locations_whole patterns site later)

-- ---- servers

abbrev pub name_seen : List Pattern → CodeName → ServerName
name_seen patterns (names.Whole name) = Whole name
name_seen patterns (names.Ending text) = Ending text
name_seen patterns (names.Beginning text) = Beginning text
name_seen patterns (names.WithSubdomains text) = WithSubdomains text
name_seen patterns (names.Like pattern) = Like (pattern_at patterns pattern)

abbrev pub named_whole : List Pattern → Site → NamedLocation → NamedView
named_whole patterns site n = record { name = n.name; level = level_whole patterns site n.level }

abbrev pub listen_seen : List Addr → Addr → ListenView
listen_seen defaults addr = record { addr = addr; default = listens_exactly defaults addr }

unfoldable pub server_whole : List Pattern → Site → Server → ServerView
server_whole patterns site s =
    record {
      listens = map (listen_seen s.defaults) s.listens;
      names = map (name_seen patterns) s.names.items;
      first_name = s.first_name;
      level = level_whole patterns site s.level;
      locations = locations_whole patterns site (nested s.locations.items);
      named = map (named_whole patterns site) s.named.items;
      merge = s.merge;
      visible = s.visible;
    }

-- The whole site, with the patterns of the set that is kept beside it.
unfoldable pub whole : List Pattern → Site → SiteView
whole patterns site = record { folder = site.folder; servers = map (server_whole patterns site) site.servers.items }
