-- A site as its meaning sees it.
use Rattle.std.specs.Prelude.{ℕ, Bool, List, Option}
use Rattle.http_types.specs.declared.words.Addr.{Addr}
use Rattle.site_views.specs.Pattern.{Pattern}
use Rattle.site_views.specs.Values.{Values}
use Rattle.site_views.specs.Rewrites.{Program}

-- a level: the values that hold in it, and its own rewrite program, which no level inherits
pub record LevelView : Type 0 where
  pub values : Values
  pub program : Program

-- how a location is matched: `= text`, `text`, `^~ text`, `~ pattern` or `~* pattern`
pub data Matching : Type 0 where
  Exactly : (text : List ℕ) → Matching
  Prefix : (text : List ℕ) → Matching
  FirmPrefix : (text : List ℕ) → Matching
  Regex : (pattern : Pattern) → Matching

pub record LocationView : Type 0 where
  pub matching : Matching
  pub level : LevelView

-- a list of locations in the order of the text: a location, the list inside it, and the locations after it
pub data Locations : Type 0 where
  NoMore : Locations
  Location : (here : LocationView) → (inner later : Locations) → Locations

-- a location for redirects alone: `@name`
pub record NamedView : Type 0 where
  pub name : List ℕ
  pub level : LevelView

-- an address that a server listens on, and whether it is its `default_server`
pub record ListenView : Type 0 where
  pub addr : Addr
  pub default : Bool

-- a name of a server, in lower case: `name`, `*.x` by `.x`, `x.*` by `x.`, `.x`, `~pattern`
-- (https://nginx.org/en/docs/http/server_names.html)
pub data ServerName : Type 0 where
  Whole : (name : List ℕ) → ServerName
  Ending : (text : List ℕ) → ServerName
  Beginning : (text : List ℕ) → ServerName
  WithSubdomains : (text : List ℕ) → ServerName
  Like : (pattern : Pattern) → ServerName

pub record ServerView : Type 0 where
  pub listens : List ListenView
  pub names : List ServerName
  -- the first name as it is shown: without a leading dot
  pub first_name : List ℕ
  pub level : LevelView
  pub locations : Locations
  pub named : List NamedView
  -- `merge_slashes`; `ssi_visible`, where it is stated
  pub merge : Bool
  pub visible : Option (List (List ℕ))

-- a site: the folder at which relative paths start, and its servers in the order of the text
pub record SiteView : Type 0 where
  pub folder : List ℕ
  pub servers : List ServerView
