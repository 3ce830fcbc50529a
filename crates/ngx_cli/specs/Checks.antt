-- What is printed of a configuration that has no fault.
use Rattle.std.specs.Prelude.{ℕ, ◌+◌, ◌-◌, ◌^◌, min, length, List, [], ◌∷◌, ◌++◌, map}
use Rattle.site_views.specs.Views.{Locations, ServerView, SiteView}
use Rattle.site_views.specs.Views.Locations.{NoMore, Location}
use Rattle.conf_inherit.specs.Pools.{site_built}
use Rattle.race_meaning.specs.Conflicts.{Source, Conflict}
use Rattle.report_text.specs.Lines.{lines_text}
use Rattle.report_text.specs.Counts.{counts_text}
use Rattle.report_text.specs.Races.{FileLine, Race, race_line}
use Rattle.ngx_cli.specs.Sites.{conflicts_of}
use Rattle.ngx_cli.specs.declared.site.ReadSite.{ReadSite}

-- how many locations paths find, with those in others
unfoldable pub count_of : Locations → ℕ
count_of NoMore = 0
count_of (Location here inner later) = 1 + (count_of inner + count_of later)

-- how many locations the servers have, with those of a name
unfoldable pub locations_of : List ServerView → ℕ
locations_of [] = 0
locations_of (server ∷ servers) =
    (count_of server.locations + length server.named) + locations_of servers

-- the counts of a site, as far as 64 bits count them
abbrev pub counts_of : SiteView → List ℕ
counts_of site = counts_text (length site.servers) (min (locations_of site.servers) (2 ^ 64 - 1))

-- a named variable, as it is told
abbrev pub place_at : Source → FileLine
place_at s = record { path = s.file; line = s.line }

abbrev pub race_of : Conflict → Race
race_of c = record {
  server = c.server;
  name = c.name;
  sets = map place_at c.sets;
  reads = map place_at c.reads;
  documents = c.documents;
}

abbrev pub conflict_line : Conflict → List ℕ
conflict_line c = race_line (race_of c)

-- the counts of a site, and a line for each of its variables that is named
abbrev pub check_text : ReadSite → List ℕ
check_text found =
    counts_of (site_built found.built) ++ lines_text (map conflict_line (conflicts_of found))
