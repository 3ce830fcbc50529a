-- A site as it is served, as the recursive meaning sees it.
use Rattle.std.specs.Prelude.{ℕ, List, unwrap_or, slice_get}
use Rattle.site_model.specs.declared.site.Server.{Server}
use Rattle.ngx_pattern.specs.Pattern.{Pattern as SetPattern}
use Rattle.pattern_search.specs.Found.{patterns_seen}
use Rattle.site_views.specs.Views.{ServerView}
use Rattle.site_whole.specs.Whole.{server_whole}
use Rattle.location_search.specs.declared.locations.Locations.{Locations}
use Rattle.served_site.specs.declared.served.ServedSite.{ServedSite}

-- the server with this number
abbrev pub raw_server : ServedSite → ℕ → Server
raw_server s number = unwrap_or (slice_get s.site.servers.items number) s.spare

-- and its locations
abbrev pub raw_locations : ServedSite → ℕ → Locations
raw_locations s number = unwrap_or (slice_get s.locations.items number) s.spare_locations

-- as the recursive meaning sees it, with these patterns
abbrev pub server_numbered : List SetPattern → ServedSite → ℕ → ServerView
server_numbered patterns s number =
    server_whole (patterns_seen patterns) s.site (raw_server s number)
