-- The locations of all servers.
use Rattle.std.specs.Prelude.{ℕ, List, unwrap_or, slice_get}
use Rattle.site_model.specs.declared.site.Server.{Server}
use Rattle.location_search.specs.Served.{AreOf}
use Rattle.location_search.specs.declared.locations.Locations.{Locations}

-- the locations with each number are those of the server with that number
abbrev pub AreOfEach : List Locations → Locations → List Server → Server → Type 0
AreOfEach locations spare_locations servers spare =
    (number : ℕ) → AreOf (unwrap_or (slice_get locations number) spare_locations)
    (unwrap_or (slice_get servers number) spare)
