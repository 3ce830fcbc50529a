-- What connections are served over, and what is still to come of the response in flight on one.
use Rattle.std.specs.Prelude.{◌≡◌, ◌<◌, ℕ, true, List, Option, None, Some, length, option_map}
use Rattle.file_tree.specs.Tree.{Trees}
use Rattle.http_types.specs.declared.words.Addr.{Addr}
use Rattle.ngx_pattern.specs.Pattern.{Pattern as SetPattern}
use Rattle.pattern_search.specs.Found.{patterns_seen, found}
use Rattle.site_model.specs.Levels.{raw_level}
use Rattle.site_views.specs.Values.{Values}
use Rattle.site_whole.specs.Whole.{server_whole, values_seen}
use Rattle.request_meaning.specs.Laws.{shipped}
use Rattle.request_meaning.specs.Serving.{World}
use Rattle.answers_meaning.specs.Asking.{Service}
use Rattle.response_flow.specs.race_meaning.Named.{IsRaceless}
use Rattle.response_flow.specs.request_opening.Openings.{service_of}
use Rattle.response_flow.specs.declared.flight.Flight.{Flight}
use Rattle.response_flow.specs.Flights.{FlightReached, flight_length, flight_rest, flight_server}
use Rattle.response_flow.specs.request_flow.Rests.{Rest, no_rest}
use Rattle.served_site.specs.declared.served.ServedSite.{ServedSite}
use Rattle.served_site.specs.Served.{raw_server}

-- the site, and its patterns
pub record Serves : Type 0 where
  pub patterns : List SetPattern
  pub served : ServedSite

-- what a connection with these ends is served
abbrev pub service_in : Serves → (local peer : Addr) → Service
service_in x local peer = service_of x.patterns x.served.site local peer

-- the world of a request that the server with this number answers, whose head states this length of its own body
abbrev pub world_at : Serves → (number length : ℕ) → World
world_at x number length =
    record {
      server = server_whole (patterns_seen x.patterns) x.served.site (raw_server x.served number);
      finds = found;
      members = shipped;
      length = length;
    }

abbrev pub world_of : Serves → Flight → World
world_of x flight = world_at x (flight_server flight) (flight_length flight)

-- what is still to come of the response in flight
abbrev pub rest_in : Serves → Option Flight → Trees → Rest
rest_in x None trees = no_rest
rest_in x (Some flight) trees =
    flight_rest (world_of x flight) x.patterns x.served.site (Some flight) trees

-- one of the site's servers has this number
abbrev pub HasServer : Serves → ℕ → Type 0
HasServer x number = number < length x.served.site.servers.items

-- Steps have led to the response in flight, which one of the site's servers answers.
abbrev pub ReachedIn : Serves → Option Flight → Type 0
ReachedIn x None = Unit {0}
ReachedIn x (Some flight) =
    FlightReached (world_of x flight) x.patterns x.served.site (Some flight) × HasServer x (flight_server flight)

abbrev pub IsReachedIn : Serves → Option Flight → Type 0
IsReachedIn x flight = ∥ ReachedIn x flight ∥₁

-- the race check names no variable of the site
abbrev pub AreRaceless : Serves → Type 0
AreRaceless x = (number : ℕ) → HasServer x number → IsRaceless (world_at x number 0).server

-- the site says of itself that no variable is named only where none is
abbrev pub TellsRaceless : Serves → Type 0
TellsRaceless x = x.served.raceless ≡ true → AreRaceless x

-- the values of the level with this number
abbrev pub values_at : ServedSite → Option ℕ → Option Values
values_at s level = option_map (λ n. values_seen s.site (raw_level s.site n)) level
