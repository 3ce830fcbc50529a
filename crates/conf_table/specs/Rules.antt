-- Sets of places.
use Rattle.std.specs.Prelude.{Bool}
use Rattle.conf_table.specs.declared.rule.Context.{Context}
use Rattle.conf_table.specs.declared.rule.Context.TheVariants.{Top, Events, Http, Server, Location, ServerIf, LocationIf}
use Rattle.conf_table.specs.declared.rule.Contexts.{Contexts}

-- the place is in the set
abbrev pub has_place : Contexts → Context → Bool
has_place places Top = places.top
has_place places Events = places.events
has_place places Http = places.http
has_place places Server = places.server
has_place places Location = places.location
has_place places ServerIf = places.server_if
has_place places LocationIf = places.location_if
