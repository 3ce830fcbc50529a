-- A core that tells its events.
use Rattle.std.specs.Prelude.{List, Option}
use Rattle.ngx_outside.specs.Records.{Given}
use Rattle.ngx_outside.specs.Seen.{CoreSeen}
use Rattle.telling_core.specs.declared.telling.TellingCore.{TellingCore}
use Rattle.telling_core.specs.Events.{events_told}

-- the core within
abbrev pub core_of : {E : Type 0} → TellingCore E → E
core_of t = t.core

-- the events that it was given, as far as they are told
abbrev pub events_of : {E : Type 0} → TellingCore E → Option (List Given)
events_of t = events_told t.given

-- what the core within shows, and the events
abbrev pub seen_of : CoreSeen → Option (List Given) → CoreSeen
seen_of core events = record core { events = events }
