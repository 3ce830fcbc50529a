use Rattle.std.proofs.Common.{◌≡◌, ◌+◌, ◌++◌, ℕ, List, drop, map}
use Rattle.std.specs.Prelude.{codes}
use Rattle.site_views.specs.Pattern.{Pattern}
use Rattle.site_whole.specs.Whole.{server_whole}
use Rattle.conf_values.specs.TextSet.{holds}
use Rattle.conf_block.specs.Forest.{forest_of}
use Rattle.conf_block.specs.Blocks.{blocks_of}
use Rattle.race_meaning.specs.Conflicts.{Conflict}
use Rattle.race_places.specs.Places.{conflict_seen}
use Rattle.conf_races.specs.Origins.{Outer, Means}
use Rattle.conf_races.specs.Races.{AreRaces}
use Rattle.conf_races.proofs.named.races_of.Given as goal

abbrev pub invariant-loop-server : goal.invariant-loop-server
invariant-loop-server l =
    (l.number ≡ l.server-index) × ((outer : Outer) → Means l.around.lists.items l.around.lines outer → (files : ℕ → List ℕ) (patterns : List Pattern) (later : List Conflict) →
    AreRaces files (holds l.known.keys) outer (l.server-index + 1) (map (server_whole patterns l.site) (drop l.server-index l.server-items)) (blocks_of (codes "server") (forest_of l.rest)) later →
    AreRaces files (holds l.known.keys) outer 1 (map (server_whole patterns l.site) l.site.servers.items) (blocks_of (codes "server") (forest_of l.http)) (map (conflict_seen files) l.conflicts.items ++ later))
