use Rattle.std.proofs.Common.{[], List, ℕ, map, ap}
use Rattle.std.specs.Prelude.{codes}
use Rattle.conf_values.specs.TextSet.{holds}
use Rattle.conf_block.specs.Forest.{forest_of}
use Rattle.conf_block.specs.Blocks.{blocks_of}
use Rattle.race_places.specs.Places.{conflict_seen}
use Rattle.conf_races.specs.Origins.{nowhere, outer_over}
use Rattle.conf_races.proofs.RaceLaws.{races_seen, none_seen}
use Rattle.conf_races.proofs.named.races_by.Goals as goal

pub returns-clause-told : goal.returns-clause-told
returns-clause-told c = λ files patterns.
    let http = forest_of c.http_in-http.result.now in
    races_seen files patterns c.args.site.now c.args.directives.now (holds c.in_ok-known.known.keys) http _
    c.in_ok-known.ensures c.http_in-http.ensures (c.in_ok-conflicts.ensures (outer_over http nowhere) c.in_ok-around.ensures files patterns)

pub returns-clause-none : goal.returns-clause-none
returns-clause-none c = λ none patterns server h.
    let files : ℕ → List ℕ = λ n. [] in
    let http = forest_of c.http_in-http.result.now in
    none_seen files patterns c.args.site.now (holds c.in_ok-known.known.keys) (outer_over http nowhere) (blocks_of (codes "server") http) (map (conflict_seen files) c.in_ok-conflicts.conflicts.items)
    (c.in_ok-conflicts.ensures (outer_over http nowhere) c.in_ok-around.ensures files patterns) (ap (map (conflict_seen files)) none) server h
