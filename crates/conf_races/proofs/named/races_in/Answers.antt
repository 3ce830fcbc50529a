use Rattle.std.proofs.Common.{◌≡◌, [], List, map, sym, subst, ◌∙◌, arith}
use Rattle.site_whole.specs.Whole.{server_whole}
use Rattle.conf_values.specs.TextSet.{holds}
use Rattle.conf_block.specs.Forest.{forest_of}
use Rattle.race_check.specs.Told.{HasNamed}
use Rattle.race_meaning.specs.Conflicts.{AreConflicts}
use Rattle.race_places.specs.Places.{LevelOrigins, server_sources, conflict_seen}
use Rattle.race_places.specs.declared.told.Conflict.{Conflict as Told}
use Rattle.conf_races.specs.Origins.{Means, server_origins}
use Rattle.conf_races.proofs.RaceLaws.{raceless_by, no_conflicts, no_length}
use Rattle.conf_races.proofs.named.races_in.Goals as goal

pub returns-then-is_empty : goal.returns-then-is_empty
returns-then-is_empty c = λ outer means files patterns.
    let s = server_whole patterns c.args.site.now c.args.described.server.now in
    let none : c.in_ok-named.named.items ≡ [] = no_length c.in_ok-named.named.items c.in_ok-named.named.len (omega (arith, c.in_ok-named.named.ok.0)) (sym c.is_empty.ensures ∙ c.if-is_empty.true) in
    let sources = server_sources files s (server_origins (holds c.args.known.now.keys) outer (forest_of c.args.described.block.now)) in
    subst (λ (cs : List Told). AreConflicts c.args.described.number s sources (map (conflict_seen files) cs)) (sym c.new.ensures.items)
    (no_conflicts c.args.described.number s sources (raceless_by c.args.described.number s c.in_ok-named.named.items (c.in_ok-named.ensures patterns) none))

pub placed-requires : goal.placed-requires
placed-requires c = λ patterns.
    subst (HasNamed c.args.described.number (server_whole patterns c.args.site.now c.args.described.server.now) []) (sym c.as_slice-2.ensures.value) (c.in_ok-named.ensures patterns)

pub returns : goal.returns
returns c = λ outer means files patterns.
    let s = server_whole patterns c.args.site.now c.args.described.server.now in
    subst (λ (ls : List LevelOrigins). AreConflicts c.args.described.number s (server_sources files s ls) (map (conflict_seen files) c.in_ok-conflicts.conflicts.items))
    (c.in_ok-lines.ensures outer (subst (λ l. Means l c.args.around.now.lines outer) (sym c.as_slice.ensures.value) means)) (c.in_ok-conflicts.ensures files patterns)
