use Rattle.std.proofs.Common.{◌+◌, ◌∙◌, drop, map, sym, ap, subst, arith}
use Rattle.std.proofs.lemmas.List.{map-append}
use Rattle.std.specs.Prelude.{codes}
use Rattle.site_whole.specs.Whole.{server_whole}
use Rattle.conf_values.specs.TextSet.{holds}
use Rattle.conf_block.specs.Forest.{forest_of}
use Rattle.conf_block.specs.Blocks.{blocks_of}
use Rattle.race_meaning.specs.Conflicts.{AreConflicts}
use Rattle.race_check.proofs.Lists.{next_at, all_over}
use Rattle.race_places.specs.Places.{server_sources, conflict_seen}
use Rattle.conf_races.specs.Origins.{server_origins}
use Rattle.conf_races.proofs.RaceLaws.{races_more, races_over}
use Rattle.conf_races.proofs.named.races_of.Goals as goal

pub loop-server-preserved : goal.loop-server-preserved
loop-server-preserved c =
    let i = c.loop-server.server-index in
    let servers = c.deref-server-items.result.now in
    let known = holds c.args.known.now.keys in (
      ap (λ n. n + 1) c.loop-server.invariant.0,
      λ outer means files patterns.
          let seen = server_whole patterns c.args.site.now in
          let s = seen c.server-item.result in
          let blocks = blocks_of (codes "server") (forest_of c.loop-server.rest.now) in
          let are = subst (λ n. AreConflicts (n + 1) s (server_sources files s (server_origins known outer (forest_of c.next_server.result.0.now))) (map (conflict_seen files) c.in_ok-here.here.items)) c.loop-server.invariant.0 (c.in_ok-here.ensures outer means files patterns) in
          races_more files known outer (i + 1) s (map seen (drop (i + 1) servers)) (map seen (drop i servers)) blocks _ _ _
          (map (conflict_seen files) c.loop-server.conflicts.items) (map (conflict_seen files) c.append.new.self.items) (map (conflict_seen files) c.in_ok-here.here.items)
          (ap (map seen) (next_at servers i c.server-item.result (omega arith) c.server-item.is))
          (subst (λ f. AreConflicts (i + 1) s (server_sources files s (server_origins known outer f)) (map (conflict_seen files) c.in_ok-here.here.items)) (sym c.next_server.ensures.first) are)
          c.next_server.ensures.behind
          (ap (map (conflict_seen files)) c.in_ok-append.ensures.items ∙ map-append (conflict_seen files) c.loop-server.conflicts.items c.in_ok-here.here.items)
          (c.loop-server.invariant.1 outer means files patterns),
    )

pub returns : goal.returns
returns c = λ outer means files patterns.
    let i = c.loop-server.server-index in
    let servers = c.deref-server-items.result.now in
    races_over files (holds c.args.known.now.keys) outer (i + 1) (map (server_whole patterns c.args.site.now) (drop i servers)) _ _ _ _
    (ap (map (server_whole patterns c.args.site.now)) (all_over servers i (omega arith))) (c.loop-server.invariant.1 outer means files patterns)
