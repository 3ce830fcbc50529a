use Rattle.std.proofs.Common.{◌≡◌, ◌≤◌, ◌++◌, List, length, map}
use Rattle.source_lines.specs.declared.line.Line.{Line}
use Rattle.conf_values.specs.TextSet.{holds}
use Rattle.conf_block.specs.Forest.{forest_of}
use Rattle.race_places.specs.Places.{level_by}
use Rattle.conf_races.specs.Origins.{Grows, outer_by, locations_in}
use Rattle.conf_races.proofs.server.+push_locations.Given as goal

abbrev pub decreases-push_locations : goal.decreases-push_locations
decreases-push_locations l = length l.level.now

abbrev pub invariant-loop-branch : goal.invariant-loop-branch
invariant-loop-branch l =
    ((later : List (List Line)) → Grows l.lists.items later →
    map (level_by later) l.levels.items ++ locations_in (holds l.known.keys) (outer_by later l.outer) (forest_of l.rest)
    ≡ map (level_by later) l.fn.levels.items ++ locations_in (holds l.known.keys) (outer_by later l.outer) (forest_of l.level))
    × (length l.rest ≤ length l.level)
    × Grows l.fn.lists.items l.lists.items

abbrev pub decreases-loop-branch : goal.decreases-loop-branch
decreases-loop-branch l = length l.rest
