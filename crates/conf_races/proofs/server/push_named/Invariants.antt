use Rattle.std.proofs.Common.{◌≡◌, ◌++◌, List, length, map}
use Rattle.source_lines.specs.declared.line.Line.{Line}
use Rattle.conf_values.specs.TextSet.{holds}
use Rattle.conf_block.specs.Forest.{forest_of}
use Rattle.race_places.specs.Places.{level_by}
use Rattle.conf_races.specs.Origins.{Grows, outer_by, named_in}
use Rattle.conf_races.proofs.server.push_named.Given as goal

abbrev pub invariant-loop-branch : goal.invariant-loop-branch
invariant-loop-branch l =
    ((later : List (List Line)) → Grows l.lists.items later →
    map (level_by later) l.levels.items ++ named_in (holds l.known.keys) (outer_by later l.outer) (forest_of l.rest)
    ≡ map (level_by later) l.fn.levels.items ++ named_in (holds l.known.keys) (outer_by later l.outer) (forest_of l.server))
    × Grows l.fn.lists.items l.lists.items

abbrev pub decreases-loop-branch : goal.decreases-loop-branch
decreases-loop-branch l = length l.rest
