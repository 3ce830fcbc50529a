use Rattle.std.proofs.Common.{◌≡◌, ◌≤◌, ◌++◌, List, length, map}
use Rattle.source_lines.specs.declared.line.Line.{Line}
use Rattle.conf_values.specs.TextSet.{holds}
use Rattle.conf_block.specs.Forest.{forest_of}
use Rattle.conf_inherit.specs.Programs.{blocks_in}
use Rattle.race_places.specs.Places.{origins_by}
use Rattle.conf_races.specs.Origins.{Grows, outer_by, block_origins}
use Rattle.conf_races.proofs.level.+push_blocks.Given as goal

abbrev pub decreases-push_blocks : goal.decreases-push_blocks
decreases-push_blocks l = length l.level.now

abbrev pub invariant-loop-branch : goal.invariant-loop-branch
invariant-loop-branch l =
    ((later : List (List Line)) → Grows l.lists.items later →
    map (origins_by later) l.blocks.items ++ map (block_origins (outer_by later l.outer)) (blocks_in (holds l.known.keys) (forest_of l.rest))
    ≡ map (origins_by later) l.fn.blocks.items ++ map (block_origins (outer_by later l.outer)) (blocks_in (holds l.known.keys) (forest_of l.level)))
    × (length l.rest ≤ length l.level)
    × Grows l.fn.lists.items l.lists.items

abbrev pub decreases-loop-branch : goal.decreases-loop-branch
decreases-loop-branch l = length l.rest
