use Rattle.std.proofs.Common.{◌≡◌, ◌≤◌, ◌++◌, length}
use Rattle.conf_values.specs.TextSet.{holds}
use Rattle.conf_block.specs.Forest.{forest_of}
use Rattle.rewrite_compile.specs.Programs.{parts_of}
use Rattle.rewrite_compile.proofs.part.+parts_in.Given as goal

abbrev pub decreases-parts_in : goal.decreases-parts_in
decreases-parts_in l = length l.level.now

-- what is left makes the rest
abbrev pub invariant-loop-branch : goal.invariant-loop-branch
invariant-loop-branch l =
    (l.parts.items ++ parts_of (holds l.known.keys) (forest_of l.rest) ≡ parts_of (holds l.known.keys) (forest_of l.level))
    × (length l.rest ≤ length l.level)

abbrev pub decreases-loop-branch : goal.decreases-loop-branch
decreases-loop-branch l = length l.rest
