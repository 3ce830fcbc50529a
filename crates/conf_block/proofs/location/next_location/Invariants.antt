use Rattle.std.proofs.Common.{◌≡◌, ◌≤◌, length}
use Rattle.conf_block.specs.Forest.{forest_of}
use Rattle.conf_block.specs.Blocks.{from_first}
use Rattle.conf_block.specs.Locations.{is_found}
use Rattle.conf_block.proofs.location.next_location.Given as goal

-- the directives that are left decide
abbrev pub invariant-loop-branch : goal.invariant-loop-branch
invariant-loop-branch l =
    (from_first (is_found l.named) (forest_of l.rest) ≡ from_first (is_found l.named) (forest_of l.level)) × (length l.rest ≤ length l.level)

abbrev pub decreases-loop-branch : goal.decreases-loop-branch
decreases-loop-branch l = length l.rest
