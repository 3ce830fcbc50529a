use Rattle.std.proofs.Common.{◌≡◌, ◌++◌, length}
use Rattle.conf_block.specs.Forest.{forest_of, roots}
use Rattle.conf_lists.specs.Hosts.{marked_in}
use Rattle.conf_lists.proofs.hosts.defaults_of.Given as goal

-- the addresses so far, and those of the directives that are left
abbrev pub invariant-loop-branch : goal.invariant-loop-branch
invariant-loop-branch l = l.defaults ++ marked_in (roots (forest_of l.rest)) ≡ marked_in (roots (forest_of l.server))

abbrev pub decreases-loop-branch : goal.decreases-loop-branch
decreases-loop-branch l = length l.rest
