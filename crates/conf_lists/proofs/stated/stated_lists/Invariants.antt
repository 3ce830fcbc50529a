use Rattle.std.proofs.Common.{◌≡◌, length}
use Rattle.conf_block.specs.Forest.{forest_of, roots}
use Rattle.conf_lists.specs.Lists.{lists_in, lists_seen, stated_lists}
use Rattle.conf_lists.proofs.stated.stated_lists.Given as goal

-- the lists so far, with those of the directives that are left
abbrev pub invariant-loop-branch : goal.invariant-loop-branch
invariant-loop-branch l = lists_in (roots (forest_of l.rest)) (lists_seen l.lists) ≡ stated_lists (roots (forest_of l.level))

abbrev pub decreases-loop-branch : goal.decreases-loop-branch
decreases-loop-branch l = length l.rest
