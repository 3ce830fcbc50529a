use Rattle.std.proofs.Common.{◌≡◌, ◌++◌, length}
use Rattle.conf_block.specs.Forest.{forest_of, roots}
use Rattle.conf_inherit.specs.Values.{lines_entries}
use Rattle.conf_inherit.proofs.entries.push_lines.Given as goal

-- the entries so far, and those of the lines that are left
abbrev pub invariant-loop-branch : goal.invariant-loop-branch
invariant-loop-branch l = l.entries.items ++ lines_entries (roots (forest_of l.rest)) ≡ l.fn.entries.items ++ lines_entries (roots (forest_of l.block))

abbrev pub decreases-loop-branch : goal.decreases-loop-branch
decreases-loop-branch l = length l.rest
