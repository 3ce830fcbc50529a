use Rattle.std.proofs.Common.{◌≡◌, length}
use Rattle.conf_block.specs.Forest.{forest_of, roots}
use Rattle.conf_inherit.specs.Values.{settings_in}
use Rattle.conf_inherit.proofs.level.settings_in.Given as goal

-- the settings so far, and the directives that are left
abbrev pub invariant-loop-branch : goal.invariant-loop-branch
invariant-loop-branch l = settings_in (roots (forest_of l.rest)) l.settings ≡ settings_in (roots (forest_of l.level)) l.fn.outer

abbrev pub decreases-loop-branch : goal.decreases-loop-branch
decreases-loop-branch l = length l.rest
