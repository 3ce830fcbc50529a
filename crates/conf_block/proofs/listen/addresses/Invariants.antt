use Rattle.std.proofs.Common.{◌≡◌, ◌++◌, length}
use Rattle.conf_block.specs.Forest.{forest_of, roots}
use Rattle.conf_block.specs.Listening.{listens_of}
use Rattle.conf_block.proofs.listen.addresses.Given as goal

-- the addresses so far, and those of the directives that are left
abbrev pub invariant-loop-branch : goal.invariant-loop-branch
invariant-loop-branch l = l.listens ++ listens_of (roots (forest_of l.rest)) ≡ listens_of (roots (forest_of l.level))

abbrev pub decreases-loop-branch : goal.decreases-loop-branch
decreases-loop-branch l = length l.rest
