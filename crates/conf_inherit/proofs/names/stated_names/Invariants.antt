use Rattle.std.proofs.Common.{[], length}
use Rattle.std.specs.Prelude.{codes}
use Rattle.conf_block.specs.Forest.{forest_of}
use Rattle.conf_block.specs.Blocks.{blocks_of}
use Rattle.conf_lists.specs.Hosts.{names_in}
use Rattle.conf_inherit.proofs.NameLaws.{NamesSoFar}
use Rattle.conf_inherit.proofs.names.stated_names.Given as goal

-- the names so far, and those of the directives that are left
abbrev pub invariant-loop-branch : goal.invariant-loop-branch
invariant-loop-branch g l = NamesSoFar l.fn.patterns l.patterns [] l.names.items (names_in (blocks_of (codes "server_name") (forest_of l.rest))) (names_in (blocks_of (codes "server_name") (forest_of l.server)))

abbrev pub decreases-loop-branch : goal.decreases-loop-branch
decreases-loop-branch g l = length l.rest
