use Rattle.std.proofs.Common.{length}
use Rattle.location_search.proofs.Trees.{Gathering}
use Rattle.location_search.proofs.build.gather.Given as goal

abbrev pub invariant-loop-last : goal.invariant-loop-last
invariant-loop-last l = Gathering l.depth l.fn.waiting.items l.waiting.items l.gathered

abbrev pub decreases-loop-last : goal.decreases-loop-last
decreases-loop-last l = length l.waiting.items
