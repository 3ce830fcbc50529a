use Rattle.std.proofs.Common.{◌≡◌, ◌-◌, length, drop}
use Rattle.subrequests.specs.Wants.{ready_from}
use Rattle.subrequests.proofs.family.Family.first_ready.Given as goal

abbrev pub invariant-loop-at : goal.invariant-loop-at
invariant-loop-at l = ready_from l.fn.self.order 0 l.fn.self.nodes ≡ ready_from l.fn.self.order l.at (drop l.at l.fn.self.nodes)

abbrev pub decreases-loop-at : goal.decreases-loop-at
decreases-loop-at l = length l.fn.self.nodes - l.at
