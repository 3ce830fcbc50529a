use Rattle.std.proofs.Common.{◌≡◌, ◌-◌, length, drop}
use Rattle.subrequests.specs.Wants.{jobs_from}
use Rattle.subrequests.proofs.family.Family.first_job.Given as goal

abbrev pub invariant-loop-at : goal.invariant-loop-at
invariant-loop-at l = jobs_from l.fn.self.tree 0 l.fn.self.nodes ≡ jobs_from l.fn.self.tree l.at (drop l.at l.fn.self.nodes)

abbrev pub decreases-loop-at : goal.decreases-loop-at
decreases-loop-at l = length l.fn.self.nodes - l.at
