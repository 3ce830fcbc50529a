use Rattle.std.proofs.Common.{◌≡◌, ℕ, List}
use Rattle.acts.specs.Act.{settled}
use Rattle.filter_api.specs.Members.{Member}
use Rattle.request_phases.specs.Rounds.{world_in, IsOfMain}
use Rattle.request_phases.proofs.Ahead.{ahead}
use Rattle.request_phases.proofs.rounds.settle.Given as goal

-- what is still to be done stays the same
abbrev pub invariant-loop-reached : goal.invariant-loop-reached
invariant-loop-reached l =
    ((l.patterns ≡ l.fn.patterns) × IsOfMain l.fn.phases.main l.phases.main)
    × ((bytes : List ℕ) (members : List Member) → let w = world_in l.fn.patterns l.ground members in
    settled (ahead w l.fn.patterns l.ground.site.now bytes l.phases l.reached) l.vars
    ≡ settled (ahead w l.fn.patterns l.ground.site.now bytes l.fn.phases l.fn.reached) l.fn.vars)

abbrev pub decreases-loop-reached : goal.decreases-loop-reached
decreases-loop-reached l = l.phases.changes
