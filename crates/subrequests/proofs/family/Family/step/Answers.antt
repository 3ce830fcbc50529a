use Rattle.subrequests.proofs.Wholes as wholes
use Rattle.subrequests.proofs.family.Family.step.Goals as goal

pub returns-in-Waits-clause-stepped : goal.returns-in-Waits-clause-stepped
returns-in-Waits-clause-stepped c = (record { steps = wholes.no_steps c.args.patterns.now c.args.ground.now c.args.self.now; whole = c.requires.whole }, c.in-Waits.ensures c.args.self.now.order)
