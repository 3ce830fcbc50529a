use Rattle.subrequests.proofs.Opens as opening
use Rattle.subrequests.proofs.child.child_node.Goals as goal

pub returns-clause-acts : goal.returns-clause-acts
returns-clause-acts c = λ w patterns site main text.
    opening.script_is w c.args.left c.args.method main c.child_phases.result c.args.child c.child_phases.ensures.main c.child_phases.ensures.asked
