use Rattle.target_text.proofs.Divides as divides
use Rattle.target_text.proofs.target.bytes_before.Goals as goal

pub returns-in-Some : goal.returns-in-Some
returns-in-Some c = divides.before_at c.args.bytes.now c.in-Some.at c.in-Some.ensures.0 c.in-Some.ensures.1

pub returns-in-None : goal.returns-in-None
returns-in-None c = divides.before_nowhere c.args.bytes.now c.in-None.ensures
