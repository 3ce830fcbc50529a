use Rattle.ready_loop.proofs.LawProofs.{closed_unended_sent_all}
use Rattle.ready_loop.proofs.laws.closed_unended_sent_all.Goals as goal

pub returns : goal.returns
returns c = closed_unended_sent_all
