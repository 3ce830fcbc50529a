use Rattle.req_head.proofs.CodeLemmas.{end_after, end_nowhere_after}
use Rattle.req_head.proofs.lines.lines_end.Goals as goal

pub returns-in-Some-clause-lines : goal.returns-in-Some-clause-lines
returns-in-Some-clause-lines c = end_after c.args.seen.now c.in-Some.at c.in-Some.ensures.0 c.in-Some.ensures.1

pub returns-in-None-clause-lines : goal.returns-in-None-clause-lines
returns-in-None-clause-lines c = end_nowhere_after c.args.seen.now c.in-None.ensures
