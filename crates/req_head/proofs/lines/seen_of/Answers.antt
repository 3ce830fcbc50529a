use Rattle.req_head.proofs.CodeLemmas.{take_least}
use Rattle.req_head.proofs.lines.seen_of.Goals as goal

pub returns-clause-value : goal.returns-clause-value
returns-clause-value c = take_least c.args.bytes.now c.min-end.result c.min-end.ensures
