use Rattle.std.proofs.Common.{arith, ◌∙◌, sym}
use Rattle.req_head.proofs.CodeLemmas.{waits_behind}
use Rattle.req_head.proofs.lines.may_decide.Goals as goal

pub returns-else-bytes-ge-LIMIT-clause-waits : goal.returns-else-bytes-ge-LIMIT-clause-waits
returns-else-bytes-ge-LIMIT-clause-waits c = λ none before. waits_behind c.args.bytes.now c.args.known c.rest_of.result.now c.rest_of.ensures (sym c.contains.ensures.value ∙ none) (omega arith) before
