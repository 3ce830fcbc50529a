use Rattle.req_head.proofs.StepLemmas.{grammar-decides}
use Rattle.req_head.proofs.laws.grammar_decides.Goals as goal

pub returns : goal.returns
returns c = grammar-decides
