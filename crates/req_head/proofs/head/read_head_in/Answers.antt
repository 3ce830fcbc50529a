use Rattle.std.proofs.Common.{arith}
use Rattle.std.proofs.lemmas.Grind.{common_steps}
use Rattle.req_head.proofs.MadeLemmas.{empty-more}
use Rattle.req_head.proofs.head.read_head_in.Goals as goal

pub returns-then-is_empty : goal.returns-then-is_empty
returns-then-is_empty c = empty-more c.args.bytes.now (grind (arith, common_steps))
