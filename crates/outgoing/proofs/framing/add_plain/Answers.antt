use Rattle.std.proofs.Common.{arith}
use Rattle.outgoing.proofs.PutLemmas.{puts_plain}
use Rattle.outgoing.proofs.framing.add_plain.Goals as goal

pub returns-clause-puts : goal.returns-clause-puts
returns-clause-puts c = puts_plain c.args.bytes.now c.args.out.now.items c.extend_from_slice.new.self.items c.min-count.result (omega (arith, c.min-count.ensures)) (rw c.unwrap.ensures at c.extend_from_slice.ensures.items)
