use Rattle.std.proofs.Common.{arith}
use Rattle.try_index.proofs.Turns as turns
use Rattle.try_index.proofs.tries.ends_in_slash.Goals as goal

pub returns-in-len1-up : goal.returns-in-len1-up
returns-in-len1-up c = turns.last_slash c.args.name.now (omega (arith, c.in-len1-up.len_at_least))
