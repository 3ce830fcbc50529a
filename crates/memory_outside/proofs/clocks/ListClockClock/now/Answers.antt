use Rattle.std.proofs.Common.{vec_len, length, ap, arith}
use Rattle.memory_outside.proofs.Calls.{told_more}
use Rattle.memory_outside.proofs.clocks.ListClockClock.now.Goals as goal

pub returns-then-self-len-clause-told : goal.returns-then-self-len-clause-told
returns-then-self-len-clause-told g c = λ _.
    let s = c.args.self.now in
    told_more s.moments.items c.as_slice.result.now s.calls c.count.new.self s.at (vec_len s.moments) c.moment_of-moment.result c.as_slice.ensures.value
    (omega (arith, c.as_slice.ensures.len, ap length c.as_slice.ensures.value)) c.count.ensures s.counted c.moment_of-moment.ensures

pub returns-else-self-len-clause-told : goal.returns-else-self-len-clause-told
returns-else-self-len-clause-told g c = λ _.
    let s = c.args.self.now in
    told_more s.moments.items c.as_slice.result.now s.calls c.count.new.self s.at (vec_len s.moments) c.moment_of-moment.result c.as_slice.ensures.value
    (omega (arith, c.as_slice.ensures.len, ap length c.as_slice.ensures.value)) c.count.ensures s.counted c.moment_of-moment.ensures
