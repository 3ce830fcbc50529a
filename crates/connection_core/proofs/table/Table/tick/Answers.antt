use Rattle.std.proofs.Common.{◌≡◌, length, drop, subst, sym, arith}
use Rattle.connection_core.specs.Table.{AllKeep, AllLater, AllTicked}
use Rattle.connection_core.proofs.Keeping.{taken, ticked_keep, ticked_size}
use Rattle.connection_core.proofs.Ticks.{all_wait}
use Rattle.connection_core.proofs.table.Table.tick.Goals as goal

pub returns-else-self-now-clause-ticked : goal.returns-else-self-now-clause-ticked
returns-else-self-now-clause-ticked c =
    let t = c.args.self.now in
    all_wait c.args.now t.soon t.conns.items (omega (arith, c.if-self-now.false)) t.later

pub invariant_of-self : goal.invariant_of-self
invariant_of-self c =
    let t = c.args.self.now in
    let new = c.tick_all-self.new.conns in
    let ticked : AllTicked c.args.now t.conns.items new = subst (λ l. AllTicked c.args.now l new) c.as_mut_slice.ensures.value c.tick_all-self.ensures.ticked in
    let size : length new ≡ t.conns.len = (let even = ticked_size c.args.now t.conns.items new ticked in omega (arith, even, t.conns.ok.0)) in
    let same = sym (taken t.conns.len new (drop (length new) t.conns.items) size) in
    record {
      rising = t.rising;
      paired = t.paired;
      later = subst (AllLater c.tick_all-self.result) same c.tick_all-self.ensures.later;
      keeping = subst (AllKeep t.keeps) same (ticked_keep t.keeps c.args.now t.conns.items new ticked t.keeping);
    }
