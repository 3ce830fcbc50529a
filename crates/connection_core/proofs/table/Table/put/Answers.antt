use Rattle.std.proofs.Common.{arith}
use Rattle.connection_core.proofs.Ends.{put_rising, gap_at}
use Rattle.connection_core.proofs.Keeping.{put_keep}
use Rattle.connection_core.proofs.Ticks.{put_later}
use Rattle.connection_core.proofs.table.Table.put.Goals as goal

pub invariant_of-self : goal.invariant_of-self
invariant_of-self c =
    let t = c.args.self.now in
    let gap = gap_at c.args.conn c.args.at t.ids.items t.conns.items c.requires.belongs (omega (arith, t.paired, t.ids.ok.0, t.conns.ok.0)) in
    record {
      rising = put_rising c.args.conn c.args.at t.ids.items c.put_at.new.items.items c.requires.belongs c.put_at.ensures.items t.rising;
      later = put_later t.soon c.earlier-self.result c.args.conn c.args.at t.ids.items t.conns.items c.put_at-2.new.items.items c.args.fresh gap c.put_at-2.ensures.items c.earlier-self.ensures.0 c.earlier-self.ensures.1 t.later;
      keeping = put_keep t.keeps c.args.conn c.args.at t.ids.items t.conns.items c.put_at-2.new.items.items c.args.fresh gap c.put_at-2.ensures.items c.requires.keeps t.keeping;
      paired = omega (arith, t.paired, c.put_at.ensures.len, c.put_at-2.ensures.len);
    }
