use Rattle.connection_core.proofs.Ticks.{quiet_in}
use Rattle.connection_core.proofs.table.Table.quiet_until.Goals as goal

pub returns : goal.returns
returns c = λ x q due e.
    let t = c.args.self.now in
    quiet_in x t.ids.items t.conns.items t.soon t.later q due e
