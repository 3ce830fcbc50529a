use Rattle.std.proofs.Common.{arith}
use Rattle.connection_core.specs.Core.{serves_at}
use Rattle.connection_core.proofs.Ends.{held_as}
use Rattle.connection_core.proofs.hub.HubEventCore.conns.Goals as goal

pub returns-clause-held : goal.returns-clause-held
returns-clause-held c =
    let h = c.args.self.now in
    let t = h.table in
    held_as (serves_at h) t.ids.items t.conns.items (omega (arith, t.paired, t.ids.ok.0, t.conns.ok.0))
