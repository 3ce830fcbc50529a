use Rattle.connection_core.specs.Core.{serves_at}
use Rattle.connection_core.proofs.hub.Hub.get.Goals as goal

pub returns-clause-view : goal.returns-clause-view
returns-clause-view c = c.get.ensures.view (serves_at c.args.self.now)

pub returns-clause-known : goal.returns-clause-known
returns-clause-known c =
    let h = c.args.self.now in
    c.get.ensures.known h.tree h.known
