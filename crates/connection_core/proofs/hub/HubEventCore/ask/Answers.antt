use Rattle.std.proofs.Common.{◌∙◌, sym, ap}
use Rattle.ngx_outside.specs.Views.{ConnView, ask_in}
use Rattle.connection_core.proofs.Asked.{asks_known}
use Rattle.connection_core.proofs.hub.HubEventCore.ask.Goals as goal

pub returns-in-Some-clause-job : goal.returns-in-Some-clause-job
returns-in-Some-clause-job c = c.ask.ensures ∙ sym (ap (λ (v : ConnView). ask_in v.jobs c.args.node) c.in-Some.ensures.view)

pub returns-in-Some-clause-known : goal.returns-in-Some-clause-known
returns-in-Some-clause-known c =
    let h = c.args.self.now in
    asks_known c.in-Some.held.now.flight c.args.node h.tree c.ask.result c.ask.ensures c.in-Some.ensures.known

pub returns-in-None-clause-job : goal.returns-in-None-clause-job
returns-in-None-clause-job c = sym (ap (λ (v : ConnView). ask_in v.jobs c.args.node) c.in-None.ensures.view)
