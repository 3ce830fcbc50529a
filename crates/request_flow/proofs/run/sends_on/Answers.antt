use Rattle.std.proofs.Common.{Some, None, sym, subst}
use Rattle.request_flow.specs.Flows.{one_rest}
use Rattle.request_flow.specs.declared.flow.Flow.{Flow}
use Rattle.request_flow.specs.Rests.{Follows, no_rest}
use Rattle.request_flow.proofs.Pieces.{sent_follows}
use Rattle.request_flow.proofs.run.sends_on.Goals as goal

pub returns-then-left-eq0-clause-goes : goal.returns-then-left-eq0-clause-goes
returns-then-left-eq0-clause-goes c = λ w patterns site trees out closing.
    let flow = c.deref_mut-flow.result.now in
    let sending = c.in-Came.sending in
    subst (λ (f : Flow). Follows site (one_rest w patterns site f trees) no_rest out out closing closing (Some (sending.status, sending.len)) None) c.deref_mut-flow.ensures.value
    (subst (λ s. Follows site (one_rest w patterns site (record { ask = flow.ask; stage = s }) trees) no_rest out out closing closing (Some (sending.status, sending.len)) None) (sym c.in-Came.is)
    (sent_follows w patterns site trees flow.ask sending c.in-Came.left c.in-Came.placed out closing c.if-left-eq0.true))
