use Rattle.std.proofs.Common.{◌≡◌, sym, ap, ◌∙◌, subst}
use Rattle.acts.specs.Act.{settled}
use Rattle.node_turn.specs.request_phases.Rounds.{phases_left}
use Rattle.access_flow.proofs.Told.{fits_told}
use Rattle.node_turn.specs.request_reply.Replies.{FitsFile}
use Rattle.access_flow.specs.Flows.{inner_left}
use Rattle.access_flow.proofs.Inner.{asked_left, replied_left}
use Rattle.access_flow.proofs.Reaching.{asked_reached, replied_reached}
use Rattle.access_flow.proofs.run.goes_on.Goals as goal

pub returns-in-Asks-clause-left : goal.returns-in-Asks-clause-left
returns-in-Asks-clause-left c = λ w patterns trees bytes members size.
    let site = c.args.site.now in
    let f = c.args.flow.now in
    asked_left w patterns site trees bytes f c.deref_mut.result.now c.put.new.slot c.put-in-Asks.new.slot c.in-Asks.wait c.in-Asks.path c.deref_mut.ensures.value c.put.ensures c.put-in-Asks.ensures
    ∙ ap (λ s. inner_left w site (trees f.of) f (phases_left w patterns site bytes f.inner s)) (sym c.in-Asks.is)

pub returns-in-Asks-clause-reached : goal.returns-in-Asks-clause-reached
returns-in-Asks-clause-reached c = λ w patterns m old bytes members size r e.
    let site = c.args.site.now in
    let f = c.args.flow.now in
    asked_reached w patterns site bytes f c.deref_mut.result.now c.put.new.slot c.put-in-Asks.new.slot c.in-Asks.wait c.in-Asks.path m old c.deref_mut.ensures.value c.put.ensures c.put-in-Asks.ensures r
    (subst (λ s. settled m old ≡ (phases_left w patterns site bytes f.inner s, f.request.value.vars)) c.in-Asks.is e)

pub returns-clause-left : goal.returns-clause-left
returns-clause-left c = λ w patterns trees bytes members size.
    let site = c.args.site.now in
    let f = c.args.flow.now in
    let o = c.in-Answers.outcome in
    let told = c.with_length-outcome.result in
    replied_left w patterns site trees bytes c.args.len f c.deref_mut.result.now c.put-in-Answers.new.slot c.in_ok-status-in-Answers.status o told c.deref_mut.ensures.value c.put-in-Answers.ensures c.with_length-outcome.ensures
    (c.in_ok-status-in-Answers.ensures w bytes members (subst (λ x. FitsFile x bytes) (sym c.with_length-outcome.ensures) (fits_told bytes c.args.len o size)))
    ∙ ap (λ s. inner_left w site (trees f.of) f (phases_left w patterns site bytes f.inner s)) (sym c.in-Answers.is)

pub returns-clause-reached : goal.returns-clause-reached
returns-clause-reached c = λ w patterns m old bytes members size r e.
    let site = c.args.site.now in
    let f = c.args.flow.now in
    let o = c.in-Answers.outcome in
    let told = c.with_length-outcome.result in
    replied_reached w patterns site bytes c.args.len f c.deref_mut.result.now c.put-in-Answers.new.slot c.in_ok-status-in-Answers.status o told m old c.deref_mut.ensures.value c.put-in-Answers.ensures c.with_length-outcome.ensures
    (c.in_ok-status-in-Answers.ensures w bytes members (subst (λ x. FitsFile x bytes) (sym c.with_length-outcome.ensures) (fits_told bytes c.args.len o size))) r
    (subst (λ s. settled m old ≡ (phases_left w patterns site bytes f.inner s, f.request.value.vars)) c.in-Answers.is e)
