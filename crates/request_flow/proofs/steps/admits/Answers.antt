use Rattle.std.proofs.Common.{[], sym, ap, ◌∙◌, subst}
use Rattle.request_meaning.specs.Laws.{shipped}
use Rattle.reply_out.specs.request_phases.Admitted.{phases_admitted}
use Rattle.reply_out.specs.request_phases.Rounds.{world_in, phases_left}
use Rattle.reply_out.specs.declared.terms.InPhases.{InPhases}
use Rattle.request_flow.specs.Terms.{terms_seen}
use Rattle.request_flow.specs.Pages.{GoesTo}
use Rattle.request_flow.specs.Reached.{IsReachedAt, Settles}
use Rattle.request_flow.specs.Rests.{act_rest, finished}
use Rattle.request_flow.proofs.Padding.{padded_none}
use Rattle.request_flow.proofs.Reaching.{goes_on}
use Rattle.request_flow.proofs.Turns.{act_settles}
use Rattle.request_flow.proofs.steps.admits.Goals as goal

pub returns-in-Ok-clause-goes : goal.returns-in-Ok-clause-goes
returns-in-Ok-clause-goes c = λ trees.
    let g = c.args.ground.now in
    let site = g.site.now in
    let patterns = c.args.space.now.patterns in
    let w = world_in patterns g shipped in
    let q = c.deref_mut-inside.result.now in
    let replied = c.args.replied in
    let tree = trees replied.of in
    let step = c.in-Ok.step in
    subst (λ b. GoesTo w patterns site trees b c.args.out.now c.go_on.new.out c.args.closing c.in_ok-go_on-in-Ok.field-0) (sym
    (ap (λ (q : InPhases). act_rest w tree (terms_seen q.terms) (phases_admitted w site q.phases replied.status replied.request) q.vars) (sym c.deref_mut-inside.ensures.value)
    ∙ act_settles w tree (terms_seen q.terms) (phases_admitted w site q.phases replied.status replied.request) (phases_left w patterns site [] c.admit.new.phases step) q.vars c.admit.new.vars (c.in-Ok.ensures.does [] shipped)))
    (c.in_ok-go_on-in-Ok.ensures.goes patterns trees)

pub returns-in-Ok-clause-reached : goal.returns-in-Ok-clause-reached
returns-in-Ok-clause-reached c = λ reached.
    let g = c.args.ground.now in
    let site = g.site.now in
    let patterns = c.args.space.now.patterns in
    let w = world_in patterns g shipped in
    let q = c.deref_mut-inside.result.now in
    let replied = c.args.replied in
    let step = c.in-Ok.step in
    let admitted = phases_admitted w site q.phases replied.status replied.request in
    c.in_ok-go_on-in-Ok.ensures.reached w patterns site
    (λ text.
    subst (λ b. Settles w (finished w (phases_left w patterns site b c.admit.new.phases step)) c.admit.new.vars) (sym (padded_none text))
    (goes_on w admitted (phases_left w patterns site [] c.admit.new.phases step) q.vars c.admit.new.vars
    (subst (λ (q : InPhases). IsReachedAt w (finished w (phases_admitted w site q.phases replied.status replied.request)) q.vars) (sym c.deref_mut-inside.ensures.value) reached)
    (c.in-Ok.ensures.does [] shipped)))
