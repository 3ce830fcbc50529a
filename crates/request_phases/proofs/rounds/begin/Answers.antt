use Rattle.std.proofs.Common.{◌≡◌, ◌∙◌, subst}
use Rattle.acts.specs.Act.{settled}
use Rattle.request_meaning.specs.Serving.From.{Start}
use Rattle.request_phases.specs.Rounds.{world_in, asked_from, phases_left}
use Rattle.request_phases.proofs.Ahead as ahead
use Rattle.request_phases.proofs.rounds.begin.Goals as goal

pub returns-clause-does : goal.returns-clause-does
returns-clause-does c = λ bytes members.
    let g = c.args.ground.now in
    let site = g.site.now in
    let ps = c.args.patterns.now in
    let w = world_in ps g members in
    let p = c.args.phases.now in
    let vars = c.args.vars.now in
    let next = record p { at = c.round.new.at; role = p.at.request.role } in
    ahead.again_so w ps site bytes p.changes p Start c.round.new.at c.in_ok-reached.reached vars c.round.new.vars
    (c.in_ok-reached.ensures.does bytes members (asked_from p Start))
    ∙ subst (λ qs. settled (ahead.ahead (world_in qs g members) qs site bytes next c.in_ok-reached.reached) c.round.new.vars ≡ (phases_left (world_in qs g members) qs site bytes c.settle.new.phases c.in_ok-settle.field-0, c.settle.new.vars)) c.round.ensures.kept
    (c.in_ok-settle.ensures.does bytes members)
