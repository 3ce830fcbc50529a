use Rattle.std.proofs.Common.{refl}
use Rattle.request_phases.specs.Rounds.{world_in, asked_in}
use Rattle.request_phases.proofs.Ahead as ahead
use Rattle.request_phases.proofs.admission.admit.Goals as goal

pub returns-clause-does : goal.returns-clause-does
returns-clause-does c = λ bytes members.
    let g = c.args.ground.now in
    let ps = c.args.patterns.now in
    let p = c.args.phases.now in
    ahead.admitted_so (world_in ps g members) ps g.site.now bytes p c.args.status c.args.request.now (record p { at = c.heard.new.at }) c.in_ok-reached.reached c.args.vars.now c.heard.new.vars refl
    (c.in_ok-reached.ensures ps bytes members (asked_in p))
    (c.in_ok-settle.ensures.does bytes members)
