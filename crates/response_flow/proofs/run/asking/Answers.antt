use Rattle.std.proofs.Common.{◌∙◌}
use Rattle.response_flow.proofs.Goes as goes
use Rattle.response_flow.proofs.run.asking.Goals as goal

pub returns-clause-goes : goal.returns-clause-goes
returns-clause-goes c = λ patterns trees before from out first follows.
    goes.asked_one c.args.ground.now.site.now before _ _ c.args.start.request.value.opened c.in_ok-flow.flow.value.request.value.opened from out first c.args.start.closing
    (c.in_ok-flow.ensures.goes patterns trees) c.in_ok-flow.ensures.opened follows

pub returns-clause-reached : goal.returns-clause-reached
returns-clause-reached c = λ patterns reached. c.in_ok-flow.ensures.reached patterns reached

pub returns-clause-asked : goal.returns-clause-asked
returns-clause-asked c =
    let asked = c.in_ok-flow.ensures.asked in
    asked.1.1 ∙ asked.0
