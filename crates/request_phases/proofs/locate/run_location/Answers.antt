use Rattle.std.proofs.Common.{false, ap}
use Rattle.request_meaning.specs.Serving.{Asked}
use Rattle.request_phases.specs.Rounds.{world_in}
use Rattle.request_phases.proofs.Programs as programs
use Rattle.request_phases.proofs.locate.run_location.Goals as goal

pub returns-clause-does : goal.returns-clause-does
returns-clause-does c = λ bytes members a.
    let b : Asked = record a { main = c.args.main.now } in
    let w = world_in c.args.patterns.now c.args.ground.now members in
    let site = c.args.ground.now.site.now in
    let vars = c.args.vars.now in
    let at = c.args.at.now in
    programs.runs_by w b c.args.patterns.now site c.args.level c.level.result.now.program (ap (λ l. l.program) c.level.ensures) vars c.run.new.vars at c.run.new.progress c.in_ok-step.step false
    (c.in_ok-step.ensures.does w)
    (c.in_ok-after_location.ensures c.args.patterns.now bytes members a)
