use Rattle.std.proofs.Common.{true, sym, ◌∙◌, ap}
use Rattle.acts.specs.Act.{settled}
use Rattle.request_meaning.specs.Serving.{Asked}
use Rattle.request_phases.specs.Programs.{ran_in}
use Rattle.request_phases.specs.Rounds.{world_in, reached_in}
use Rattle.request_phases.proofs.Programs as programs
use Rattle.request_phases.proofs.locate.run_server.Goals as goal

pub returns-clause-does : goal.returns-clause-does
returns-clause-does c = λ bytes members a.
    let b : Asked = record a { main = c.args.main.now } in
    let w = world_in c.args.patterns.now c.args.ground.now members in
    let site = c.args.ground.now.site.now in
    let vars = c.args.vars.now in
    let at = c.args.at.now in
    programs.runs_by w b c.args.patterns.now site c.args.ground.now.server.now.level c.level.result.now.program (ap (λ l. l.program) c.level.ensures) vars c.run.new.vars at c.run.new.progress c.in_ok-step.step true
    (c.in_ok-step.ensures.does w)
    (ap (λ ps. settled (ran_in (world_in ps c.args.ground.now members) b ps site c.args.ground.now.server.now.level c.run.new.progress c.in_ok-step.step true) c.run.new.vars) (sym c.run.ensures.kept)
    ∙ (c.in_ok-after_server.ensures.does bytes members a
    ∙ ap (λ ps. (reached_in (world_in ps c.args.ground.now members) ps site b bytes c.after_server.new.at c.in_ok-after_server.field-0, c.after_server.new.vars)) c.run.ensures.kept))
