use Rattle.std.proofs.Common.{true, ◌∙◌, ap}
use Rattle.acts.specs.Act.{settled}
use Rattle.request_meaning.specs.Serving.{Asked}
use Rattle.request_phases.specs.Programs.{ran_in}
use Rattle.request_phases.specs.Rounds.{world_in}
use Rattle.request_phases.proofs.Programs as programs
use Rattle.request_phases.proofs.locate.after_server.Goals as goal

pub returns-in-Test-clause-does : goal.returns-in-Test-clause-does
returns-in-Test-clause-does c = λ bytes members a.
    let b : Asked = record a { main = c.args.main.now } in
    let w = world_in c.args.patterns.now c.args.ground.now members in
    let site = c.args.ground.now.site.now in
    let vars = c.args.vars.now in
    let at = c.args.at.now in
    ap (λ step. settled (ran_in w b c.args.patterns.now site c.args.ran.level at step true) vars) c.in-Test.is ∙ programs.ran_asks w b c.args.patterns.now site c.args.ran.level bytes vars at c.in-Test.path c.in-Test.place true

pub returns-in-Some-clause-does : goal.returns-in-Some-clause-does
returns-in-Some-clause-does c = λ bytes members a.
    let b : Asked = record a { main = c.args.main.now } in
    let w = world_in c.args.patterns.now c.args.ground.now members in
    let site = c.args.ground.now.site.now in
    let vars = c.args.vars.now in
    let at = c.args.at.now in
    ap (λ step. settled (ran_in w b c.args.patterns.now site c.args.ran.level at step true) vars) c.in-Ended.is ∙ programs.ran_decides w b c.args.patterns.now site c.args.ran.level bytes vars at c.in-Ended.ending true c.in-Some.decision c.in-Some.ensures

pub returns-in_ok-find_config-in-None-clause-does : goal.returns-in_ok-find_config-in-None-clause-does
returns-in_ok-find_config-in-None-clause-does c = λ bytes members a.
    let b : Asked = record a { main = c.args.main.now } in
    let w = world_in c.args.patterns.now c.args.ground.now members in
    let site = c.args.ground.now.site.now in
    let vars = c.args.vars.now in
    let at = c.args.at.now in
    ap (λ step. settled (ran_in w b c.args.patterns.now site c.args.ran.level at step true) vars) c.in-Ended.is ∙ programs.ran_finds w b c.args.patterns.now site c.args.ran.level vars at c.in-Ended.ending c.in-None.ensures
    (c.in_ok-find_config-in-None.ensures.does bytes members a)
