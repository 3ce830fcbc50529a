use Rattle.std.proofs.Common.{false, ◌∙◌, ap}
use Rattle.acts.specs.Act.{settled}
use Rattle.request_meaning.specs.Serving.{Asked}
use Rattle.request_phases.specs.Programs.{ran_in}
use Rattle.request_phases.specs.Rounds.{world_in}
use Rattle.request_phases.proofs.Programs as programs
use Rattle.request_phases.proofs.locate.after_location.Goals as goal

pub returns-in-Test : goal.returns-in-Test
returns-in-Test c = λ patterns bytes members a.
    let b : Asked = record a { main = c.args.main.now } in
    let w = world_in patterns c.args.ground.now members in
    let site = c.args.ground.now.site.now in
    let vars = c.args.vars.now in
    let at = c.args.at.now in
    ap (λ step. settled (ran_in w b patterns site c.args.ran.level at step false) vars) c.in-Test.is ∙ programs.ran_asks w b patterns site c.args.ran.level bytes vars at c.in-Test.path c.in-Test.place false

pub returns-in-Some : goal.returns-in-Some
returns-in-Some c = λ patterns bytes members a.
    let b : Asked = record a { main = c.args.main.now } in
    let w = world_in patterns c.args.ground.now members in
    let site = c.args.ground.now.site.now in
    let vars = c.args.vars.now in
    let at = c.args.at.now in
    ap (λ step. settled (ran_in w b patterns site c.args.ran.level at step false) vars) c.in-Ended.is ∙ programs.ran_decides w b patterns site c.args.ran.level bytes vars at c.in-Ended.ending false c.in-Some.decision c.in-Some.ensures

pub returns-then-at : goal.returns-then-at
returns-then-at c = λ patterns bytes members a.
    let b : Asked = record a { main = c.args.main.now } in
    let w = world_in patterns c.args.ground.now members in
    let site = c.args.ground.now.site.now in
    let vars = c.args.vars.now in
    let at = c.args.at.now in
    ap (λ step. settled (ran_in w b patterns site c.args.ran.level at step false) vars) c.in-Ended.is ∙ programs.ran_seeks w b patterns site c.args.ran.level bytes vars at c.in-Ended.ending c.in-None.ensures c.if-at.true

pub returns-in_ok-access-in-None : goal.returns-in_ok-access-in-None
returns-in_ok-access-in-None c = λ patterns bytes members a.
    let b : Asked = record a { main = c.args.main.now } in
    let w = world_in patterns c.args.ground.now members in
    let site = c.args.ground.now.site.now in
    let vars = c.args.vars.now in
    let at = c.args.at.now in
    ap (λ step. settled (ran_in w b patterns site c.args.ran.level at step false) vars) c.in-Ended.is ∙ programs.ran_enters w b patterns site c.args.ran.level vars at c.in-Ended.ending c.in-None.ensures c.if-at.false
    (c.in_ok-access-in-None.ensures patterns bytes members a)
