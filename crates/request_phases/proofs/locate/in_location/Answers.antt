use Rattle.std.proofs.Common.{false, refl, sym, ◌∙◌, ap}
use Rattle.acts.specs.Act.{settled}
use Rattle.request_meaning.specs.Serving.{Asked}
use Rattle.request_phases.specs.Programs.{run_in}
use Rattle.request_phases.specs.Rounds.{world_in, reached_in}
use Rattle.request_phases.specs.declared.state.Decision.TheVariants.{Error}
use Rattle.request_phases.specs.declared.state.Reached.TheVariants.{Decides}
use Rattle.request_phases.proofs.Programs as programs
use Rattle.request_phases.proofs.locate.in_location.Goals as goal

pub returns-in-Some-clause-does : goal.returns-in-Some-clause-does
returns-in-Some-clause-does c = λ bytes members a.
    let b : Asked = record a { main = c.args.main.now } in
    let w = world_in c.args.patterns.now c.args.ground.now members in
    let site = c.args.ground.now.site.now in
    let vars = c.args.vars.now in
    let at = c.args.at.now in
    programs.location_refuses w b c.args.patterns.now site bytes vars c.args.number at c.in-Some.code (sym c.in-Some.is ∙ programs.refused_by w site c.args.number at c.enter.new.at c.level.result.now c.args.ground.now.length c.refusal.result c.level.ensures c.in_ok-enter.ensures refl c.refusal.ensures)
    ∙ ap (λ p. (reached_in w c.args.patterns.now site b bytes p (Decides (Error c.in-Some.code)), vars)) (sym c.in_ok-enter.ensures)

pub returns-clause-does : goal.returns-clause-does
returns-clause-does c = λ bytes members a.
    let b : Asked = record a { main = c.args.main.now } in
    let w = world_in c.args.patterns.now c.args.ground.now members in
    let site = c.args.ground.now.site.now in
    let vars = c.args.vars.now in
    let at = c.args.at.now in
    programs.location_admits w b c.args.patterns.now site bytes vars c.args.number at (sym c.in_default.is ∙ programs.refused_by w site c.args.number at c.enter.new.at c.level.result.now c.args.ground.now.length c.refusal.result c.level.ensures c.in_ok-enter.ensures refl c.refusal.ensures)
    (ap (λ p. settled (run_in w b c.args.patterns.now site c.args.number p false) vars) (sym c.in_ok-enter.ensures)
    ∙ c.in_ok-run_location.ensures.does bytes members a)
