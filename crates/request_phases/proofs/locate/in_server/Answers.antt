use Rattle.std.proofs.Common.{refl, sym, ◌∙◌, ap}
use Rattle.acts.specs.Act.{settled}
use Rattle.request_meaning.specs.Serving.{Asked}
use Rattle.rewrite_code.specs.Places.{standing_seen}
use Rattle.request_phases.specs.Rounds.{world_in, reached_in}
use Rattle.request_phases.specs.declared.state.Decision.TheVariants.{Error}
use Rattle.request_phases.specs.declared.state.Reached.TheVariants.{Decides}
use Rattle.request_phases.proofs.Programs as programs
use Rattle.request_meaning.specs.Phases.{access}
use Rattle.request_phases.proofs.locate.in_server.Goals as goal

pub returns-in-Some : goal.returns-in-Some
returns-in-Some c = λ patterns bytes members a.
    let b : Asked = record a { main = c.args.main.now } in
    let w = world_in patterns c.args.ground.now members in
    let site = c.args.ground.now.site.now in
    let vars = c.args.vars.now in
    let at = c.args.at.now in
    programs.server_refuses w b patterns site bytes c.args.ground.now.server.now refl vars at c.in-Some.code (sym c.in-Some.is ∙ programs.refused_by w site c.args.ground.now.server.now.level at c.enter.new.at c.level.result.now c.args.ground.now.length c.refusal.result c.level.ensures c.in_ok-enter.ensures refl c.refusal.ensures)
    ∙ ap (λ p. (reached_in w patterns site b bytes p (Decides (Error c.in-Some.code)), vars)) (sym c.in_ok-enter.ensures)

pub returns : goal.returns
returns c = λ patterns bytes members a.
    let b : Asked = record a { main = c.args.main.now } in
    let w = world_in patterns c.args.ground.now members in
    let site = c.args.ground.now.site.now in
    let vars = c.args.vars.now in
    let at = c.args.at.now in
    programs.server_admits w b patterns site bytes c.args.ground.now.server.now refl vars at (sym c.in_default.is ∙ programs.refused_by w site c.args.ground.now.server.now.level at c.enter.new.at c.level.result.now c.args.ground.now.length c.refusal.result c.level.ensures c.in_ok-enter.ensures refl c.refusal.ensures)
    (ap (λ p. settled (access b (standing_seen site p)) vars) (sym c.in_ok-enter.ensures)
    ∙ c.in_ok-access.ensures patterns bytes members a)
