use Rattle.std.proofs.Common.{true, refl, sym, ◌∙◌, ap}
use Rattle.acts.specs.Act.{settled}
use Rattle.request_meaning.specs.Serving.{Asked}
use Rattle.rewrite_code.specs.Places.{standing_seen}
use Rattle.request_phases.specs.Programs.{run_in}
use Rattle.request_phases.specs.Rounds.{world_in, from_seen}
use Rattle.request_phases.proofs.Programs as programs
use Rattle.request_meaning.specs.Phases.{phases_from, find_config}
use Rattle.request_phases.proofs.locate.round.Goals as goal

pub returns-in_ok-run_server-in-Start-clause-does : goal.returns-in_ok-run_server-in-Start-clause-does
returns-in_ok-run_server-in-Start-clause-does c = λ bytes members a.
    let g = c.args.ground.now in
    let site = g.site.now in
    let ps = c.args.patterns.now in
    let w = world_in ps g members in
    let vars = c.args.vars.now in
    let at = c.args.at.now in
    let b : Asked = record a { main = c.args.main.now; request = at.request; inside = at.inside } in
    ap (λ from. settled (phases_from w b (from_seen site at from)) vars) c.in-Start.is
    ∙ programs.begins w b ps site bytes g.server.now refl vars at
    (ap (λ p. settled (run_in w b ps site g.server.now.level p true) vars) (sym c.in_ok-enter-in-Start.ensures)
    ∙ c.in_ok-run_server-in-Start.ensures.does bytes members b)

pub returns-then-is_bare-clause-does : goal.returns-then-is_bare-clause-does
returns-then-is_bare-clause-does c = λ bytes members a.
    let g = c.args.ground.now in
    let site = g.site.now in
    let ps = c.args.patterns.now in
    let w = world_in ps g members in
    let vars = c.args.vars.now in
    let at = c.args.at.now in
    let b : Asked = record a { main = c.args.main.now; request = at.request; inside = at.inside } in
    ap (λ from. settled (phases_from w b (from_seen site at from)) vars) c.in-Start.is
    ∙ programs.begins_bare w b ps site bytes g.server.now refl vars at (sym (ap (λ l. l.program) c.level.ensures) ∙ c.is_bare.ensures c.if-is_bare.true)
    (c.in_ok-find_config-in-Start.ensures.does bytes members b)

pub returns-in_ok-find_config-in-Find-clause-does : goal.returns-in_ok-find_config-in-Find-clause-does
returns-in_ok-find_config-in-Find-clause-does c = λ bytes members a.
    let g = c.args.ground.now in
    let site = g.site.now in
    let ps = c.args.patterns.now in
    let w = world_in ps g members in
    let vars = c.args.vars.now in
    let at = c.args.at.now in
    let b : Asked = record a { main = c.args.main.now; request = at.request; inside = at.inside } in
    ap (λ from. settled (phases_from w b (from_seen site at from)) vars) c.in-Find.is
    ∙ programs.seeks_again w b ps site bytes g.server.now refl vars at
    (ap (λ p. settled (find_config w b (standing_seen site p)) vars) (sym c.in_ok-enter-in-Find.ensures)
    ∙ c.in_ok-find_config-in-Find.ensures.does bytes members b)
