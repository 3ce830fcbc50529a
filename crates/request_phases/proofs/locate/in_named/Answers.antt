use Rattle.std.proofs.Common.{false, option_map, refl, sym, ◌∙◌, ap}
use Rattle.acts.specs.Act.{settled}
use Rattle.request_meaning.specs.Serving.{Asked}
use Rattle.location_search.specs.pattern_search.Found.{patterns_seen}
use Rattle.try_index.specs.site_whole.Whole.{level_whole}
use Rattle.request_phases.specs.Programs.{run_in}
use Rattle.request_phases.specs.Rounds.{world_in, reached_in}
use Rattle.request_phases.specs.declared.state.Decision.TheVariants.{Error}
use Rattle.request_phases.specs.declared.state.Reached.TheVariants.{Decides}
use Rattle.request_phases.proofs.Programs as programs
use Rattle.request_phases.proofs.locate.in_named.Goals as goal

pub returns-in_ok-enter-in-None-clause-does : goal.returns-in_ok-enter-in-None-clause-does
returns-in_ok-enter-in-None-clause-does c = λ bytes members a.
    let g = c.args.ground.now in
    let site = g.site.now in
    let ps = c.args.patterns.now in
    let w = world_in ps g members in
    let vars = c.args.vars.now in
    let at = c.args.at.now in
    let b : Asked = record a { main = c.args.main.now; request = at.request; inside = at.inside } in
    programs.named_nowhere w b ps site bytes g.server.now refl vars at c.args.name.now
    (ap (option_map (level_whole (patterns_seen ps) site)) (sym c.in-None.is) ∙ c.named.ensures g.server.now c.requires.located site (patterns_seen ps))
    ∙ ap (λ p. (reached_in w ps site b bytes p (Decides (Error 500)), vars)) (sym c.in_ok-enter-in-None.ensures)

pub returns-in_ok-run_location-in-Some-clause-does : goal.returns-in_ok-run_location-in-Some-clause-does
returns-in_ok-run_location-in-Some-clause-does c = λ bytes members a.
    let g = c.args.ground.now in
    let site = g.site.now in
    let ps = c.args.patterns.now in
    let w = world_in ps g members in
    let vars = c.args.vars.now in
    let at = c.args.at.now in
    let b : Asked = record a { main = c.args.main.now; request = at.request; inside = at.inside } in
    programs.named_there w b ps site bytes g.server.now refl vars at c.args.name.now c.in-Some.level
    (ap (option_map (level_whole (patterns_seen ps) site)) (sym c.in-Some.is) ∙ c.named.ensures g.server.now c.requires.located site (patterns_seen ps))
    (ap (λ p. settled (run_in w b ps site c.in-Some.level p false) vars) (sym c.in_ok-enter-in-Some.ensures)
    ∙ c.in_ok-run_location-in-Some.ensures.does bytes members b)
