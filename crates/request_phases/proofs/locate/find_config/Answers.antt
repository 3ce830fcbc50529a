use Rattle.std.proofs.Common.{◌≡◌, Some, option_map, sym, ◌∙◌, ap, subst}
use Rattle.acts.specs.Act.{settled}
use Rattle.request_meaning.specs.Serving.{Asked}
use Rattle.location_search.specs.pattern_search.Found.{patterns_seen, found}
use Rattle.try_index.specs.site_whole.Whole.{server_whole}
use Rattle.location_search.specs.Found.{found_seen}
use Rattle.request_phases.specs.Programs.{entered_at}
use Rattle.request_phases.specs.Rounds.{world_in, reached_in}
use Rattle.request_phases.proofs.Programs as programs
use Rattle.request_meaning.specs.site_views.Search.{search}
use Rattle.request_phases.proofs.locate.find_config.Goals as goal

pub returns-in_ok-in_server-in-None-clause-does : goal.returns-in_ok-in_server-in-None-clause-does
returns-in_ok-in_server-in-None-clause-does c = λ bytes members a.
    let g = c.args.ground.now in
    let site = g.site.now in
    let ps = c.args.patterns.now in
    let w = world_in ps g members in
    let vars = c.args.vars.now in
    let at = c.args.at.now in
    let b : Asked = record a { main = c.args.main.now } in
    let seen = found_seen (patterns_seen ps) site c.as_slice-path.result.now c.find.new.spans in
    let found_there = c.find.ensures.found g.server.now c.requires.located site ∙ ap (search found (server_whole (patterns_seen ps) site g.server.now).locations) c.as_slice-path.ensures in
    programs.finds_none ps g members b vars at (ap (option_map seen) (sym c.in-None.is) ∙ found_there)
    (c.in_ok-in_server-in-None.ensures ps bytes members a)

pub returns-in_ok-in_location-in-Some-clause-does : goal.returns-in_ok-in_location-in-Some-clause-does
returns-in_ok-in_location-in-Some-clause-does c = λ bytes members a.
    let g = c.args.ground.now in
    let site = g.site.now in
    let ps = c.args.patterns.now in
    let w = world_in ps g members in
    let vars = c.args.vars.now in
    let at = c.args.at.now in
    let b : Asked = record a { main = c.args.main.now } in
    let seen = found_seen (patterns_seen ps) site c.as_slice-path.result.now c.find.new.spans in
    let found_there = c.find.ensures.found g.server.now c.requires.located site ∙ ap (search found (server_whole (patterns_seen ps) site g.server.now).locations) c.as_slice-path.ensures in
    let f = c.in-Some.found in
    programs.finds_some ps g members b vars at f c.find.new.spans
    (ap (λ path. Some (found_seen (patterns_seen ps) site path c.find.new.spans f)) (sym c.as_slice-path.ensures) ∙ (ap (option_map seen) (sym c.in-Some.is) ∙ found_there))
    (ap (λ p. settled (entered_at w b ps site f.level p) vars) (sym c.in_ok-take_groups-in-Some.ensures)
    ∙ subst (λ qs. settled (entered_at (world_in qs g members) b qs site f.level c.take_groups.new.at) vars ≡ (reached_in (world_in qs g members) qs site b bytes c.in_location.new.at c.in_ok-in_location-in-Some.field-0, c.in_location.new.vars)) c.find.ensures.kept
    (c.in_ok-in_location-in-Some.ensures.does bytes members a))
