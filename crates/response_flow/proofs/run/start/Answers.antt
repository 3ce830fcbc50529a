use Rattle.std.proofs.Common.{◌≤◌, false, List, subst, arith}
use Rattle.ngx_pattern.specs.Pattern.{Pattern as SetPattern}
use Rattle.request_flow.specs.answers_meaning.Asking.{request_of}
use Rattle.pattern_search.specs.Found.{patterns_seen}
use Rattle.site_whole.specs.Whole.{server_whole}
use Rattle.request_flow.specs.race_meaning.Named.{IsRaceless}
use Rattle.request_meaning.specs.Laws.{shipped}
use Rattle.request_flow.specs.request_phases.Rounds.{world_in}
use Rattle.request_flow.specs.request_opening.Openings.{main_at}
use Rattle.request_flow.specs.Flows.{asking_most}
use Rattle.request_flow.specs.Terms.{terms_at}
use Rattle.request_flow.specs.Pages.{AreOpened, GoesTo}
use Rattle.request_flow.specs.Reached.{WentReached}
use Rattle.request_flow.specs.Rests.{opened_rest}
use Rattle.response_flow.specs.Continues.{IfOn, RunsOn}
use Rattle.response_flow.specs.Flights.{FlightReached, with_opened}
use Rattle.response_flow.proofs.Goes as goes
use Rattle.response_flow.proofs.Wents as wents
use Rattle.response_flow.proofs.run.start.Goals as goal

none_few : 0 ≤ 255
none_few = omega arith

pub went_on-requires-clause-pages : goal.went_on-requires-clause-pages
went_on-requires-clause-pages c = wents.both_page c.in_ok-went.went _ _ c.in_ok-went.ensures.put c.in_ok-went.ensures.told

pub went_on-requires-clause-asks : goal.went_on-requires-clause-asks
went_on-requires-clause-asks c = wents.first_of_asks c.in_ok-went.went _ _ c.in_ok-went.ensures.spends

pub went_on-requires-clause-few : goal.went_on-requires-clause-few
went_on-requires-clause-few c = (0, c.in_ok-went.ensures.opened, none_few)

pub returns-clause-runs : goal.returns-clause-runs
returns-clause-runs c = λ trees raceless.
    let g = c.args.ground.now in
    let site = g.site.now in
    let patterns = c.args.space.now.patterns in
    let w = world_in patterns g shipped in
    let opening = c.args.opening in
    let before = opened_rest w (trees opening.tree) (terms_at opening) (main_at g opening) (request_of (server_whole (patterns_seen patterns) site g.server.now) opening.head) in
    let went = c.in_ok-went.went in
    let ran = c.in_ok-went.ensures in
    let out = c.args.out.now in
    subst (λ r. RunsOn w patterns site trees r out c.went_on.new.out false c.in_ok-went_on.field-0) (goes.none_opened before)
    (subst (λ (ps : List SetPattern). IsRaceless (world_in ps g shipped).server → WentReached (world_in ps g shipped) ps site went → AreOpened 0 went → 0 ≤ 255
    → GoesTo (world_in ps g shipped) ps site trees before out c.start.new.out false went
    → RunsOn (world_in ps g shipped) ps site trees (with_opened 0 before) out c.went_on.new.out false c.in_ok-went_on.field-0) ran.kept
    (c.in_ok-went_on.ensures.runs trees before out false 0)
    raceless ran.reached ran.opened none_few (ran.goes trees))

pub returns-clause-reached : goal.returns-clause-reached
returns-clause-reached c =
    let g = c.args.ground.now in
    let site = g.site.now in
    subst (λ (ps : List SetPattern). WentReached (world_in ps g shipped) ps site c.in_ok-went.went → IfOn c.in_ok-went_on.field-0 (λ o. FlightReached (world_in ps g shipped) ps site o.flight)) c.in_ok-went.ensures.kept
    c.in_ok-went_on.ensures.reached c.in_ok-went.ensures.reached

pub returns-clause-lowers : goal.returns-clause-lowers
returns-clause-lowers c = c.in_ok-went_on.ensures.lowers asking_most c.in_ok-went.ensures.lowers (wents.asks_few c.in_ok-went.went _ c.in_ok-went.ensures.spends)

pub returns-clause-by : goal.returns-clause-by
returns-clause-by c = c.in_ok-went_on.ensures.by _ _ c.in_ok-went.ensures.by

pub returns-clause-asked : goal.returns-clause-asked
returns-clause-asked c = wents.tree_below c.in_ok-went_on.field-0 _ _ c.in_ok-went.ensures.asked c.in_ok-went_on.ensures.asked
