use Rattle.std.proofs.Common.{◌+◌, ◌≤◌, List, Some, length, subst}
use Rattle.ngx_pattern.specs.Pattern.{Pattern as SetPattern}
use Rattle.request_flow.specs.race_meaning.Named.{IsRaceless}
use Rattle.request_meaning.specs.Laws.{shipped}
use Rattle.request_flow.specs.request_phases.Rounds.{world_in}
use Rattle.request_flow.specs.Flows.{flow_left, flow_rest, stage_opened}
use Rattle.request_flow.specs.Pages.{AreOpened, GoesTo}
use Rattle.request_flow.specs.Reached.{WentReached}
use Rattle.response_flow.specs.Continues.{IfOn, RunsOn}
use Rattle.response_flow.specs.Flights.{FlightReached, with_opened}
use Rattle.response_flow.proofs.Wents as wents
use Rattle.response_flow.proofs.run.run_alone.Goals as goal

pub went_on-requires-clause-pages : goal.went_on-requires-clause-pages
went_on-requires-clause-pages c = wents.both_page c.in_ok-went.went _ _ c.in_ok-went.ensures.put c.in_ok-went.ensures.told

pub went_on-requires-clause-asks : goal.went_on-requires-clause-asks
went_on-requires-clause-asks c = wents.first_of_asks c.in_ok-went.went _ _ c.in_ok-went.ensures.spends

pub went_on-requires-clause-few : goal.went_on-requires-clause-few
went_on-requires-clause-few c = (stage_opened c.args.flow.value.stage, c.in_ok-went.ensures.opened, c.requires.fits.1)

pub returns-clause-runs : goal.returns-clause-runs
returns-clause-runs c = λ trees raceless reached.
    let g = c.args.ground.now in
    let site = g.site.now in
    let patterns = c.args.space.now.patterns in
    let went = c.in_ok-went.went in
    let ran = c.in_ok-went.ensures in
    let out = c.args.out.now in
    let closing = c.args.closing in
    let before = flow_rest (world_in patterns g shipped) patterns site (Some c.args.flow) trees in
    let count = stage_opened c.args.flow.value.stage in
    subst (λ (ps : List SetPattern). IsRaceless (world_in ps g shipped).server → WentReached (world_in ps g shipped) ps site went → AreOpened count went → count ≤ 255
    → GoesTo (world_in ps g shipped) ps site trees before out c.run_on.new.out closing went
    → RunsOn (world_in ps g shipped) ps site trees (with_opened count before) out c.went_on.new.out closing c.in_ok-went_on.field-0) ran.kept
    (c.in_ok-went_on.ensures.runs trees before out closing count)
    raceless (ran.reached reached) ran.opened c.requires.fits.1 (ran.goes trees)

pub returns-clause-reached : goal.returns-clause-reached
returns-clause-reached c = λ reached.
    let g = c.args.ground.now in
    let site = g.site.now in
    subst (λ (ps : List SetPattern). WentReached (world_in ps g shipped) ps site c.in_ok-went.went → IfOn c.in_ok-went_on.field-0 (λ o. FlightReached (world_in ps g shipped) ps site o.flight)) c.in_ok-went.ensures.kept
    c.in_ok-went_on.ensures.reached (c.in_ok-went.ensures.reached reached)

pub returns-clause-lowers : goal.returns-clause-lowers
returns-clause-lowers c =
    let size = length c.args.out.now in
    c.in_ok-went_on.ensures.lowers (size + flow_left (Some c.args.flow) size) c.in_ok-went.ensures.lowers (wents.second_of_asks c.in_ok-went.went _ _ c.in_ok-went.ensures.spends)

pub returns-clause-by : goal.returns-clause-by
returns-clause-by c = c.in_ok-went_on.ensures.by _ _ c.in_ok-went.ensures.by

pub returns-clause-asked : goal.returns-clause-asked
returns-clause-asked c = wents.tree_below c.in_ok-went_on.field-0 _ _ c.in_ok-went.ensures.asked c.in_ok-went_on.ensures.asked

pub returns-clause-closes : goal.returns-clause-closes
returns-clause-closes c = λ h. c.in_ok-went_on.ensures.closes (c.in_ok-went.ensures.closes h)
