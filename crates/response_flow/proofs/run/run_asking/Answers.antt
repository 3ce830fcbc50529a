use Rattle.std.proofs.Common.{◌≡◌, ℕ, ◌+◌, ◌*◌, ◌<◌, ◌≤◌, true, List, [], None, length, refl, sym, ap, ◌∙◌, subst, arith}
use Rattle.std.specs.Prelude.{is_some, not}
use Rattle.file_tree.specs.Tree.{Nothing, Trees}
use Rattle.ngx_pattern.specs.Pattern.{Pattern as SetPattern}
use Rattle.request_flow.specs.race_meaning.Named.{IsRaceless}
use Rattle.request_meaning.specs.Laws.{shipped}
use Rattle.request_flow.specs.request_phases.Rounds.{world_in}
use Rattle.request_flow.specs.Flows.{flow_fits, flow_left, flow_most}
use Rattle.request_flow.specs.Pages.{AreOpened, GoesTo, IfAsks, IfOn as IfGoes, IfPage, IsServed, IsTold, closing_of, tree_of_went}
use Rattle.request_flow.specs.Reached.{WentReached}
use Rattle.request_flow.specs.declared.page.Went.{Went}
use Rattle.access_flow.specs.Flows.{IfRests, IfWent, IsOfTree, IsSameRequest, RunsTo, access_left, steps_left}
use Rattle.access_flow.specs.Reached.{RanReached}
use Rattle.access_flow.specs.declared.flow.AccessFlow.{AccessFlow}
use Rattle.access_flow.specs.declared.run.Ran.{Ran as AccessRan}
use Rattle.access_flow.specs.declared.run.Ran.TheVariants.{Went as went_as}
use Rattle.response_flow.specs.Continues.{IfOn, RunsOn}
use Rattle.response_flow.specs.Flights.{FlightFits, FlightReached, FlightServedBy, TailFits, flight_left, flight_tree, page_most, with_opened}
use Rattle.response_flow.specs.declared.flight.Onward.{Onward}
use Rattle.response_flow.specs.declared.flight.Ran.TheVariants.{On}
use Rattle.response_flow.proofs.Goes as goes
use Rattle.response_flow.proofs.Wents as wents
use Rattle.response_flow.proofs.run.run_asking.Goals as goal

no_files : Trees
no_files of path = Nothing

pub run_on-requires-clause-unsent : goal.run_on-requires-clause-unsent
run_on-requires-clause-unsent c = goes.no_bytes c.args.out.now c.requires.fits.0

-- ---- the subrequest goes on

pub returns-in-Rests-clause-runs : goal.returns-in-Rests-clause-runs
returns-in-Rests-clause-runs c = λ trees raceless reached.
    let site = c.args.ground.now.site.now in
    let patterns = c.args.space.now.patterns in
    let w = world_in patterns c.args.ground.now shipped in
    let old = c.args.flow.value in
    let f = c.in-Rests.flow in
    let out = c.args.out.now in
    let put = c.run_on.new.out in
    let closing = c.args.closing in
    let to = subst (RunsTo w patterns site trees (access_left w patterns site trees old) out put closing) c.in-Rests.is (c.in_ok-ran.ensures.goes trees) in
    let rests = subst (λ x. IfRests x (λ f. IsSameRequest old f.value × IsOfTree f.value × (steps_left f.value < steps_left old))) c.in-Rests.is c.in_ok-ran.ensures.rests in
    subst (λ (o : Onward). RunsOn w patterns site trees (with_opened old.request.value.opened (access_left w patterns site trees old)) out put closing (On o)) (sym c.still_asking.ensures)
    (goes.still_asked w patterns site trees old f.value out put closing to.0 rests.0.opened to.1)

pub returns-in-Rests-clause-reached : goal.returns-in-Rests-clause-reached
returns-in-Rests-clause-reached c = λ reached.
    let site = c.args.ground.now.site.now in
    let patterns = c.args.space.now.patterns in
    let w = world_in patterns c.args.ground.now shipped in
    subst (λ (o : Onward). FlightReached w patterns site o.flight) (sym c.still_asking.ensures) (subst (RanReached w patterns site) c.in-Rests.is (c.in_ok-ran.ensures.reached reached))

pub returns-in-Rests-clause-over : goal.returns-in-Rests-clause-over
returns-in-Rests-clause-over c = subst (λ (o : Onward). is_some o.log ≡ not (is_some o.flight)) (sym c.still_asking.ensures) refl

pub returns-in-Rests-clause-fits : goal.returns-in-Rests-clause-fits
returns-in-Rests-clause-fits c =
    let site = c.args.ground.now.site.now in
    let patterns = c.args.space.now.patterns in
    let w = world_in patterns c.args.ground.now shipped in
    let old = c.args.flow.value in
    let out = c.args.out.now in
    let put = c.run_on.new.out in
    let to = subst (RunsTo w patterns site no_files (access_left w patterns site no_files old) out put c.args.closing) c.in-Rests.is (c.in_ok-ran.ensures.goes no_files) in
    let rests = subst (λ x. IfRests x (λ f. IsSameRequest old f.value × IsOfTree f.value × (steps_left f.value < steps_left old))) c.in-Rests.is c.in_ok-ran.ensures.rests in
    let same = rests.0.opened in
    let few = c.requires.fits.2 in
    subst (λ (o : Onward). FlightFits o.flight (length put)) (sym c.still_asking.ensures) (ap length to.1 ∙ c.requires.fits.0, rests.1, omega (arith, same, few))

pub returns-in-Rests-clause-lowers : goal.returns-in-Rests-clause-lowers
returns-in-Rests-clause-lowers c =
    let site = c.args.ground.now.site.now in
    let patterns = c.args.space.now.patterns in
    let w = world_in patterns c.args.ground.now shipped in
    let old = c.args.flow.value in
    let out = c.args.out.now in
    let put = c.run_on.new.out in
    let to = subst (RunsTo w patterns site no_files (access_left w patterns site no_files old) out put c.args.closing) c.in-Rests.is (c.in_ok-ran.ensures.goes no_files) in
    let size = ap length to.1 in
    let falls = (subst (λ x. IfRests x (λ f. IsSameRequest old f.value × IsOfTree f.value × (steps_left f.value < steps_left old))) c.in-Rests.is c.in_ok-ran.ensures.rests).2 in
    subst (λ (o : Onward). length put + flight_left o.flight (length put) < page_most + (length out + steps_left old)) (sym c.still_asking.ensures)
    (lower (length put) (length out) (steps_left c.in-Rests.flow.value) (steps_left old) page_most size falls)
  where
    lower : (put out now old more : ℕ) → put ≡ out → now < old → put + (more + now) < more + (out + old)
    lower put out now old more e h = omega (arith, e, h)

pub returns-in-Rests-clause-by : goal.returns-in-Rests-clause-by
returns-in-Rests-clause-by c =
    let old = c.args.flow.value in
    let same = (subst (λ x. IfRests x (λ f. IsSameRequest old f.value × IsOfTree f.value × (steps_left f.value < steps_left old))) c.in-Rests.is c.in_ok-ran.ensures.rests).0 in
    subst (λ (o : Onward). FlightServedBy old.request.value.server old.request.value.length o.flight) (sym c.still_asking.ensures) (same.server, same.length)

pub returns-in-Rests-clause-asked : goal.returns-in-Rests-clause-asked
returns-in-Rests-clause-asked c =
    let old = c.args.flow.value in
    let rests = subst (λ x. IfRests x (λ f. IsSameRequest old f.value × IsOfTree f.value × (steps_left f.value < steps_left old))) c.in-Rests.is c.in_ok-ran.ensures.rests in
    let own = rests.1.1 in
    let tree = rests.0.tree in
    subst (λ (o : Onward). flight_tree o.flight ≤ old.of) (sym c.still_asking.ensures) (omega (arith, own, tree))

pub returns-in-Rests-clause-closes : goal.returns-in-Rests-clause-closes
returns-in-Rests-clause-closes c = λ h. ap (λ (o : Onward). o.closing) c.still_asking.ensures ∙ h

pub returns-in-Rests-clause-tail : goal.returns-in-Rests-clause-tail
returns-in-Rests-clause-tail c = subst (λ (o : Onward). TailFits None o.flight o.tail c.run_on.new.out) (sym c.still_asking.ensures) refl

-- ---- it has replied, and the main request goes on

pub went_on-requires-clause-pages : goal.went_on-requires-clause-pages
went_on-requires-clause-pages c =
    let out = c.run_on.new.out in
    wents.both_page c.in-Went.went _ _ (subst (λ x. IfWent x (λ went. IfPage went (λ p. out ≡ []))) c.in-Went.is c.in_ok-ran.ensures.put)
    (subst (λ x. IfWent x (λ went. IfPage went (λ p. IsTold p.page))) c.in-Went.is c.in_ok-ran.ensures.told)

spends : (old : AccessFlow) (out : List ℕ) (ran : AccessRan) (went : Went) → ran ≡ went_as went →
    IfWent ran (λ went. IfAsks went (λ a. (out ≡ []) × (flow_most + 2 * a.request.value.questions + 2 < steps_left old))) →
    IfAsks went (λ a. (out ≡ []) × (flow_most + 2 * a.request.value.questions + 2 < steps_left old))
spends old out ran went is h = subst (λ x. IfWent x (λ went. IfAsks went (λ a. (out ≡ []) × (flow_most + 2 * a.request.value.questions + 2 < steps_left old)))) is h

pub went_on-requires-clause-asks : goal.went_on-requires-clause-asks
went_on-requires-clause-asks c = wents.first_of_asks c.in-Went.went _ _ (spends c.args.flow.value c.run_on.new.out c.in_ok-ran.ran c.in-Went.went c.in-Went.is c.in_ok-ran.ensures.spends)

pub went_on-requires-clause-over : goal.went_on-requires-clause-over
went_on-requires-clause-over c = subst (λ x. IfWent x (λ went. IfGoes went (λ o. is_some o.log ≡ not (is_some o.flow)))) c.in-Went.is c.in_ok-ran.ensures.over

pub went_on-requires-clause-fits : goal.went_on-requires-clause-fits
went_on-requires-clause-fits c = subst (λ x. IfWent x (λ went. IfGoes went (λ o. flow_fits o.flow (length c.run_on.new.out) ≡ true))) c.in-Went.is c.in_ok-ran.ensures.fits

pub went_on-requires-clause-few : goal.went_on-requires-clause-few
went_on-requires-clause-few c =
    let count = c.args.flow.value.request.value.opened in
    (count, subst (λ x. IfWent x (AreOpened count)) c.in-Went.is c.in_ok-ran.ensures.opened, c.requires.fits.2)

pub returns-in_ok-went_on-in-Went-clause-runs : goal.returns-in_ok-went_on-in-Went-clause-runs
returns-in_ok-went_on-in-Went-clause-runs c = λ trees raceless reached.
    let g = c.args.ground.now in
    let site = g.site.now in
    let patterns = c.args.space.now.patterns in
    let w = world_in patterns g shipped in
    let went = c.in-Went.went in
    let ran = c.in_ok-ran.ensures in
    let out = c.args.out.now in
    let put = c.run_on.new.out in
    let closing = c.args.closing in
    let count = c.args.flow.value.request.value.opened in
    let before = access_left w patterns site trees c.args.flow.value in
    subst (λ (ps : List SetPattern). IsRaceless (world_in ps g shipped).server → WentReached (world_in ps g shipped) ps site went → AreOpened count went → count ≤ 255
    → GoesTo (world_in ps g shipped) ps site trees before out put closing went
    → RunsOn (world_in ps g shipped) ps site trees (with_opened count before) out c.went_on.new.out closing c.in_ok-went_on-in-Went.field-0) ran.kept
    (c.in_ok-went_on-in-Went.ensures.runs trees before out closing count)
    raceless (subst (RanReached w patterns site) c.in-Went.is (ran.reached reached)) (subst (λ x. IfWent x (AreOpened count)) c.in-Went.is ran.opened) c.requires.fits.2
    (subst (RunsTo w patterns site trees before out put closing) c.in-Went.is (ran.goes trees))

pub returns-in_ok-went_on-in-Went-clause-reached : goal.returns-in_ok-went_on-in-Went-clause-reached
returns-in_ok-went_on-in-Went-clause-reached c = λ reached.
    let g = c.args.ground.now in
    let site = g.site.now in
    let patterns = c.args.space.now.patterns in
    subst (λ (ps : List SetPattern). WentReached (world_in ps g shipped) ps site c.in-Went.went → IfOn c.in_ok-went_on-in-Went.field-0 (λ o. FlightReached (world_in ps g shipped) ps site o.flight)) c.in_ok-ran.ensures.kept
    c.in_ok-went_on-in-Went.ensures.reached (subst (RanReached (world_in patterns g shipped) patterns site) c.in-Went.is (c.in_ok-ran.ensures.reached reached))

pub returns-in_ok-went_on-in-Went-clause-lowers : goal.returns-in_ok-went_on-in-Went-clause-lowers
returns-in_ok-went_on-in-Went-clause-lowers c =
    let old = c.args.flow.value in
    let out = c.args.out.now in
    let put = c.run_on.new.out in
    let new = c.went_on.new.out in
    goes.lower c.in_ok-went_on-in-Went.field-0 (λ o. length new + flight_left o.flight (length new)) (page_most + steps_left old) (page_most + (length out + steps_left old)) (more (steps_left old) (length out) page_most)
    (c.in_ok-went_on-in-Went.ensures.lowers (steps_left old)
    (subst (λ x. IfWent x (λ went. IfGoes went (λ o. length put + flow_left o.flow (length put) < steps_left old))) c.in-Went.is c.in_ok-ran.ensures.lowers)
    (wents.second_of_asks c.in-Went.went _ _ (spends old put c.in_ok-ran.ran c.in-Went.went c.in-Went.is c.in_ok-ran.ensures.spends)))
  where
    more : (steps size most : ℕ) → most + steps ≤ most + (size + steps)
    more steps size most = omega arith

pub returns-in_ok-went_on-in-Went-clause-by : goal.returns-in_ok-went_on-in-Went-clause-by
returns-in_ok-went_on-in-Went-clause-by c =
    let r = c.args.flow.value.request.value in
    c.in_ok-went_on-in-Went.ensures.by r.server r.length (subst (λ x. IfWent x (IsServed r.server r.length)) c.in-Went.is c.in_ok-ran.ensures.by)

pub returns-in_ok-went_on-in-Went-clause-asked : goal.returns-in_ok-went_on-in-Went-clause-asked
returns-in_ok-went_on-in-Went-clause-asked c =
    wents.tree_below c.in_ok-went_on-in-Went.field-0 _ _ (subst (λ x. IfWent x (λ went. tree_of_went went ≤ c.args.flow.value.of)) c.in-Went.is c.in_ok-ran.ensures.asked) c.in_ok-went_on-in-Went.ensures.asked

pub returns-in_ok-went_on-in-Went-clause-closes : goal.returns-in_ok-went_on-in-Went-clause-closes
returns-in_ok-went_on-in-Went-clause-closes c = λ h.
    c.in_ok-went_on-in-Went.ensures.closes (subst (λ x. IfWent x (λ went. c.args.closing ≡ true → closing_of went ≡ true)) c.in-Went.is c.in_ok-ran.ensures.closes h)
