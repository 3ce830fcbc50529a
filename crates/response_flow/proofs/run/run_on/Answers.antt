use Rattle.std.proofs.Common.{◌≡◌, ◌+◌, ◌<◌, ◌≤◌, true, Some, length, sym, subst, arith}
use Rattle.file_tree.specs.Tree.{tree_of}
use Rattle.request_meaning.specs.Laws.{shipped}
use Rattle.request_flow.specs.request_phases.Rounds.{world_in}
use Rattle.subrequests.specs.Wants.{is_among}
use Rattle.access_flow.specs.Flows.{steps_left, waits}
use Rattle.request_flow.specs.Flows.{flow_left, may_run}
use Rattle.response_flow.specs.Continues.{IfOn, RunsOn}
use Rattle.response_flow.specs.Flights.{FlightFits, FlightServedBy, IsReachedBy, TailFits, flight_left, flight_length, flight_rest, flight_server, flight_tree, next_of, page_most, ready_by}
use Rattle.response_flow.specs.declared.flight.Flight.{Flight}
use Rattle.response_flow.proofs.Goes as goes
use Rattle.response_flow.proofs.Wanting.{alone_runs, asking_runs}
use Rattle.response_flow.proofs.Wents.{closes_when, tree_below}
use Rattle.response_flow.proofs.Tails.{ran_alone, ran_asking, ran_page}
use Rattle.response_flow.proofs.run.run_on.Goals as goal

other_order : (a b c : _) → b + (a + c) ≤ a + (b + c)
other_order a b c = omega arith

-- ---- run_alone

pub run_alone-requires-clause-fits : goal.run_alone-requires-clause-fits
run_alone-requires-clause-fits c = subst (λ (f : Flight). FlightFits (Some f) (length c.args.out.now)) c.in-Alone.is c.requires.fits

pub run_alone-requires-clause-runs : goal.run_alone-requires-clause-runs
run_alone-requires-clause-runs c =
    alone_runs (may_run c.in-Alone.flow.value.stage) c.args.at (subst (λ (f : Flight). is_among c.args.at (ready_by f) ≡ true) c.in-Alone.is c.requires.runs)

pub returns-in_ok-run_alone-in-Alone-clause-runs : goal.returns-in_ok-run_alone-in-Alone-clause-runs
returns-in_ok-run_alone-in-Alone-clause-runs c = λ trees raceless reached.
    let site = c.args.ground.now.site.now in
    let patterns = c.args.space.now.patterns in
    let w = world_in patterns c.args.ground.now shipped in
    subst (λ (f : Flight). RunsOn w patterns site trees (flight_rest w patterns site (Some f) trees) c.args.out.now c.run_alone.new.out c.args.closing c.in_ok-run_alone-in-Alone.field-0) (sym c.in-Alone.is)
    (c.in_ok-run_alone-in-Alone.ensures.runs trees raceless (subst (IsReachedBy w patterns site) c.in-Alone.is reached))

pub returns-in_ok-run_alone-in-Alone-clause-reached : goal.returns-in_ok-run_alone-in-Alone-clause-reached
returns-in_ok-run_alone-in-Alone-clause-reached c = λ reached.
    let site = c.args.ground.now.site.now in
    let patterns = c.args.space.now.patterns in
    let w = world_in patterns c.args.ground.now shipped in
    c.in_ok-run_alone-in-Alone.ensures.reached (subst (IsReachedBy w patterns site) c.in-Alone.is reached)

pub returns-in_ok-run_alone-in-Alone-clause-lowers : goal.returns-in_ok-run_alone-in-Alone-clause-lowers
returns-in_ok-run_alone-in-Alone-clause-lowers c =
    let size = length c.args.out.now in
    let new = length c.run_alone.new.out in
    let ran = c.in_ok-run_alone-in-Alone.field-0 in
    subst (λ (f : Flight). IfOn ran (λ o. new + flight_left o.flight new < size + flight_left (Some f) size)) (sym c.in-Alone.is)
    (goes.lower ran (λ o. new + flight_left o.flight new) _ _ (other_order size page_most (flow_left (Some c.in-Alone.flow) size)) c.in_ok-run_alone-in-Alone.ensures.lowers)

pub returns-in_ok-run_alone-in-Alone-clause-by : goal.returns-in_ok-run_alone-in-Alone-clause-by
returns-in_ok-run_alone-in-Alone-clause-by c =
    subst (λ (f : Flight). IfOn c.in_ok-run_alone-in-Alone.field-0 (λ o. FlightServedBy (flight_server f) (flight_length f) o.flight)) (sym c.in-Alone.is) c.in_ok-run_alone-in-Alone.ensures.by

pub returns-in_ok-run_alone-in-Alone-clause-asked : goal.returns-in_ok-run_alone-in-Alone-clause-asked
returns-in_ok-run_alone-in-Alone-clause-asked c =
    subst (λ (f : Flight). IfOn c.in_ok-run_alone-in-Alone.field-0 (λ o. flight_tree o.flight ≤ flight_tree (Some f))) (sym c.in-Alone.is) c.in_ok-run_alone-in-Alone.ensures.asked

pub returns-in_ok-run_alone-in-Alone-clause-closes : goal.returns-in_ok-run_alone-in-Alone-clause-closes
returns-in_ok-run_alone-in-Alone-clause-closes c = closes_when c.in_ok-run_alone-in-Alone.field-0 c.args.closing c.in_ok-run_alone-in-Alone.ensures.closes

pub returns-in_ok-run_alone-in-Alone-clause-tail : goal.returns-in_ok-run_alone-in-Alone-clause-tail
returns-in_ok-run_alone-in-Alone-clause-tail c =
    let ran = c.in_ok-run_alone-in-Alone.field-0 in
    let out = c.run_alone.new.out in
    subst (λ (f : Flight). IfOn ran (λ o. TailFits (Some f) o.flight o.tail out)) (sym c.in-Alone.is) (ran_alone c.in-Alone.flow ran out c.in_ok-run_alone-in-Alone.ensures.tail)

-- ---- run_asking

pub run_asking-requires-clause-fits : goal.run_asking-requires-clause-fits
run_asking-requires-clause-fits c = subst (λ (f : Flight). FlightFits (Some f) (length c.args.out.now)) c.in-Asking.is c.requires.fits

pub run_asking-requires-clause-runs : goal.run_asking-requires-clause-runs
run_asking-requires-clause-runs c =
    asking_runs (waits c.in-Asking.flow.value.stage) (next_of c.in-Asking.flow.value.stage c.in-Asking.flow.value.request.value.opened) c.args.at (subst (λ (f : Flight). is_among c.args.at (ready_by f) ≡ true) c.in-Asking.is c.requires.runs)

pub returns-in_ok-run_asking-in-Asking-clause-runs : goal.returns-in_ok-run_asking-in-Asking-clause-runs
returns-in_ok-run_asking-in-Asking-clause-runs c = λ trees raceless reached.
    let site = c.args.ground.now.site.now in
    let patterns = c.args.space.now.patterns in
    let w = world_in patterns c.args.ground.now shipped in
    subst (λ (f : Flight). RunsOn w patterns site trees (flight_rest w patterns site (Some f) trees) c.args.out.now c.run_asking.new.out c.args.closing c.in_ok-run_asking-in-Asking.field-0) (sym c.in-Asking.is)
    (c.in_ok-run_asking-in-Asking.ensures.runs trees raceless (subst (IsReachedBy w patterns site) c.in-Asking.is reached))

pub returns-in_ok-run_asking-in-Asking-clause-reached : goal.returns-in_ok-run_asking-in-Asking-clause-reached
returns-in_ok-run_asking-in-Asking-clause-reached c = λ reached.
    let site = c.args.ground.now.site.now in
    let patterns = c.args.space.now.patterns in
    let w = world_in patterns c.args.ground.now shipped in
    c.in_ok-run_asking-in-Asking.ensures.reached (subst (IsReachedBy w patterns site) c.in-Asking.is reached)

pub returns-in_ok-run_asking-in-Asking-clause-lowers : goal.returns-in_ok-run_asking-in-Asking-clause-lowers
returns-in_ok-run_asking-in-Asking-clause-lowers c =
    let size = length c.args.out.now in
    let new = length c.run_asking.new.out in
    let ran = c.in_ok-run_asking-in-Asking.field-0 in
    subst (λ (f : Flight). IfOn ran (λ o. new + flight_left o.flight new < size + flight_left (Some f) size)) (sym c.in-Asking.is)
    (goes.lower ran (λ o. new + flight_left o.flight new) _ _ (other_order size page_most (steps_left c.in-Asking.flow.value)) c.in_ok-run_asking-in-Asking.ensures.lowers)

pub returns-in_ok-run_asking-in-Asking-clause-by : goal.returns-in_ok-run_asking-in-Asking-clause-by
returns-in_ok-run_asking-in-Asking-clause-by c =
    subst (λ (f : Flight). IfOn c.in_ok-run_asking-in-Asking.field-0 (λ o. FlightServedBy (flight_server f) (flight_length f) o.flight)) (sym c.in-Asking.is) c.in_ok-run_asking-in-Asking.ensures.by

pub returns-in_ok-run_asking-in-Asking-clause-asked : goal.returns-in_ok-run_asking-in-Asking-clause-asked
returns-in_ok-run_asking-in-Asking-clause-asked c =
    let f = c.in-Asking.flow.value in
    let ran = c.in_ok-run_asking-in-Asking.field-0 in
    let own = (subst (λ (f : Flight). FlightFits (Some f) (length c.args.out.now)) c.in-Asking.is c.requires.fits).1.1 in
    subst (λ (f : Flight). IfOn ran (λ o. flight_tree o.flight ≤ flight_tree (Some f))) (sym c.in-Asking.is)
    (tree_below ran f.of (tree_of f.ask) (omega (arith, own)) c.in_ok-run_asking-in-Asking.ensures.asked)

pub returns-in_ok-run_asking-in-Asking-clause-closes : goal.returns-in_ok-run_asking-in-Asking-clause-closes
returns-in_ok-run_asking-in-Asking-clause-closes c = closes_when c.in_ok-run_asking-in-Asking.field-0 c.args.closing c.in_ok-run_asking-in-Asking.ensures.closes

pub returns-in_ok-run_asking-in-Asking-clause-tail : goal.returns-in_ok-run_asking-in-Asking-clause-tail
returns-in_ok-run_asking-in-Asking-clause-tail c =
    let ran = c.in_ok-run_asking-in-Asking.field-0 in
    let out = c.run_asking.new.out in
    subst (λ (f : Flight). IfOn ran (λ o. TailFits (Some f) o.flight o.tail out)) (sym c.in-Asking.is) (ran_asking c.in-Asking.flow ran out c.in_ok-run_asking-in-Asking.ensures.tail)

-- ---- a page

pub returns-in_ok-run_page-in-Page-clause-tail : goal.returns-in_ok-run_page-in-Page-clause-tail
returns-in_ok-run_page-in-Page-clause-tail c =
    let ran = c.in_ok-run_page-in-Page.field-0 in
    let out = c.run_page.new.out in
    subst (λ (f : Flight). IfOn ran (λ o. TailFits (Some f) o.flight o.tail out)) (sym c.in-Page.is) (ran_page c.in-Page.page ran out c.in_ok-run_page-in-Page.ensures.tail)
