use Rattle.std.proofs.Common.{◌≡◌, sym, ap, ◌∙◌, subst}
use Rattle.request_meaning.specs.Laws.{shipped}
use Rattle.request_flow.specs.request_phases.Rounds.{world_in}
use Rattle.response_flow.specs.Continues.{IfOn, RunsOn}
use Rattle.response_flow.specs.Flights.{FlightReached, FlightServedBy, TailFits, flight_length, flight_rest, flight_server}
use Rattle.response_flow.specs.declared.flight.Flight.{Flight}
use Rattle.response_flow.proofs.Goes as goes
use Rattle.response_flow.proofs.run.moves_on.Goals as goal

pub returns-clause-runs : goal.returns-clause-runs
returns-clause-runs c = λ trees raceless reached.
    let g = c.args.ground.now in
    let site = g.site.now in
    let patterns = c.args.space.now.patterns in
    let w = world_in patterns g shipped in
    let is = sym c.take.ensures.taken ∙ c.in-Some.is in
    let out = c.run_on.new.out in
    subst (RunsOn w patterns site trees (flight_rest w patterns site c.args.flight.now trees) c.args.out.now out c.args.closing) (sym c.passed.ensures)
    (subst (λ f. RunsOn w patterns site trees (flight_rest w patterns site f trees) c.args.out.now out c.args.closing c.in_ok-ran.ran) (sym is)
    (c.in_ok-ran.ensures.runs trees raceless (subst (FlightReached w patterns site) is reached)))

pub returns-clause-by : goal.returns-clause-by
returns-clause-by c = λ f so.
    let is = sym so ∙ (sym c.take.ensures.taken ∙ c.in-Some.is) in
    let same : c.in-Some.moved ≡ f = sym (ap (λ o. goes.flight_in o f) is) in
    subst (λ ran. IfOn ran (λ o. FlightServedBy (flight_server f) (flight_length f) o.flight)) (sym c.passed.ensures)
    (subst (λ (x : Flight). IfOn c.in_ok-ran.ran (λ o. FlightServedBy (flight_server x) (flight_length x) o.flight)) same c.in_ok-ran.ensures.by)

pub returns-clause-tail : goal.returns-clause-tail
returns-clause-tail c =
    let was = c.args.flight.now in
    let out = c.run_on.new.out in
    let is = sym c.take.ensures.taken ∙ c.in-Some.is in
    subst (λ ran. IfOn ran (λ o. TailFits was o.flight o.tail out)) (sym c.passed.ensures)
    (subst (λ f. IfOn c.in_ok-ran.ran (λ o. TailFits f o.flight o.tail out)) (sym is) c.in_ok-ran.ensures.tail)
