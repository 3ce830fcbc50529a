use Rattle.std.proofs.Common.{◌≡◌, true, false, Option, None, Some, is_some, option_map, refl, sym, ap, ◌∙◌, subst}
use Rattle.subrequests.specs.Wants.{is_among}
use Rattle.request_flow.specs.Flows.{IsServedBy, flow_rest, going_on, may_run, stage_opened}
use Rattle.request_flow.specs.Reached.{FlowReached}
use Rattle.request_flow.specs.declared.flow.Flow.{Flow}
use Rattle.std.specs.Global.{Box}
use Rattle.response_flow.specs.Continues.{Continues}
use Rattle.response_flow.specs.Flights.{FlightFits, TailFits, TailIn, alone_rest, flight_rest, ready_of}
use Rattle.response_flow.specs.declared.flight.Flight.{Flight}
use Rattle.response_flow.specs.declared.flight.Flight.TheVariants.{Alone}
use Rattle.response_flow.proofs.Goes as goes
use Rattle.response_flow.proofs.Wanting.{alone_runs}
use Rattle.response_flow.proofs.Tails.{alone_fits, plain_ends}
use Rattle.response_flow.proofs.run.sends.Goals as goal

-- it is over where it is logged, and goes on else
over : (flow : Box Flow) (log : _) → is_some log ≡ true → going_on flow log ≡ None
over flow None e = cc
over flow (Some l) e = refl

still : (flow : Box Flow) (log : _) → is_some log ≡ false → going_on flow log ≡ Some flow
still flow None e = refl
still flow (Some l) e = cc

is_alone : (flight : Option Flight) (f : Flight) (flow : Box Flow) → flight ≡ Some f → f ≡ Alone flow → flight ≡ Some (Alone flow)
is_alone flight f flow e d = e ∙ ap (λ x. Some x) d

pub sends_on-log-requires-clause-runs : goal.sends_on-log-requires-clause-runs
sends_on-log-requires-clause-runs c =
    let flow = c.in-Some-Alone.flow in
    let is = is_alone c.args.flight.now c.in-Some-Alone.field-0 flow c.in-Some-Alone.is c.in-Some-Alone.field-0-is in
    alone_runs (may_run flow.value.stage) c.requires.runs.0 (subst (λ f. is_among c.requires.runs.0 (ready_of f) ≡ true) is c.requires.runs.1)

pub sends_on-log-requires-clause-fits : goal.sends_on-log-requires-clause-fits
sends_on-log-requires-clause-fits c =
    let is = is_alone c.args.flight.now c.in-Some-Alone.field-0 c.in-Some-Alone.flow c.in-Some-Alone.is c.in-Some-Alone.field-0-is in
    (subst (λ f. FlightFits f c.args.size) is c.requires.fits).0

pub returns-then-is_some-clause-runs : goal.returns-then-is_some-clause-runs
returns-then-is_some-clause-runs c = λ w patterns site trees out.
    let flow = c.in-Some-Alone.flow in
    let is = is_alone c.args.flight.now c.in-Some-Alone.field-0 flow c.in-Some-Alone.is c.in-Some-Alone.field-0-is in
    let new = c.sends_on-log.new.flow in
    let log = c.sends_on-log.result in
    let none = over new log (sym c.is_some.ensures ∙ c.if-is_some.true) in
    let count = stage_opened flow.value.stage in
    let closing = c.args.closing in
    subst (λ r. Continues site r (flight_rest w patterns site c.put.new.slot trees) out out closing closing log None) (ap (λ f. flight_rest w patterns site f trees) (sym is))
    (goes.same_said site (flight_rest w patterns site (Some (Alone flow)) trees) (alone_rest w patterns site (going_on new log) trees) (flight_rest w patterns site c.put.new.slot trees) out out closing closing closing log log None None
    (ap (λ f. flight_rest w patterns site f trees) c.put.ensures ∙ sym (ap (λ f. alone_rest w patterns site f trees) none)) refl refl refl
    (goes.alone_continues w patterns site trees (flow_rest w patterns site (Some flow) trees) (going_on new log) count out out closing closing log None
    (c.sends_on-log.ensures.opened count) (subst (λ f. FlightFits f c.args.size) is c.requires.fits).1 (c.sends_on-log.ensures.goes w patterns site trees out closing)))

pub returns-then-is_some-clause-fits : goal.returns-then-is_some-clause-fits
returns-then-is_some-clause-fits c =
    let flow = c.in-Some-Alone.flow in
    let is = is_alone c.args.flight.now c.in-Some-Alone.field-0 flow c.in-Some-Alone.is c.in-Some-Alone.field-0-is in
    let new = c.sends_on-log.new.flow in
    let log = c.sends_on-log.result in
    let none = over new log (sym c.is_some.ensures ∙ c.if-is_some.true) in
    let count = stage_opened flow.value.stage in
    subst (λ f. FlightFits f c.args.size) (sym c.put.ensures)
    (subst (λ f. FlightFits (option_map (λ x. Alone x) f) c.args.size) none
    (goes.fits_alone (going_on new log) c.args.size count c.sends_on-log.ensures.fits (c.sends_on-log.ensures.opened count) (subst (λ f. FlightFits f c.args.size) is c.requires.fits).1))

pub returns-else-is_some-clause-fits : goal.returns-else-is_some-clause-fits
returns-else-is_some-clause-fits c =
    let flow = c.in-Some-Alone.flow in
    let is = is_alone c.args.flight.now c.in-Some-Alone.field-0 flow c.in-Some-Alone.is c.in-Some-Alone.field-0-is in
    let new = c.sends_on-log.new.flow in
    let log = c.sends_on-log.result in
    let some = still new log (sym c.is_some.ensures ∙ c.if-is_some.false) in
    let count = stage_opened flow.value.stage in
    subst (λ f. FlightFits (option_map (λ x. Alone x) f) c.args.size) some
    (goes.fits_alone (going_on new log) c.args.size count c.sends_on-log.ensures.fits (c.sends_on-log.ensures.opened count) (subst (λ f. FlightFits f c.args.size) is c.requires.fits).1)

pub returns-else-is_some-clause-runs : goal.returns-else-is_some-clause-runs
returns-else-is_some-clause-runs c = λ w patterns site trees out.
    let flow = c.in-Some-Alone.flow in
    let is = is_alone c.args.flight.now c.in-Some-Alone.field-0 flow c.in-Some-Alone.is c.in-Some-Alone.field-0-is in
    let new = c.sends_on-log.new.flow in
    let log = c.sends_on-log.result in
    let some = still new log (sym c.is_some.ensures ∙ c.if-is_some.false) in
    let count = stage_opened flow.value.stage in
    let closing = c.args.closing in
    subst (λ r. Continues site r (flight_rest w patterns site (Some (Alone new)) trees) out out closing closing log None) (ap (λ f. flight_rest w patterns site f trees) (sym is))
    (goes.same_said site (flight_rest w patterns site (Some (Alone flow)) trees) (alone_rest w patterns site (going_on new log) trees) (alone_rest w patterns site (Some new) trees) out out closing closing closing log log None None
    (sym (ap (λ f. alone_rest w patterns site f trees) some)) refl refl refl
    (goes.alone_continues w patterns site trees (flow_rest w patterns site (Some flow) trees) (going_on new log) count out out closing closing log None
    (c.sends_on-log.ensures.opened count) (subst (λ f. FlightFits f c.args.size) is c.requires.fits).1 (c.sends_on-log.ensures.goes w patterns site trees out closing)))

pub returns-else-is_some-clause-reached : goal.returns-else-is_some-clause-reached
returns-else-is_some-clause-reached c = λ w patterns site.
    subst (λ f. FlowReached w patterns site f) (still c.sends_on-log.new.flow c.sends_on-log.result (sym c.is_some.ensures ∙ c.if-is_some.false)) (c.sends_on-log.ensures.reached w patterns site)

pub returns-else-is_some-clause-by : goal.returns-else-is_some-clause-by
returns-else-is_some-clause-by c = λ server length.
    subst (λ f. IsServedBy server length f) (still c.sends_on-log.new.flow c.sends_on-log.result (sym c.is_some.ensures ∙ c.if-is_some.false)) (c.sends_on-log.ensures.by server length)

pub returns-then-is_some-clause-tail : goal.returns-then-is_some-clause-tail
returns-then-is_some-clause-tail c = λ out.
    let flow = c.in-Some-Alone.flow in
    let is = is_alone c.args.flight.now c.in-Some-Alone.field-0 flow c.in-Some-Alone.is c.in-Some-Alone.field-0-is in
    let next = c.put.new.slot in
    subst (λ f. TailFits f next 0 out) (sym is) (alone_fits flow None next 0 out (subst (λ f. TailIn None f 0 out) (sym c.put.ensures) (plain_ends out)))
