use Rattle.std.proofs.Common.{◌≡◌, ◌≤◌, true, length, sym, ap, ◌∙◌, subst}
use Rattle.std.specs.Prelude.{Some, take}
use Rattle.request_flow.specs.Flows.{one_rest, shown_by, stage_fits, stage_opened}
use Rattle.request_flow.specs.declared.flow.Flow.{Flow}
use Rattle.response_flow.specs.Flights.{FlightFits, flight_rest, unsent_of, with_opened}
use Rattle.response_flow.specs.Writes.{Writes}
use Rattle.response_flow.specs.declared.flight.Flight.{Flight}
use Rattle.std.specs.Prelude.{Option}
use Rattle.response_flow.proofs.Writing as writing
use Rattle.response_flow.proofs.wants.written.Goals as goal

pub returns-in-Some-Alone-clause-writes : goal.returns-in-Some-Alone-clause-writes
returns-in-Some-Alone-clause-writes c = λ w patterns site trees.
    let flow = c.in-Some-Alone.flow.value in
    let out = c.args.out.now in
    let new = c.used-in-Some-Alone.new.out in
    subst (λ (f : Option Flight). Writes (flight_rest w patterns site f trees) (with_opened (stage_opened c.wrote.new.flow.value.stage) (one_rest w patterns site c.wrote.new.flow.value trees)) out new (take c.args.count (unsent_of f out))) (sym (c.in-Some-Alone.is ∙ ap (λ f. Some f) c.in-Some-Alone.field-0-is))
    (subst (λ (x : Flow). Writes (with_opened (stage_opened flow.stage) (one_rest w patterns site flow trees)) (with_opened (stage_opened x.stage) (one_rest w patterns site x trees)) out new (take c.args.count (take (shown_by flow.stage) out))) (sym c.wrote.ensures)
    (writing.writes_opened _ _ (stage_opened flow.stage) _ out new _ (writing.opened_stays flow.stage c.args.count)
    (writing.flow_writes w patterns site trees flow out new c.args.count c.used-in-Some-Alone.ensures
    (subst (λ (f : Option Flight). c.args.count ≤ length (unsent_of f out)) (c.in-Some-Alone.is ∙ ap (λ f. Some f) c.in-Some-Alone.field-0-is) c.requires.count))))

pub returns-in-Some-Alone-clause-fits : goal.returns-in-Some-Alone-clause-fits
returns-in-Some-Alone-clause-fits c =
    let flow = c.in-Some-Alone.flow.value in
    let out = c.args.out.now in
    let new = c.used-in-Some-Alone.new.out in
    let fits = subst (λ (f : Option Flight). FlightFits f (length out)) (c.in-Some-Alone.is ∙ ap (λ f. Some f) c.in-Some-Alone.field-0-is) c.requires.fits in
    subst (λ (x : Flow). (stage_fits x.ask x.stage (length new) ≡ true) × (stage_opened x.stage ≤ 255)) (sym c.wrote.ensures) (
      writing.flow_stands flow out new c.args.count c.requires.some c.used-in-Some-Alone.ensures
          (subst (λ (f : Option Flight). c.args.count ≤ length (unsent_of f out)) (c.in-Some-Alone.is ∙ ap (λ f. Some f) c.in-Some-Alone.field-0-is) c.requires.count)
          fits.0,
      subst (λ n. n ≤ 255) (sym (writing.opened_stays flow.stage c.args.count)) fits.1,
    )

pub unreachable-requires : goal.unreachable-requires
unreachable-requires c =
    let is = c.in-Some-Asking.is ∙ ap (λ f. Some f) c.in-Some-Asking.field-0-is in
    writing.none_written c.args.count _ c.args.out.now (subst (λ (f : Option Flight). FlightFits f (length c.args.out.now)) is c.requires.fits).0 c.requires.some
    (subst (λ (f : Option Flight). c.args.count ≤ length (unsent_of f c.args.out.now)) is c.requires.count)
