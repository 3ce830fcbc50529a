use Rattle.std.proofs.Common.{◌≡◌, ◌∙◌, true, List, length, None, Some, refl, sym, ap, subst}
use Rattle.file_tree.specs.Tree.{IsFrom}
use Rattle.file_tree.specs.declared.job.Ask.{Ask}
use Rattle.file_tree.specs.declared.job.JobAnswer.TheVariants.{Read as BlockRead}
use Rattle.ngx_outside.specs.Stepped.{IsReading}
use Rattle.ngx_outside.specs.Views.{ask_in}
use Rattle.request_flow.specs.Flows.{count_asked, flow_rest, stage_opened}
use Rattle.response_flow.specs.Continues.{Continues}
use Rattle.response_flow.specs.Flights.{FlightFits, FlightReached, alone_rest, flight_rest, jobs_of, reads_alone_in, is_read}
use Rattle.response_flow.specs.declared.flight.Flight.TheVariants.{Alone}
use Rattle.response_flow.proofs.Goes as goes
use Rattle.response_flow.proofs.Wanting as wanting
use Rattle.response_flow.proofs.answer.came.Goals as goal

-- a job that asks for a block
reading : (job : Ask) → is_read job ≡ true → IsReading (Some job)
reading (Rattle.file_tree.specs.declared.job.Ask.TheVariants.Stat path of) e = absurd (let q : Rattle.std.proofs.Common.false ≡ true = e in cc)
reading (Rattle.file_tree.specs.declared.job.Ask.TheVariants.Read path start count of) e = tt

pub came-requires-clause-fits : goal.came-requires-clause-fits
came-requires-clause-fits c =
    let is : c.args.flight.now ≡ Some (Alone c.in-Some-Alone.flow) = c.in-Some-Alone.is ∙ ap (λ f. Some f) c.in-Some-Alone.field-0-is in
    (subst (λ f. FlightFits f c.args.placed) is c.requires.fits).0

pub came-requires-clause-reads : goal.came-requires-clause-reads
came-requires-clause-reads c =
    let flow = c.in-Some-Alone.flow in
    let is : c.args.flight.now ≡ Some (Alone flow) = c.in-Some-Alone.is ∙ ap (λ f. Some f) c.in-Some-Alone.field-0-is in
    reading flow.value.ask (subst (λ f. reads_alone_in f ≡ true) is c.requires.alone)

pub came-requires-clause-waits : goal.came-requires-clause-waits
came-requires-clause-waits c =
    let flow = c.in-Some-Alone.flow in
    let is : c.args.flight.now ≡ Some (Alone flow) = c.in-Some-Alone.is ∙ ap (λ f. Some f) c.in-Some-Alone.field-0-is in
    let asked = c.requires.asked in
    wanting.alone_waits flow c.args.at asked.0 (ap (λ f. ask_in (jobs_of f) c.args.at) (sym is) ∙ asked.1)

pub returns-clause-goes : goal.returns-clause-goes
returns-clause-goes c = λ w patterns site trees closing job block from to asked long added many told.
    let flow = c.in-Some-Alone.flow in
    let is : c.args.flight.now ≡ Some (Alone flow) = c.in-Some-Alone.is ∙ ap (λ f. Some f) c.in-Some-Alone.field-0-is in
    let new = c.came.new.flow in
    let count = stage_opened flow.value.stage in
    let e = c.came.ensures in
    let own : flow.value.ask ≡ job = wanting.alone_ask flow c.args.at job (ap (λ f. ask_in (jobs_of f) c.args.at) (sym is) ∙ asked) in
    subst (λ r. Continues site r (alone_rest w patterns site (Some new) trees) from to closing closing None None) (ap (λ f. flight_rest w patterns site f trees) (sym is))
    (goes.alone_continues w patterns site trees (flow_rest w patterns site (Some flow) trees) (Some new) count from to closing closing None None
    e.opened (subst (λ f. FlightFits f c.args.placed) is c.requires.fits).1
    (e.goes w patterns site trees closing block from to long added (many ∙ ap count_asked (sym own)) (subst (λ j. IsFrom trees j (BlockRead block)) (sym own) told)))

pub returns-clause-reached : goal.returns-clause-reached
returns-clause-reached c = λ w patterns site reached.
    let is : c.args.flight.now ≡ Some (Alone c.in-Some-Alone.flow) = c.in-Some-Alone.is ∙ ap (λ f. Some f) c.in-Some-Alone.field-0-is in
    c.came.ensures.reached w patterns site (subst (FlightReached w patterns site) is reached)
