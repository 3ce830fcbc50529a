use Rattle.std.proofs.Common.{◌≡◌, [], length, true, None, Some, refl, sym, ap, ◌∙◌, subst}
use Rattle.std.specs.Prelude.{is_some}
use Rattle.request_meaning.specs.Laws.{shipped}
use Rattle.page_response.specs.declared.pages.Pages.{Pages}
use Rattle.request_flow.specs.request_phases.Rounds.{world_in}
use Rattle.subrequests.specs.Moved.{files}
use Rattle.response_flow.specs.Continues.{IfOn, RunsOn, ran_as, ran_in}
use Rattle.response_flow.specs.Flights.{FlightFits, FlightReached, TailFits, flight_rest, page_left}
use Rattle.response_flow.specs.declared.flight.PageFlow.{PageFlow}
use Rattle.response_flow.specs.declared.flight.Flight.TheVariants.{Page}
use Rattle.response_flow.proofs.Goes as goes
use Rattle.response_flow.proofs.Tails.{ran_page_as}
use Rattle.response_flow.proofs.run.run_in_place.Goals as goal

pub returns-in_ok-page_ends-in-Some-true-clause-runs : goal.returns-in_ok-page_ends-in-Some-true-clause-runs
returns-in_ok-page_ends-in-Some-true-clause-runs c = λ trees raceless reached.
    let g = c.args.ground.now in
    let site = g.site.now in
    let patterns = c.args.space.now.patterns in
    let w = world_in patterns g shipped in
    let page = c.in-Some-Page.page in
    let p = page.pages.value in
    let q = c.page_passes.new.pages in
    let out = c.args.out.now in
    let closing = c.args.closing in
    let is : c.args.flight.now ≡ Some (Page page) = c.in-Some-Page.is ∙ ap (λ f. Some f) c.in-Some-Page.field-0-is in
    let so : c.in_ok-over-in-Some-Page.over ≡ Some true = c.in-Some-true.is ∙ ap (λ b. Some b) c.in-Some-true.field-0-test in
    let to = c.in_ok-over-in-Some-Page.ensures in
    let go = goes.rested patterns g c.deref_mut.result.now p q (ran_as c.in_ok-over-in-Some-Page.over) c.deref_mut.ensures.value to.runs (ap ran_as so) in
    let left = goes.same_left w patterns site trees p q (go.same trees raceless (subst (FlightReached w patterns site) is reached)) go.status in
    let before = flight_rest w patterns site c.args.flight.now trees in
    let none = goes.no_bytes out (subst (λ f. FlightFits f (length out)) is c.requires.fits).0 in
    let page' : PageFlow = record page { pages = record page.pages { value = q } } in
    c.in_ok-page_ends-in-Some-true.ensures.ends page' w patterns site trees before out closing refl
    (to.done so go.whole patterns g (files trees q.family))
    (goes.moved site before before (page_left w patterns site trees q) out out [] closing closing None (ap (λ f. flight_rest w patterns site f trees) is ∙ left) none
    (goes.same_continues site before out closing))

pub returns-then-is_sending-clause-runs : goal.returns-then-is_sending-clause-runs
returns-then-is_sending-clause-runs c = λ trees raceless reached.
    let patterns = c.args.space.now.patterns in
    c.sends.ensures.runs (world_in patterns c.args.ground.now shipped) patterns c.args.ground.now.site.now trees c.args.out.now

pub returns-in_ok-page_ends-in-Some-true-clause-tail : goal.returns-in_ok-page_ends-in-Some-true-clause-tail
returns-in_ok-page_ends-in-Some-true-clause-tail c =
    let page = c.in-Some-Page.page in
    let p = page.pages.value in
    let q = c.page_passes.new.pages in
    let is : c.args.flight.now ≡ Some (Page page) = c.in-Some-Page.is ∙ ap (λ f. Some f) c.in-Some-Page.field-0-is in
    let page' : PageFlow = record page { pages = record page.pages { value = q } } in
    let kind = c.in_ok-over-in-Some-Page.ensures.kind ∙ ap (λ (x : Pages). is_some x.outgoing.block) c.deref_mut.ensures.value in
    let ran = ran_in c.page_ends.new.flight c.in_ok-page_ends-in-Some-true.field-0 in
    let out = c.page_ends.new.out in
    subst (λ f. IfOn ran (λ o. TailFits f o.flight o.tail out)) (sym is) (ran_page_as page page' ran out kind c.in_ok-page_ends-in-Some-true.ensures.tail)

pub returns-in-Some-Alone-clause-runs : goal.returns-in-Some-Alone-clause-runs
returns-in-Some-Alone-clause-runs c = λ trees raceless reached.
    let site = c.args.ground.now.site.now in
    let patterns = c.args.space.now.patterns in
    let w = world_in patterns c.args.ground.now shipped in
    subst (λ f. RunsOn w patterns site trees (flight_rest w patterns site f trees) c.args.out.now c.moves_on.new.out c.args.closing (ran_in c.moves_on.new.flight c.in_ok-moves_on-in-Some-Alone.field-0)) (sym c.in-Some-Alone.is)
    (c.in_ok-moves_on-in-Some-Alone.ensures.runs trees raceless (subst (FlightReached w patterns site) c.in-Some-Alone.is reached))

pub returns-in-Some-Asking-clause-runs : goal.returns-in-Some-Asking-clause-runs
returns-in-Some-Asking-clause-runs c = λ trees raceless reached.
    let site = c.args.ground.now.site.now in
    let patterns = c.args.space.now.patterns in
    let w = world_in patterns c.args.ground.now shipped in
    subst (λ f. RunsOn w patterns site trees (flight_rest w patterns site f trees) c.args.out.now c.moves_on-in-Some-Asking.new.out c.args.closing (ran_in c.moves_on-in-Some-Asking.new.flight c.in_ok-moves_on-in-Some-Asking.field-0)) (sym c.in-Some-Asking.is)
    (c.in_ok-moves_on-in-Some-Asking.ensures.runs trees raceless (subst (FlightReached w patterns site) c.in-Some-Asking.is reached))
