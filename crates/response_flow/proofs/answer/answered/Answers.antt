use Rattle.std.proofs.Common.{◌≡◌, true, length, None, Some, refl, sym, ap, ◌∙◌, subst}
use Rattle.file_tree.specs.Tree.{IsFrom, is_fitting}
use Rattle.ngx_outside.specs.Views.{ask_in}
use Rattle.std.specs.List.{slice_get}
use Rattle.subrequests.specs.Moved.{IsFromAt, fits_at}
use Rattle.page_response.specs.Pages.{IsReached}
use Rattle.page_response.specs.declared.pages.Pages.{Pages}
use Rattle.response_flow.specs.Continues.{Continues}
use Rattle.response_flow.specs.Flights.{FlightFits, FlightReached, alone_rest, flight_rest, flight_tree, jobs_of, page_left, with_opened}
use Rattle.access_flow.specs.Flows.{IsOfTree, access_left, waits}
use Rattle.access_flow.specs.Reached.{AccessReached}
use Rattle.access_flow.specs.declared.flow.AccessFlow.{AccessFlow}
use Rattle.request_flow.specs.Flows.{flow_rest, stage_opened}
use Rattle.response_flow.specs.declared.flight.Flight.TheVariants.{Alone, Asking, Page}
use Rattle.response_flow.proofs.Goes as goes
use Rattle.response_flow.proofs.Wanting as wanting
use Rattle.response_flow.proofs.answer.answered.Goals as goal

pub hear-requires-clause-fits : goal.hear-requires-clause-fits
hear-requires-clause-fits c =
    let page = c.in-Some-Page.page in
    let p = page.pages.value in
    let is : c.args.flight.now ≡ Some (Page page) = c.in-Some-Page.is ∙ ap (λ f. Some f) c.in-Some-Page.field-0-is in
    let asked = c.requires.asked in
    subst (λ (x : Pages). fits_at x.family.tree (slice_get x.family.nodes c.args.at) c.args.answer ≡ true) (sym c.deref_mut.ensures.value)
    (wanting.fits p.family.tree p.family.nodes c.args.at asked.0 c.args.answer (ap (λ f. ask_in (jobs_of f) c.args.at) (sym is) ∙ asked.1) asked.2)

pub returns-in_ok-hear-in-Some-Page-clause-goes : goal.returns-in_ok-hear-in-Some-Page-clause-goes
returns-in_ok-hear-in-Some-Page-clause-goes c = λ w patterns site trees closing job asked from reached.
    let page = c.in-Some-Page.page in
    let p = page.pages.value in
    let old = c.deref_mut.result.now in
    let new = c.hear.new.self in
    let is : c.args.flight.now ≡ Some (Page page) = c.in-Some-Page.is ∙ ap (λ f. Some f) c.in-Some-Page.field-0-is in
    let same = c.deref_mut.ensures.value in
    let out = c.args.out.now in
    let told = c.in_ok-hear-in-Some-Page.ensures in
    let heard = told.same w patterns site trees
    (subst (λ (x : Pages). IsFromAt trees (slice_get x.family.nodes c.args.at) c.args.answer) (sym same)
    (wanting.from trees p.family.tree p.family.nodes c.args.at job c.args.answer (ap (λ f. ask_in (jobs_of f) c.args.at) (sym is) ∙ asked) from))
    (subst (λ x. IsReached w patterns site x) (sym same) (subst (FlightReached w patterns site) is reached)) in
    subst (λ r. Continues site r (page_left w patterns site trees new) out out closing closing None None)
    (sym (goes.same_left w patterns site trees old new heard told.others.0) ∙ (ap (page_left w patterns site trees) same ∙ ap (λ f. flight_rest w patterns site f trees) (sym is)))
    (goes.same_continues site (page_left w patterns site trees new) out closing)

pub answered-requires-clause-fits : goal.answered-requires-clause-fits
answered-requires-clause-fits c =
    let is : c.args.flight.now ≡ Some (Alone c.in-Some-Alone.flow) = c.in-Some-Alone.is ∙ ap (λ f. Some f) c.in-Some-Alone.field-0-is in
    (subst (λ f. FlightFits f (length c.args.out.now)) is c.requires.fits).0

pub returns-in_ok-answered-in-Some-Alone-clause-goes : goal.returns-in_ok-answered-in-Some-Alone-clause-goes
returns-in_ok-answered-in-Some-Alone-clause-goes c = λ w patterns site trees closing job asked from reached.
    let flow = c.in-Some-Alone.flow in
    let is : c.args.flight.now ≡ Some (Alone flow) = c.in-Some-Alone.is ∙ ap (λ f. Some f) c.in-Some-Alone.field-0-is in
    let new = c.answered.new.flow in
    let out = c.args.out.now in
    let out' = c.answered.new.out in
    let count = stage_opened flow.value.stage in
    let told = c.in_ok-answered-in-Some-Alone.ensures in
    subst (λ r. Continues site r (alone_rest w patterns site (Some new) trees) out out' closing closing None None) (ap (λ f. flight_rest w patterns site f trees) (sym is))
    (goes.alone_continues w patterns site trees (flow_rest w patterns site (Some flow) trees) (Some new) count out out' closing closing None None
    told.opened (subst (λ f. FlightFits f (length out)) is c.requires.fits).1
    (told.goes w patterns site trees closing
    (subst (λ j. IsFrom trees j c.args.answer) (sym (wanting.alone_ask flow c.args.at job (ap (λ f. ask_in (jobs_of f) c.args.at) (sym is) ∙ asked))) from)))

pub returns-in_ok-answered-in-Some-Alone-clause-fits : goal.returns-in_ok-answered-in-Some-Alone-clause-fits
returns-in_ok-answered-in-Some-Alone-clause-fits c =
    let flow = c.in-Some-Alone.flow in
    let is : c.args.flight.now ≡ Some (Alone flow) = c.in-Some-Alone.is ∙ ap (λ f. Some f) c.in-Some-Alone.field-0-is in
    let told = c.in_ok-answered-in-Some-Alone.ensures in
    (told.fits, goes.stage_few c.answered.new.flow.value.stage (stage_opened flow.value.stage) told.opened (subst (λ f. FlightFits f (length c.args.out.now)) is c.requires.fits).1)

pub returns-in_ok-answered-in-Some-Alone-clause-reached : goal.returns-in_ok-answered-in-Some-Alone-clause-reached
returns-in_ok-answered-in-Some-Alone-clause-reached c = λ w patterns site reached.
    let is = c.in-Some-Alone.is ∙ ap (λ f. Some f) c.in-Some-Alone.field-0-is in
    c.in_ok-answered-in-Some-Alone.ensures.reached w patterns site (subst (FlightReached w patterns site) is reached)

-- ---- a subrequest that was asked whether a request is let in

pub answered-requires-in-Some-Asking-clause-waits : goal.answered-requires-in-Some-Asking-clause-waits
answered-requires-in-Some-Asking-clause-waits c =
    let f = c.in-Some-Asking.flow in
    let is : c.args.flight.now ≡ Some (Asking f) = c.in-Some-Asking.is ∙ ap (λ f. Some f) c.in-Some-Asking.field-0-is in
    let asked = c.requires.asked in
    subst (λ (x : AccessFlow). waits x.stage ≡ true) (sym c.deref_mut-in-Some-Asking.ensures.value)
    (wanting.access_asked f.value c.args.at asked.0 (ap (λ f. ask_in (jobs_of f) c.args.at) (sym is) ∙ asked.1)).waits

pub answered-requires-in-Some-Asking-clause-fitting : goal.answered-requires-in-Some-Asking-clause-fitting
answered-requires-in-Some-Asking-clause-fitting c =
    let f = c.in-Some-Asking.flow in
    let is : c.args.flight.now ≡ Some (Asking f) = c.in-Some-Asking.is ∙ ap (λ f. Some f) c.in-Some-Asking.field-0-is in
    let asked = c.requires.asked in
    subst (λ (x : AccessFlow). is_fitting x.ask c.args.answer ≡ true) (sym c.deref_mut-in-Some-Asking.ensures.value)
    (ap (λ j. is_fitting j c.args.answer) (wanting.access_asked f.value c.args.at asked.0 (ap (λ f. ask_in (jobs_of f) c.args.at) (sym is) ∙ asked.1)).own ∙ asked.2)

pub answered-requires-in-Some-Asking-clause-tree : goal.answered-requires-in-Some-Asking-clause-tree
answered-requires-in-Some-Asking-clause-tree c =
    let is : c.args.flight.now ≡ Some (Asking c.in-Some-Asking.flow) = c.in-Some-Asking.is ∙ ap (λ f. Some f) c.in-Some-Asking.field-0-is in
    subst (λ (x : AccessFlow). IsOfTree x) (sym c.deref_mut-in-Some-Asking.ensures.value) (subst (λ f. FlightFits f (length c.args.out.now)) is c.requires.fits).1

pub returns-in-Some-Asking-clause-goes : goal.returns-in-Some-Asking-clause-goes
returns-in-Some-Asking-clause-goes c = λ w patterns site trees closing job asked from reached.
    let f = c.in-Some-Asking.flow in
    let is : c.args.flight.now ≡ Some (Asking f) = c.in-Some-Asking.is ∙ ap (λ f. Some f) c.in-Some-Asking.field-0-is in
    let old = c.deref_mut-in-Some-Asking.result.now in
    let new = c.answered-in-Some-Asking.new.flow in
    let same = c.deref_mut-in-Some-Asking.ensures.value in
    let out = c.args.out.now in
    let told = c.answered-in-Some-Asking.ensures in
    let own = (wanting.access_asked f.value c.args.at job (ap (λ f. ask_in (jobs_of f) c.args.at) (sym is) ∙ asked)).own in
    subst (λ r. Continues site r (with_opened new.request.value.opened (access_left w patterns site trees new)) out out closing closing None None)
    (ap (λ (x : AccessFlow). with_opened x.request.value.opened (access_left w patterns site trees x)) same ∙ ap (λ f. flight_rest w patterns site f trees) (sym is))
    (goes.still_asked w patterns site trees old new out out closing
    (told.goes w patterns site trees (subst (λ (x : AccessFlow). IsFrom trees x.ask c.args.answer) (sym same) (subst (λ j. IsFrom trees j c.args.answer) (sym own) from))) told.same.opened refl)

pub returns-in-Some-Asking-clause-reached : goal.returns-in-Some-Asking-clause-reached
returns-in-Some-Asking-clause-reached c = λ w patterns site reached.
    let is = c.in-Some-Asking.is ∙ ap (λ f. Some f) c.in-Some-Asking.field-0-is in
    c.answered-in-Some-Asking.ensures.reached w patterns site
    (subst (λ (x : AccessFlow). AccessReached w patterns site x) (sym c.deref_mut-in-Some-Asking.ensures.value) (subst (FlightReached w patterns site) is reached))

pub returns-in-Some-Asking-clause-asked : goal.returns-in-Some-Asking-clause-asked
returns-in-Some-Asking-clause-asked c =
    let is : c.args.flight.now ≡ Some (Asking c.in-Some-Asking.flow) = c.in-Some-Asking.is ∙ ap (λ f. Some f) c.in-Some-Asking.field-0-is in
    let told = c.answered-in-Some-Asking.ensures in
    let own = (subst (λ f. FlightFits f (length c.args.out.now)) is c.requires.fits).1.1 in
    told.tree.1 ∙ (told.same.tree ∙ (ap (λ (x : AccessFlow). x.of) c.deref_mut-in-Some-Asking.ensures.value ∙ (sym own ∙ ap flight_tree (sym is))))
