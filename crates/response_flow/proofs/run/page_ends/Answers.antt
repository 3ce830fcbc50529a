use Rattle.std.proofs.Common.{◌≡◌, [], None, Some, sym, ap, ◌∙◌, subst}
use Rattle.std.specs.Prelude.{is_some}
use Rattle.page_response.specs.Pages.{IsAllOver}
use Rattle.page_response.specs.declared.pages.Pages.{Pages}
use Rattle.response_flow.specs.Continues.{Continues, IfOn, RunsOn}
use Rattle.response_flow.specs.Flights.{TailFits, page_left}
use Rattle.response_flow.proofs.Goes.{page_in}
use Rattle.response_flow.proofs.Tails.{over_tail, page_fits}
use Rattle.response_flow.proofs.run.page_ends.Goals as goal

pub returns-clause-ends : goal.returns-clause-ends
returns-clause-ends c = λ p w patterns site trees before from first is over continues.
    let page = c.in-Some-Page.page in
    let same = sym is ∙ (sym c.take.ensures.taken ∙ (c.in-Some-Page.is ∙ ap (λ f. Some f) c.in-Some-Page.field-0-is)) in
    let inner : p.pages.value ≡ c.into_inner.result = ap (λ f. (page_in f page).pages.value) same ∙ sym c.into_inner.ensures in
    subst (RunsOn w patterns site trees before from c.ends.new.out first) (sym c.goes_on.ensures)
    (c.in_ok-onward-in-Some-Page.ensures.ends w patterns site trees before from first (subst (IsAllOver w patterns site trees) inner over)
    (subst (λ x. Continues site before (page_left w patterns site trees x) from [] first c.args.closing None None) inner continues))

pub returns-clause-tail : goal.returns-clause-tail
returns-clause-tail c =
    let page = c.in-Some-Page.page in
    let is = sym c.take.ensures.taken ∙ (c.in-Some-Page.is ∙ ap (λ f. Some f) c.in-Some-Page.field-0-is) in
    let o = c.in_ok-onward-in-Some-Page.onward in
    let e = c.in_ok-onward-in-Some-Page.ensures in
    let out = c.ends.new.out in
    subst (λ ran. IfOn ran (λ o. TailFits c.args.flight.now o.flight o.tail out)) (sym c.goes_on.ensures)
    (subst (λ f. TailFits f o.flight o.tail out) (sym is)
    (page_fits page o.flight o.tail out (over_tail page.pages.value.outgoing.block c.into_inner.result.outgoing.block o.flight o.tail out (ap (λ (x : Pages). is_some x.outgoing.block) c.into_inner.ensures) e.over.0 e.tail)))
