use Rattle.std.proofs.Common.{◌≡◌, ◌+◌, ◌*◌, ◌≤◌, ◌<◌, true, [], None, Some, length, sym, ap, ◌∙◌, subst, arith}
use Rattle.std.specs.Prelude.{is_some, not}
use Rattle.request_meaning.specs.Laws.{shipped}
use Rattle.request_flow.specs.request_phases.Rounds.{world_in}
use Rattle.request_flow.specs.Flows.{flow_fits, flow_left, flow_most}
use Rattle.request_flow.specs.Pages.{AreOpened, GoesTo, IfAsks, IfOn as IfGoes, IfPage, IsServed, IsTold, closing_of, start_rest, tree_of_went}
use Rattle.request_flow.specs.Reached.{PageReached, WentReached}
use Rattle.request_flow.specs.Rests.{Follows}
use Rattle.request_flow.specs.Sents.{known_tree}
use Rattle.request_flow.specs.declared.page.PageStart.{PageStart}
use Rattle.response_flow.specs.Continues.{Continues, IfOn}
use Rattle.response_flow.specs.Flights.{FlightFits, FlightServedBy, alone_rest, flight_left, flight_rest, flight_tree, page_most, with_opened}
use Rattle.response_flow.proofs.Goes as goes
use Rattle.response_flow.proofs.Tails.{none_fits, ran_none, some_fits}
use Rattle.response_flow.proofs.Wents as wents
use Rattle.response_flow.proofs.run.went_on.Goals as goal

-- ---- it goes on alone

pub returns-in-On-clause-runs : goal.returns-in-On-clause-runs
returns-in-On-clause-runs c = λ trees before from first count raceless reached opened few to.
    let site = c.args.ground.now.site.now in
    let patterns = c.args.space.now.patterns in
    let w = world_in patterns c.args.ground.now shipped in
    let o = c.in-On.onward in
    let out = c.args.out.now in
    goes.same_said site (with_opened count before) (alone_rest w patterns site o.flow trees) _ from out first _ _ _ _ _ _
    (c.alone.ensures.rest w patterns site trees) c.alone.ensures.others.0 c.alone.ensures.others.1 c.alone.ensures.others.2
    (goes.alone_continues w patterns site trees before o.flow count from out first o.closing o.log o.level
    (subst (AreOpened count) c.in-On.is opened) few (subst (λ x. GoesTo w patterns site trees before from out first x) c.in-On.is to))

pub returns-in-On-clause-reached : goal.returns-in-On-clause-reached
returns-in-On-clause-reached c = λ reached.
    let site = c.args.ground.now.site.now in
    let patterns = c.args.space.now.patterns in
    let w = world_in patterns c.args.ground.now shipped in
    c.alone.ensures.reached w patterns site (subst (WentReached w patterns site) c.in-On.is reached)

pub returns-in-On-clause-over : goal.returns-in-On-clause-over
returns-in-On-clause-over c =
    let others = c.alone.ensures.others in
    ap is_some others.1 ∙ (subst (λ x. IfGoes x (λ o. is_some o.log ≡ not (is_some o.flow))) c.in-On.is c.requires.over ∙ ap not (sym others.3))

pub returns-in-On-clause-fits : goal.returns-in-On-clause-fits
returns-in-On-clause-fits c =
    let few = c.requires.few in
    let size = length c.args.out.now in
    c.alone.ensures.fits size few.0 (subst (λ x. IfGoes x (λ o. flow_fits o.flow size ≡ true)) c.in-On.is c.requires.fits)
    (subst (AreOpened few.0) c.in-On.is few.1) few.2

pub returns-in-On-clause-lowers : goal.returns-in-On-clause-lowers
returns-in-On-clause-lowers c = λ top on asks.
    let size = length c.args.out.now in
    let left = c.alone.ensures.left size in
    let h = subst (λ x. IfGoes x (λ o. size + flow_left o.flow size < top)) c.in-On.is on in
    omega (arith, left, h)

pub returns-in-On-clause-by : goal.returns-in-On-clause-by
returns-in-On-clause-by c = λ server length served. c.alone.ensures.by server length (subst (IsServed server length) c.in-On.is served)

pub returns-in-On-clause-tail : goal.returns-in-On-clause-tail
returns-in-On-clause-tail c = none_fits None c.alone.result.flight c.alone.result.tail c.args.out.now (c.alone.ensures.tail c.args.out.now)

-- ---- it asks a subrequest whether it is let in

pub returns-in_ok-asking-in-Asks-clause-runs : goal.returns-in_ok-asking-in-Asks-clause-runs
returns-in_ok-asking-in-Asks-clause-runs c = λ trees before from first count raceless reached opened few to.
    let site = c.args.ground.now.site.now in
    let patterns = c.args.space.now.patterns in
    let w = world_in patterns c.args.ground.now shipped in
    let o = c.in_ok-asking-in-Asks.field-0 in
    let out = c.args.out.now in
    subst (λ n. Continues site (with_opened n before) (flight_rest w patterns site o.flight trees) from out first o.closing o.log o.level) (subst (AreOpened count) c.in-Asks.is opened)
    (c.in_ok-asking-in-Asks.ensures.goes patterns trees before from out first (subst (λ x. GoesTo w patterns site trees before from out first x) c.in-Asks.is to))

pub returns-in_ok-asking-in-Asks-clause-reached : goal.returns-in_ok-asking-in-Asks-clause-reached
returns-in_ok-asking-in-Asks-clause-reached c = λ reached.
    let site = c.args.ground.now.site.now in
    let patterns = c.args.space.now.patterns in
    let w = world_in patterns c.args.ground.now shipped in
    c.in_ok-asking-in-Asks.ensures.reached patterns (subst (WentReached w patterns site) c.in-Asks.is reached)

pub returns-in_ok-asking-in-Asks-clause-over : goal.returns-in_ok-asking-in-Asks-clause-over
returns-in_ok-asking-in-Asks-clause-over c =
    let over = c.in_ok-asking-in-Asks.ensures.over in
    ap is_some over.1 ∙ sym (ap not over.0)

pub returns-in_ok-asking-in-Asks-clause-fits : goal.returns-in_ok-asking-in-Asks-clause-fits
returns-in_ok-asking-in-Asks-clause-fits c =
    let none = subst (λ x. IfAsks x (λ a. c.args.out.now ≡ [])) c.in-Asks.is c.requires.asks in
    subst (λ b. FlightFits c.in_ok-asking-in-Asks.field-0.flight (length b)) (sym none) c.in_ok-asking-in-Asks.ensures.fits

pub returns-in_ok-asking-in-Asks-clause-lowers : goal.returns-in_ok-asking-in-Asks-clause-lowers
returns-in_ok-asking-in-Asks-clause-lowers c = λ top on asks.
    let none = subst (λ x. IfAsks x (λ a. c.args.out.now ≡ [])) c.in-Asks.is c.requires.asks in
    let h = subst (λ x. IfAsks x (λ a. flow_most + 2 * a.request.value.questions + 2 < top)) c.in-Asks.is asks in
    let e = c.in_ok-asking-in-Asks.ensures.lowers in
    subst (λ b. length b + flight_left c.in_ok-asking-in-Asks.field-0.flight (length b) < page_most + top) (sym none) (omega (arith, e, h))

pub returns-in_ok-asking-in-Asks-clause-by : goal.returns-in_ok-asking-in-Asks-clause-by
returns-in_ok-asking-in-Asks-clause-by c = λ server length served.
    let s = subst (IsServed server length) c.in-Asks.is served in
    let f = c.in_ok-asking-in-Asks.field-0.flight in
    let r = c.in-Asks.start.request.value in
    subst (λ n. FlightServedBy n length f) s.0 (subst (λ n. FlightServedBy r.server n f) s.1 c.in_ok-asking-in-Asks.ensures.by)

pub returns-in_ok-asking-in-Asks-clause-asked : goal.returns-in_ok-asking-in-Asks-clause-asked
returns-in_ok-asking-in-Asks-clause-asked c =
    let e = c.in_ok-asking-in-Asks.ensures.asked in
    subst (λ x. flight_tree c.in_ok-asking-in-Asks.field-0.flight ≤ tree_of_went x) (sym c.in-Asks.is) (omega (arith, e))

pub returns-in_ok-asking-in-Asks-clause-closes : goal.returns-in_ok-asking-in-Asks-clause-closes
returns-in_ok-asking-in-Asks-clause-closes c = λ h. c.in_ok-asking-in-Asks.ensures.closes ∙ subst (λ x. closing_of x ≡ true) c.in-Asks.is h

pub returns-in_ok-asking-in-Asks-clause-tail : goal.returns-in_ok-asking-in-Asks-clause-tail
returns-in_ok-asking-in-Asks-clause-tail c =
    let o = c.in_ok-asking-in-Asks.field-0 in
    some_fits o.flight o.tail c.args.out.now c.in_ok-asking-in-Asks.ensures.over.0 c.in_ok-asking-in-Asks.ensures.tail

-- ---- its page begins

pub opens-requires-clause-unsent : goal.opens-requires-clause-unsent
opens-requires-clause-unsent c = (subst (λ x. IfPage x (λ p. (c.args.out.now ≡ []) × IsTold p.page)) c.in-Page.is c.requires.pages).0

pub opens-requires-clause-told : goal.opens-requires-clause-told
opens-requires-clause-told c =
    subst (λ (p : PageStart). IsTold p.page) (sym c.into_inner.ensures) (subst (λ x. IfPage x (λ p. (c.args.out.now ≡ []) × IsTold p.page)) c.in-Page.is c.requires.pages).1

pub returns-in_ok-opens-in-Page-clause-runs : goal.returns-in_ok-opens-in-Page-clause-runs
returns-in_ok-opens-in-Page-clause-runs c = λ trees before from first count raceless reached opened few to.
    let site = c.args.ground.now.site.now in
    let patterns = c.args.space.now.patterns in
    let w = world_in patterns c.args.ground.now shipped in
    let p = c.into_inner.result in
    let same = sym c.into_inner.ensures in
    let out = c.args.out.now in
    let none = (subst (λ x. IfPage x (λ p. (out ≡ []) × IsTold p.page)) c.in-Page.is c.requires.pages).0 in
    let follows = subst (λ (p : PageStart). Follows site before (start_rest w patterns site trees p) from out first p.closing None (Some p.level)) same
    (subst (λ x. GoesTo w patterns site trees before from out first x) c.in-Page.is to) in
    c.in_ok-opens-in-Page.ensures.runs trees (with_opened count before) from first
    raceless (subst (PageReached w patterns site) same (subst (WentReached w patterns site) c.in-Page.is reached))
    (goes.counted site before (start_rest w patterns site trees p) count p.request.value.opened from [] first p.closing None (Some p.level)
    (subst (λ (p : PageStart). p.request.value.opened ≡ count) same (subst (AreOpened count) c.in-Page.is opened))
    (subst (λ b. Follows site before (start_rest w patterns site trees p) from b first p.closing None (Some p.level)) none follows))

pub returns-in_ok-opens-in-Page-clause-reached : goal.returns-in_ok-opens-in-Page-clause-reached
returns-in_ok-opens-in-Page-clause-reached c = λ reached.
    let site = c.args.ground.now.site.now in
    let patterns = c.args.space.now.patterns in
    let w = world_in patterns c.args.ground.now shipped in
    c.in_ok-opens-in-Page.ensures.reached (subst (PageReached w patterns site) (sym c.into_inner.ensures) (subst (WentReached w patterns site) c.in-Page.is reached))

pub returns-in_ok-opens-in-Page-clause-lowers : goal.returns-in_ok-opens-in-Page-clause-lowers
returns-in_ok-opens-in-Page-clause-lowers c = λ top on asks.
    let out = c.opens.new.out in
    goes.lower c.in_ok-opens-in-Page.field-0 (λ o. length out + flight_left o.flight (length out)) page_most (page_most + top) (omega arith) c.in_ok-opens-in-Page.ensures.lowers

pub returns-in_ok-opens-in-Page-clause-by : goal.returns-in_ok-opens-in-Page-clause-by
returns-in_ok-opens-in-Page-clause-by c = λ server length served.
    let ran = c.in_ok-opens-in-Page.field-0 in
    let p = c.into_inner.result in
    let s = subst (λ (p : PageStart). (p.request.value.server ≡ server) × (p.request.value.length ≡ length)) (sym c.into_inner.ensures) (subst (IsServed server length) c.in-Page.is served) in
    subst (λ n. IfOn ran (λ o. FlightServedBy n length o.flight)) s.0
    (subst (λ n. IfOn ran (λ o. FlightServedBy p.request.value.server n o.flight)) s.1 c.in_ok-opens-in-Page.ensures.by)

pub returns-in_ok-opens-in-Page-clause-asked : goal.returns-in_ok-opens-in-Page-clause-asked
returns-in_ok-opens-in-Page-clause-asked c =
    let ran = c.in_ok-opens-in-Page.field-0 in
    subst (λ x. IfOn ran (λ o. flight_tree o.flight ≤ tree_of_went x)) (sym c.in-Page.is)
    (subst (λ (p : PageStart). IfOn ran (λ o. flight_tree o.flight ≤ known_tree p.page.known)) c.into_inner.ensures c.in_ok-opens-in-Page.ensures.asked)

pub returns-in_ok-opens-in-Page-clause-closes : goal.returns-in_ok-opens-in-Page-clause-closes
returns-in_ok-opens-in-Page-clause-closes c = λ h.
    wents.closes_on c.in_ok-opens-in-Page.field-0 c.into_inner.result.closing
    (subst (λ (p : PageStart). p.closing ≡ true) (sym c.into_inner.ensures) (subst (λ x. closing_of x ≡ true) c.in-Page.is h)) c.in_ok-opens-in-Page.ensures.closes

pub returns-in_ok-opens-in-Page-clause-tail : goal.returns-in_ok-opens-in-Page-clause-tail
returns-in_ok-opens-in-Page-clause-tail c = ran_none _ c.in_ok-opens-in-Page.field-0 c.opens.new.out c.in_ok-opens-in-Page.ensures.tail
