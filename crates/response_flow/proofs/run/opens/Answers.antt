use Rattle.std.proofs.Common.{◌≤◌, ◌+◌, [], Some, length, refl, sym, subst}
use Rattle.response_flow.specs.Continues.{IfOn}
use Rattle.response_flow.specs.Flights.{TailIn, flight_left, flight_tree}
use Rattle.response_flow.proofs.Goes as goes
use Rattle.response_flow.proofs.run.opens.Goals as goal

pub run_page-requires-clause-whole : goal.run_page-requires-clause-whole
run_page-requires-clause-whole c = (c.in_ok-page.ensures.opens c.args.space.now.patterns).whole

pub run_page-requires-clause-bounded : goal.run_page-requires-clause-bounded
run_page-requires-clause-bounded c = (c.in_ok-page.ensures.opens c.args.space.now.patterns).bounded

pub returns-clause-runs : goal.returns-clause-runs
returns-clause-runs c = λ trees before from first raceless reached continues.
    let site = c.args.ground.now.site.now in
    let start = c.args.start in
    let o = c.in_ok-page.ensures.opens c.args.space.now.patterns in
    c.in_ok-run_page.ensures.runs trees before from first raceless (o.reached reached)
    (goes.moved site before _ _ from [] [] first start.closing (Some start.level) (sym (o.same trees raceless reached)) refl continues)

pub returns-clause-reached : goal.returns-clause-reached
returns-clause-reached c = λ reached. c.in_ok-run_page.ensures.reached ((c.in_ok-page.ensures.opens c.args.space.now.patterns).reached reached)

pub returns-clause-lowers : goal.returns-clause-lowers
returns-clause-lowers c =
    goes.lower c.in_ok-run_page.field-0 (λ o. length c.run_page.new.out + flight_left o.flight (length c.run_page.new.out)) _ _
    (c.in_ok-page.ensures.opens c.args.space.now.patterns).few c.in_ok-run_page.ensures.lowers

pub returns-clause-asked : goal.returns-clause-asked
returns-clause-asked c =
    subst (λ n. IfOn c.in_ok-run_page.field-0 (λ o. flight_tree o.flight ≤ n)) (c.in_ok-page.ensures.opens c.args.space.now.patterns).tree c.in_ok-run_page.ensures.asked

pub returns-clause-tail : goal.returns-clause-tail
returns-clause-tail c =
    subst (λ b. IfOn c.in_ok-run_page.field-0 (λ o. TailIn b o.flight o.tail c.run_page.new.out)) c.in_ok-page.ensures.kind c.in_ok-run_page.ensures.tail
