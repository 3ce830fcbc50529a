use Rattle.std.proofs.Common.{option_map, ◌<◌, false, length, refl, sym, ap, ◌∙◌, subst, arith}
use Rattle.std.specs.Prelude.{IfSome, is_some, not}
use Rattle.file_tree.specs.Tree.{Trees}
use Rattle.pattern_search.specs.Found.{patterns_seen, found}
use Rattle.site_views.specs.Choice.{server_of}
use Rattle.site_whole.specs.Whole.{whole, server_whole}
use Rattle.answers_meaning.specs.Asking.{server_for, request_of}
use Rattle.request_meaning.specs.Laws.{shipped}
use Rattle.served_site.specs.request_phases.Rounds.{world_in}
use Rattle.response_flow.specs.request_opening.declared.asked.Opening.{Opening}
use Rattle.response_flow.specs.request_opening.Openings.{main_at}
use Rattle.response_flow.specs.request_flow.Terms.{terms_at}
use Rattle.response_flow.specs.request_flow.Rests.{opened_rest}
use Rattle.response_flow.specs.race_meaning.Named.{IsRaceless}
use Rattle.response_flow.specs.Continues.{IfOn, RunsOn}
use Rattle.response_flow.specs.Flights.{FlightReached, flight_tree}
use Rattle.served_site.specs.Served.{server_numbered}
use Rattle.http_connection.specs.Rests.{ReachedIn, Serves}
use Rattle.http_connection.specs.Steps.{Refuses, start_in}
use Rattle.http_connection.proofs.Opens.{opened_nowhere, opened_reached, opened_to}
use Rattle.http_connection.proofs.open.open.Goals as goal

pub returns-in_ok-start-in-Some-clause-opens : goal.returns-in_ok-start-in-Some-clause-opens
unfolding server_for
returns-in_ok-start-in-Some-clause-opens c =
    let x : Serves = record { patterns = c.args.space.now.patterns; served = c.args.served.now } in
    let m = c.args.meeting in
    let g = c.ground-ground.result in
    let ran = c.in_ok-start-in-Some.field-0 in
    let opening : Opening = record { head = c.args.head; local = m.local; peer = m.peer; moment = m.moment; tree = m.tree; before = c.args.before } in
    opened_to x m c.args.before c.args.head g c.in-Some.number c.ground-ground.ensures.site c.ground-ground.ensures.server (c.ground-ground.ensures.length ∙ c.stated_length.ensures)
    (sym (ap (option_map (server_numbered x.patterns x.served)) c.in-Some.is) ∙ (c.choose.ensures.chosen ∙ ap (server_of found (whole (patterns_seen x.patterns) x.served.site).servers m.local) c.as_slice.ensures))
    (subst (λ n. IfSome n (λ n. n < length x.served.site.servers.items)) c.in-Some.is c.choose.ensures.within)
    ran c.args.out.now c.start.new.out c.in_ok-start-in-Some.ensures.by
    (subst (λ ps. (trees : Trees) → IsRaceless (world_in ps g shipped).server →
    RunsOn (world_in ps g shipped) ps g.site.now trees (opened_rest (world_in ps g shipped) (trees m.tree) (terms_at opening) (main_at g opening) (request_of (server_whole (patterns_seen ps) g.site.now g.server.now) c.args.head)) c.args.out.now c.start.new.out false ran) c.choose.ensures.kept
    c.in_ok-start-in-Some.ensures.runs)

pub returns-in_ok-start-in-Some-clause-reached : goal.returns-in_ok-start-in-Some-clause-reached
returns-in_ok-start-in-Some-clause-reached c =
    let x : Serves = record { patterns = c.args.space.now.patterns; served = c.args.served.now } in
    let g = c.ground-ground.result in
    let ran = c.in_ok-start-in-Some.field-0 in
    opened_reached x g c.in-Some.number ran c.ground-ground.ensures.site c.ground-ground.ensures.server
    (subst (λ n. IfSome n (λ n. n < length x.served.site.servers.items)) c.in-Some.is c.choose.ensures.within)
    c.in_ok-start-in-Some.ensures.by
    (subst (λ ps. IfOn ran (λ o. FlightReached (world_in ps g shipped) ps g.site.now o.flight)) c.choose.ensures.kept c.in_ok-start-in-Some.ensures.reached)

pub returns-in_ok-refuse-in-None-clause-opens : goal.returns-in_ok-refuse-in-None-clause-opens
unfolding server_for
returns-in_ok-refuse-in-None-clause-opens c = λ raceless trees.
    let x : Serves = record { patterns = c.args.space.now.patterns; served = c.args.served.now } in
    let m = c.args.meeting in
    let o = c.in_ok-refuse-in-None.field-0 in
    opened_nowhere x trees m c.args.before c.args.head o.flight c.args.out.now c.refuse.new.out o.closing o.log o.level c.in_ok-refuse-in-None.ensures.level
    (sym (ap (option_map (server_numbered x.patterns x.served)) c.in-None.is) ∙ (c.choose.ensures.chosen ∙ ap (server_of found (whole (patterns_seen x.patterns) x.served.site).servers m.local) c.as_slice.ensures))
    (subst (λ b. Refuses 404 (start_in m) b o.flight c.args.out.now c.refuse.new.out o.closing o.log) c.is_head-no_body.ensures (c.in_ok-refuse-in-None.ensures.refuses (start_in m) refl))

pub returns-in_ok-refuse-in-None-clause-reached : goal.returns-in_ok-refuse-in-None-clause-reached
returns-in_ok-refuse-in-None-clause-reached c =
    let x : Serves = record { patterns = c.args.space.now.patterns; served = c.args.served.now } in
    let r = c.in_ok-refuse-in-None.ensures.refuses (start_in c.args.meeting) refl in
    subst (ReachedIn x) (sym r.over) tt

pub returns-in_ok-refuse-in-None-clause-over : goal.returns-in_ok-refuse-in-None-clause-over
returns-in_ok-refuse-in-None-clause-over c =
    let r = c.in_ok-refuse-in-None.ensures.refuses (start_in c.args.meeting) refl in
    ap is_some r.logged ∙ ap (λ f. not (is_some f)) (sym r.over)

pub returns-in_ok-refuse-in-None-clause-asked : goal.returns-in_ok-refuse-in-None-clause-asked
returns-in_ok-refuse-in-None-clause-asked c =
    let r = c.in_ok-refuse-in-None.ensures.refuses (start_in c.args.meeting) refl in
    let e = ap flight_tree r.over in
    omega (arith, e)
