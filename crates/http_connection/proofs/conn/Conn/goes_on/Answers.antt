use Rattle.std.proofs.Common.{◌≡◌, true, Some, [], inl, refl, sym, ap, ◌∙◌, subst, arith}
use Rattle.std.specs.Prelude.{is_some}
use Rattle.ngx_outside.specs.Views.{Goes}
use Rattle.ngx_outside.specs.Views.Ground.{Raceless}
use Rattle.ngx_outside.specs.declared.event.StopCause.TheVariants as stop
use Rattle.http_connection.specs.Conn.{ready_at, PaceRan}
use Rattle.http_connection.specs.Steps.{IsLogged}
use Rattle.http_connection.proofs.Moves.{goes_halts, goes_went, goes_left, refused, stopped_left, waits_live, same_length, not_over}
use Rattle.http_connection.proofs.Kept.{never, none_fits}
use Rattle.http_connection.proofs.Going.{Runs, on_by, on_runs, over_runs, runs_of, ran_keeps, ran_level, ran_over, ran_reached}
use Rattle.http_connection.proofs.Opens.{level_is}
use Rattle.http_connection.proofs.Readies.{ready_contains, ready_flying}
use Rattle.served_site.specs.Served.{raw_server}
use Rattle.http_connection.proofs.Timed.{went_until, ran_until, refused_until, marks_if, mark_rests}
use Rattle.http_connection.proofs.Tails.{fits_tail, stopped_tail}
use Rattle.http_connection.proofs.conn.Conn.goes_on.Goals as goal
use Rattle.http_connection.specs.Rests.{ReachedIn, Serves, service_in, rest_in, values_at}
use Rattle.response_flow.specs.Continues.{ran_in}
use Rattle.response_flow.specs.subrequests.Wants.{is_among}
use Rattle.request_meaning.specs.Laws.{shipped}
use Rattle.served_site.specs.request_phases.Rounds.{world_in}
use Rattle.response_flow.specs.Flights.{FlightReached, flight_tree, ready_of}
use Rattle.response_flow.specs.declared.flight.Onward.{Onward}
use Rattle.response_flow.specs.declared.flight.Ran.TheVariants.{On}

pub finish-requires : goal.finish-requires
finish-requires c =
    let s = c.args.self.now in
    let is : s.flight ≡ Some c.in-Some.flight = c.in-Some.is in
    subst (λ b. IsLogged b s.journal.past.entries) (ap is_some is) (s.logged (waits_live s.cause s.flight c.in-Some.flight s.quit is))

pub run_in_place-requires-clause-runs : goal.run_in_place-requires-clause-runs
run_in_place-requires-clause-runs c =
    let s = c.args.self.now in
    subst (λ f. is_among c.args.node (ready_of f) ≡ true) (sym c.in-Some.is)
    (ready_flying (is_some s.cause) s.flight c.in-Some.flight s.closing s.out s.body s.next c.args.node (c.in-Some.is) c.requires.ready)

pub returns-in-Ok-On-clause-steps : goal.returns-in-Ok-On-clause-steps
returns-in-Ok-On-clause-steps c = λ now conn.
    let s = c.args.self.now in
    let x : Serves = record { patterns = c.args.space.now.patterns; served = c.args.served.now } in
    let service = service_in x s.local s.peer in
    let flight = c.in-Some.flight in
    let f' = c.run_in_place.new.flight in
    let ran = ran_in f' c.in-Ok-On.field-0 in
    let onward : Onward = record { flight = f'; closing = c.in-Ok-On.closing; log = c.in-Ok-On.log; level = c.in-Ok-On.level; tail = c.in-Ok-On.tail } in
    let on : ran ≡ On onward = ap (ran_in f') c.in-Ok-On.field-0-is in
    let is : s.flight ≡ Some flight = c.in-Some.is in
    let live = waits_live s.cause s.flight flight s.quit is in
    let starts = c.finish.ensures.starts in
    let p : onward.flight ≡ f' = refl in
    let g = c.ground-ground.result in
    let over = on_by _ ran onward on c.in-Ok-On.ensures.over in
    let by = on_by _ ran onward on (c.in-Ok-On.ensures.by flight is) in
    let lowers = on_by _ ran onward on c.in-Ok-On.ensures.lowers in
    let asked = on_by _ ran onward on c.in-Ok-On.ensures.asked in
    let closes = on_by _ ran onward on c.in-Ok-On.ensures.closes in
    let runs : Runs x g s.flight flight = record { is = is; site = c.ground-ground.ensures.site; server = c.ground-ground.ensures.server ∙ ap (raw_server x.served) c.server_of.ensures; size = c.ground-ground.ensures.length ∙ c.length_of.ensures } in
    record {
      own = λ tells led course. (
        ready_contains (ready_at (is_some s.cause) s.flight s.closing s.out s.body s.next) c.args.node c.requires.ready,
        Goes [] (inl refl) (went_until _ _ _ _ _ [] [] [] (goes_went x (Raceless x.served.raceless) service s.cause s.flight f' s.out c.run_in_place.new.out s.tail onward.tail s.journal.past.entries c.finish.new.journal.past.entries s.closing onward.closing s.ended s.body s.buffered s.next onward.log live (same_length s.journal.past.entries c.finish.new.journal.past.entries starts) starts c.finish.ensures.log
            (subst (λ b. IsLogged b c.finish.new.journal.past.entries) (not_over (is_some onward.log) (is_some onward.flight) over ∙ ap is_some p) c.finish.ensures.logged)
            (λ trees told. ran_keeps x g s.flight flight onward f' s.out c.run_in_place.new.out s.closing trees p runs by (λ raceless reached. on_runs _ _ _ _ _ _ _ _ ran onward on (runs_of _ _ _ trees s.flight flight _ _ _ ran is (c.in-Ok-On.ensures.runs trees raceless) reached)) tells led told))),
      );
      reached = λ led. ran_reached x g s.flight flight onward.flight f' p runs by (λ reached. on_by _ ran onward on (c.in-Ok-On.ensures.reached (subst (FlightReached (world_in x.patterns g shipped) x.patterns g.site.now) (sym is) reached))) led;
      left = goes_left s.cause s.flight f' s.out c.run_in_place.new.out s.closing onward.closing s.buffered live closes lowers;
      ended = refl;
      taken = refl;
      asked = inl asked;
      keeps = c.finish.ensures.keeps;
      tail = λ alive. on_by _ ran onward on c.in-Ok-On.ensures.tail;
    }

pub returns-in-Ok-TooMany-clause-steps : goal.returns-in-Ok-TooMany-clause-steps
returns-in-Ok-TooMany-clause-steps c = λ now conn.
    let s = c.args.self.now in
    let x : Serves = record { patterns = c.args.space.now.patterns; served = c.args.served.now } in
    let service = service_in x s.local s.peer in
    let flight = c.in-Some.flight in
    let is : s.flight ≡ Some flight = c.in-Some.is in
    let live = waits_live s.cause s.flight flight s.quit is in
    let g = c.ground-ground.result in
    let was' = c.run_in_place.new.flight in
    let ran = ran_in was' c.in-Ok-TooMany.field-0 in
    let f' = c.put.new.slot in
    let out' = c.clear.new.self in
    let runs : Runs x g s.flight flight = record { is = is; site = c.ground-ground.ensures.site; server = c.ground-ground.ensures.server ∙ ap (raw_server x.served) c.server_of.ensures; size = c.ground-ground.ensures.length ∙ c.length_of.ensures } in
    record {
      own = λ tells led course. ran_until _ _ _ now c.args.node _ _ (
        ready_contains (ready_at (is_some s.cause) s.flight s.closing s.out s.body s.next) c.args.node c.requires.ready,
        goes_halts x now service 1000 s.cause s.flight f' s.out out' s.tail s.tail s.journal.past.entries s.journal.past.entries s.closing s.closing s.ended s.ended s.body s.body s.buffered s.buffered s.next s.next live c.put.ensures c.clear.ensures refl
            (λ told trees. ran_over x g s.flight flight trees runs (λ raceless reached. over_runs _ _ _ _ _ _ _ _ ran (ap (ran_in was') c.in-Ok-TooMany.field-0-is) (runs_of _ _ _ trees s.flight flight _ _ _ ran is (c.in-Ok-TooMany.ensures.runs trees raceless) reached)) tells led told),
      );
      reached = λ led. ∣ subst (ReachedIn x) (sym c.put.ensures) tt ∣₁;
      left = stopped_left (stop.SubLimit 1000) s.cause s.flight f' s.out out' s.closing s.closing s.buffered s.buffered live;
      ended = refl;
      taken = refl;
      asked = inl (let e = ap flight_tree c.put.ensures in omega (arith, e));
      keeps = refl;
      tail = λ alive. cc;
    }

pub returns-in-Err-clause-steps : goal.returns-in-Err-clause-steps
returns-in-Err-clause-steps c = λ now conn.
    let s = c.args.self.now in
    let x : Serves = record { patterns = c.args.space.now.patterns; served = c.args.served.now } in
    let service = service_in x s.local s.peer in
    let is : s.flight ≡ Some c.in-Some.flight = c.in-Some.is in
    let live = waits_live s.cause s.flight c.in-Some.flight s.quit is in
    record {
      own = λ tells led course. refused_until _ _ now _ _ (refused x now service s.cause s.flight c.put-in-Err.new.slot s.out c.clear-in-Err.new.self s.tail s.tail s.journal.past.entries s.journal.past.entries s.closing s.closing s.ended s.ended s.body s.body s.buffered s.buffered s.next s.next live c.put-in-Err.ensures c.clear-in-Err.ensures refl);
      reached = λ led. ∣ subst (ReachedIn x) (sym c.put-in-Err.ensures) tt ∣₁;
      left = stopped_left stop.Memory s.cause s.flight c.put-in-Err.new.slot s.out c.clear-in-Err.new.self s.closing s.closing s.buffered s.buffered live;
      ended = refl;
      taken = tt;
      asked = inl (let e = ap flight_tree c.put-in-Err.ensures in omega (arith, e));
      keeps = refl;
      tail = refl;
    }

pub returns-in-Ok-On-clause-times : goal.returns-in-Ok-On-clause-times
returns-in-Ok-On-clause-times c = λ now conn m.
    let s = c.args.self.now in
    let x : Serves = record { patterns = c.args.space.now.patterns; served = c.args.served.now } in
    let flight = c.in-Some.flight in
    let f' = c.run_in_place.new.flight in
    let ran = ran_in f' c.in-Ok-On.field-0 in
    let onward : Onward = record { flight = f'; closing = c.in-Ok-On.closing; log = c.in-Ok-On.log; level = c.in-Ok-On.level; tail = c.in-Ok-On.tail } in
    let on : ran ≡ On onward = ap (ran_in f') c.in-Ok-On.field-0-is in
    let is : s.flight ≡ Some flight = c.in-Some.is in
    let g = c.ground-ground.result in
    let by = on_by _ ran onward on (c.in-Ok-On.ensures.by flight is) in
    let runs : Runs x g (Some flight) flight = record { is = refl; site = c.ground-ground.ensures.site; server = c.ground-ground.ensures.server ∙ ap (raw_server x.served) c.server_of.ensures; size = c.ground-ground.ensures.length ∙ c.length_of.ensures } in
    record {
      mark = marks_if s.times.mark c.args.moment now.moment c.marked-self-in-Ok-On.result _ _ _ _ _ _ _ _ c.marked-self-in-Ok-On.ensures m c.sending_if-before.ensures.pending c.sending_if-before.ensures.in_flight c.sending_if-after.ensures.pending c.sending_if-after.ensures.in_flight;
      wrote = refl;
      filled = refl;
      head = refl;
      pace = λ alive. subst (λ f. PaceRan x now f s c.run_in_place.new.flight c.paced_on.new.pace) (sym is) (record {
        told = values_at c.args.served.now onward.level;
        pace = c.paced_on.ensures.pace;
        level = λ so trees. sym (level_is x onward.level (rest_in x c.run_in_place.new.flight trees).values)
            ∙ (ran_level x g (Some flight) flight onward c.run_in_place.new.flight s.out c.run_in_place.new.out s.closing trees refl runs by (λ raceless reached. on_runs _ _ _ _ _ _ _ _ ran onward on (runs_of _ _ _ trees s.flight flight _ _ _ ran is (c.in-Ok-On.ensures.runs trees raceless) reached)) so.0 so.1).level;
      });
    }

pub returns-in-Ok-TooMany-clause-times : goal.returns-in-Ok-TooMany-clause-times
returns-in-Ok-TooMany-clause-times c = λ now conn m.
    let s = c.args.self.now in
    record {
      mark = mark_rests s.times.mark c.args.moment now.moment c.marked-self.result _ _ _ _ c.put.new.slot c.clear.new.self s.tail c.marked-self.ensures m c.sending_if-before.ensures.pending c.sending_if-before.ensures.in_flight c.put.ensures c.clear.ensures;
      wrote = refl;
      filled = refl;
      head = refl;
      pace = λ alive. cc;
    }

pub invariant_of-self-in-Ok-On : goal.invariant_of-self-in-Ok-On
invariant_of-self-in-Ok-On c =
    let s = c.args.self.now in
    let flight = c.in-Some.flight in
    let f' = c.run_in_place.new.flight in
    let ran = ran_in f' c.in-Ok-On.field-0 in
    let onward : Onward = record { flight = f'; closing = c.in-Ok-On.closing; log = c.in-Ok-On.log; level = c.in-Ok-On.level; tail = c.in-Ok-On.tail } in
    let on : ran ≡ On onward = ap (ran_in f') c.in-Ok-On.field-0-is in
    let is : s.flight ≡ Some flight = c.in-Some.is in
    let live = waits_live s.cause s.flight flight s.quit is in
    record {
      looked = s.looked;
      dropped = λ h. never (is_some s.cause) live h;
      quit = λ h. never (is_some s.cause) live h;
      flying = on_by _ ran onward on c.in-Ok-On.ensures.fits;
      few = s.few;
      drained = s.drained;
      unended = s.unended;
      logged = λ h. subst (λ b. IsLogged b c.finish.new.journal.past.entries) (not_over (is_some onward.log) (is_some onward.flight) (on_by _ ran onward on c.in-Ok-On.ensures.over)) c.finish.ensures.logged;
      brief = c.paced_on.ensures.least;
      tailed = fits_tail s.flight f' onward.tail c.run_in_place.new.out (on_by _ ran onward on c.in-Ok-On.ensures.tail);
    }

pub invariant_of-self : goal.invariant_of-self
invariant_of-self c =
    let s = c.args.self.now in
    record {
      looked = λ h. cc;
      dropped = λ h. c.clear.ensures;
      quit = λ h. c.put.ensures;
      flying = none_fits c.put.new.slot c.clear.new.self c.put.ensures c.clear.ensures;
      few = s.few;
      drained = s.drained;
      unended = s.unended;
      logged = λ h. cc;
      brief = s.brief;
      tailed = stopped_tail s.flight c.put.new.slot s.tail s.out c.clear.new.self c.put.ensures c.clear.ensures s.tailed;
    }

pub invariant_of-self-in-Err : goal.invariant_of-self-in-Err
invariant_of-self-in-Err c =
    let s = c.args.self.now in
    record {
      looked = λ h. cc;
      dropped = λ h. c.clear-in-Err.ensures;
      quit = λ h. c.put-in-Err.ensures;
      flying = none_fits c.put-in-Err.new.slot c.clear-in-Err.new.self c.put-in-Err.ensures c.clear-in-Err.ensures;
      few = s.few;
      drained = s.drained;
      unended = s.unended;
      logged = λ h. cc;
      brief = s.brief;
      tailed = stopped_tail s.flight c.put-in-Err.new.slot s.tail s.out c.clear-in-Err.new.self c.put-in-Err.ensures c.clear-in-Err.ensures s.tailed;
    }

pub returns-in-Err-clause-times : goal.returns-in-Err-clause-times
returns-in-Err-clause-times c = λ now conn m. record { mark = refl; wrote = refl; filled = refl; head = refl; pace = refl }
