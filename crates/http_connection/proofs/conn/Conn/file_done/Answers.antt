use Rattle.std.proofs.Common.{◌≡◌, [], Some, inl, refl, sym, ap, ◌∙◌, subst, true, None, arith}
use Rattle.std.specs.Prelude.{is_some, option_copied}
use Rattle.std.proofs.lemmas.List.{append-nil}
use Rattle.file_tree.specs.Tree.{is_fitting}
use Rattle.ngx_outside.specs.Views.{ask_in}
use Rattle.ngx_outside.specs.Views.Ground.{Answers}
use Rattle.ngx_outside.specs.declared.event.StopCause.TheVariants as stop
use Rattle.http_connection.specs.Steps.{logged_in, IsLogged}
use Rattle.http_connection.proofs.Moves.{goes_went, goes_left, refused, stopped_left, waits_live}
use Rattle.http_connection.proofs.Kept.{never, none_fits}
use Rattle.http_connection.proofs.Going.{flies_by, flight_of, told_in_place, told_keeps, told_reached}
use Rattle.http_connection.proofs.Timed.{went_until, refused_until, marks_if}
use Rattle.http_connection.proofs.Tails.{flying_tail, stopped_tail}
use Rattle.http_connection.proofs.conn.Conn.file_done.Goals as goal
use Rattle.http_connection.specs.Rests.{ReachedIn, service_in, world_of}
use Rattle.response_flow.specs.Flights.{FlightReached, FlightServedBy, flight_length, flight_server, flight_tree, jobs_of}

pub answered-requires-clause-some : goal.answered-requires-clause-some
answered-requires-clause-some c =
    let s = c.args.self.now in
    ap is_some (flies_by s.flight c.args.node c.in-Some.ask.now (sym c.ask.ensures ∙ ap option_copied c.in-Some.is)).1

pub answered-requires-clause-asked : goal.answered-requires-clause-asked
answered-requires-clause-asked c =
    let s = c.args.self.now in
    let asks : ask_in (jobs_of s.flight) c.args.node ≡ Some c.in-Some.ask.now = sym c.ask.ensures ∙ ap option_copied c.in-Some.is in
    (c.in-Some.ask.now, asks, sym c.is_fitting.ensures ∙ c.if-not-is_fitting.false)

pub returns-in-Ok-clause-steps : goal.returns-in-Ok-clause-steps
returns-in-Ok-clause-steps c = λ x now conn.
    let s = c.args.self.now in
    let service = service_in x s.local s.peer in
    let job = c.in-Some.ask.now in
    let asks : ask_in (jobs_of s.flight) c.args.node ≡ Some job = sym c.ask.ensures ∙ ap option_copied c.in-Some.is in
    let flies = flies_by s.flight c.args.node job asks in
    let flight = flies.0 in
    let is : s.flight ≡ Some flight = flies.1 in
    let live = waits_live s.cause s.flight flight s.quit is in
    let fits : is_fitting job c.args.answer ≡ true = sym c.is_fitting.ensures ∙ c.if-not-is_fitting.false in
    let told = c.in-Ok.ensures in
    let f' = c.answered.new.flight in
    let out' = c.answered.new.out in
    let there = flight_of f' told.flies in
    let p : Some there.0 ≡ f' = there.1 in
    let by = subst (FlightServedBy (flight_server flight) (flight_length flight)) (sym p) (told.by flight is) in
    record {
      own = λ tells led course. record {
        ask = job;
        waits = asks;
        fits = fits;
        went = went_until _ _ _ _ _ [] [] [] (goes_went x (Answers job c.args.answer) service s.cause s.flight f' s.out out' s.tail s.tail s.journal.past.entries s.journal.past.entries s.closing s.closing s.ended s.body s.buffered s.next None live refl refl (sym (append-nil (logged_in s.journal.past.entries))) (subst (λ b. IsLogged b s.journal.past.entries) (ap is_some is ∙ ap is_some p) (s.logged live))
            (λ trees from. told_keeps x s.flight flight there.0 f' s.out out' s.closing trees is p by
            (told_in_place x s.flight flight there.0 f' s.out out' s.closing trees is p (told.goes (world_of x flight) x.patterns x.served.site trees s.closing job asks from)) led));
      };
      reached = λ led. told_reached x s.flight flight there.0 f' is p by
          (λ r. subst (FlightReached (world_of x flight) x.patterns x.served.site) (sym p) (told.reached (world_of x flight) x.patterns x.served.site (subst (FlightReached (world_of x flight) x.patterns x.served.site) (sym is) r))) led;
      left = goes_left s.cause s.flight f' s.out out' s.closing s.closing s.buffered live (λ e. e) told.lowers;
      ended = refl;
      taken = refl;
      asked = inl (let a = told.asked in omega (arith, a));
      keeps = refl;
      tail = refl;
    }

pub returns-in-Err-clause-steps : goal.returns-in-Err-clause-steps
returns-in-Err-clause-steps c = λ x now conn.
    let s = c.args.self.now in
    let service = service_in x s.local s.peer in
    let flies = flies_by s.flight c.args.node c.in-Some.ask.now (sym c.ask.ensures ∙ ap option_copied c.in-Some.is) in
    let live = waits_live s.cause s.flight flies.0 s.quit flies.1 in
    record {
      own = λ tells led course. refused_until _ _ now _ _ (refused x now service s.cause s.flight c.put.new.slot s.out c.clear.new.self s.tail s.tail s.journal.past.entries s.journal.past.entries s.closing s.closing s.ended s.ended s.body s.body s.buffered s.buffered s.next s.next live c.put.ensures c.clear.ensures refl);
      reached = λ led. ∣ subst (ReachedIn x) (sym c.put.ensures) tt ∣₁;
      left = stopped_left stop.Memory s.cause s.flight c.put.new.slot s.out c.clear.new.self s.closing s.closing s.buffered s.buffered live;
      ended = refl;
      taken = tt;
      asked = inl (let e = ap flight_tree c.put.ensures in omega (arith, e));
      keeps = refl;
      tail = refl;
    }

pub invariant_of-self : goal.invariant_of-self
invariant_of-self c =
    let s = c.args.self.now in
    let flies = flies_by s.flight c.args.node c.in-Some.ask.now (sym c.ask.ensures ∙ ap option_copied c.in-Some.is) in
    let flight = flies.0 in
    let is : s.flight ≡ Some flight = flies.1 in
    let live = waits_live s.cause s.flight flight s.quit is in
    record {
      looked = s.looked;
      dropped = λ h. never (is_some s.cause) live h;
      quit = λ h. never (is_some s.cause) live h;
      flying = c.in-Ok.ensures.fits;
      few = s.few;
      drained = s.drained;
      unended = s.unended;
      logged = λ h. subst (λ b. IsLogged b s.journal.past.entries) (ap is_some is ∙ sym c.in-Ok.ensures.flies) (s.logged h);
      brief = s.brief;
      tailed = flying_tail s.flight c.answered.new.flight s.tail s.out c.answered.new.out (ap is_some is) c.in-Ok.ensures.flies s.tailed;
    }

pub invariant_of-self-in-Err : goal.invariant_of-self-in-Err
invariant_of-self-in-Err c =
    let s = c.args.self.now in
    record {
      looked = λ h. cc;
      dropped = λ h. c.clear.ensures;
      quit = λ h. c.put.ensures;
      flying = none_fits c.put.new.slot c.clear.new.self c.put.ensures c.clear.ensures;
      few = s.few;
      drained = s.drained;
      unended = s.unended;
      logged = λ h. cc;
      brief = s.brief;
      tailed = stopped_tail s.flight c.put.new.slot s.tail s.out c.clear.new.self c.put.ensures c.clear.ensures s.tailed;
    }

pub returns-in-Ok-clause-times : goal.returns-in-Ok-clause-times
returns-in-Ok-clause-times c = λ x now conn m.
    let s = c.args.self.now in
    record {
      mark = marks_if s.times.mark c.args.moment now.moment c.marked-self.result _ _ _ _ _ _ _ _ c.marked-self.ensures m c.sending_if-before.ensures.pending c.sending_if-before.ensures.in_flight c.sending_if-after.ensures.pending c.sending_if-after.ensures.in_flight;
      wrote = refl;
      filled = refl;
      head = refl;
      pace = refl;
    }

pub returns-in-Err-clause-times : goal.returns-in-Err-clause-times
returns-in-Err-clause-times c = λ x now conn m. record { mark = refl; wrote = refl; filled = refl; head = refl; pace = refl }
