use Rattle.std.proofs.Common.{◌≡◌, ◌≤◌, ◌<◌, ◌+◌, Bool, true, false, inl, inr, refl, sym, ap, ◌∙◌, subst, length, None, Some, arith}
use Rattle.std.specs.Prelude.{is_some}
use Rattle.std.specs.List.{Contains}
use Rattle.ngx_outside.specs.Views.{Start, Ran}
use Rattle.ngx_outside.specs.declared.event.StopCause.TheVariants as stop
use Rattle.response_flow.specs.request_flow.Flows.{asking_most}
use Rattle.response_flow.specs.Flights.{FlightFits, TailFits, flight_left, flight_tree, page_most}
use Rattle.http_connection.specs.Rests.{ReachedIn, Serves, service_in, rest_in, values_at}
use Rattle.http_connection.specs.Tails.{KeepsTail}
use Rattle.http_connection.specs.Times.{LevelFor}
use Rattle.http_connection.proofs.Going.{on_by}
use Rattle.http_connection.specs.Steps.{log_ran, RanOne, RanOver, IsLogged}
use Rattle.http_connection.specs.Conn.{view_at, starts_at, ready_at, left_at, PaceRan}
use Rattle.http_connection.proofs.Begins.{ran_few, ran_drained, ran_unended}
use Rattle.http_connection.proofs.Moves.{starts_if, node_ready, ran_on_one, ran_over_one, ran_over, ran_went, ran_halts, ran_left, entered_logged, lighter, refused, stopped_left}
use Rattle.http_connection.proofs.Timed.{ran_until, refused_until, mark_begins, mark_starts}
use Rattle.http_connection.proofs.Kept.{none_buffered, none_fits}
use Rattle.http_connection.proofs.Tails.{fits_tail, stopped_tail}
use Rattle.http_connection.proofs.conn.Conn.starts_one.Goals as goal

never : {A : Type 0} (b : Bool) → b ≡ false → b ≡ true → A
never true e f = cc
never false e f = cc

pub returns-in-Ok-On-clause-steps : goal.returns-in-Ok-On-clause-steps
returns-in-Ok-On-clause-steps c = λ conn.
    let s = c.args.self.now in
    let n = c.run_one.new in
    let x : Serves = record { patterns = c.args.space.now.patterns; served = c.args.served.now } in
    let site = service_in x s.local s.peer in
    let start : Start = record { moment = c.args.moment; tree = c.args.tree } in
    let ran' = c.in-Ok-On.field-0 in
    let o = c.in-Ok-On.onward in
    let on = c.in-Ok-On.field-0-is in
    let f' = c.put-in-Ok-On.new.slot in
    let p : o.flight ≡ f' = sym c.put-in-Ok-On.ensures in
    let st = starts_if (is_some s.cause) s.closing s.out s.body s.next c.requires.ready in
    let looked = s.looked st.0 in
    let entry = c.in-Ok-On.ensures.journal in
    let count : length s.journal.past.entries ≡ length s.journal.past.entries = refl in
    let ran = subst (λ f. RanOne x site start (length s.journal.past.entries) s.next s.buffered n.buffered n.body f s.out n.out o.closing o.log) p (subst (λ k. RanOne x site start k s.next s.buffered n.buffered n.body o.flight s.out n.out o.closing o.log) count (ran_on_one x site start (length s.journal.past.entries) s.next s.buffered n.buffered n.body s.out n.out ran' o on c.in-Ok-On.ensures.ran)) in
    let told : IsLogged (is_some f') n.journal.past.entries =
    subst (IsLogged (is_some f')) (sym entry.3) (entered_logged (is_some f') s.journal.past.entries entry.0 o.log (entry.2 ∙ ap log_ran on) (subst (λ f. IsLogged (is_some f) s.journal.past.entries) c.requires.none (s.logged st.0))
    (ran_over x site start (length s.journal.past.entries) s.next s.buffered n.buffered n.body f' s.out n.out o.closing o.log ran)) in
    record {
      own = λ tells led course. ran_until _ _ _ start 0 _ _ (subst
          (λ f. Contains (ready_at (is_some s.cause) f s.closing s.out s.body s.next) 0 × Ran start (view_at x site s.cause f s.out s.tail s.journal.past.entries s.closing s.ended s.body s.buffered s.next) (view_at x site s.cause f' n.out o.tail n.journal.past.entries o.closing s.ended n.body n.buffered n.next)) (sym c.requires.none) (
            node_ready (starts_at (is_some s.cause) s.closing s.out s.body s.next) c.requires.ready,
            ran_went x c.head_stays.ensures c.refusal_stays.ensures c.size_fits.ensures site start s.cause f' s.out n.out s.tail o.tail s.journal.past.entries n.journal.past.entries entry.0 s.closing o.closing s.ended s.body n.body s.buffered n.buffered s.next n.next o.log st.0 st.1 st.3 looked entry.1 (entry.2 ∙ ap log_ran on) entry.3 tells ran told,
          ));
      reached = λ led. ∣ subst (ReachedIn x) p (on_by _ ran' o on c.in-Ok-On.ensures.reached) ∣₁;
      left = subst (λ f. left_at s.cause f' n.out o.closing n.buffered < left_at s.cause f s.out s.closing s.buffered) (sym c.requires.none)
          (ran_left x c.size_fits.ensures site start (length s.journal.past.entries) s.cause f' s.out n.out s.closing o.closing n.body s.buffered n.buffered s.next o.log st.0 st.1 looked (lighter f' (length n.out) (subst (λ f. length n.out + flight_left f (length n.out) < page_most + asking_most) p (on_by _ ran' o on c.in-Ok-On.ensures.lowers))) ran);
      ended = refl;
      taken = refl;
      asked = inr (subst (λ f. flight_tree f ≤ c.args.tree) p (on_by _ ran' o on c.in-Ok-On.ensures.asked));
      keeps = c.run_one.ensures.keeps;
      tail = λ alive. subst (λ f. TailFits f f' o.tail n.out) (sym c.requires.none) (subst (λ f. TailFits None f o.tail n.out) p (on_by _ ran' o on c.in-Ok-On.ensures.tail));
    }

pub returns-in-Ok-TooMany-clause-steps : goal.returns-in-Ok-TooMany-clause-steps
returns-in-Ok-TooMany-clause-steps c = λ conn.
    let s = c.args.self.now in
    let n = c.run_one.new in
    let x : Serves = record { patterns = c.args.space.now.patterns; served = c.args.served.now } in
    let site = service_in x s.local s.peer in
    let start : Start = record { moment = c.args.moment; tree = c.args.tree } in
    let st = starts_if (is_some s.cause) s.closing s.out s.body s.next c.requires.ready in
    let looked = s.looked st.0 in
    let over = c.in-Ok-TooMany.field-0-is in
    let entry = c.in-Ok-TooMany.ensures.journal in
    let f' = c.put.new.slot in
    let out' = c.clear.new.self in
    let buffered' = c.clear-in-Ok-TooMany.new.self in
    let count : length s.journal.past.entries ≡ length s.journal.past.entries = refl in
    let ran : RanOver x site start (length s.journal.past.entries) s.next = subst (λ k. RanOver x site start k s.next) count (ran_over_one x site start (length s.journal.past.entries) s.next s.buffered n.buffered n.body s.out n.out c.in-Ok-TooMany.field-0 over c.in-Ok-TooMany.ensures.ran) in
    let told : IsLogged false s.journal.past.entries = subst (λ f. IsLogged (is_some f) s.journal.past.entries) c.requires.none (s.logged st.0) in
    record {
      own = λ tells led course. ran_until _ _ _ start 0 _ _ (subst
          (λ f. Contains (ready_at (is_some s.cause) f s.closing s.out s.body s.next) 0 × Ran start (view_at x site s.cause f s.out s.tail s.journal.past.entries s.closing s.ended s.body s.buffered s.next) (view_at x site (Some (stop.SubLimit 1000)) f' out' s.tail n.journal.past.entries s.closing s.ended None buffered' n.next)) (sym c.requires.none) (
            node_ready (starts_at (is_some s.cause) s.closing s.out s.body s.next) c.requires.ready,
            ran_halts x c.head_stays.ensures c.size_fits.ensures site start 1000 s.cause f' s.out out' s.tail s.tail s.journal.past.entries n.journal.past.entries entry.0 s.closing s.closing s.ended s.ended s.body None s.buffered buffered' s.next n.next st.0 st.1 st.3 looked c.put.ensures c.clear.ensures entry.1 (entry.2 ∙ ap log_ran over) entry.3 tells ran told,
          ));
      reached = λ led. ∣ subst (ReachedIn x) (sym c.put.ensures) tt ∣₁;
      left = stopped_left (stop.SubLimit 1000) s.cause s.flight f' s.out out' s.closing s.closing s.buffered buffered' st.0;
      ended = refl;
      taken = refl;
      asked = inl (let e = ap flight_tree c.put.ensures in omega (arith, e));
      keeps = c.run_one.ensures.keeps;
      tail = λ alive. cc;
    }

pub returns-in-Err-clause-steps : goal.returns-in-Err-clause-steps
returns-in-Err-clause-steps c = λ conn.
    let s = c.args.self.now in
    let n = c.run_one.new in
    let x : Serves = record { patterns = c.args.space.now.patterns; served = c.args.served.now } in
    let start : Start = record { moment = c.args.moment; tree = c.args.tree } in
    let st = starts_if (is_some s.cause) s.closing s.out s.body s.next c.requires.ready in
    record {
      own = λ tells led course. refused_until _ _ start _ _ (refused x start (service_in x s.local s.peer) s.cause s.flight c.put-in-Err.new.slot s.out c.clear-in-Err.new.self s.tail s.tail s.journal.past.entries n.journal.past.entries s.closing s.closing s.ended s.ended s.body None s.buffered c.clear-in-Err-2.new.self s.next n.next st.0 c.put-in-Err.ensures c.clear-in-Err.ensures c.in-Err.ensures.kept);
      reached = λ led. ∣ subst (ReachedIn x) (sym c.put-in-Err.ensures) tt ∣₁;
      left = stopped_left stop.Memory s.cause s.flight c.put-in-Err.new.slot s.out c.clear-in-Err.new.self s.closing s.closing s.buffered c.clear-in-Err-2.new.self st.0;
      ended = refl;
      taken = tt;
      asked = inl (let e = ap flight_tree c.put-in-Err.ensures in omega (arith, e));
      keeps = c.run_one.ensures.keeps;
      tail = refl;
    }

pub invariant_of-self-in-Ok-On : goal.invariant_of-self-in-Ok-On
invariant_of-self-in-Ok-On c =
    let s = c.args.self.now in
    let n = c.run_one.new in
    let x : Serves = record { patterns = c.args.space.now.patterns; served = c.args.served.now } in
    let site = service_in x s.local s.peer in
    let start : Start = record { moment = c.args.moment; tree = c.args.tree } in
    let ran' = c.in-Ok-On.field-0 in
    let o = c.in-Ok-On.onward in
    let on = c.in-Ok-On.field-0-is in
    let st = starts_if (is_some s.cause) s.closing s.out s.body s.next c.requires.ready in
    let f' = c.put-in-Ok-On.new.slot in
    let p : o.flight ≡ f' = sym c.put-in-Ok-On.ensures in
    let ran = subst (λ f. RanOne x site start (length s.journal.past.entries) s.next s.buffered n.buffered n.body f s.out n.out o.closing o.log) p (ran_on_one x site start (length s.journal.past.entries) s.next s.buffered n.buffered n.body s.out n.out ran' o on c.in-Ok-On.ensures.ran) in
    let entry = c.in-Ok-On.ensures.journal in
    record {
      looked = λ h. on_by _ ran' o on c.in-Ok-On.ensures.looked;
      dropped = λ h. never (is_some s.cause) st.0 h;
      quit = λ h. never (is_some s.cause) st.0 h;
      flying = subst (λ f. FlightFits f (length n.out)) p (on_by _ ran' o on c.in-Ok-On.ensures.fits);
      few = ran_few x site start (length s.journal.past.entries) s.next s.buffered n.buffered n.body f' s.out n.out o.closing o.log s.few ran;
      drained = ran_drained x site start (length s.journal.past.entries) s.next s.buffered n.buffered n.body f' s.out n.out o.closing o.log ran;
      unended = ran_unended x site start (length s.journal.past.entries) s.next s.buffered n.buffered n.body f' s.out n.out o.closing o.log ran;
      logged = λ h. subst (IsLogged (is_some f')) (sym entry.3) (entered_logged (is_some f') s.journal.past.entries entry.0 o.log (entry.2 ∙ ap log_ran on) (subst (λ f. IsLogged (is_some f) s.journal.past.entries) c.requires.none (s.logged st.0))
          (ran_over x site start (length s.journal.past.entries) s.next s.buffered n.buffered n.body f' s.out n.out o.closing o.log ran));
      brief = c.paced_on.ensures.least;
      tailed = subst (λ f. KeepsTail f o.tail n.out) p (fits_tail None o.flight o.tail n.out (on_by _ ran' o on c.in-Ok-On.ensures.tail));
    }

pub invariant_of-self : goal.invariant_of-self
invariant_of-self c =
    let s = c.args.self.now in
    record {
      looked = λ h. cc;
      dropped = λ h. c.clear.ensures;
      quit = λ h. c.put.ensures;
      flying = none_fits c.put.new.slot c.clear.new.self c.put.ensures c.clear.ensures;
      few = none_buffered c.clear-in-Ok-TooMany.new.self c.clear-in-Ok-TooMany.ensures;
      drained = λ h. cc;
      unended = λ h. cc;
      logged = λ h. cc;
      brief = s.brief;
      tailed = stopped_tail s.flight c.put.new.slot s.tail s.out c.clear.new.self c.put.ensures c.clear.ensures s.tailed;
    }

pub invariant_of-self-in-Err : goal.invariant_of-self-in-Err
invariant_of-self-in-Err c =
    let s = c.args.self.now in
    record {
      looked = λ h. cc;
      dropped = λ h. c.clear-in-Err.ensures;
      quit = λ h. c.put-in-Err.ensures;
      flying = none_fits c.put-in-Err.new.slot c.clear-in-Err.new.self c.put-in-Err.ensures c.clear-in-Err.ensures;
      few = none_buffered c.clear-in-Err-2.new.self c.clear-in-Err-2.ensures;
      drained = λ h. cc;
      unended = λ h. cc;
      logged = λ h. cc;
      brief = s.brief;
      tailed = stopped_tail s.flight c.put-in-Err.new.slot s.tail s.out c.clear-in-Err.new.self c.put-in-Err.ensures c.clear-in-Err.ensures s.tailed;
    }

pub returns-in-Ok-On-clause-times : goal.returns-in-Ok-On-clause-times
returns-in-Ok-On-clause-times c = λ conn.
    let s = c.args.self.now in
    let x : Serves = record { patterns = c.args.space.now.patterns; served = c.args.served.now } in
    let now : Start = record { moment = c.args.moment; tree = c.args.tree } in
    let st = starts_if (is_some s.cause) s.closing s.out s.body s.next c.requires.ready in
    record {
      mark = mark_begins s.times.mark c.args.moment c.marked-self.result _ _ s.flight s.out s.tail _ _ c.marked-self.ensures c.requires.none st.4 c.sending_if-after.ensures.pending c.sending_if-after.ensures.in_flight;
      wrote = refl;
      filled = refl;
      head = refl;
      pace = λ on. subst (λ f. PaceRan x now f s c.put-in-Ok-On.new.slot c.paced_on.new.pace) (sym c.requires.none) (record {
        told = values_at c.args.served.now c.in-Ok-On.onward.level;
        pace = c.paced_on.ensures.pace;
        level = λ so. subst (λ f. LevelFor (service_in x s.local s.peer) now s.next (λ trees. (rest_in x f trees).values) (values_at c.args.served.now c.in-Ok-On.onward.level)) (sym c.put-in-Ok-On.ensures) (on_by _ c.in-Ok-On.field-0 c.in-Ok-On.onward c.in-Ok-On.field-0-is c.in-Ok-On.ensures.level so);
      });
    }

pub returns-in-Ok-TooMany-clause-times : goal.returns-in-Ok-TooMany-clause-times
returns-in-Ok-TooMany-clause-times c = λ conn.
    let s = c.args.self.now in
    let st = starts_if (is_some s.cause) s.closing s.out s.body s.next c.requires.ready in
    record {
      mark = mark_starts s.times.mark c.args.moment s.flight c.put.new.slot s.out c.clear.new.self s.tail s.tail c.requires.none st.4 c.put.ensures c.clear.ensures;
      wrote = refl;
      filled = refl;
      head = refl;
      pace = λ alive. cc;
    }

pub returns-in-Err-clause-times : goal.returns-in-Err-clause-times
returns-in-Err-clause-times c = λ conn. record { mark = refl; wrote = refl; filled = refl; head = refl; pace = refl }
