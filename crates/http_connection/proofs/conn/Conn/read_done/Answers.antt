use Rattle.std.proofs.Common.{◌≡◌, ◌<◌, ◌≤◌, ◌+◌, ℕ, List, [], ◌++◌, length, Option, Some, None, inl, refl, sym, ap, ◌∙◌, subst, true, arith}
use Rattle.std.proofs.lemmas.Bool.Decides.{nat_tests}
use Rattle.std.specs.Borrow.{Bor}
use Rattle.std.specs.Prelude.{is_some, option_copied}
use Rattle.std.proofs.lemmas.List.{append-nil, length-append}
use Rattle.file_tree.specs.declared.job.Ask.{Ask}
use Rattle.file_tree.specs.declared.job.Ask.TheVariants.{Read as AskRead}
use Rattle.file_tree.specs.declared.job.JobAnswer.TheVariants.{Read as BlockRead}
use Rattle.file_tree.specs.declared.job.Ask.TheVariants as ask
use Rattle.ngx_outside.specs.Stepped.{IsReading}
use Rattle.ngx_outside.specs.Views.{Start, ask_in}
use Rattle.ngx_outside.specs.declared.event.Event.{Event}
use Rattle.ngx_outside.specs.declared.event.StepAnswer.TheVariants.{Done}
use Rattle.file_tree.specs.Tree.{HoldsBytes}
use Rattle.ngx_outside.specs.Records.{Adds, Bytes}
use Rattle.ngx_outside.specs.declared.event.Event.TheVariants.{FileDone}
use Rattle.http_connection.specs.Conn.{StepsConn, TimesConn}
use Rattle.http_connection.specs.Reads.{BroughtConn}
use Rattle.http_connection.specs.declared.conn.Conn.{Conn}
use Rattle.ngx_outside.specs.Views.Ground.{Answers}
use Rattle.http_connection.specs.Steps.{logged_in, IsLogged}
use Rattle.http_connection.proofs.Moves.{goes_went, goes_left, waits_live}
use Rattle.http_connection.proofs.Kept.{never}
use Rattle.http_connection.proofs.Going.{flies_by, flight_of, told_in_place, told_keeps, told_reached}
use Rattle.http_connection.proofs.Timed.{went_until, marks_if}
use Rattle.http_connection.proofs.Tails.{flying_tail}
use Rattle.http_connection.specs.Rests.{Serves, service_in, world_of}
use Rattle.response_flow.specs.Flights.{FlightFits, FlightReached, FlightServedBy, flight_left, flight_length, flight_server, flight_tree, jobs_of}
use Rattle.http_connection.proofs.conn.Conn.read_done.Goals as goal

-- a job that asks for a block
reading_asks : (o : Option Ask) → IsReading o → (path : List ℕ) × (start : ℕ) × (count : ℕ) × (of : ℕ) × (o ≡ Some (AskRead path start count of))
reading_asks None r = absurd r
reading_asks (Some (ask.Stat path of)) r = absurd r
reading_asks (Some (ask.Read path start count of)) r = (path, start, count, of, refl)

-- what is kept after a block of `count` bytes came to `placed`
grown : (out out' added : List ℕ) (placed count : ℕ) → placed ≡ length out → out' ≡ out ++ added → length added ≡ count → length out' ≡ placed + count
grown out out' added placed count p e long = ap length e ∙ (length-append out added ∙ (ap (λ n. n + length added) (sym p) ∙ ap (λ n. placed + n) long))

steps_from : (x : Serves) (now : Start) (e : Event) (s old new : Conn) → s ≡ old → StepsConn x now e (Done 0) s new → StepsConn x now e (Done 0) old new
steps_from x now e s old new same steps = subst (λ (o : Conn). StepsConn x now e (Done 0) o new) same steps

times_from : (x : Serves) (now : Start) (e : Event) (s old new : Conn) → s ≡ old → TimesConn x now e (Done 0) s new → TimesConn x now e (Done 0) old new
times_from x now e s old new same times = subst (λ (o : Conn). TimesConn x now e (Done 0) o new) same times

pub returns-clause-done : goal.returns-clause-done
returns-clause-done g c = λ path start count of asks.
    let s = c.makes_room.new.self in
    let same = c.makes_room.ensures.same in
    let job : Ask = AskRead path start count of in
    let asks' : ask_in (jobs_of s.flight) c.args.node ≡ Some job = ap (λ (x : Conn). ask_in (jobs_of x.flight) c.args.node) same ∙ asks in
    let added = (c.in_ok-add_block.ensures.bytes path start count of (c.ask-2.ensures ∙ asks')).done in
    let block : Bor (List ℕ) = record { ref_ptr = (0, 0); now = added.0 } in
    let flies = flies_by s.flight c.args.node job asks' in
    let flight = flies.0 in
    let is : s.flight ≡ Some flight = flies.1 in
    let live = waits_live s.cause s.flight flight s.quit is in
    let told = c.came.ensures in
    let f' = c.came.new.flight in
    let out' = c.add_block.new.out in
    let there = flight_of f' told.flies in
    let p : Some there.0 ≡ f' = there.1 in
    let by = subst (FlightServedBy (flight_server flight) (flight_length flight)) (sym p) (told.by flight is) in
    let sizes : length out' ≡ c.len-placed.result + count = grown s.out out' added.0 c.len-placed.result count c.len-placed.ensures added.1 added.2 in
    record {
      block = block;
      exact = added.2;
      holds = added.3;
      told = c.in_ok-add_block.ensures.told added.0 added.1;
      steps = λ x now conn. steps_from x now (FileDone conn c.args.node (BlockRead block)) s _ _ same (record {
        own = λ tells led course. record {
          ask = job;
          waits = asks';
          fits = (let e = added.2 in grind (arith, nat_tests, e));
          went = went_until _ _ _ _ _ [] [] [] (goes_went x (Answers job (BlockRead block)) (service_in x s.local s.peer) s.cause s.flight f' s.out out' s.tail s.tail s.journal.past.entries s.journal.past.entries s.closing s.closing s.ended s.body s.buffered s.next None live refl refl (sym (append-nil (logged_in s.journal.past.entries))) (subst (λ b. IsLogged b s.journal.past.entries) (ap is_some is ∙ ap is_some p) (s.logged live))
              (λ trees from. told_keeps x s.flight flight there.0 f' s.out out' s.closing trees is p by
              (told_in_place x s.flight flight there.0 f' s.out out' s.closing trees is p (λ r. told.goes (world_of x flight) x.patterns x.served.site trees s.closing job block s.out out' asks' (sym c.len-placed.ensures) added.1 added.2 from)) led));
        };
        reached = λ led. told_reached x s.flight flight there.0 f' is p by
            (λ r. subst (FlightReached (world_of x flight) x.patterns x.served.site) (sym p) (told.reached (world_of x flight) x.patterns x.served.site (subst (FlightReached (world_of x flight) x.patterns x.served.site) (sym is) r))) led;
        left = goes_left s.cause s.flight f' s.out out' s.closing s.closing s.buffered live (λ e. e)
            (subst (λ (n : ℕ). n + flight_left f' n < length s.out + flight_left s.flight (length s.out)) (sym sizes)
            (subst (λ (m : ℕ). c.len-placed.result + count + flight_left f' (c.len-placed.result + count) < m + flight_left s.flight m) c.len-placed.ensures (told.lowers job asks')));
        ended = refl;
        taken = refl;
        asked = (let a = told.asked in let least : flight_tree f' ≤ flight_tree s.flight = omega (arith, a) in inl least);
        keeps = refl;
        tail = refl;
      });
      times = λ x now conn m. times_from x now (FileDone conn c.args.node (BlockRead block)) s _ _ same (record {
        mark = marks_if s.times.mark c.args.moment now.moment c.marked-self.result _ _ _ _ _ _ _ _ c.marked-self.ensures m c.sending_if-before.ensures.pending c.sending_if-before.ensures.in_flight c.sending_if-after.ensures.pending c.sending_if-after.ensures.in_flight;
        wrote = refl;
        filled = refl;
        head = refl;
        pace = refl;
      });
    }

pub invariant_of-self-2 : goal.invariant_of-self-2
invariant_of-self-2 g c =
    let s = c.makes_room.new.self in
    let same = c.makes_room.ensures.same in
    let job = reading_asks (ask_in (jobs_of c.args.self.now.flight) c.args.node) c.requires.reads in
    let asks' = ap (λ (x : Conn). ask_in (jobs_of x.flight) c.args.node) same ∙ job.4 in
    let flies = flies_by s.flight c.args.node (AskRead job.0 job.1 job.2 job.3) asks' in
    let flight = flies.0 in
    let is : s.flight ≡ Some flight = flies.1 in
    let live = waits_live s.cause s.flight flight s.quit is in
    let told = c.came.ensures in
    let added = (c.in_ok-add_block.ensures.bytes job.0 job.1 job.2 job.3 (c.ask-2.ensures ∙ asks')).done in
    let sizes : length c.add_block.new.out ≡ c.len-placed.result + job.2 = grown s.out c.add_block.new.out added.0 c.len-placed.result job.2 c.len-placed.ensures added.1 added.2 in
    record {
      looked = s.looked;
      dropped = λ h. never (is_some s.cause) live h;
      quit = λ h. never (is_some s.cause) live h;
      flying = subst (λ (n : ℕ). FlightFits c.came.new.flight n) (sym sizes) (told.fits (AskRead job.0 job.1 job.2 job.3) asks');
      few = s.few;
      drained = s.drained;
      unended = s.unended;
      logged = λ h. subst (λ b. IsLogged b s.journal.past.entries) (ap is_some is ∙ sym told.flies) (s.logged h);
      brief = s.brief;
      tailed = flying_tail s.flight c.came.new.flight s.tail s.out c.add_block.new.out (ap is_some is) told.flies s.tailed;
    }

pub returns-then-not-makes_room-clause-done : goal.returns-then-not-makes_room-clause-done
returns-then-not-makes_room-clause-done g c = λ path start count of asks.
    let s = c.makes_room.new.self in
    let same = c.makes_room.ensures.same in
    let job : Ask = AskRead path start count of in
    let asks' : ask_in (jobs_of s.flight) c.args.node ≡ Some job = ap (λ (x : Conn). ask_in (jobs_of x.flight) c.args.node) same ∙ asks in
    let lends = c.in_ok-lend_block.ensures.bytes path start count of (c.ask.ensures ∙ asks') in
    let block = c.block.result in
    let is = c.block.ensures in
    record {
      block = block;
      exact = ap length is ∙ lends.0;
      holds = λ tells. subst (HoldsBytes ((g.F.Files.seen c.args.files.now).trees of path) start count) (sym is) (lends.1 tells);
      told = subst (λ b. Adds (Bytes b) (g.F.Files.seen c.args.files.now).answers (g.F.Files.seen c.lend_block.new.files).answers) (sym is) c.in_ok-lend_block.ensures.answers;
      steps = λ x now conn. subst (λ (o : Conn). StepsConn x now (FileDone conn c.args.node (BlockRead block)) c.file_done.result o c.file_done.new.self) same (c.file_done.ensures.steps x now conn);
      times = λ x now conn m. subst (λ (o : Conn). TimesConn x now (FileDone conn c.args.node (BlockRead block)) c.file_done.result o c.file_done.new.self) same (c.file_done.ensures.times x now conn m);
    }
