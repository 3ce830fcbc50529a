-- What a connection shows, with the moment at which it is given up.
use Rattle.std.proofs.Common.{◌≡◌, ℕ, ◌-◌, ◌^◌, ◌≤◌, ◌<◌, Bool, true, false, ◌||◌, eqb, List, [], ◌∷◌, length, Option, None, Some, map, refl, sym, ap, subst, ◌∙◌, arith}
use Rattle.std.specs.Prelude.{not, is_some, is_none, ◌==◌, ◌&&◌, if◌then◌else◌}
use Rattle.std.proofs.lemmas.List.{append-nil}
use Rattle.std.specs.List.{Contains}
use Rattle.std.proofs.lemmas.Bool.Decides.{nat_tests}
use Rattle.ngx_outside.specs.Views.{ConnView, Start, Logged, start_of, log_of, Ground, Went, Ran, Goes, Halts, Stopped, Refused, Ticked, GivesUp, Waits, IsSound, is_live, no_bytes}
use Rattle.ngx_outside.specs.declared.event.Entry.{Entry}
use Rattle.ngx_outside.specs.declared.event.StopCause.{StopCause}
use Rattle.ngx_outside.specs.declared.event.StopCause.TheVariants as stop
use Rattle.http_connection.specs.declared.conn.Conn.{Conn}
use Rattle.http_connection.proofs.Moves.{unsent}
use Rattle.response_flow.specs.declared.flight.Flight.{Flight}
use Rattle.http_connection.specs.Conn.{in_flight, pending_at, shut_at, view_at, view_of, until, due_at, IsExact, no_entries}
use Rattle.http_connection.specs.Steps.{starts}
use Rattle.http_connection.specs.Times.{awaited_by, due_of, soonest, mark_by}
use Rattle.http_connection.specs.Rests.{Serves, service_in}

abbrev pub view_of_parts : Serves → Conn → ConnView
view_of_parts site s = view_at site (service_in site s.local s.peer) s.cause s.flight s.out s.tail s.journal.past.entries s.closing s.ended s.body s.buffered s.next

pub went_until : (due due' : Option ℕ) (ground : Ground) (old new : ConnView) (came went : List ℕ) (started : List Start) → Went ground old new came went started → Went ground (until due old) (until due' new) came went started
went_until due due' ground old new came went started w = record {
  before = w.before;
  after = w.after;
  moved = record {
    starts = w.moved.starts;
    raceless = w.moved.raceless;
    timed = w.moved.timed;
    bytes = w.moved.bytes;
    logs = w.moved.logs;
    closes = w.moved.closes;
    heavy = w.moved.heavy;
  };
  logged = w.logged;
}

pub stopped_until : (due due' : Option ℕ) (cause : StopCause) (old new : ConnView) (started : List Start) → Stopped cause old new started → Stopped cause (until due old) (until due' new) started
stopped_until due due' cause old new started s = record {
  before = s.before;
  held = s.held;
  why = s.why;
  pending = s.pending;
  starts = s.starts;
  logs = s.logs;
  logged = s.logged;
  raceless = s.raceless;
}

pub refused_until : (due due' : Option ℕ) (now : Start) (old new : ConnView) → Refused now old new → Refused now (until due old) (until due' new)
refused_until due due' now old new r = (r.0, r.1, stopped_until due due' stop.Memory old new r.0 r.2)

ran_so : (due due' : Option ℕ) (now : Start) (old new : ConnView) → Ran now old new → Ran now (until due old) (until due' new)
ran_so due due' now old new (Goes started is w) = Goes started is (went_until due due' _ old new [] [] started w)
ran_so due due' now old new (Halts count started is s heavy) = Halts count started is (stopped_until due due' (stop.SubLimit count) old new started s) heavy

pub ran_until : (due due' : Option ℕ) (ready : List ℕ) (now : Start) (node : ℕ) (old new : ConnView) → Contains ready node × Ran now old new → Contains ready node × Ran now (until due old) (until due' new)
ran_until due due' ready now node old new r = (r.0, ran_so due due' now old new r.1)

pub sound_until : (due : Option ℕ) (v : ConnView) → v.held ≡ true → (is_live v ≡ false → due ≡ None) → IsSound v → IsSound (until due v)
sound_until due v buffered none s = record {
  unsent = s.unsent;
  unready = s.unready;
  unasked = s.unasked;
  unread = s.unread;
  untimed = none;
  stopped = s.stopped;
  absent = λ h. absurd (let e : true ≡ false = sym buffered ∙ h in cc);
  roomy = s.roomy;
  silent = s.silent;
  reads = s.reads;
  idle = s.idle;
  logged = s.logged;
  shut = s.shut;
  shuts = s.shuts;
  closes = s.closes;
}

pub exact_until : (due : Option ℕ) (v : ConnView) → IsExact v → IsExact (until due v)
exact_until due v e = record { rests = e.rests; ends = e.ends; busy = e.busy }

-- one that was stopped waits for nothing
pub dead_waits : (s : Conn) → is_none s.cause ≡ false → due_at s ≡ None
dead_waits s h = by s.cause refl h
  where
    by : (cause : Option StopCause) → s.cause ≡ cause → is_none cause ≡ false → due_at s ≡ None
    by None e h = cc
    by (Some cause) e h =
        ap
        (λ (c : Option StopCause). due_of (awaited_by (shut_at (is_some c) s.flight s.closing s.ended s.out s.body s.next) (not (no_bytes (pending_at s.flight s.out s.tail))) (is_some s.flight || starts s.body s.next) (no_entries s.journal.past.entries) (not (no_bytes s.buffered))) s.times)
        e

-- the bytes and the entries that are there
pub no_bytes_is : (xs : List ℕ) → eqb (length xs) 0 ≡ no_bytes xs
no_bytes_is [] = refl
no_bytes_is (x ∷ xs) = let e : eqb (length (x ∷ xs)) 0 ≡ false = grind (arith, nat_tests) in e

pub no_entries_is : (xs : List Entry) → eqb (length xs) 0 ≡ no_entries xs
no_entries_is [] = refl
no_entries_is (x ∷ xs) = let e : eqb (length (x ∷ xs)) 0 ≡ false = grind (arith, nat_tests) in e

-- what says when it is given up
due_now : (o : Option ℕ) (r now : ℕ) → r ≡ soonest o → r ≤ now → now < 2 ^ 64 - 1 → o ≡ Some r
due_now None r now e le lt = absurd (omega (arith, e, le, lt))
due_now (Some d) r now e le lt = ap Some (let same : d ≡ r = omega (arith, e, le, lt) in same)

not_due : (o : Option ℕ) (r now due : ℕ) → r ≡ soonest o → now < r → o ≡ Some due → now < due
not_due None r now due e lt is = cc
not_due (Some d) r now due e lt is =
    let same : d ≡ due = cc in
    omega (arith, e, lt, same)

alive : (s : Conn) (due : ℕ) → due_at s ≡ Some due → is_none s.cause ≡ true
alive s due e = by (is_none s.cause) refl
  where
    by : (b : Bool) → is_none s.cause ≡ b → b ≡ true
    by true h = refl
    by false h = absurd (let f : None ≡ Some due = sym (dead_waits s h) ∙ e in cc)

given_up : (site : Serves) (s n : Conn) (due now : ℕ) → due_at s ≡ Some due → due ≤ now → n.cause ≡ Some (stop.Deadline due now) → n.flight ≡ None → n.out ≡ [] → n.journal.past.entries ≡ s.journal.past.entries → Ticked now (view_of site s) (view_of site n)
given_up site s n due now e le cause flow out journal = GivesUp due refl e le (record {
  before = alive s due e;
  held = refl;
  why = cause;
  pending = unsent n.flight n.out n.tail flow out;
  starts = ap (map start_of) journal ∙ sym (append-nil (map start_of s.journal.past.entries));
  logs = ap (map log_of) journal ∙ sym (append-nil (map log_of s.journal.past.entries));
  logged = λ all l. subst (λ x. Logged x all) (sym (ap (map log_of) journal)) l;
  raceless = refl;
})

-- the clock tells a moment that is no earlier than its own
pub gives_up : (site : Serves) (s n : Conn) (r now : ℕ) → r ≡ soonest (due_at s) → r ≤ now → now < 2 ^ 64 - 1 → n.cause ≡ Some (stop.Deadline r now) → n.flight ≡ None → n.out ≡ [] → n.journal.past.entries ≡ s.journal.past.entries → Ticked now (view_of site s) (view_of site n)
gives_up site s n r now e le lt cause flow out journal = given_up site s n r now (due_now (due_at s) r now e le lt) le cause flow out journal

-- or an earlier one
pub waits_on : (site : Serves) (s : Conn) (r now : ℕ) → r ≡ soonest (due_at s) → now < r → Ticked now (view_of site s) (view_of site s)
waits_on site s r now e lt = Waits (λ due is. not_due (due_at s) r now due e lt is) refl

-- the mark after a step
pub marks_by : (mark moment now result : ℕ) (p f p' f' q g q' g' : Bool) → result ≡ mark_by mark moment p f p' f' → now ≡ moment → p ≡ q → f ≡ g → p' ≡ q' → f' ≡ g' →
    result ≡ mark_by mark now q g q' g'
marks_by mark moment now result p f p' f' q g q' g' e m ep ef ep' ef' =
    e ∙ (ap (λ b. mark_by mark moment b f p' f') ep ∙ (ap (λ b. mark_by mark moment q b p' f') ef ∙ (ap (λ b. mark_by mark moment q g b f') ep'
    ∙ (ap (λ b. mark_by mark moment q g q' b) ef' ∙ ap (λ n. mark_by mark n q g q' g') (sym m)))))

-- of a mark that is this moment nothing matters: it stays
same_mark : (b : Bool) (mark moment : ℕ) → mark ≡ moment → (if b then moment else mark) ≡ mark
same_mark true mark moment e = sym e
same_mark false mark moment e = refl

-- where two marks aren't told apart they are one
same_moment : (mark moment : ℕ) → (mark == moment) ≡ true → mark ≡ moment
same_moment mark moment e = grind (arith, nat_tests, e)

-- the mark after a step, of which is known what matters
pub marks_if : (mark moment now result : ℕ) (p f p' f' q g q' g' : Bool) → result ≡ mark_by mark moment p f p' f' → now ≡ moment
    → (not (mark == moment) ≡ true → p ≡ q) → (not (mark == moment) ≡ true → f ≡ g) → (not (mark == moment) ≡ true → p' ≡ q') → (not (mark == moment) ≡ true → f' ≡ g')
    → result ≡ mark_by mark now q g q' g'
marks_if mark moment now result p f p' f' q g q' g' e m ep ef ep' ef' = by (mark == moment) refl
  where
    by : (t : Bool) → (mark == moment) ≡ t → result ≡ mark_by mark now q g q' g'
    by false h = marks_by mark moment now result p f p' f' q g q' g' e m (ep (ap not h)) (ef (ap not h)) (ep' (ap not h)) (ef' (ap not h))
    by true h =
        let is = same_moment mark moment h in
        e ∙ (same_mark ((not p && p') || (f && not f')) mark moment is ∙ sym (same_mark ((not q && q') || (g && not g')) mark now (is ∙ sym m)))

-- nothing is sent where no request is in flight, and no bytes are kept
not_pending : (flight : Option Flight) (out : List ℕ) (tail : ℕ) → flight ≡ None → out ≡ [] → false ≡ not (no_bytes (pending_at flight out tail))
not_pending flight out tail none empty = sym (ap (λ xs. not (no_bytes xs)) (unsent flight out tail none empty))

not_flying : (flight : Option Flight) (out : List ℕ) → flight ≡ None → out ≡ [] → false ≡ in_flight flight out
not_flying flight out none empty = sym (ap (λ h. in_flight h out) none ∙ ap (λ o. not (no_bytes o)) empty)

-- the mark after one that was stopped
pub mark_rests : (mark moment now result : ℕ) (p f q g : Bool) (flight : Option Flight) (out : List ℕ) (tail : ℕ) → result ≡ mark_by mark moment p f false false → now ≡ moment
    → (not (mark == moment) ≡ true → p ≡ q) → (not (mark == moment) ≡ true → f ≡ g) → flight ≡ None → out ≡ []
    → result ≡ mark_by mark now q g (not (no_bytes (pending_at flight out tail))) (in_flight flight out)
mark_rests mark moment now result p f q g flight out tail e m ep ef none empty =
    marks_if mark moment now result p f false false q g _ _ e m ep ef (λ h. not_pending flight out tail none empty) (λ h. not_flying flight out none empty)

-- the mark after one with which a further one starts
pub mark_begins : (mark moment result : ℕ) (p' f' : Bool) (flight : Option Flight) (out : List ℕ) (tail : ℕ) (q' g' : Bool) → result ≡ mark_by mark moment false false p' f' → flight ≡ None → out ≡ []
    → (not (mark == moment) ≡ true → p' ≡ q') → (not (mark == moment) ≡ true → f' ≡ g')
    → result ≡ mark_by mark moment (not (no_bytes (pending_at flight out tail))) (in_flight flight out) q' g'
mark_begins mark moment result p' f' flight out tail q' g' e none empty ep ef =
    marks_if mark moment moment result false false p' f' _ _ q' g' e refl (λ h. not_pending flight out tail none empty) (λ h. not_flying flight out none empty) ep ef

pub mark_starts : (mark moment : ℕ) (flight flight' : Option Flight) (out out' : List ℕ) (tail tail' : ℕ) → flight ≡ None → out ≡ [] → flight' ≡ None → out' ≡ [] →
    mark_by mark moment false false false false ≡ mark_by mark moment (not (no_bytes (pending_at flight out tail))) (in_flight flight out) (not (no_bytes (pending_at flight' out' tail'))) (in_flight flight' out')
mark_starts mark moment flight flight' out out' tail tail' none empty none' empty' =
    mark_begins mark moment (mark_by mark moment false false false false) false false flight out tail (not (no_bytes (pending_at flight' out' tail'))) (in_flight flight' out') refl none empty
    (λ h. not_pending flight' out' tail' none' empty') (λ h. not_flying flight' out' none' empty')
