-- What a connection shows.
use Rattle.std.specs.Prelude.{◌≡◌, ◌≢◌, ◌≤◌, ◌⊎◌, ℕ, ◌+◌, ◌-◌, ◌*◌, ◌^◌, nat_le, Bool, true, false, not, ◌&&◌, ◌||◌, is_some, List, [], ◌∷◌, ◌++◌, Option, None, Some, length, map, if◌then◌else◌}
use Rattle.file_tree.specs.Tree.{Trees}
use Rattle.ngx_outside.specs.Views.{ConnView, Course, start_of, log_of, Log, Start, StepsOwn, LeftBy, TakesNone, IsSound, is_idle, is_live, no_bytes}
use Rattle.ngx_outside.specs.declared.event.Event.{Event}
use Rattle.ngx_outside.specs.declared.event.Event.TheVariants.{Ended, Arrived, Wrote, FileDone, Run}
use Rattle.ngx_outside.specs.declared.event.StepAnswer.{StepAnswer}
use Rattle.ngx_outside.specs.declared.event.StepAnswer.TheVariants.{Done}
use Rattle.ngx_outside.specs.declared.event.Entry.{Entry}
use Rattle.ngx_outside.specs.declared.event.StopCause.{StopCause}
use Rattle.req_head.specs.declared.head.HeadStep.{HeadStep}
use Rattle.http_connection.specs.declared.conn.Conn.{Conn}
use Rattle.http_types.specs.declared.words.Addr.{Addr}
use Rattle.answers_meaning.specs.Asking.{Service}
use Rattle.answers_meaning.specs.Answers.{Answer, then_closes, responses, bytes_in, logs_in, close_in, heavy_in}
use Rattle.response_flow.specs.declared.flight.Flight.{Flight}
use Rattle.response_flow.specs.Flights.{TailFits, flight_left, flight_tree, jobs_of, most_kept, pending_of, ready_by}
use Rattle.response_flow.specs.request_flow.Rests.{Rest, closes_after}
use Rattle.response_flow.specs.request_opening.Openings.{service_of}
use Rattle.ngx_pattern.specs.Pattern.{Pattern as SetPattern}
use Rattle.site_model.specs.declared.site.Site.{Site}
use Rattle.response_flow.specs.Continues.{is_over}
use Rattle.http_connection.specs.Rests.{AreRaceless, IsReachedIn, ReachedIn, Serves, TellsRaceless, service_in, rest_in}
use Rattle.body_frame.specs.declared.state.BodyState.{BodyState}
use Rattle.http_connection.specs.Steps.{starts, past_body, logged_in}
use Rattle.http_connection.specs.declared.times.Awaited.{Awaited}
use Rattle.http_connection.specs.declared.times.Pace.{Pace}
use Rattle.http_connection.specs.Tails.{PendsWhole}
use Rattle.http_connection.specs.Times.{awaited_by, due_of, mark_by, IsPaced, PacedFor}

-- what is to come on a connection that is opened now, with these ends, where the race check names
-- no variable of the site, or some
abbrev pub fresh_course : (raceless : Bool) → List SetPattern → Site → Addr → Addr → Course
fresh_course raceless patterns site local peer =
    record {
      bytes = λ trees more later. bytes_in
          (responses (service_of patterns site local peer) 0 trees more later);
      logs = λ trees more later. logs_in (responses
          (service_of patterns site local peer) 0 trees more later);
      closes = λ trees more later. close_in
          (responses (service_of patterns site local peer) 0 trees more later);
      heavy = λ trees more later. heavy_in
          (responses (service_of patterns site local peer) 0 trees more later);
      raceless = raceless;
      timed = true;
    }

-- the answers after the one in flight: those to what comes after the body that is dropped, unless
-- the connection closes
abbrev pub after_at : Service → (Trees → Rest) → List Entry → Bool → Option BodyState → List ℕ →
    Trees → List ℕ → List Start → List Answer
after_at service rest journal closing body buffered trees more later =
    if closes_after (rest trees) closing then then_closes else past_body body (buffered ++ more)
    (λ input. responses service (length journal) trees input later)

-- the bytes that are still to come: after those that are kept for the peer the rest of the
-- response in flight, and those of the responses after it
abbrev pub bytes_at : Service → (Trees → Rest) → List ℕ → List Entry → Bool → Option BodyState →
    List ℕ → Trees → List ℕ → List Start → List ℕ
bytes_at service rest out journal closing body buffered trees more later =
    out ++ ((rest trees).bytes ++ bytes_in
    (after_at service rest journal closing body buffered trees more later))

-- the logs of all responses: those in the journal, that of the one in flight, and those after it
abbrev pub logs_at : Service → (Trees → Rest) → List Entry → Bool → Option BodyState → List ℕ →
    Trees → List ℕ → List Start → List Log
logs_at service rest journal closing body buffered trees more later =
    logged_in journal ++
    ((rest trees).logs ++ logs_in
    (after_at service rest journal closing body buffered trees more later))

-- whether the connection closes after them
abbrev pub closes_at : Service → (Trees → Rest) → List Entry → Bool → Option BodyState → List ℕ →
    Trees → List ℕ → List Start → Bool
closes_at service rest journal closing body buffered trees more later = close_in
    (after_at service rest journal closing body buffered trees more later)

-- whether a request asks for more subrequests than are started for one
abbrev pub heavy_at : Service → (Trees → Rest) → List Entry → Bool → Option BodyState → List ℕ
    → Trees → List ℕ → List Start → Bool
heavy_at service rest journal closing body buffered trees more later =
    is_over (rest trees) || heavy_in
    (after_at service rest journal closing body buffered trees more later)

-- how many more bytes are taken, as far as 8192 are buffered: none after a stop, after a response that
-- closes or after the input's end
abbrev pub room_at : Bool → Bool → Bool → List ℕ → Option ℕ
room_at stopped closing ended buffered = if stopped || closing || ended || nat_le 8192
    (length buffered) then None else Some (8192 - length buffered)

-- a further request may start
abbrev pub starts_at : Bool → Bool → List ℕ → Option BodyState → HeadStep → Bool
starts_at stopped closing out body next = not stopped && not closing && no_bytes out && starts body
    next

-- the nodes that can run: those of the request in flight, or that with which a further one starts
abbrev pub ready_at : Bool → Option Flight → Bool → List ℕ → Option BodyState → HeadStep → List ℕ
ready_at stopped None closing out body next = if starts_at stopped closing out body next then 0 ∷ [] else []
ready_at stopped (Some flight) closing out body next = if stopped then [] else ready_by flight

-- nothing is to be done until more arrives
abbrev pub idle_at : Bool → Option Flight → Bool → List ℕ → Option BodyState → HeadStep → Bool
idle_at stopped None closing out body next = not stopped && no_bytes out &&
    (closing || not (starts body next))
idle_at stopped (Some flight) closing out body next = false

-- its link is to be closed: after a stop, after a response that closes and is written, or where
-- the input has ended and nothing is left to do
abbrev pub shut_at : Bool → Option Flight → Bool → Bool → List ℕ → Option BodyState → HeadStep → Bool
shut_at stopped flight closing ended out body next = stopped ||
    ((closing || ended) && idle_at false flight closing out body next)

-- the bytes that are to be written next
abbrev pub pending_at : Option Flight → List ℕ → (tail : ℕ) → List ℕ
pending_at flight out tail = pending_of flight out tail

abbrev pub no_entries : List Entry → Bool
no_entries [] = true
no_entries (entry ∷ journal) = false

-- a connection by its parts
abbrev pub view_at : Serves → Service → Option StopCause → Option Flight → List ℕ → (tail : ℕ) → List Entry → Bool
    → Bool →
    Option BodyState → List ℕ → HeadStep → ConnView
view_at x service cause flight out tail journal closing ended body buffered next =
    record {
      held = true;
      cause = cause;
      pending = pending_at flight out tail;
      starts = map start_of journal;
      logs = map log_of journal;
      course = record {
        bytes = bytes_at service (rest_in x flight) out journal closing body buffered;
        logs = logs_at service (rest_in x flight) journal closing body buffered;
        closes = closes_at service (rest_in x flight) journal closing body buffered;
        heavy = heavy_at service (rest_in x flight) journal closing body buffered;
        raceless = x.served.raceless;
        timed = true;
      };
      room = room_at (is_some cause) closing ended buffered;
      ready = ready_at (is_some cause) flight closing out body next;
      jobs = jobs_of flight;
      shut = shut_at (is_some cause) flight closing ended out body next;
      ended = ended;
      raceless = x.served.raceless;
      deadline = None;
    }

-- what is awaited of its peer
abbrev pub awaited_at : Conn → Awaited
awaited_at conn = awaited_by
    (shut_at (is_some conn.cause) conn.flight conn.closing conn.ended conn.out conn.body conn.next)
    (not (no_bytes (pending_at conn.flight conn.out conn.tail)))
    (is_some conn.flight || starts conn.body conn.next)
    (no_entries conn.journal.past.entries)
    (not (no_bytes conn.buffered))

-- the moment at which it is given up
abbrev pub due_at : Conn → Option ℕ
due_at conn = due_of (awaited_at conn) conn.times

-- what is shown with this moment
abbrev pub until : Option ℕ → ConnView → ConnView
until due v = record v { deadline = due }

abbrev pub view_of : Serves → Conn → ConnView
view_of x conn = until (due_at conn)
    (view_at x
    (service_in x conn.local conn.peer) conn.cause conn.flight conn.out conn.tail conn.journal.past.entries
    conn.closing conn.ended conn.body conn.buffered conn.next)

-- Each byte that is buffered may begin a head, whose request adds less than this to the bytes for its peer and to what is left to do
-- of its response.
unfoldable pub weight : ℕ
weight = 65546 * 2 ^ 64 + 2 ^ 33 + 2 ^ 26 + 65546

abbrev pub left_at : Option StopCause → Option Flight → List ℕ → Bool → List ℕ → ℕ
left_at cause flight out closing buffered = if is_some cause then 0 else 1 +
    (length out + flight_left flight (length out)) + (if closing then 0 else weight * (length buffered + 1))

abbrev pub left_of : Conn → ℕ
left_of conn = left_at conn.cause conn.flight conn.out conn.closing conn.buffered

-- what a byte that arrives, or an opening, may add to what is left
unfoldable pub price : ℕ
price = 65546 * 2 ^ 64 + 2 ^ 33 + 2 ^ 26 + 65547

-- the newest tree that a job of the connection asks of
abbrev pub asked_of : Conn → ℕ
asked_of conn = flight_tree conn.flight

-- its own end ends its input
abbrev pub ended_by : Event → StepAnswer → Bool → Bool
ended_by (Ended conn) (Done taken) ended = true
ended_by e a ended = ended

-- The tail after an event that stopped nothing: a run sets it to that of the page that it ends; else it stays the same.
abbrev pub TailAfter : Event → StepAnswer → (old new : Conn) → Type 0
TailAfter (Run conn node) (Done taken) old new =
    is_some new.cause ≡ false → TailFits old.flight new.flight new.tail new.out
TailAfter e a old new = new.tail ≡ old.tail

-- What an event does to its connection, in a site that says the truth of itself, where steps have
-- led to the response in flight; and these lead on.
pub record StepsConn (x : Serves) (now : Start) (e : Event) (a : StepAnswer)
    (old new : Conn) : Type 0 where
  pub own : TellsRaceless x → IsReachedIn x old.flight → (course : Course) →
      StepsOwn course now e a (view_of x old) (view_of x new)
  pub reached : IsReachedIn x old.flight → IsReachedIn x new.flight
  pub left : LeftBy price e a (left_of old) (left_of new)
  pub ended : new.ended ≡ ended_by e a old.ended
  pub taken : TakesNone e a
  pub asked : asked_of new ≤ asked_of old ⊎ asked_of new ≤ now.tree
  pub tail : TailAfter e a old new
  pub keeps : new.journal.keeps ≡ old.journal.keeps

-- a request is in flight: it isn't over, or some of its response is unsent
abbrev pub in_flight : Option Flight → List ℕ → Bool
in_flight None out = not (no_bytes out)
in_flight (Some flight) out = true

-- where these bytes are kept for the peer after a write, the mark: this moment where it was the last one of a response
abbrev pub mark_written : (mark moment : ℕ) → Option Flight → List ℕ → ℕ
mark_written mark moment flight out = if in_flight flight out then mark else moment

abbrev pub mark_ran : ℕ → Conn → Conn → ℕ
mark_ran moment old new = mark_by old.times.mark moment
    (not (no_bytes (pending_at old.flight old.out old.tail))) (in_flight old.flight old.out)
    (not (no_bytes (pending_at new.flight new.out new.tail))) (in_flight new.flight new.out)

-- The mark after an event at this moment, which is set by each step by which bytes come to be pending or a request comes to
-- its end.
abbrev pub mark_after : (moment : ℕ) → Event → StepAnswer → Conn → Conn → ℕ
mark_after moment (Wrote conn count) (Done taken) old new = mark_written old.times.mark moment new.flight new.out
mark_after moment (FileDone conn node answer) (Done taken) old new = mark_ran moment old new
mark_after moment (Run conn node) (Done taken) old new = mark_ran moment old new
mark_after moment e a old new = old.times.mark

-- the moment of the last write after an event
abbrev pub wrote_after : (moment : ℕ) → Event → StepAnswer → Conn → ℕ
wrote_after moment (Wrote conn count) (Done taken) old = moment
wrote_after moment e a old = old.times.wrote

-- where bytes come to be buffered, the moment since which some are
abbrev pub filled_by : (filled moment : ℕ) → (was_empty : Bool) → List ℕ → ℕ
filled_by filled moment was_empty buffered = if was_empty && not (no_bytes buffered) then moment else filled

-- the moment after an event since which bytes are buffered
abbrev pub filled_after : (moment : ℕ) → Event → StepAnswer → Conn → Conn → ℕ
filled_after moment (Arrived conn bytes) (Done taken) old new = filled_by old.times.filled moment (no_bytes old.buffered) new.buffered
filled_after moment e a old new = old.times.filled

-- The pace after an event that stopped nothing: that of the level that answers, where the event put
-- the head of a response.
abbrev pub PaceRan : Serves → (now : Start) → Option Flight → (old : Conn) → (flight' : Option Flight) →
    (pace' : Pace) → Type 0
PaceRan x now None old flight' pace' =
    PacedFor (AreRaceless x) (service_in x old.local old.peer) now old.next
    (λ trees. (rest_in x flight' trees).values)
    old.times.pace pace'
PaceRan x now (Some flow) old flight' pace' =
    IsPaced (AreRaceless x × ReachedIn x (Some flow)) (λ trees. (rest_in x (Some flow) trees).values)
    (λ trees. (rest_in x flight' trees).values)
    old.times.pace pace'

abbrev pub PaceAfter : Serves → Start → Event → StepAnswer → Conn → Conn → Type 0
PaceAfter x now (Run conn node) (Done taken) old new =
    is_some new.cause ≡ false → PaceRan x now old.flight old new.flight new.times.pace
PaceAfter x now e a old new = new.times.pace ≡ old.times.pace

-- what an event does to the times that its connection waits by
pub record TimesConn (x : Serves) (now : Start) (e : Event) (a : StepAnswer)
    (old new : Conn) : Type 0 where
  pub mark : new.times.mark ≡ mark_after now.moment e a old new
  pub wrote : new.times.wrote ≡ wrote_after now.moment e a old
  pub filled : new.times.filled ≡ filled_after now.moment e a old new
  pub head : new.times.head ≡ old.times.head
  pub pace : PaceAfter x now e a old new

-- what each connection shows is sound
abbrev pub AllSound : Type 0
AllSound = (x : Serves) (conn : Conn) → IsSound (view_of x conn)

-- What is shown of a live connection is no more and no less than what is left. One that is to be
-- closed is idle; one that is idle after the end of its input is to be closed; and where one isn't
-- idle, either bytes are still to come, if a further request starts, or some request isn't logged
-- yet.
pub record IsExact (v : ConnView) : Type 0 where
  pub rests : is_live v ≡ true → v.shut ≡ true → is_idle v ≡ true
  pub ends : is_idle v ≡ true → v.ended ≡ true → v.shut ≡ true
  pub busy : is_live v ≡ true → is_idle v ≡ false →
      (trees : Trees) (start : Start) (later : List Start) →
      v.course.bytes trees [] (start ∷ later) ≡ [] →
      v.logs ≢ map (λ l. Some l) (v.course.logs trees [] (start ∷ later))

-- what each connection shows is exact
abbrev pub AllExact : Type 0
AllExact = (x : Serves) (conn : Conn) → IsExact (view_of x conn)

-- no connection holds more bytes of its input than these, nor keeps more for its peer
abbrev pub AllBounded : Type 0
AllBounded = (conn : Conn) → (length conn.buffered ≤ 8192) × (length conn.out ≤ most_kept)

-- what is pending of a response in chunks that is over is all that is kept, or ends where a chunk ends, by the lengths
abbrev pub AllPendWhole : Type 0
AllPendWhole = (conn : Conn) → conn.flight ≡ None → ∥ PendsWhole conn.tail conn.out (pending_at conn.flight conn.out conn.tail) ∥₁
