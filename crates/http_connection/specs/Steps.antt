-- What becomes of a connection's parts.
use Rattle.std.specs.Prelude.{◌≡◌, ◌≤◌, ℕ, Bool, true, false, not, is_some, nat_lt, Option, None, Some, List, [], ◌∷◌, ◌++◌, length, drop, map, if◌then◌else◌}
use Rattle.file_tree.specs.Tree.{Trees}
use Rattle.ngx_outside.specs.Views.{Start, Log, log_of}
use Rattle.ngx_outside.specs.declared.event.Entry.{Entry}
use Rattle.body_frame.specs.Outcome.{BodyOutcome, Whole, Short}
use Rattle.body_frame.specs.State.{body_of, rest_body}
use Rattle.body_frame.specs.declared.state.BodyState.{BodyState}
use Rattle.answers_meaning.specs.Asking.{Service, server_for}
use Rattle.request_meaning.specs.Counts.{most_subs}
use Rattle.answers_meaning.specs.Answers.{Answer, Response, then_closes, after_body, response_at, refusal}
use Rattle.response_flow.specs.declared.flight.Flight.{Flight}
use Rattle.response_flow.specs.declared.flight.Ran.{Ran}
use Rattle.response_flow.specs.declared.flight.Ran.TheVariants.{On, TooMany}
use Rattle.response_flow.specs.Continues.{is_over}
use Rattle.response_flow.specs.request_flow.Rests.{closes_after, logged_by}
use Rattle.http_connection.specs.Rests.{AreRaceless, Serves, service_in, rest_in, values_at}
use Rattle.http_connection.specs.Times.{or_values, values_in}
use Rattle.http_connection.specs.declared.open.Meeting.{Meeting}
use Rattle.req_head.specs.declared.head.Head.{Head as RequestHead}
use Rattle.req_head.specs.declared.head.HeadStep.{HeadStep}
use Rattle.req_head.specs.declared.head.HeadStep.TheVariants.{More, Head, Bad}

-- buffered bytes begin a request, or what is no request
abbrev pub begins : HeadStep → Bool
begins (Head head size) = true
begins (Bad code no_body) = true
begins More = false

-- they begin a request
abbrev pub is_head : HeadStep → Bool
is_head (Head head size) = true
is_head (Bad code no_body) = false
is_head More = false

-- a further request may start, once nothing of a body is to be dropped
abbrev pub starts : Option BodyState → HeadStep → Bool
starts None next = begins next
starts (Some state) next = false

-- what a text says of the rest of a body, where there is one
abbrev pub rest_of : Option BodyState → List ℕ → BodyOutcome
rest_of None text = Whole 0
rest_of (Some state) text = rest_body state text

-- the answers to bytes at whose front the rest of a body may be, by those to what comes after that
abbrev pub past_body : Option BodyState → List ℕ → (List ℕ → List Answer) → List Answer
past_body body input g = after_body (rest_of body input) (λ count. g (drop count input))

-- A body's rest was dropped from the front of these bytes as far as it is there: the answers to
-- them, whatever comes after them, are those to what is buffered then; where the body is broken the
-- connection closes. Where it isn't ended, nothing is buffered.
pub record Drops (from : List ℕ → BodyOutcome) (input : List ℕ) (body : Option BodyState)
    (buffered : List ℕ) (broken : Bool) : Type 0 where
  pub rest : (g : List ℕ → List Answer) (more : List ℕ) →
      after_body (from (input ++ more))
      (λ count. g (drop count (input ++ more))) ≡ (if broken then then_closes else past_body body
      (buffered ++ more) g)
  pub drained : is_some body ≡ true → buffered ≡ []
  pub unended : is_some body ≡ true → rest_of body [] ≡ Short
  pub shorter : length buffered ≤ length input

-- the logs in a journal, of the requests that are over
unfoldable pub logged_in : List Entry → List Log
logged_in [] = []
logged_in (entry ∷ journal) = logged_by entry.log ++ logged_in journal

-- each request of a journal is logged, but the last one where it is in flight
abbrev pub IsLogged : Bool → List Entry → Type 0
IsLogged in_flight journal = map log_of journal ≡ map (λ l. Some l) (logged_in journal) ++
    (if in_flight then None ∷ [] else [])

-- What is refused is answered by the built-in page of a code, after which the connection closes.
pub record Refuses (code : ℕ) (start : Start) (no_body : Bool) (flight' : Option Flight)
    (out out' : List ℕ) (closing : Bool) (log : Option Log) : Type 0 where
  pub put : out' ≡ out ++ (refusal code start no_body).bytes
  pub over : flight' ≡ None
  pub logged : log ≡ Some (refusal code start no_body).log
  pub closes : closing ≡ true

-- it asks for more subrequests than are opened for one response
abbrev pub is_heavy : Response → Bool
is_heavy r = nat_lt most_subs r.subs

abbrev pub start_in : Meeting → Start
start_in m = record { moment = m.moment; tree = m.tree }

-- A request was opened: what was put and what is still to come is its response.
pub record Opened (x : Serves) (trees : Trees) (m : Meeting) (k : ℕ) (head : RequestHead)
    (flight' : Option Flight) (out out' : List ℕ) (closing : Bool)
    (log : Option Log) (number : Option ℕ) : Type 0 where
  pub put : out' ++ (rest_in x flight' trees).bytes ≡ out ++
      (response_at (service_in x m.local m.peer) trees k (start_in m) head).bytes
  pub closes : closes_after (rest_in x flight' trees) closing ≡ not
      (response_at (service_in x m.local m.peer) trees k (start_in m) head).stays
  pub logged : logged_by log ++ (rest_in x flight' trees).logs ≡
      (response_at (service_in x m.local m.peer) trees k (start_in m) head).log ∷ []
  pub heavy : is_over (rest_in x flight' trees) ≡
      is_heavy (response_at (service_in x m.local m.peer) trees k (start_in m) head)
  pub level : or_values (values_at x.served number) (rest_in x flight' trees).values
      ≡ values_in (service_in x m.local m.peer) trees (start_in m) head
      (server_for (service_in x m.local m.peer) head)

-- Where the race check names no variable, what became of it: it was opened, or it asks for more
-- subrequests than are opened for one response.
abbrev pub OpenedTo : Serves → Meeting → ℕ → RequestHead → List ℕ → List ℕ → Ran → Type 0
OpenedTo x m k head out out' (On o) = AreRaceless x → (trees : Trees) →
    Opened x trees m k head o.flight out out' o.closing o.log o.level
OpenedTo x m k head out out' TooMany = AreRaceless x → (trees : Trees) →
    is_heavy (response_at (service_in x m.local m.peer) trees k (start_in m) head) ≡ true

-- What was put after what is kept for the peer and what is still to come is the response to a
-- request, which is logged once all of it was put; and the connection closes after it where the
-- response says so or the body is broken.
pub record Says (x : Serves) (service : Service) (trees : Trees) (start : Start) (k : ℕ)
    (head : RequestHead) (broken : Bool) (flight' : Option Flight) (out out' : List ℕ)
    (closing : Bool) (log : Option Log) : Type 0 where
  pub put : out' ++ (rest_in x flight' trees).bytes ≡ out ++
      (response_at service trees k start head).bytes
  pub closes : closes_after (rest_in x flight' trees) closing ≡
      (if (response_at service trees k start head).stays then broken else true)
  pub logged : logged_by log ++ (rest_in x flight' trees).logs ≡
      (response_at service trees k start head).log ∷ []
  pub heavy : is_over (rest_in x flight' trees) ≡ is_heavy (response_at service trees k start head)

-- A request starts: its head is dropped, and its body as far as it is there; and its response
-- begins.
pub record RanHead (x : Serves) (service : Service) (start : Start) (k : ℕ)
    (head : RequestHead) (size : ℕ) (buffered buffered' : List ℕ)
    (body' : Option BodyState) (flight' : Option Flight) (out out' : List ℕ) (closing : Bool)
    (log : Option Log) : Type 0 where
  pub broken : Bool
  pub says : AreRaceless x → (trees : Trees) →
      Says x service trees start k head broken flight' out out' closing log
  pub over : is_some log ≡ not (is_some flight')
  pub drops : Drops (body_of head.body) (drop size buffered) body' buffered' broken

-- One that is refused closes the connection, and its bytes stay.
pub record RanBad (start : Start) (code : ℕ) (no_body : Bool) (buffered buffered' : List ℕ)
    (body' : Option BodyState) (flight' : Option Flight) (out out' : List ℕ)
    (closing : Bool) (log : Option Log) : Type 0 where
  pub put : out' ≡ out ++ (refusal code start no_body).bytes
  pub stands : buffered' ≡ buffered
  pub bodiless : body' ≡ None
  pub over : flight' ≡ None
  pub logged : log ≡ Some (refusal code start no_body).log
  pub closes : closing ≡ true

abbrev pub RanOne : Serves → Service → Start → ℕ → HeadStep → List ℕ → List ℕ
    → Option BodyState → Option Flight → List ℕ → List ℕ → Bool → Option Log → Type 0
RanOne x service start k (Head head size) buffered buffered' body' flight' out out' closing log =
    RanHead x service start k head size buffered buffered' body' flight' out out' closing log
RanOne x service start k (Bad code no_body) buffered buffered' body' flight' out out' closing log =
    RanBad start code no_body buffered buffered' body' flight' out out' closing log
RanOne x service start k More buffered buffered' body' flight' out out' closing log = ⊥

-- It asks for more subrequests than are opened for one response.
abbrev pub RanOver : Serves → Service → Start → ℕ → HeadStep → Type 0
RanOver x service start k (Head head size) = AreRaceless x → (trees : Trees) →
    is_heavy (response_at service trees k start head) ≡ true
RanOver x service start k (Bad code no_body) = ⊥
RanOver x service start k More = ⊥

abbrev pub RanTo : Serves → Service → Start → ℕ → HeadStep → List ℕ → List ℕ
    → Option BodyState → List ℕ → List ℕ → Ran → Type 0
RanTo x service start k next buffered buffered' body' out out' (On o) =
    RanOne x service start k next buffered buffered' body' o.flight out out' o.closing o.log
RanTo x service start k next buffered buffered' body' out out' TooMany = RanOver x service start k next

-- what is logged of it by now
abbrev pub log_ran : Ran → Option Log
log_ran (On o) = o.log
log_ran TooMany = None
