-- The first want of a connection that can be served.
use Rattle.std.proofs.Common.{◌≡◌, ℕ, Bool, true, false, ◌&&◌, cond, List, [], ◌∷◌, ◌++◌, map, length, eqb, Option, None, Some, refl, ap, ◌∙◌, arith}
use Rattle.std.specs.Prelude.{not, is_some}
use Rattle.std.proofs.lemmas.Bool.Decides.{nat_tests}
use Rattle.ngx_outside.specs.Views.{Job, no_bytes}
use Rattle.ngx_outside.specs.Wants.{wants_at, read_want, first_doable}
use Rattle.ngx_outside.specs.declared.event.Entry.{Entry}
use Rattle.ngx_outside.specs.declared.event.StopCause.{StopCause}
use Rattle.ngx_outside.specs.declared.event.Want.TheVariants as want
use Rattle.req_head.specs.declared.head.HeadStep.{HeadStep}
use Rattle.body_frame.specs.declared.state.BodyState.{BodyState}
use Rattle.response_flow.specs.declared.flight.Flight.{Flight}
use Rattle.response_flow.specs.Flights.{jobs_of}
use Rattle.response_flow.specs.subrequests.Wants.{first_job as job_first, first_of as number_first}
use Rattle.http_connection.specs.Rests.{Serves}
use Rattle.http_connection.specs.Conn.{view_at, room_at, ready_at, shut_at, pending_at}
use Rattle.http_connection.specs.Wants.{first_of, room_if}
use Rattle.answers_meaning.specs.Asking.{Service}

-- a write, and the close
last_is : (c : ℕ) (due full empty shut : Bool) →
    first_of c None None None (not full && not empty) shut ≡ first_doable due full (cond empty [] (want.Write c ∷ []) ++ cond shut (want.Close c ∷ []) [])
unfolding first_doable
last_is c due true true true = refl
last_is c due true true false = refl
last_is c due true false true = refl
last_is c due true false false = refl
last_is c due false true true = refl
last_is c due false true false = refl
last_is c due false false shut = refl

-- by all that it shows
first_is : (c : ℕ) (due full : Bool) (room : Option ℕ) (ready : List ℕ) (jobs : List Job) (empty shut : Bool) →
    first_of c (room_if due room) (number_first ready) (job_first jobs) (not full && not empty) shut
    ≡ first_doable due full (read_want c room ++ map (λ node. want.Run c node) ready ++ map (λ (job : Job). want.Job c job.node) jobs ++ cond empty [] (want.Write c ∷ []) ++ cond shut (want.Close c ∷ []) [])
unfolding first_doable
first_is c true full (Some room) ready jobs empty shut = refl
first_is c false full (Some room) (node ∷ ready) jobs empty shut = refl
first_is c false full (Some room) [] (job ∷ jobs) empty shut = refl
first_is c false full (Some room) [] [] empty shut = last_is c false full empty shut
first_is c true full None (node ∷ ready) jobs empty shut = refl
first_is c true full None [] (job ∷ jobs) empty shut = refl
first_is c true full None [] [] empty shut = last_is c true full empty shut
first_is c false full None (node ∷ ready) jobs empty shut = refl
first_is c false full None [] (job ∷ jobs) empty shut = refl
first_is c false full None [] [] empty shut = last_is c false full empty shut

first_shown : (x : Serves) (service : Service) (cause : Option StopCause) (flight : Option Flight) (out : List ℕ) (tail : ℕ) (journal : List Entry) (closing ended : Bool) (body : Option BodyState) (buffered : List ℕ) (next : HeadStep) (c : ℕ) (due full : Bool) →
    first_of c (room_if due (room_at (is_some cause) closing ended buffered)) (number_first (ready_at (is_some cause) flight closing out body next)) (job_first (jobs_of flight)) (not full && not (no_bytes (pending_at flight out tail))) (shut_at (is_some cause) flight closing ended out body next)
    ≡ first_doable due full (wants_at c (view_at x service cause flight out tail journal closing ended body buffered next))
unfolding wants_at
first_shown x service cause flight out tail journal closing ended body buffered next c due full =
    first_is c due full (room_at (is_some cause) closing ended buffered) (ready_at (is_some cause) flight closing out body next) (jobs_of flight) (no_bytes (pending_at flight out tail)) (shut_at (is_some cause) flight closing ended out body next)

no_bytes_is : (xs : List ℕ) → eqb (length xs) 0 ≡ no_bytes xs
no_bytes_is [] = refl
no_bytes_is (x ∷ xs) = let e : eqb (length (x ∷ xs)) 0 ≡ false = grind (arith, nat_tests) in e

-- the same of what the code asks
pub next_is : (x : Serves) (service : Service) (cause : Option StopCause) (flight : Option Flight) (out : List ℕ) (tail : ℕ) (pending : List ℕ) (journal : List Entry) (closing ended : Bool) (body : Option BodyState) (buffered : List ℕ) (next : HeadStep) (c : ℕ) (due full : Bool) (room runs asks : Option ℕ) (empty shut : Bool) →
    room ≡ room_if due (room_at (is_some cause) closing ended buffered) → runs ≡ number_first (ready_at (is_some cause) flight closing out body next) → asks ≡ job_first (jobs_of flight) →
    pending ≡ pending_at flight out tail → empty ≡ eqb (length pending) 0 → shut ≡ shut_at (is_some cause) flight closing ended out body next →
    first_of c room runs asks (not full && not empty) shut ≡ first_doable due full (wants_at c (view_at x service cause flight out tail journal closing ended body buffered next))
next_is x service cause flight out tail pending journal closing ended body buffered next c due full room runs asks empty shut er eu ea ep ee es =
    ap (λ t. first_of c t runs asks (not full && not empty) shut) er
    ∙ ap (λ t. first_of c (room_if due (room_at (is_some cause) closing ended buffered)) t asks (not full && not empty) shut) eu
    ∙ ap (λ t. first_of c (room_if due (room_at (is_some cause) closing ended buffered)) (number_first (ready_at (is_some cause) flight closing out body next)) t (not full && not empty) shut) ea
    ∙ ap (λ t. first_of c (room_if due (room_at (is_some cause) closing ended buffered)) (number_first (ready_at (is_some cause) flight closing out body next)) (job_first (jobs_of flight)) (not full && not t) shut) (ee ∙ no_bytes_is pending ∙ ap no_bytes ep)
    ∙ ap (λ t. first_of c (room_if due (room_at (is_some cause) closing ended buffered)) (number_first (ready_at (is_some cause) flight closing out body next)) (job_first (jobs_of flight)) (not full && not (no_bytes (pending_at flight out tail))) t) es
    ∙ first_shown x service cause flight out tail journal closing ended body buffered next c due full
