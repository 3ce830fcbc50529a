-- The steps of a connection, by its parts.
use Rattle.std.proofs.Common.{◌≡◌, ℕ, ◌+◌, ◌-◌, ◌*◌, ◌<◌, ◌≤◌, min, Bool, true, false, ◌&&◌, ◌||◌, cond, List, [], ◌∷◌, ◌++◌, length, take, drop, map, Option, None, Some, inl, inr, refl, sym, ap, ◌∙◌, subst, append_assoc, length-append, length-drop, arith, suc, zero, set, get_or}
use Rattle.std.specs.Prelude.{nat_le, nat_lt, not, is_some, ◌==◌, ◌⊎◌}
use Rattle.std.specs.List.{Contains}
use Rattle.std.proofs.lemmas.List.{append-nil, map-append, drop-append-le}
use Rattle.std.proofs.Props.{props}
use Rattle.std.proofs.lemmas.Bool.Decides.{nat_tests}
use Rattle.request_meaning.specs.Counts.{most_subs}
use Rattle.file_tree.specs.Tree.{Trees}
use Rattle.ngx_outside.specs.Views.{Start, start_of, Log, log_of, Logged, Ground, Holds, Went, Ran, Goes, Halts, Refused, Stopped, is_live}
use Rattle.ngx_outside.specs.Views.Ground.{Always}
use Rattle.ngx_outside.specs.declared.event.Entry.{Entry}
use Rattle.ngx_outside.specs.declared.event.StopCause.{StopCause}
use Rattle.ngx_outside.specs.declared.event.StopCause.TheVariants as stop
use Rattle.req_head.specs.declared.head.Head.{Head as RequestHead}
use Rattle.req_head.specs.declared.head.HeadStep.{HeadStep}
use Rattle.req_head.specs.declared.head.HeadStep.TheVariants.{More, Head, Bad}
use Rattle.req_head.specs.Step.{head_step}
use Rattle.req_head.specs.Laws.{HeadStays, RefusalStays, SizeFits}
use Rattle.body_frame.specs.State.{body_of}
use Rattle.body_frame.specs.declared.state.BodyState.{BodyState}
use Rattle.answers_meaning.specs.Asking.{Service}
use Rattle.answers_meaning.specs.Answers.{Response, Answer, Sends, then_closes, responses, first_response, response_at, refusal, bytes_in, logs_in, close_in, heavy_in, any_over, after_body}
use Rattle.response_flow.specs.request_flow.Flows.{asking_most, flow_most}
use Rattle.response_flow.specs.request_flow.Rests.{Rest, closes_after, logged_by}
use Rattle.request_journal.specs.Noted.{last_logged, logged_if}
use Rattle.response_flow.specs.declared.flight.Flight.{Flight}
use Rattle.response_flow.specs.declared.flight.Onward.{Onward}
use Rattle.response_flow.specs.declared.flight.Ran.{Ran as FlightRan}
use Rattle.response_flow.specs.declared.flight.Ran.TheVariants.{On, TooMany}
use Rattle.response_flow.specs.Continues.{is_over}
use Rattle.response_flow.specs.Flights.{flight_left, page_most, shown_kept}
use Rattle.response_flow.specs.Writes.{Writes}
use Rattle.http_connection.specs.Rests.{AreRaceless, Serves, TellsRaceless, rest_in}
use Rattle.http_connection.specs.Steps.{begins, is_heavy, rest_of, past_body, logged_in, IsLogged, Drops, RanOne, RanOver, RanTo}
use Rattle.http_connection.specs.Conn.{view_at, after_at, bytes_at, logs_at, heavy_at, left_at, room_at, starts_at, pending_at, weight, price}

never : (A : Type 0) → false ≡ true → A
never A e = cc

pub none_taken : (n : ℕ) → take {A = ℕ} n [] ≡ []
none_taken zero = refl
none_taken (suc n) = refl

-- nothing is shown of one that was stopped
pub unsent : (flight : Option Flight) (out : List ℕ) (tail : ℕ) → flight ≡ None → out ≡ [] → pending_at flight out tail ≡ []
unsent flight out tail f e = ap (λ f. pending_at f out tail) f ∙ ap (λ o. pending_at None o tail) e ∙ none_taken (shown_kept tail 0)

pub not_stopped : (cause : Option StopCause) (flight : Option Flight) (out : List ℕ) (tail n : ℕ) → (is_some cause ≡ true → out ≡ []) → (is_some cause ≡ true → flight ≡ None) → 0 < n → n ≤ length (pending_at flight out tail) → is_some cause ≡ false
not_stopped None flight out tail n h q a b = refl
not_stopped (Some cause) flight out tail n h q a b = absurd (let e = ap length (unsent flight out tail (q refl) (h refl)) in omega (arith, e, a, b))

pub below : (a b : ℕ) → nat_le a b ≡ true → a ≤ b
below a b e = grind (arith, nat_tests)

pub and_left : (a b : Bool) → (a && b) ≡ true → a ≡ true
and_left true b e = refl
and_left false b e = cc

pub and_right : (a b : Bool) → (a && b) ≡ true → b ≡ true
and_right true b e = e
and_right false b e = cc

some_room : (t : Bool) (n room : ℕ) → nat_le 8192 n ≡ t → cond t None (Some (8192 - n)) ≡ Some room → 0 < room
some_room true n room e h = cc
some_room false n room e h =
    let lt : n < 8192 = grind (arith, nat_tests) in
    let r : 8192 - n ≡ room = cc in
    omega arith

pub arrived_left : (cause : Option StopCause) (flow : Option Flight) (out : List ℕ) (closing closing' : Bool) (buffered buffered' kept bytes : List ℕ) (n : ℕ) → closing ≡ false → buffered' ≡ buffered ++ kept → length kept ≤ n → left_at cause flow out closing' buffered' ≤ left_at cause flow out closing buffered + price * n
unfolding price weight
arrived_left None flow out true closing' buffered buffered' kept bytes n o e h = cc
arrived_left None flow out false true buffered buffered' kept bytes n o e h = omega arith
arrived_left None flow out false false buffered buffered' kept bytes n o e h =
    let s : length buffered' ≡ length buffered + length kept = ap length e ∙ length-append buffered kept in
    omega (arith, s, h)
arrived_left (Some cause) flow out closing closing' buffered buffered' kept bytes n o e h = omega arith

pub node_ready : (t : Bool) → t ≡ true → Contains {X = ℕ} (cond t (0 ∷ []) []) 0
node_ready true e = (0, omega arith, refl)
node_ready false e = cc

-- where none is in flight, it is that with which a further one starts
pub none_flying : (A : Option Flight → Type 0) (flight : Option Flight) → flight ≡ None → A None → A flight
none_flying A flight e a = subst A (sym e) a

responses_head : HeadStays → SizeFits → (service : Service) (k : ℕ) (trees : Trees) (input more : List ℕ) (start : Start) (later : List Start) (head : RequestHead) (size : ℕ) → head_step input ≡ Head head size →
    responses service k trees (input ++ more) (start ∷ later) ≡ Sends (response_at service trees k start head) ∷ cond (response_at service trees k start head).stays (after_body (body_of head.body (drop size input ++ more)) (λ n. responses service (k + 1) trees (drop n (drop size input ++ more)) later)) then_closes
unfolding responses
responses_head stays fits service k trees input more start later head size h =
    ap (λ s. first_response service trees k start s (λ n kind. after_body (body_of kind (drop n (input ++ more))) (λ m. responses service (k + 1) trees (drop m (drop n (input ++ more))) later))) (stays input more head size h)
    ∙ ap (λ i. Sends (response_at service trees k start head) ∷ cond (response_at service trees k start head).stays (after_body (body_of head.body i) (λ n. responses service (k + 1) trees (drop n i) later)) then_closes) (drop-append-le size input more (fits input head size h).1)

responses_bad : RefusalStays → (service : Service) (k : ℕ) (trees : Trees) (input more : List ℕ) (start : Start) (later : List Start) (code : ℕ) (no_body : Bool) → head_step input ≡ Bad code no_body →
    responses service k trees (input ++ more) (start ∷ later) ≡ Sends (refusal code start no_body) ∷ then_closes
unfolding responses
responses_bad stays service k trees input more start later code no_body h =
    ap (λ s. first_response service trees k start s (λ n kind. after_body (body_of kind (drop n (input ++ more))) (λ m. responses service (k + 1) trees (drop m (drop n (input ++ more))) later))) (stays input more code no_body h)

pub entered_logs : (journal : List Entry) (entry : Entry) → logged_in (journal ++ entry ∷ []) ≡ logged_in journal ++ logged_by (log_of entry)
unfolding logged_in
entered_logs [] entry = append-nil (logged_by (log_of entry))
entered_logs (e ∷ journal) entry = ap (λ x. logged_by (log_of e) ++ x) (entered_logs journal entry) ∙ sym (append_assoc (logged_by (log_of e)) (logged_in journal) (logged_by (log_of entry)))

not_twice : (b : Bool) → b ≡ not (not b)
not_twice true = refl
not_twice false = refl

falls : (w w' n n' : ℕ) (closing : Bool) → w' < w + weight → n' < n → 1 + w' + cond closing 0 (weight * (n' + 1)) < 1 + w + weight * (n + 1)
unfolding weight
falls w w' n n' true a b = omega arith
falls w w' n n' false a b = omega arith

pub not_over : (a b : Bool) → a ≡ not b → not a ≡ b
not_over true true e = cc
not_over true false e = refl
not_over false true e = refl
not_over false false e = cc

pub some_taken : (n room taken : ℕ) → taken ≡ min n room → (n == 0) ≡ false → 0 < room → 0 < taken
some_taken n room taken e f h = grind (arith, nat_tests)

pub within_taken : (n room taken : ℕ) → taken ≡ min n room → taken ≤ n
within_taken n room taken e = omega arith

pub stopped_left : (why : StopCause) (cause : Option StopCause) (flow flow' : Option Flight) (out out' : List ℕ) (closing closing' : Bool) (buffered buffered' : List ℕ) → is_some cause ≡ false → left_at (Some why) flow' out' closing' buffered' < left_at cause flow out closing buffered
stopped_left why None flow flow' out out' closing closing' buffered buffered' live = omega arith
stopped_left why (Some cause) flow flow' out out' closing closing' buffered buffered' live = cc

-- what its journal says of when requests started stays, and how many they are
pub finished_starts : (journal : List Entry) (log : Option Log) → map start_of (logged_if journal log) ≡ map start_of journal
finished_starts journal None = refl
finished_starts [] (Some log) = refl
finished_starts (e ∷ []) (Some log) = refl
finished_starts (e ∷ f ∷ journal) (Some log) = ap (λ r. start_of e ∷ r) (finished_starts (f ∷ journal) (Some log))

pub finished_count : (journal : List Entry) (log : Option Log) → length (logged_if journal log) ≡ length journal
finished_count journal None = refl
finished_count [] (Some log) = refl
finished_count (e ∷ []) (Some log) = refl
finished_count (e ∷ f ∷ journal) (Some log) = ap suc (finished_count (f ∷ journal) (Some log))

-- what is logged of its requests are the logs of its responses
logged_shown : (in_flight : Bool) (logs : List (Option Log)) (over later : List Log) → logs ≡ map (λ l. Some l) over ++ cond in_flight (None ∷ []) [] → Logged logs (over ++ later)
logged_shown true logs over later e = record { over = over; later = later; first = refl; told = inr e }
logged_shown false logs over later e = record { over = over; later = later; first = refl; told = inl (e ∙ append-nil (map (λ l. Some l) over)) }

-- the bytes for the peer and what is left of the response
abbrev pub work : Option Flight → ℕ → ℕ
work flow size = size + flight_left flow size

pub goes_left : (cause : Option StopCause) (flow flow' : Option Flight) (out out' : List ℕ) (closing closing' : Bool) (buffered : List ℕ) → is_some cause ≡ false → (closing ≡ true → closing' ≡ true) → work flow' (length out') < work flow (length out) → left_at cause flow' out' closing' buffered < left_at cause flow out closing buffered
goes_left (Some cause) flow flow' out out' closing closing' buffered live k w = cc
goes_left None flow flow' out out' true true buffered live k w = omega (arith, w)
goes_left None flow flow' out out' true false buffered live k w = absurd (let e : false ≡ true = k refl in cc)
goes_left None flow flow' out out' false true buffered live k w = omega (arith, w)
goes_left None flow flow' out out' false false buffered live k w = omega (arith, w)

-- bytes arrive
pub room_some : (stopped closing ended : Bool) (buffered : List ℕ) (room : ℕ) → room_at stopped closing ended buffered ≡ Some room → (stopped ≡ false) × (closing ≡ false) × (ended ≡ false) × (0 < room)
room_some false false false buffered room h = (refl, refl, refl, some_room (nat_le 8192 (length buffered)) (length buffered) room refl h)
room_some false false true buffered room h = cc
room_some false true ended buffered room h = cc
room_some true closing ended buffered room h = cc

-- after a body that is dropped, and what is buffered after it
absorbed : (g : List ℕ → List Answer) (body body' : Option BodyState) (buffered buffered' bytes kept more : List ℕ) (broken : Bool) → (is_some body ≡ true → buffered ≡ []) → (body ≡ None → (body' ≡ None) × (broken ≡ false) × (kept ≡ bytes)) → Drops (rest_of body) bytes body' kept broken →
    buffered' ≡ buffered ++ kept → past_body body (buffered ++ (bytes ++ more)) g ≡ cond broken then_closes (past_body body' (buffered' ++ more) g)
absorbed g None body' buffered buffered' bytes kept more broken drained still d e =
    let s = still refl in
    let whole : buffered' ++ more ≡ buffered ++ (bytes ++ more) = ap (λ l. l ++ more) (e ∙ ap (λ k. buffered ++ k) s.2) ∙ append_assoc buffered bytes more in
    sym (ap (λ b. cond b then_closes (past_body body' (buffered' ++ more) g)) s.1 ∙ ap (λ b. past_body b (buffered' ++ more) g) s.0 ∙ ap g whole)
absorbed g (Some state) body' buffered buffered' bytes kept more broken drained still d e =
    let none = drained refl in
    ap (λ h. past_body (Some state) (h ++ (bytes ++ more)) g) none ∙ d.rest g more
    ∙ ap (λ k. cond broken then_closes (past_body body' (k ++ more) g)) (sym (e ∙ ap (λ h. h ++ kept) none))

-- whether the connection closes after a response, where it doesn't yet
behind_kept : (r : Rest) (closing closing' : Bool) (x y : List Answer) → closing ≡ false → x ≡ cond closing' then_closes y → cond (closes_after r closing) then_closes x ≡ cond (closes_after r closing') then_closes y
behind_kept r closing closing' x y e f = ap (λ c. cond (closes_after r c) then_closes x) e ∙ by r.stays
  where
    by : (stays : Bool) → cond (cond stays false true) then_closes x ≡ cond (cond stays closing' true) then_closes y
    by true = f
    by false = refl

-- a further request starts
pub starts_if : (stopped closing : Bool) (out : List ℕ) (body : Option BodyState) (next : HeadStep) → starts_at stopped closing out body next ≡ true → (stopped ≡ false) × (closing ≡ false) × (begins next ≡ true) × (body ≡ None) × (out ≡ [])
starts_if false false [] None (Head head size) h = (refl, refl, refl, refl, refl)
starts_if false false [] None (Bad code no_body) h = (refl, refl, refl, refl, refl)
starts_if false false [] None More h = cc
starts_if false false [] (Some state) next h = cc
starts_if false false (b ∷ out) body next h = cc
starts_if false true out body next h = cc
starts_if true closing out body next h = cc

-- where the response keeps the connection open, what comes is what comes after the body; else nothing
kept_or_closed : (keep broken closes : Bool) (x y : List Answer) → closes ≡ cond keep broken true → x ≡ cond broken then_closes y → cond keep x then_closes ≡ cond closes then_closes y
kept_or_closed true broken closes x y c e = e ∙ ap (λ t. cond t then_closes y) (sym c)
kept_or_closed false broken closes x y c e = ap (λ t. cond t then_closes y) (sym c)

-- a request that was started is logged where it isn't in flight
over_logged : (in_flight : Bool) (logs : List Log) (log : Option Log) → is_some log ≡ not in_flight → (map (λ l. Some l) logs ++ []) ++ log ∷ [] ≡ map (λ l. Some l) (logs ++ logged_by log) ++ cond in_flight (None ∷ []) []
over_logged false logs None e = cc
over_logged true logs (Some log) e = cc
over_logged false logs (Some log) e = ap (λ x. x ++ Some log ∷ []) (append-nil (map (λ l. Some l) logs)) ∙ sym (append-nil (map (λ l. Some l) (logs ++ log ∷ [])) ∙ map-append (λ l. Some l) logs (log ∷ []))
over_logged true logs None e = ap (λ x. x ++ None ∷ []) (append-nil (map (λ l. Some l) logs)) ∙ sym (ap (λ x. map (λ l. Some l) x ++ None ∷ []) (append-nil logs))

pub entered_logged : (in_flight : Bool) (journal : List Entry) (entry : Entry) (log : Option Log) → log_of entry ≡ log → IsLogged false journal → is_some log ≡ not in_flight → IsLogged in_flight (journal ++ entry ∷ [])
entered_logged in_flight journal entry log is told over =
    map-append log_of journal (entry ∷ []) ∙ ap (λ x. x ++ log_of entry ∷ []) told ∙ ap (λ x. (map (λ l. Some l) (logged_in journal) ++ []) ++ x ∷ []) is
    ∙ over_logged in_flight (logged_in journal) log over ∙ ap (λ x. map (λ l. Some l) (logged_in journal ++ logged_by x) ++ cond in_flight (None ∷ []) []) (sym is)
    ∙ ap (λ x. map (λ l. Some l) x ++ cond in_flight (None ∷ []) []) (sym (entered_logs journal entry))

-- the entry of the request in flight is the last one
record Open (journal : List Entry) (logs : List Log) : Type 0 where
  front : List Entry
  last : Entry
  whole : journal ≡ front ++ last ∷ []
  unlogged : log_of last ≡ None
  logged : map log_of front ≡ map (λ l. Some l) logs

open_of : (journal : List Entry) (logs : List Log) → map log_of journal ≡ map (λ l. Some l) logs ++ None ∷ [] → Open journal logs
open_of [] [] e = cc
open_of [] (l ∷ logs) e = cc
open_of (x ∷ []) [] e = record { front = []; last = x; whole = refl; unlogged = cc; logged = refl }
open_of (x ∷ []) (l ∷ []) e = cc
open_of (x ∷ []) (l ∷ m ∷ logs) e = cc
open_of (x ∷ y ∷ journal) [] e = cc
open_of (x ∷ y ∷ journal) (l ∷ logs) e =
    let head : log_of x ≡ Some l = cc in
    let o = open_of (y ∷ journal) logs (let tail : map log_of (y ∷ journal) ≡ map (λ l. Some l) logs ++ None ∷ [] = cc in tail) in
    record { front = x ∷ o.front; last = o.last; whole = ap (λ r. x ∷ r) o.whole; unlogged = o.unlogged; logged = ap (λ z. z ∷ map log_of o.front) head ∙ ap (λ r. Some l ∷ r) o.logged }

open_logs : (journal : List Entry) → (o : Open journal (logged_in journal)) → logged_in journal ≡ logged_in o.front
open_logs journal o = ap logged_in o.whole ∙ entered_logs o.front o.last ∙ ap (λ x. logged_in o.front ++ logged_by x) o.unlogged ∙ append-nil (logged_in o.front)

front_logged : (journal : List Entry) → (o : Open journal (logged_in journal)) → IsLogged false o.front
front_logged journal o = o.logged ∙ ap (map (λ l. Some l)) (open_logs journal o) ∙ sym (append-nil (map (λ l. Some l) (logged_in o.front)))

-- it is logged where its request is over
logged_last : (front : List Entry) (last : Entry) (log : Log) → last_logged (front ++ last ∷ []) log ≡ front ++ record last { log = Some log } ∷ []
logged_last [] last log = refl
logged_last (x ∷ []) last log = refl
logged_last (x ∷ y ∷ front) last log = ap (λ r. x ∷ r) (logged_last (y ∷ front) last log)

finished_as : (journal : List Entry) (log : Log) → (o : Open journal (logged_in journal)) → last_logged journal log ≡ o.front ++ record o.last { log = Some log } ∷ []
finished_as journal log o = ap (λ j. last_logged j log) o.whole ∙ logged_last o.front o.last log

pub finished_logged : (journal : List Entry) (log : Option Log) → IsLogged true journal → IsLogged (not (is_some log)) (logged_if journal log)
finished_logged journal None told = told
finished_logged journal (Some log) told =
    let o = open_of journal (logged_in journal) told in
    subst (IsLogged false) (sym (finished_as journal log o)) (entered_logged false o.front (record o.last { log = Some log }) (Some log) refl (front_logged journal o) refl)

pub finished_logs : (journal : List Entry) (log : Option Log) → IsLogged true journal → logged_in (logged_if journal log) ≡ logged_in journal ++ logged_by log
finished_logs journal None told = sym (append-nil (logged_in journal))
finished_logs journal (Some log) told =
    let o = open_of journal (logged_in journal) told in
    ap logged_in (finished_as journal log o) ∙ entered_logs o.front (record o.last { log = Some log }) ∙ ap (λ x. x ++ logged_by (Some log)) (sym (open_logs journal o))

-- where a request is in flight the connection is live
pub waits_live : (cause : Option StopCause) (flow : Option Flight) (f : Flight) → (is_some cause ≡ true → flow ≡ None) → flow ≡ Some f → is_some cause ≡ false
waits_live None flow f quit is = refl
waits_live (Some cause) flow f quit is = absurd (let e : None ≡ Some f = sym (quit refl) ∙ is in cc)

-- the journal's last request is over
map_length : {A B : Type 0} (f : A → B) (xs : List A) → length (map f xs) ≡ length xs
map_length f [] = refl
map_length f (x ∷ xs) = ap suc (map_length f xs)

pub same_length : (xs ys : List Entry) → map start_of ys ≡ map start_of xs → length ys ≡ length xs
same_length xs ys e = sym (map_length start_of ys) ∙ ap length e ∙ map_length start_of xs

pub lighter : (flow : Option Flight) (size : ℕ) → size + flight_left flow size < page_most + asking_most → work flow size < weight
unfolding weight page_most asking_most flow_most
lighter flow size h = omega (arith, h)

-- an entry of a request that isn't over comes after those that are
not_some : (logs over : List Log) → map (λ l. Some l) logs ++ [] ≡ map (λ l. Some l) over ++ None ∷ [] → ⊥
not_some [] [] e = cc
not_some [] (o ∷ over) e = cc
not_some (l ∷ logs) [] e = cc
not_some (l ∷ logs) (o ∷ over) e = not_some logs over (ap (drop 1) e)

logged_entered : (journal journal' : List Entry) (entry : Entry) (all : List Log) → IsLogged false journal → log_of entry ≡ None → journal' ≡ journal ++ entry ∷ [] → Logged (map log_of journal) all → Logged (map log_of journal') all
logged_entered journal journal' entry all told g j a = by a.told
  where
    by : (map log_of journal ≡ map (λ l. Some l) a.over) ⊎ (map log_of journal ≡ map (λ l. Some l) a.over ++ None ∷ []) → Logged (map log_of journal') all
    by (inl e) = record {
      over = a.over;
      later = a.later;
      first = a.first;
      told = inr (ap (map log_of) j ∙ map-append log_of journal (entry ∷ []) ∙ ap (λ x. x ++ log_of entry ∷ []) e ∙ ap (λ x. map (λ l. Some l) a.over ++ x ∷ []) g);
    }
    by (inr e) = absurd (not_some (logged_in journal) a.over (sym told ∙ e))

-- the first bytes of all that is still to come go, whatever comes after the response
wrote_bytes : {r r' : Rest} {out out' bytes : List ℕ} → Writes r r' out out' bytes → (tail : Bool → List ℕ) →
    out ++ (r.bytes ++ tail r.stays) ≡ bytes ++ (out' ++ (r'.bytes ++ tail r'.stays))
wrote_bytes {r} {r'} {out} {out'} {bytes} w tail =
    ap (λ b. out ++ (r.bytes ++ tail b)) (sym w.stays) ∙ sym (append_assoc out r.bytes (tail r'.stays)) ∙ ap (λ x. x ++ tail r'.stays) w.bytes_are
    ∙ append_assoc bytes (out' ++ r'.bytes) (tail r'.stays) ∙ ap (λ x. bytes ++ x) (append_assoc out' r'.bytes (tail r'.stays))

pub ran_on_one : (x : Serves) (service : Service) (start : Start) (k : ℕ) (next : HeadStep) (buffered buffered' : List ℕ) (body : Option BodyState) (out out' : List ℕ) (ran : FlightRan) (o : Onward) → ran ≡ On o →
    RanTo x service start k next buffered buffered' body out out' ran → RanOne x service start k next buffered buffered' body o.flight out out' o.closing o.log
ran_on_one x service start k next buffered buffered' body out out' ran o is h = subst (RanTo x service start k next buffered buffered' body out out') is h

pub ran_over_one : (x : Serves) (service : Service) (start : Start) (k : ℕ) (next : HeadStep) (buffered buffered' : List ℕ) (body : Option BodyState) (out out' : List ℕ) (ran : FlightRan) → ran ≡ TooMany →
    RanTo x service start k next buffered buffered' body out out' ran → RanOver x service start k next
ran_over_one x service start k next buffered buffered' body out out' ran is h = subst (RanTo x service start k next buffered buffered' body out out') is h

-- As much is still to come of a response that goes on, but for its level.
abbrev pub Keeps : (before after : Rest) → (out out' : List ℕ) → (closing closing' : Bool) → Option Log → Type 0
Keeps before after out out' closing closing' log =
    (out' ++ after.bytes ≡ out ++ before.bytes)
    × ((closes_after after closing' ≡ closes_after before closing)
    × ((logged_by log ++ after.logs ≡ before.logs) × (is_over after ≡ is_over before)))

pub keeps_prop : (before after : Rest) (out out' : List ℕ) (closing closing' : Bool) (log : Option Log) → IsProp (Keeps before after out out' closing closing' log)
keeps_prop before after out out' closing closing' log = hlevel props

module _ (serves : Serves) where
  -- a live connection goes on
  live_at : (service : Service) (cause : Option StopCause) (flow : Option Flight) (out : List ℕ) (tail : ℕ) (journal : List Entry) (closing ended : Bool) (body : Option BodyState) (buffered : List ℕ) (next : HeadStep) → is_some cause ≡ false → is_live (view_at serves service cause flow out tail journal closing ended body buffered next) ≡ true
  live_at service None flow out tail journal closing ended body buffered next h = refl
  live_at service (Some cause) flow out tail journal closing ended body buffered next h = cc

  logged_at : (service : Service) (flow : Option Flight) (journal : List Entry) (closing : Bool) (body : Option BodyState) (buffered : List ℕ) → IsLogged (is_some flow) journal → (trees : Trees) (more : List ℕ) (later : List Start) →
      Logged (map log_of journal) (logs_at service (rest_in serves flow) journal closing body buffered trees more later)
  logged_at service flow journal closing body buffered told trees more later =
      logged_shown (is_some flow) (map log_of journal) (logged_in journal) ((rest_in serves flow trees).logs ++ logs_in (after_at service (rest_in serves flow) journal closing body buffered trees more later)) told

  -- the first pending bytes go
  pub wrote_went : (service : Service) (cause : Option StopCause) (flow flow' : Option Flight) (out out' : List ℕ) (tail : ℕ) (journal : List Entry) (closing ended : Bool) (body : Option BodyState) (buffered : List ℕ) (next : HeadStep) (n : ℕ) → is_some cause ≡ false →
      ((trees : Trees) → Writes (rest_in serves flow trees) (rest_in serves flow' trees) out out' (take n (pending_at flow out tail))) → IsLogged (is_some flow') journal →
      Went Always (view_at serves service cause flow out tail journal closing ended body buffered next) (view_at serves service cause flow' out' tail journal closing ended body buffered next) [] (take n (pending_at flow out tail)) []
  wrote_went service cause flow flow' out out' tail journal closing ended body buffered next n live writes told = record {
    before = live_at service cause flow out tail journal closing ended body buffered next live;
    after = live_at service cause flow' out' tail journal closing ended body buffered next live;
    moved = record {
      starts = sym (append-nil (map start_of journal));
      raceless = refl;
      timed = refl;
      bytes = λ trees is more later. wrote_bytes (writes trees) (λ stays. bytes_in (behind more trees later stays));
      logs = λ trees is more later.
          ap (λ b. logged_in journal ++ ((rest_in serves flow trees).logs ++ logs_in (behind more trees later b))) (sym (writes trees).stays)
          ∙ ap (λ l. logged_in journal ++ (l ++ logs_in (behind more trees later (rest_in serves flow' trees).stays))) (sym (writes trees).logs);
      closes = λ trees is more later. ap (λ b. close_in (behind more trees later b)) (sym (writes trees).stays);
      heavy = λ trees is more later h.
          ap (λ b. is_over (rest_in serves flow trees) || heavy_in (behind more trees later b)) (sym (writes trees).stays)
          ∙ ap (λ k. nat_lt most_subs k || heavy_in (behind more trees later (rest_in serves flow' trees).stays)) (sym (writes trees).subs) ∙ h;
    };
    logged = logged_at service flow' journal closing body buffered told;
  }
    where
      behind : (more : List ℕ) (trees : Trees) (later : List Start) → Bool → List Answer
      behind more trees later stays = cond (cond stays closing true) then_closes (past_body body (buffered ++ more) (λ input. responses service (length journal) trees input later))

  pub arrived_went : (service : Service) (cause : Option StopCause) (flow : Option Flight) (out : List ℕ) (tail : ℕ) (journal : List Entry) (closing closing' ended : Bool) (body body' : Option BodyState) (buffered buffered' kept : List ℕ) (next next' : HeadStep) (bytes : List ℕ) → is_some cause ≡ false → closing ≡ false →
      (is_some body ≡ true → buffered ≡ []) → (body ≡ None → (body' ≡ None) × (closing' ≡ false) × (kept ≡ bytes)) → Drops (rest_of body) bytes body' kept closing' → buffered' ≡ buffered ++ kept → IsLogged (is_some flow) journal →
      Went Always (view_at serves service cause flow out tail journal closing ended body buffered next) (view_at serves service cause flow out tail journal closing' ended body' buffered' next') bytes [] []
  arrived_went service cause flow out tail journal closing closing' ended body body' buffered buffered' kept next next' bytes live unclosed drained still d e told = record {
    before = live_at service cause flow out tail journal closing ended body buffered next live;
    after = live_at service cause flow out tail journal closing' ended body' buffered' next' live;
    moved = record {
      starts = sym (append-nil (map start_of journal));
      raceless = refl;
      timed = refl;
      bytes = λ trees is more later. ap (λ x. out ++ ((rest_in serves flow trees).bytes ++ bytes_in x)) (same trees more later);
      logs = λ trees is more later. ap (λ x. logged_in journal ++ ((rest_in serves flow trees).logs ++ logs_in x)) (same trees more later);
      closes = λ trees is more later. ap close_in (same trees more later);
      heavy = λ trees is more later h. ap (λ a. is_over (rest_in serves flow trees) || heavy_in a) (same trees more later) ∙ h;
    };
    logged = logged_at service flow journal closing' body' buffered' told;
  }
    where
      same : (trees : Trees) (more : List ℕ) (later : List Start) → after_at service (rest_in serves flow) journal closing body buffered trees (bytes ++ more) later ≡ after_at service (rest_in serves flow) journal closing' body' buffered' trees more later
      same trees more later =
          let g : List ℕ → List Answer = λ input. responses service (length journal) trees input later in
          behind_kept (rest_in serves flow trees) closing closing' (past_body body (buffered ++ (bytes ++ more)) g) (past_body body' (buffered' ++ more) g) unclosed (absorbed g body body' buffered buffered' bytes kept more closing' drained still d e)

  -- A request was started: this is its response, before those that are still to come.
  record Said (service : Service) (trees : Trees) (now : Start) (flow' : Option Flight) (out out' : List ℕ) (journal journal' : List Entry) (closing closing' : Bool) (body body' : Option BodyState) (buffered buffered' : List ℕ) (log : Option Log) (more : List ℕ) (later : List Start) : Type 0 where
    said : Response
    first : after_at service (rest_in serves None) journal closing body buffered trees more (now ∷ later) ≡ Sends said ∷ after_at service (rest_in serves flow') journal' closing' body' buffered' trees more later
    put : out' ++ (rest_in serves flow' trees).bytes ≡ out ++ said.bytes
    logged : logged_by log ++ (rest_in serves flow' trees).logs ≡ said.log ∷ []
    heavy : is_over (rest_in serves flow' trees) ≡ is_heavy said

  said_of : HeadStays → RefusalStays → SizeFits → (service : Service) (trees : Trees) (now : Start) (flow' : Option Flight) (out out' : List ℕ) (journal journal' : List Entry) (entry : Entry) (closing closing' : Bool) (body body' : Option BodyState) (buffered buffered' : List ℕ) (next : HeadStep) (log : Option Log) →
      closing ≡ false → body ≡ None → next ≡ head_step buffered → journal' ≡ journal ++ entry ∷ [] → RanOne serves service now (length journal) next buffered buffered' body' flow' out out' closing' log → AreRaceless serves → (more : List ℕ) (later : List Start) →
      Said service trees now flow' out out' journal journal' closing closing' body body' buffered buffered' log more later
  unfolding refusal
  said_of stays refused fits service trees now flow' out out' journal journal' entry closing closing' body body' buffered buffered' (Head head size) log c b l j r raceless more later =
      let k = length journal in
      let whole : Response = response_at service trees k now head in
      let rest = rest_in serves flow' trees in
      let g : List ℕ → List Answer = λ input. responses service (k + 1) trees input later in
      let count : length journal' ≡ k + 1 = ap length j ∙ length-append journal (entry ∷ []) in
      let a = r.says raceless trees in
      let behind = drop size buffered in
      record {
        said = whole;
        first =
            ap (λ x. cond x then_closes (past_body body (buffered ++ more) (λ input. responses service k trees input (now ∷ later)))) c
            ∙ ap (λ x. past_body x (buffered ++ more) (λ input. responses service k trees input (now ∷ later))) b
            ∙ responses_head stays fits service k trees buffered more now later head size (sym l)
            ∙ ap (λ x. Sends whole ∷ x) (kept_or_closed whole.stays r.broken (closes_after rest closing') (after_body (body_of head.body (behind ++ more)) (λ n. g (drop n (behind ++ more)))) (past_body body' (buffered' ++ more) g) a.closes (r.drops.rest g more))
            ∙ ap (λ n. Sends whole ∷ cond (closes_after rest closing') then_closes (past_body body' (buffered' ++ more) (λ input. responses service n trees input later))) (sym count);
        put = a.put;
        logged = a.logged;
        heavy = a.heavy;
      }
  said_of stays refused fits service trees now flow' out out' journal journal' entry closing closing' body body' buffered buffered' (Bad code no_body) log c b l j r raceless more later =
      let whole : Response = refusal code now no_body in
      record {
        said = whole;
        first =
            ap (λ x. cond x then_closes (past_body body (buffered ++ more) (λ input. responses service (length journal) trees input (now ∷ later)))) c
            ∙ ap (λ x. past_body x (buffered ++ more) (λ input. responses service (length journal) trees input (now ∷ later))) b
            ∙ responses_bad refused service (length journal) trees buffered more now later code no_body (sym l)
            ∙ ap (λ x. Sends whole ∷ cond x then_closes (past_body body' (buffered' ++ more) (λ input. responses service (length journal') trees input later))) (sym r.closes)
            ∙ ap (λ f. Sends whole ∷ cond (closes_after (rest_in serves f trees) closing') then_closes (past_body body' (buffered' ++ more) (λ input. responses service (length journal') trees input later))) (sym r.over);
        put = ap (λ f. out' ++ (rest_in serves f trees).bytes) r.over ∙ append-nil out' ∙ r.put;
        logged = ap (λ f. logged_by log ++ (rest_in serves f trees).logs) r.over ∙ append-nil (logged_by log) ∙ ap logged_by r.logged;
        heavy = ap (λ f. is_over (rest_in serves f trees)) r.over;
      }
  said_of stays refused fits service trees now flow' out out' journal journal' entry closing closing' body body' buffered buffered' More log c b l j r raceless more later = absurd r

  -- whether a request asks for too many subrequests
  said_heavy : (service : Service) (trees : Trees) (now : Start) (flow' : Option Flight) (out out' : List ℕ) (journal journal' : List Entry) (closing closing' : Bool) (body body' : Option BodyState) (buffered buffered' : List ℕ) (log : Option Log) (more : List ℕ) (later : List Start) →
      Said service trees now flow' out out' journal journal' closing closing' body body' buffered buffered' log more later →
      heavy_at service (rest_in serves None) journal closing body buffered trees more (now ∷ later) ≡ heavy_at service (rest_in serves flow') journal' closing' body' buffered' trees more later
  unfolding any_over
  said_heavy service trees now flow' out out' journal journal' closing closing' body body' buffered buffered' log more later s =
      ap (λ a. heavy_in a) s.first
      ∙ ap (λ b. b || heavy_in (after_at service (rest_in serves flow') journal' closing' body' buffered' trees more later)) (sym s.heavy)

  -- the bytes that are still to come, and the logs
  said_bytes : (service : Service) (trees : Trees) (now : Start) (flow' : Option Flight) (out out' : List ℕ) (journal journal' : List Entry) (closing closing' : Bool) (body body' : Option BodyState) (buffered buffered' : List ℕ) (log : Option Log) (more : List ℕ) (later : List Start) →
      Said service trees now flow' out out' journal journal' closing closing' body body' buffered buffered' log more later →
      bytes_at service (rest_in serves None) out journal closing body buffered trees more (now ∷ later) ≡ bytes_at service (rest_in serves flow') out' journal' closing' body' buffered' trees more later
  said_bytes service trees now flow' out out' journal journal' closing closing' body body' buffered buffered' log more later s =
      let rest = rest_in serves flow' trees in
      let behind = bytes_in (after_at service (rest_in serves flow') journal' closing' body' buffered' trees more later) in
      ap (λ x. out ++ bytes_in x) s.first ∙ sym (append_assoc out s.said.bytes behind) ∙ ap (λ x. x ++ behind) (sym s.put) ∙ append_assoc out' rest.bytes behind

  said_logs : (service : Service) (trees : Trees) (now : Start) (flow' : Option Flight) (out out' : List ℕ) (journal journal' : List Entry) (closing closing' : Bool) (body body' : Option BodyState) (buffered buffered' : List ℕ) (log : Option Log) (more : List ℕ) (later : List Start) →
      logged_in journal' ≡ logged_in journal ++ logged_by log → Said service trees now flow' out out' journal journal' closing closing' body body' buffered buffered' log more later →
      logs_at service (rest_in serves None) journal closing body buffered trees more (now ∷ later) ≡ logs_at service (rest_in serves flow') journal' closing' body' buffered' trees more later
  said_logs service trees now flow' out out' journal journal' closing closing' body body' buffered buffered' log more later e s =
      let rest = rest_in serves flow' trees in
      let behind = logs_in (after_at service (rest_in serves flow') journal' closing' body' buffered' trees more later) in
      ap (λ x. logged_in journal ++ logs_in x) s.first ∙ ap (λ x. logged_in journal ++ (x ++ behind)) (sym s.logged)
      ∙ ap (λ x. logged_in journal ++ x) (append_assoc (logged_by log) rest.logs behind) ∙ sym (append_assoc (logged_in journal) (logged_by log) (rest.logs ++ behind))
      ∙ ap (λ x. x ++ (rest.logs ++ behind)) (sym e)

  -- a request that was started is over where it is logged
  pub ran_over : (service : Service) (start : Start) (k : ℕ) (next : HeadStep) (buffered buffered' : List ℕ) (body : Option BodyState) (flow : Option Flight) (out out' : List ℕ) (closing : Bool) (log : Option Log) → RanOne serves service start k next buffered buffered' body flow out out' closing log → is_some log ≡ not (is_some flow)
  ran_over service start k (Head head size) buffered buffered' body flow out out' closing log r = r.over
  ran_over service start k (Bad code no_body) buffered buffered' body flow out out' closing log r = ap is_some r.logged ∙ ap (λ f. not (is_some f)) (sym r.over)
  ran_over service start k More buffered buffered' body flow out out' closing log r = absurd r

  pub ran_went : HeadStays → RefusalStays → SizeFits → (service : Service) (now : Start) (cause : Option StopCause) (flow' : Option Flight) (out out' : List ℕ) (tail tail' : ℕ) (journal journal' : List Entry) (entry : Entry) (closing closing' ended : Bool) (body body' : Option BodyState) (buffered buffered' : List ℕ) (next next' : HeadStep) (log : Option Log) →
      is_some cause ≡ false → closing ≡ false → body ≡ None → next ≡ head_step buffered → start_of entry ≡ now → log_of entry ≡ log → journal' ≡ journal ++ entry ∷ [] → TellsRaceless serves → RanOne serves service now (length journal) next buffered buffered' body' flow' out out' closing' log →
      IsLogged (is_some flow') journal' → Ran now (view_at serves service cause None out tail journal closing ended body buffered next) (view_at serves service cause flow' out' tail' journal' closing' ended body' buffered' next')
  ran_went stays refused fits service now cause flow' out out' tail tail' journal journal' entry closing closing' ended body body' buffered buffered' next next' log live c b l s g j tells r told =
      Goes (now ∷ []) (inr refl) (record {
        before = live_at service cause None out tail journal closing ended body buffered next live;
        after = live_at service cause flow' out' tail' journal' closing' ended body' buffered' next' live;
        moved = record {
          starts = ap (map start_of) j ∙ map-append start_of journal (entry ∷ []) ∙ ap (λ x. map start_of journal ++ x ∷ []) s;
          raceless = refl;
          timed = refl;
          bytes = λ trees is more later. said_bytes service trees now flow' out out' journal journal' closing closing' body body' buffered buffered' log more later (said is trees more later);
          logs = λ trees is more later. said_logs service trees now flow' out out' journal journal' closing closing' body body' buffered buffered' log more later
              (ap logged_in j ∙ entered_logs journal entry ∙ ap (λ x. logged_in journal ++ logged_by x) g) (said is trees more later);
          closes = λ trees is more later. ap close_in (said is trees more later).first;
          heavy = λ trees is more later h. said_heavy service trees now flow' out out' journal journal' closing closing' body body' buffered buffered' log more later (said is trees more later) ∙ h;
        };
        logged = logged_at service flow' journal' closing' body' buffered' told;
      })
    where
      said : serves.served.raceless ≡ true → (trees : Trees) (more : List ℕ) (later : List Start) → Said service trees now flow' out out' journal journal' closing closing' body body' buffered buffered' log more later
      said is trees more later = said_of stays refused fits service trees now flow' out out' journal journal' entry closing closing' body body' buffered buffered' next log c b l j r (tells is) more later

  -- Too many subrequests are asked for when one starts: it is stopped. This is foreseen.
  pub ran_halts : HeadStays → SizeFits → (service : Service) (now : Start) (count : ℕ) (cause : Option StopCause) (flow' : Option Flight) (out out' : List ℕ) (tail tail' : ℕ) (journal journal' : List Entry) (entry : Entry) (closing closing' ended ended' : Bool) (body body' : Option BodyState) (buffered buffered' : List ℕ) (next next' : HeadStep) →
      is_some cause ≡ false → closing ≡ false → body ≡ None → next ≡ head_step buffered → flow' ≡ None → out' ≡ [] → start_of entry ≡ now → log_of entry ≡ None → journal' ≡ journal ++ entry ∷ [] → TellsRaceless serves → RanOver serves service now (length journal) next →
      IsLogged false journal → Ran now (view_at serves service cause None out tail journal closing ended body buffered next) (view_at serves service (Some (stop.SubLimit count)) flow' out' tail' journal' closing' ended' body' buffered' next')
  unfolding any_over
  ran_halts stays fits service now count cause flow' out out' tail tail' journal journal' entry closing closing' ended ended' body body' buffered buffered' next next' live c b l f e s g j tells r told =
      Halts count (now ∷ []) (inr refl) (record {
        before = live_at service cause None out tail journal closing ended body buffered next live;
        held = refl;
        why = refl;
        pending = unsent flow' out' tail' f e;
        starts = ap (map start_of) j ∙ map-append start_of journal (entry ∷ []) ∙ ap (λ x. map start_of journal ++ x ∷ []) s;
        logs = ap (map log_of) j ∙ map-append log_of journal (entry ∷ []) ∙ ap (λ x. map log_of journal ++ x ∷ []) g;
        logged = λ all a. logged_entered journal journal' entry all told g j a;
        raceless = refl;
      }) (λ is trees more later. foreseen next r l (tells is) trees more later)
    where
      foreseen : (next : HeadStep) → RanOver serves service now (length journal) next → next ≡ head_step buffered → AreRaceless serves → (trees : Trees) (more : List ℕ) (later : List Start) →
          heavy_at service (rest_in serves None) journal closing body buffered trees more (now ∷ later) ≡ true
      foreseen (Head head size) r l raceless trees more later =
          let k = length journal in
          let whole : Response = response_at service trees k now head in
          let behind = cond whole.stays (after_body (body_of head.body (drop size buffered ++ more)) (λ n. responses service (k + 1) trees (drop n (drop size buffered ++ more)) later)) then_closes in
          ap (λ x. heavy_in (cond x then_closes (past_body body (buffered ++ more) (λ input. responses service k trees input (now ∷ later))))) c
          ∙ ap (λ x. heavy_in (past_body x (buffered ++ more) (λ input. responses service k trees input (now ∷ later)))) b
          ∙ ap (λ a. heavy_in a) (responses_head stays fits service k trees buffered more now later head size (sym l))
          ∙ ap (λ t. t || heavy_in behind) (r raceless trees)
      foreseen (Bad code no_body) r l raceless trees more later = absurd r
      foreseen More r l raceless trees more later = absurd r

  pub ran_left : SizeFits → (service : Service) (now : Start) (k : ℕ) (cause : Option StopCause) (flow' : Option Flight) (out out' : List ℕ) (closing closing' : Bool) (body' : Option BodyState) (buffered buffered' : List ℕ) (next : HeadStep) (log : Option Log) →
      is_some cause ≡ false → closing ≡ false → next ≡ head_step buffered → work flow' (length out') < weight → RanOne serves service now k next buffered buffered' body' flow' out out' closing' log → left_at cause flow' out' closing' buffered' < left_at cause None out closing buffered
  ran_left fits service now k (Some cause) flow' out out' closing closing' body' buffered buffered' next log live c l f r = cc
  ran_left fits service now k None flow' out out' closing closing' body' buffered buffered' (Head head size) log live c l f r =
      let s = fits buffered head size (sym l) in
      let d : length (drop size buffered) ≡ length buffered - size = length-drop size buffered in
      let shorter : length buffered' < length buffered = omega (arith, s.0, s.1, d, r.drops.shorter) in
      let w : work flow' (length out') < work None (length out) + weight = omega (arith, f) in
      rw c (falls (work None (length out)) (work flow' (length out')) (length buffered) (length buffered') closing' w shorter)
  ran_left fits service now k None flow' out out' closing closing' body' buffered buffered' (Bad code no_body) log live c l f r =
      rw (c, r.closes) (omega (arith, f))
  ran_left fits service now k None flow' out out' closing closing' body' buffered buffered' More log live c l f r = absurd r

  -- it is stopped
  stopped : (service : Service) (why : StopCause) (cause : Option StopCause) (flow flow' : Option Flight) (out out' : List ℕ) (tail tail' : ℕ) (journal journal' : List Entry) (closing closing' ended ended' : Bool) (body body' : Option BodyState) (buffered buffered' : List ℕ) (next next' : HeadStep) →
      is_some cause ≡ false → flow' ≡ None → out' ≡ [] → journal' ≡ journal → Stopped why (view_at serves service cause flow out tail journal closing ended body buffered next) (view_at serves service (Some why) flow' out' tail' journal' closing' ended' body' buffered' next') []
  stopped service why cause flow flow' out out' tail tail' journal journal' closing closing' ended ended' body body' buffered buffered' next next' live f e j = record {
    before = live_at service cause flow out tail journal closing ended body buffered next live;
    held = refl;
    why = refl;
    pending = unsent flow' out' tail' f e;
    starts = ap (map start_of) j ∙ sym (append-nil (map start_of journal));
    logs = ap (map log_of) j ∙ sym (append-nil (map log_of journal));
    logged = λ all l. subst (λ x. Logged x all) (sym (ap (map log_of) j)) l;
    raceless = refl;
  }

  -- a response goes on
  goes_after : (service : Service) (trees : Trees) (flow flow' : Option Flight) (out out' : List ℕ) (journal journal' : List Entry) (closing closing' : Bool) (body : Option BodyState) (buffered more : List ℕ) (later : List Start) (log : Option Log) → length journal' ≡ length journal →
      Keeps (rest_in serves flow trees) (rest_in serves flow' trees) out out' closing closing' log → after_at service (rest_in serves flow) journal closing body buffered trees more later ≡ after_at service (rest_in serves flow') journal' closing' body buffered trees more later
  goes_after service trees flow flow' out out' journal journal' closing closing' body buffered more later log n g =
      let tail : ℕ → Bool → List Answer = λ k c. cond c then_closes (past_body body (buffered ++ more) (λ input. responses service k trees input later)) in
      ap (tail (length journal)) (sym g.1.0) ∙ ap (λ k. tail k (closes_after (rest_in serves flow' trees) closing')) (sym n)

  goes_heavy : (service : Service) (trees : Trees) (flow flow' : Option Flight) (out out' : List ℕ) (journal journal' : List Entry) (closing closing' : Bool) (body : Option BodyState) (buffered more : List ℕ) (later : List Start) (log : Option Log) → length journal' ≡ length journal →
      Keeps (rest_in serves flow trees) (rest_in serves flow' trees) out out' closing closing' log → heavy_at service (rest_in serves flow) journal closing body buffered trees more later ≡ heavy_at service (rest_in serves flow') journal' closing' body buffered trees more later
  goes_heavy service trees flow flow' out out' journal journal' closing closing' body buffered more later log n g =
      ap (λ a. is_over (rest_in serves flow trees) || heavy_in a) (goes_after service trees flow flow' out out' journal journal' closing closing' body buffered more later log n g)
      ∙ ap (λ b. b || heavy_in (after_at service (rest_in serves flow') journal' closing' body buffered trees more later)) (sym g.1.1.1)

  goes_bytes : (service : Service) (trees : Trees) (flow flow' : Option Flight) (out out' : List ℕ) (journal journal' : List Entry) (closing closing' : Bool) (body : Option BodyState) (buffered more : List ℕ) (later : List Start) (log : Option Log) → length journal' ≡ length journal →
      Keeps (rest_in serves flow trees) (rest_in serves flow' trees) out out' closing closing' log → bytes_at service (rest_in serves flow) out journal closing body buffered trees more later ≡ bytes_at service (rest_in serves flow') out' journal' closing' body buffered trees more later
  goes_bytes service trees flow flow' out out' journal journal' closing closing' body buffered more later log n g =
      let r = rest_in serves flow trees in
      let r' = rest_in serves flow' trees in
      let behind = bytes_in (after_at service (rest_in serves flow') journal' closing' body buffered trees more later) in
      ap (λ x. out ++ (r.bytes ++ bytes_in x)) (goes_after service trees flow flow' out out' journal journal' closing closing' body buffered more later log n g)
      ∙ sym (append_assoc out r.bytes behind) ∙ ap (λ x. x ++ behind) (sym g.0) ∙ append_assoc out' r'.bytes behind

  goes_logs : (service : Service) (trees : Trees) (flow flow' : Option Flight) (out out' : List ℕ) (journal journal' : List Entry) (closing closing' : Bool) (body : Option BodyState) (buffered more : List ℕ) (later : List Start) (log : Option Log) → length journal' ≡ length journal →
      logged_in journal' ≡ logged_in journal ++ logged_by log → Keeps (rest_in serves flow trees) (rest_in serves flow' trees) out out' closing closing' log → logs_at service (rest_in serves flow) journal closing body buffered trees more later ≡ logs_at service (rest_in serves flow') journal' closing' body buffered trees more later
  goes_logs service trees flow flow' out out' journal journal' closing closing' body buffered more later log n e g =
      let r = rest_in serves flow trees in
      let r' = rest_in serves flow' trees in
      let behind = logs_in (after_at service (rest_in serves flow') journal' closing' body buffered trees more later) in
      ap (λ x. logged_in journal ++ (r.logs ++ logs_in x)) (goes_after service trees flow flow' out out' journal journal' closing closing' body buffered more later log n g)
      ∙ ap (λ x. logged_in journal ++ (x ++ behind)) (sym g.1.1.0) ∙ ap (λ x. logged_in journal ++ x) (append_assoc (logged_by log) r'.logs behind)
      ∙ sym (append_assoc (logged_in journal) (logged_by log) (r'.logs ++ behind)) ∙ ap (λ x. x ++ (r'.logs ++ behind)) (sym e)

  pub goes_went : (ground : Ground) (service : Service) (cause : Option StopCause) (flow flow' : Option Flight) (out out' : List ℕ) (tail tail' : ℕ) (journal journal' : List Entry) (closing closing' ended : Bool) (body : Option BodyState) (buffered : List ℕ) (next : HeadStep) (log : Option Log) →
      is_some cause ≡ false → length journal' ≡ length journal → map start_of journal' ≡ map start_of journal → logged_in journal' ≡ logged_in journal ++ logged_by log → IsLogged (is_some flow') journal' →
      ((trees : Trees) → Holds ground trees → Keeps (rest_in serves flow trees) (rest_in serves flow' trees) out out' closing closing' log) →
      Went ground (view_at serves service cause flow out tail journal closing ended body buffered next) (view_at serves service cause flow' out' tail' journal' closing' ended body buffered next) [] [] []
  goes_went ground service cause flow flow' out out' tail tail' journal journal' closing closing' ended body buffered next log live n m e told g = record {
    before = live_at service cause flow out tail journal closing ended body buffered next live;
    after = live_at service cause flow' out' tail' journal' closing' ended body buffered next live;
    moved = record {
      starts = m ∙ sym (append-nil (map start_of journal));
      raceless = refl;
      timed = refl;
      bytes = λ trees is more later. goes_bytes service trees flow flow' out out' journal journal' closing closing' body buffered more later log n (g trees is);
      logs = λ trees is more later. goes_logs service trees flow flow' out out' journal journal' closing closing' body buffered more later log n e (g trees is);
      closes = λ trees is more later. ap close_in (goes_after service trees flow flow' out out' journal journal' closing closing' body buffered more later log n (g trees is));
      heavy = λ trees is more later h. goes_heavy service trees flow flow' out out' journal journal' closing closing' body buffered more later log n (g trees is) ∙ h;
    };
    logged = logged_at service flow' journal' closing' body buffered told;
  }

  -- Too many subrequests are asked for: it is stopped. This is foreseen.
  pub goes_halts : (now : Start) (service : Service) (count : ℕ) (cause : Option StopCause) (flow flow' : Option Flight) (out out' : List ℕ) (tail tail' : ℕ) (journal journal' : List Entry) (closing closing' ended ended' : Bool) (body body' : Option BodyState) (buffered buffered' : List ℕ) (next next' : HeadStep) →
      is_some cause ≡ false → flow' ≡ None → out' ≡ [] → journal' ≡ journal → (serves.served.raceless ≡ true → (trees : Trees) → is_over (rest_in serves flow trees) ≡ true) →
      Ran now (view_at serves service cause flow out tail journal closing ended body buffered next) (view_at serves service (Some (stop.SubLimit count)) flow' out' tail' journal' closing' ended' body' buffered' next')
  goes_halts now service count cause flow flow' out out' tail tail' journal journal' closing closing' ended ended' body body' buffered buffered' next next' live f e j over =
      Halts count [] (inl refl) (stopped service (stop.SubLimit count) cause flow flow' out out' tail tail' journal journal' closing closing' ended ended' body body' buffered buffered' next next' live f e j)
      (λ is trees more later. ap (λ b. b || heavy_in (after_at service (rest_in serves flow) journal closing body buffered trees more later)) (over is trees))

  -- an event for which there was no memory
  pub refused : (now : Start) (service : Service) (cause : Option StopCause) (flow flow' : Option Flight) (out out' : List ℕ) (tail tail' : ℕ) (journal journal' : List Entry) (closing closing' ended ended' : Bool) (body body' : Option BodyState) (buffered buffered' : List ℕ) (next next' : HeadStep) →
      is_some cause ≡ false → flow' ≡ None → out' ≡ [] → journal' ≡ journal → Refused now (view_at serves service cause flow out tail journal closing ended body buffered next) (view_at serves service (Some stop.Memory) flow' out' tail' journal' closing' ended' body' buffered' next')
  refused now service cause flow flow' out out' tail tail' journal journal' closing closing' ended ended' body body' buffered buffered' next next' live f e j =
      ([], inl refl, stopped service stop.Memory cause flow flow' out out' tail tail' journal journal' closing closing' ended ended' body body' buffered buffered' next next' live f e j)
