-- What a connection shows is sound.
use Rattle.std.proofs.Common.{◌≡◌, ◌≢◌, ℕ, ◌+◌, ◌-◌, ◌*◌, ◌/◌, ◌<◌, ◌≤◌, min, drop, take, Bool, true, false, not, ◌&&◌, ◌||◌, cond, List, [], ◌∷◌, ◌++◌, length, map, Option, None, Some, refl, sym, ap, ◌∙◌, arith, suc, zero}
use Rattle.std.specs.Prelude.{is_none, is_some, nat_le, nat_lt, ◌==◌}
use Rattle.file_tree.specs.declared.job.Ask.{Ask}
use Rattle.std.proofs.lemmas.List.{append-nil}
use Rattle.std.proofs.lemmas.Bool.Decides.{nat_tests}
use Rattle.file_tree.specs.Tree.{Trees}
use Rattle.ngx_outside.specs.Views.{Job, Start, log_of, IsSound, is_idle, no_bytes, no_nodes, no_jobs}
use Rattle.ngx_outside.specs.declared.event.Entry.{Entry}
use Rattle.ngx_outside.specs.declared.event.StopCause.{StopCause}
use Rattle.req_head.specs.declared.head.HeadStep.{HeadStep}
use Rattle.req_head.specs.declared.head.HeadStep.TheVariants.{More, Head, Bad}
use Rattle.req_head.specs.Step.{head_step}
use Rattle.req_head.specs.Laws.{FullDecides}
use Rattle.body_frame.specs.Outcome.{Short}
use Rattle.body_frame.specs.State.{body_of}
use Rattle.body_frame.specs.declared.state.BodyState.{BodyState}
use Rattle.response_flow.specs.access_flow.Flows.{waits}
use Rattle.response_flow.specs.request_flow.declared.flow.Flow.{Flow}
use Rattle.std.specs.Global.{Box}
use Rattle.response_flow.specs.declared.flight.Flight.{Flight}
use Rattle.response_flow.specs.declared.flight.Flight.TheVariants.{Alone, Asking, Page}
use Rattle.response_flow.specs.Flights.{FlightFits, jobs_by, most_kept, next_of, page_ready, pending_by, ready_by, shown_kept}
use Rattle.response_flow.specs.page_response.declared.pages.Pages.{Pages}
use Rattle.response_flow.specs.subrequests.Families.{are_done}
use Rattle.response_flow.specs.subrequests.Wants as family
use Rattle.response_flow.specs.request_flow.declared.flow.Stage.{Stage}
use Rattle.response_flow.specs.request_flow.declared.flow.Stage.TheVariants.{Asked, Told, Reading, Came}
use Rattle.http_connection.specs.Steps.{starts, rest_of, past_body, logged_in, IsLogged}
use Rattle.http_connection.specs.Conn.{view_at, after_at, bytes_at, logs_at, room_at, starts_at, idle_at, shut_at}
use Rattle.http_connection.proofs.Moves.{room_some, none_taken, unsent, below, and_left, and_right}
use Rattle.answers_meaning.specs.Asking.{Service}
use Rattle.answers_meaning.specs.Answers.{Answer, then_closes, responses, first_response, bytes_in, logs_in, close_in, after_body}
use Rattle.http_connection.specs.Rests.{rest_in, Serves}
use Rattle.response_flow.specs.request_flow.Flows.{jobs_of, is_stat, may_run, shown_by, shown_most, placed_most, kept_most, is_block, stage_fits, flow_fits}

unlogged_close : (closing : Bool) → logs_in (cond closing then_closes []) ≡ []
unlogged_close true = refl
unlogged_close false = refl

is_close : (closing : Bool) → close_in (cond closing then_closes []) ≡ closing
is_close true = refl
is_close false = refl

positive : 0 < shown_most
unfolding shown_most
positive = omega arith

pub record Idle (out : List ℕ) (closing : Bool) (body : Option BodyState) (next : HeadStep) : Type 0 where
  pub unsent : no_bytes out ≡ true
  pub waits : (closing || not (starts body next)) ≡ true

unstarted : (t : Bool) → no_nodes (cond t (0 ∷ []) []) ≡ true → t ≡ false
unstarted true e = cc
unstarted false e = refl

waits_by : (out : List ℕ) (closing : Bool) (body : Option BodyState) (next : HeadStep) → no_bytes out ≡ true → starts_at false closing out body next ≡ false → (closing || not (starts body next)) ≡ true
waits_by [] true body next p e = refl
waits_by [] false body next p e = ap not e
waits_by (b ∷ out) closing body next p e = cc

pub shut_parts : (out : List ℕ) (closing ended : Bool) (body : Option BodyState) (next : HeadStep) → shut_at false None closing ended out body next ≡ true → Idle out closing body next
shut_parts [] true ended body next h = record { unsent = refl; waits = refl }
shut_parts [] false true (Some state) next h = record { unsent = refl; waits = refl }
shut_parts [] false true None More h = record { unsent = refl; waits = refl }
shut_parts [] false true None (Head head size) h = cc
shut_parts [] false true None (Bad code no_body) h = cc
shut_parts [] false false body next h = cc
shut_parts (b ∷ out) true ended body next h = cc
shut_parts (b ∷ out) false true body next h = cc
shut_parts (b ∷ out) false false body next h = cc

never_all : (a b : Bool) → (a && b && false) ≡ true → ⊥
never_all true true e = cc
never_all true false e = cc
never_all false b e = cc

never_mid : (a : Bool) → (a && false && true) ≡ true → ⊥
never_mid true e = cc
never_mid false e = cc

full_shown : (placed : ℕ) → placed_most ≤ placed → cond (nat_lt placed shown_most) placed shown_most ≡ shown_most
unfolding placed_most shown_most
full_shown placed a = ap (λ t. cond t placed 65536) (let f : nat_lt placed 65536 ≡ false = grind (arith, nat_tests) in f)

idle_none : (out : List ℕ) (closing : Bool) (body : Option BodyState) (next : HeadStep) →
    (no_bytes out && (closing || not (starts body next))) ≡ (no_bytes out && no_nodes (cond (starts_at false closing out body next) (0 ∷ []) []) && true)
idle_none (b ∷ out) closing body next = refl
idle_none [] true body next = refl
idle_none [] false body next = elim (starts body next) as (λ t. not t ≡ (no_nodes (cond t (0 ∷ []) []) && true)) [ true ↦ refl | false ↦ refl ]

pub unshut : (closing ended : Bool) → ((closing || ended) && false) ≡ true → ⊥
unshut true ended e = cc
unshut false true e = cc
unshut false false e = cc

below_none : (size : ℕ) → (size == 0) ≡ true → nat_le size placed_most ≡ true
unfolding placed_most
below_none size f = grind (arith, nat_tests)

-- bytes that begin no request are answered by nothing
unanswered : (service : Service) (k : ℕ) (trees : Trees) (buffered : List ℕ) (later : List Start) → More ≡ head_step buffered → responses service k trees (buffered ++ []) later ≡ []
unfolding responses
unanswered service k trees buffered [] e = refl
unanswered service k trees buffered (start ∷ later) e =
    ap (λ s. first_response service trees k start s (λ n kind. after_body (body_of kind (drop n (buffered ++ []))) (λ m. responses service (k + 1) trees (drop m (drop n (buffered ++ []))) later)))
    (ap head_step (append-nil buffered) ∙ sym e)

-- a body that isn't ended is followed by nothing yet
unfinished : (state : BodyState) (buffered : List ℕ) (g : List ℕ → List Answer) → buffered ≡ [] → rest_of (Some state) [] ≡ Short → past_body (Some state) (buffered ++ []) g ≡ []
unfinished state buffered g e s = ap (λ h. past_body (Some state) (h ++ []) g) e ∙ ap (λ o. after_body o (λ n. g (drop n []))) s

-- nothing is sent or logged where it closes
silent_close : (closing : Bool) → bytes_in (cond closing then_closes []) ≡ []
silent_close true = refl
silent_close false = refl

-- some bytes are shown where some are kept
shown_some : (n : ℕ) (xs : List ℕ) → 0 < n → no_bytes (take n xs) ≡ no_bytes xs
shown_some n [] h = ap no_bytes (none_taken n)
shown_some zero (x ∷ xs) h = absurd (omega (arith, h))
shown_some (suc n) (x ∷ xs) h = refl

shown_none : (out : List ℕ) → no_bytes (take shown_most out) ≡ no_bytes out
shown_none out = shown_some shown_most out positive

-- and so of those that are kept once a response is over
some_shown : (tail size : ℕ) → 0 < size → 0 < shown_kept tail size
unfolding shown_kept shown_most
some_shown tail size h = by (tail == 0) (nat_le (size - tail + 4107) 65536) refl
  where
    by : (none room : Bool) → nat_le (size - tail + 4107) 65536 ≡ room →
        0 < cond (none || room) (min size 65536) (size - tail - 4104 * ((size - tail - 65536 + 4103) / 4104))
    by true room e = omega (arith, h)
    by false true e = omega (arith, h)
    by false false e =
        let more : 65536 < size - tail + 4107 = grind (arith, nat_tests) in
        omega (arith, more)

kept_shown : (tail : ℕ) (out : List ℕ) → no_bytes (take (shown_kept tail (length out)) out) ≡ no_bytes out
kept_shown tail [] = ap no_bytes (none_taken (shown_kept tail 0))
kept_shown tail (x ∷ out) = shown_some (shown_kept tail (length (x ∷ out))) (x ∷ out) (some_shown tail (length (x ∷ out)) (omega arith))

pub idle_parts : (tail : ℕ) (out : List ℕ) (closing : Bool) (body : Option BodyState) (next : HeadStep) → (no_bytes (take (shown_kept tail (length out)) out) && no_nodes (cond (starts_at false closing out body next) (0 ∷ []) []) && true) ≡ true → Idle out closing body next
idle_parts tail out closing body next h =
    let nodes = no_nodes (cond (starts_at false closing out body next) (0 ∷ []) []) in
    let both = and_left (no_bytes (take (shown_kept tail (length out)) out) && nodes) true h in
    let unsent : no_bytes out ≡ true = sym (kept_shown tail out) ∙ and_left (no_bytes (take (shown_kept tail (length out)) out)) nodes both in
    record {
      unsent = unsent;
      waits = waits_by out closing body next unsent (unstarted (starts_at false closing out body next) (and_right (no_bytes (take (shown_kept tail (length out)) out)) nodes both));
    }

-- nothing is read after the end of the input
silent_at : (stopped closing ended : Bool) (buffered : List ℕ) → ended ≡ true → room_at stopped closing ended buffered ≡ None
silent_at true closing ended buffered e = refl
silent_at false true ended buffered e = refl
silent_at false false true buffered e = refl
silent_at false false false buffered e = cc

-- and these are decided
decided : FullDecides → (buffered : List ℕ) (next : HeadStep) → next ≡ head_step buffered → 8192 ≤ length buffered → next ≢ More
decided full buffered next e h m = full buffered h (sym e ∙ m)

-- where as much is placed as there is room for, all of what is shown is there
some_kept : (placed : ℕ) (xs : List ℕ) → placed_most ≤ placed → placed ≤ length xs → no_bytes xs ≡ false
unfolding placed_most
some_kept placed [] a b = absurd (omega (arith, a, b))
some_kept placed (x ∷ xs) a b = refl

unplaced : (out : List ℕ) (t : Bool) (placed : ℕ) → nat_lt placed placed_most ≡ t → placed ≤ length out →
    (no_bytes (take (cond (nat_lt placed shown_most) placed shown_most) out) && no_nodes (cond t (0 ∷ []) []) && true) ≡ true → ⊥
unplaced out true placed e within h = never_mid (no_bytes (take (cond (nat_lt placed shown_most) placed shown_most) out)) h
unplaced out false placed e within h =
    let most : placed_most ≤ placed = grind (arith, nat_tests) in
    let some : no_bytes (take (cond (nat_lt placed shown_most) placed shown_most) out) ≡ false = ap (λ n. no_bytes (take n out)) (full_shown placed most) ∙ shown_none out ∙ some_kept placed out most within in
    let is = and_left (no_bytes (take (cond (nat_lt placed shown_most) placed shown_most) out)) true (and_left (no_bytes (take (cond (nat_lt placed shown_most) placed shown_most) out) && true) true h) in
    let clash : true ≡ false = sym is ∙ some in
    cc

-- a request in flight alone waits for its job, or runs, or has bytes to be written
busy_alone : (flow : Box Flow) (out : List ℕ) → flow_fits (Some flow) (length out) ≡ true →
    (no_bytes (take (shown_by flow.value.stage) out) && no_nodes (cond (may_run flow.value.stage) (0 ∷ []) []) && no_jobs (jobs_of (Some flow))) ≡ true → ⊥
busy_alone flow out fits h = by flow.value.stage fits h
  where
    by : (stage : Stage) → stage_fits flow.value.ask stage (length out) ≡ true →
        (no_bytes (take (shown_by stage) out) && no_nodes (cond (may_run stage) (0 ∷ []) []) && no_jobs (jobs_of (Some (record flow { value = record { ask = flow.value.ask; stage = stage } })))) ≡ true → ⊥
    by (Asked request wait) f h = never_all (no_bytes (take shown_most out)) true h
    by (Told request wait node) f h = never_mid (no_bytes (take shown_most out)) h
    by (Reading sending left) f h = never_all (no_bytes (take shown_most out)) true h
    by (Came sending left placed) f h =
        let q = and_right (nat_le left sending.len && not (is_stat flow.value.ask)) ((nat_le placed (length out) && nat_le placed placed_most) && nat_le (length out) kept_most) f in
        let p = and_left (nat_le placed (length out) && nat_le placed placed_most) (nat_le (length out) kept_most) q in
        unplaced out (nat_lt placed placed_most) placed refl (below placed (length out) (and_left (nat_le placed (length out)) (nat_le placed placed_most) p)) h

-- and so does a page, of which the first node can run where nothing else is to be done
stuck_runs : (done empty : Bool) (jobs : List Job) (ready : List ℕ) →
    (empty && no_nodes (cond (done || (empty && (is_none (family.first_job jobs) && is_none (family.first_of ready)))) (0 ∷ []) ready) && no_jobs jobs) ≡ true → ⊥
stuck_runs true true jobs ready h = cc
stuck_runs done false jobs ready h = cc
stuck_runs false true [] [] h = cc
stuck_runs false true [] (n ∷ ready) h = cc
stuck_runs false true (j ∷ jobs) ready h = never_all true (no_nodes (cond (false || (true && (false && is_none (family.first_of ready)))) (0 ∷ []) ready)) h

busy_page : (p : Pages) → (no_bytes p.outgoing.pending && no_nodes (page_ready p) && no_jobs (family.jobs_of p.family)) ≡ true → ⊥
busy_page p h = stuck_runs (are_done p.family.nodes) (no_bytes p.outgoing.pending) (family.jobs_of p.family) (family.ready_of p.family) h

-- a subrequest that was asked whether a request is let in waits for its job, or one of the two runs
busy_asking : (waits shown : Bool) (next : ℕ) (job : Job) → (shown && no_nodes (cond waits [] (next ∷ [])) && no_jobs (cond waits (job ∷ []) [])) ≡ true → ⊥
busy_asking true shown next job h = never_all shown true h
busy_asking false shown next job h = never_mid shown h

busy : (flight : Flight) (out : List ℕ) → FlightFits (Some flight) (length out) →
    (no_bytes (pending_by flight out) && no_nodes (ready_by flight) && no_jobs (jobs_by flight)) ≡ true → ⊥
busy (Alone flow) out fits h = busy_alone flow out fits.0 h
busy (Asking f) out fits h =
    let a = f.value in
    busy_asking (waits a.stage) (no_bytes (take shown_most out)) (next_of a.stage a.request.value.opened) (record { node = a.request.value.opened; ask = a.ask }) h
busy (Page p) out fits h = busy_page p.pages.value h

-- what is idle by its parts is shown as idle
is_false : (b : Bool) → (b ≡ true → ⊥) → b ≡ false
is_false true h = absurd (h refl)
is_false false h = refl

-- as much is kept for a peer
few_kept : (size : ℕ) → nat_le size placed_most ≡ true → size ≤ kept_most
unfolding placed_most kept_most
few_kept size f = let z = below size 98304 f in omega (arith, z)

stage_bounded : (size : ℕ) (job : Ask) (stage : Stage) → stage_fits job stage size ≡ true → size ≤ kept_most
stage_bounded size job (Asked request wait) f = few_kept size (below_none size (and_right (is_stat job) (size == 0) f))
stage_bounded size job (Told request wait node) f = few_kept size (below_none size (and_right (is_stat job) (size == 0) f))
stage_bounded size job (Reading sending left) f = few_kept size (and_right (nat_le left sending.len && is_block sending.len left job) (nat_le size placed_most) f)
stage_bounded size job (Came sending left placed) f =
    below size kept_most (and_right (nat_le placed size && nat_le placed placed_most) (nat_le size kept_most) (and_right (nat_le left sending.len && not (is_stat job)) ((nat_le placed size && nat_le placed placed_most) && nat_le size kept_most) f))

few_most : (size : ℕ) → size ≤ kept_most → size ≤ most_kept
unfolding kept_most most_kept
few_most size h = omega (arith, h)

none_most : (size : ℕ) → size ≡ 0 → size ≤ most_kept
unfolding most_kept
none_most size e = omega (arith, e)

pub bounded : (flight : Option Flight) (size : ℕ) → FlightFits flight size → size ≤ most_kept
bounded None size f = f
bounded (Some (Alone flow)) size f = few_most size (stage_bounded size flow.value.ask flow.value.stage f.0)
bounded (Some (Asking a)) size f = none_most size f.0
bounded (Some (Page p)) size f = none_most size f.0

module _ (serves : Serves) where
  -- where no request begins there are no further responses, and the connection closes where it does so after its last one
  quiet_after : (service : Service) (journal : List Entry) (closing : Bool) (body : Option BodyState) (buffered : List ℕ) (next : HeadStep) (trees : Trees) (later : List Start) →
      (closing || not (starts body next)) ≡ true → next ≡ head_step buffered → (is_some body ≡ true → buffered ≡ []) → (is_some body ≡ true → rest_of body [] ≡ Short) → after_at service (rest_in serves None) journal closing body buffered trees [] later ≡ cond closing then_closes []
  quiet_after service journal true body buffered next trees later q e d u = refl
  quiet_after service journal false (Some state) buffered next trees later q e d u = unfinished state buffered (λ input. responses service (length journal) trees input later) (d refl) (u refl)
  quiet_after service journal false None buffered More trees later q e d u = unanswered service (length journal) trees buffered later e
  quiet_after service journal false None buffered (Head head size) trees later q e d u = cc
  quiet_after service journal false None buffered (Bad code no_body) trees later q e d u = cc

  -- where nothing is kept for the peer either, nothing more comes
  quiet : (service : Service) (out : List ℕ) (journal : List Entry) (closing : Bool) (body : Option BodyState) (buffered : List ℕ) (next : HeadStep) (trees : Trees) (later : List Start) →
      no_bytes out ≡ true → (closing || not (starts body next)) ≡ true → next ≡ head_step buffered → (is_some body ≡ true → buffered ≡ []) → (is_some body ≡ true → rest_of body [] ≡ Short) → bytes_at service (rest_in serves None) out journal closing body buffered trees [] later ≡ []
  quiet service [] journal closing body buffered next trees later p q e d u = ap bytes_in (quiet_after service journal closing body buffered next trees later q e d u) ∙ silent_close closing
  quiet service (b ∷ out) journal closing body buffered next trees later p q e d u = cc

  -- and all responses are logged
  quiet_logs : (service : Service) (journal : List Entry) (closing : Bool) (body : Option BodyState) (buffered : List ℕ) (next : HeadStep) (trees : Trees) (later : List Start) → IsLogged false journal →
      (closing || not (starts body next)) ≡ true → next ≡ head_step buffered → (is_some body ≡ true → buffered ≡ []) → (is_some body ≡ true → rest_of body [] ≡ Short) →
      map log_of journal ≡ map (λ l. Some l) (logs_at service (rest_in serves None) journal closing body buffered trees [] later)
  quiet_logs service journal closing body buffered next trees later told q e d u =
      told ∙ append-nil (map (λ l. Some l) (logged_in journal))
      ∙ ap (map (λ l. Some l)) (sym (ap (λ x. logged_in journal ++ logs_in x) (quiet_after service journal closing body buffered next trees later q e d u) ∙ ap (λ x. logged_in journal ++ x) (unlogged_close closing) ∙ append-nil (logged_in journal)))

  -- an idle one is to be closed exactly where its input has ended or it closes after its last response
  shut_by : (out : List ℕ) (closing ended : Bool) (body : Option BodyState) (next : HeadStep) → Idle out closing body next →
      shut_at false None closing ended out body next ≡ (ended || closing)
  shut_by (b ∷ out) closing ended body next i = absurd (let e = i.unsent in cc)
  shut_by [] true true body next i = refl
  shut_by [] true false body next i = refl
  shut_by [] false true body next i = i.waits
  shut_by [] false false body next i = refl

  shuts_by : (service : Service) (out : List ℕ) (journal : List Entry) (closing ended : Bool) (body : Option BodyState) (buffered : List ℕ) (next : HeadStep) (trees : Trees) (later : List Start) → Idle out closing body next →
      next ≡ head_step buffered → (is_some body ≡ true → buffered ≡ []) → (is_some body ≡ true → rest_of body [] ≡ Short) →
      shut_at false None closing ended out body next ≡ (ended || close_in (after_at service (rest_in serves None) journal closing body buffered trees [] later))
  shuts_by service out journal closing ended body buffered next trees later i e d u =
      shut_by out closing ended body next i
      ∙ ap (λ b. ended || b) (sym (ap close_in (quiet_after service journal closing body buffered next trees later i.waits e d u) ∙ is_close closing))

  -- one that closes before the end of its input closes after its response, and nothing comes after that
  closed : (service : Service) (out : List ℕ) (journal : List Entry) (closing ended : Bool) (body : Option BodyState) (buffered : List ℕ) (next : HeadStep) (trees : Trees) (more : List ℕ) (later : List Start) →
      shut_at false None closing ended out body next ≡ true → ended ≡ false → bytes_at service (rest_in serves None) out journal closing body buffered trees more later ≡ []
  closed service [] journal true ended body buffered next trees more later h e = refl
  closed service [] journal false false body buffered next trees more later h e = cc
  closed service [] journal false true body buffered next trees more later h e = cc
  closed service (b ∷ out) journal true ended body buffered next trees more later h e = cc
  closed service (b ∷ out) journal false false body buffered next trees more later h e = cc
  closed service (b ∷ out) journal false true body buffered next trees more later h e = cc

  -- where no bytes are taken though nothing is closed, as many are buffered as are looked at
  buffered_full : (n : ℕ) → cond (nat_le 8192 n) None (Some (8192 - n)) ≡ None → 8192 ≤ n
  buffered_full n h = by (nat_le 8192 n) refl h
    where
      by : (t : Bool) → nat_le 8192 n ≡ t → cond t None (Some (8192 - n)) ≡ None → 8192 ≤ n
      by true e h = grind (arith, nat_tests)
      by false e h = cc

  -- an idle connection that isn't to be closed reads
  reading : FullDecides → (out : List ℕ) (closing ended : Bool) (body : Option BodyState) (buffered : List ℕ) (next : HeadStep) → next ≡ head_step buffered → (is_some body ≡ true → buffered ≡ []) → Idle out closing body next → shut_at false None closing ended out body next ≡ false → room_at false closing ended buffered ≢ None
  reading full (b ∷ out) closing ended body buffered next looked drained i shut none = absurd (let e = i.unsent in cc)
  reading full [] true ended body buffered next looked drained i shut none = cc
  reading full [] false true body buffered next looked drained i shut none = absurd (let e : true ≡ false = sym i.waits ∙ shut in cc)
  reading full [] false false None buffered (Head head size) looked drained i shut none = absurd (let e = i.waits in cc)
  reading full [] false false None buffered (Bad code no_body) looked drained i shut none = absurd (let e = i.waits in cc)
  reading full [] false false None buffered More looked drained i shut none = absurd (decided full buffered More looked (buffered_full (length buffered) none) refl)
  reading full [] false false (Some state) buffered next looked drained i shut none = absurd (let n = ap length (drained refl) in let h = buffered_full (length buffered) none in omega (arith, n, h))

  pub idle_shown : (service : Service) (cause : Option StopCause) (flow : Option Flight) (out : List ℕ) (tail : ℕ) (journal : List Entry) (closing ended : Bool) (body : Option BodyState) (buffered : List ℕ) (next : HeadStep) → FlightFits flow (length out) →
      idle_at (is_some cause) flow closing out body next ≡ is_idle (view_at serves service cause flow out tail journal closing ended body buffered next)
  idle_shown service (Some why) None out tail journal closing ended body buffered next fits = refl
  idle_shown service (Some why) (Some flow) out tail journal closing ended body buffered next fits = refl
  idle_shown service None None out tail journal closing ended body buffered next fits =
      idle_none out closing body next ∙ ap (λ b. b && no_nodes (cond (starts_at false closing out body next) (0 ∷ []) []) && true) (sym (kept_shown tail out))
  idle_shown service None (Some flow) out tail journal closing ended body buffered next fits = sym (is_false _ (busy flow out fits))

  pub sound : FullDecides → (service : Service) (cause : Option StopCause) (flow : Option Flight) (out : List ℕ) (tail : ℕ) (journal : List Entry) (closing ended : Bool) (body : Option BodyState) (buffered : List ℕ) (next : HeadStep) →
      (is_some cause ≡ false → next ≡ head_step buffered) → (is_some cause ≡ true → out ≡ []) → (is_some cause ≡ true → flow ≡ None) → FlightFits flow (length out) → (is_some body ≡ true → buffered ≡ []) → (is_some body ≡ true → rest_of body [] ≡ Short) → (is_some cause ≡ false → IsLogged (is_some flow) journal) → IsSound (view_at serves service cause flow out tail journal closing ended body buffered next)
  sound full service (Some why) (Some flow) out tail journal closing ended body buffered next looked dropped quit fits drained unended told = absurd (let e : Some flow ≡ None = quit refl in cc)
  sound full service (Some why) None out tail journal closing ended body buffered next looked dropped quit fits drained unended told = record {
    unsent = λ h. unsent None out tail refl (dropped refl);
    unready = λ h. refl;
    unasked = λ h. refl;
    unread = λ h. refl;
    untimed = λ h. refl;
    stopped = λ cause h e. refl;
    absent = λ h. cc;
    roomy = λ room h. cc;
    silent = λ h. refl;
    reads = λ h. cc;
    idle = λ h trees later. cc;
    logged = λ h trees later. cc;
    shut = λ h s trees later. cc;
    shuts = λ h trees later. cc;
    closes = λ h s e trees more later. cc;
  }
  sound full service None None out tail journal closing ended body buffered next looked dropped quit fits drained unended told = record {
    unsent = λ h. cc;
    unready = λ h. cc;
    unasked = λ h. refl;
    unread = λ h. cc;
    untimed = λ h. refl;
    stopped = λ cause h e. cc;
    absent = λ h. cc;
    roomy = λ room h. (room_some false closing ended buffered room h).3;
    silent = silent_at false closing ended buffered;
    reads = λ h s. reading full out closing ended body buffered next (looked refl) drained (idle_parts tail out closing body next h) s;
    idle = λ h trees later. let i = idle_parts tail out closing body next h in quiet service out journal closing body buffered next trees later i.unsent i.waits (looked refl) drained unended;
    logged = λ h trees later. let i = idle_parts tail out closing body next h in quiet_logs service journal closing body buffered next trees later (told refl) i.waits (looked refl) drained unended;
    shut = λ l h trees later. let i = shut_parts out closing ended body next h in quiet service out journal closing body buffered next trees later i.unsent i.waits (looked refl) drained unended;
    shuts = λ h trees later. shuts_by service out journal closing ended body buffered next trees later (idle_parts tail out closing body next h) (looked refl) drained unended;
    closes = λ l h e trees more later. closed service out journal closing ended body buffered next trees more later h e;
  }
  sound full service None (Some flow) out tail journal closing ended body buffered next looked dropped quit fits drained unended told = record {
    unsent = λ h. cc;
    unready = λ h. cc;
    unasked = λ h. cc;
    unread = λ h. cc;
    untimed = λ h. refl;
    stopped = λ cause h e. cc;
    absent = λ h. cc;
    roomy = λ room h. (room_some false closing ended buffered room h).3;
    silent = silent_at false closing ended buffered;
    reads = λ h. absurd (busy flow out fits h);
    idle = λ h trees later. absurd (busy flow out fits h);
    logged = λ h trees later. absurd (busy flow out fits h);
    shut = λ l h trees later. absurd (unshut closing ended h);
    shuts = λ h trees later. absurd (busy flow out fits h);
    closes = λ l h e trees more later. absurd (unshut closing ended h);
  }
