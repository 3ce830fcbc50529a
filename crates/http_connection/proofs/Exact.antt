-- What a connection shows is exact.
use Rattle.std.proofs.Common.{◌≡◌, ℕ, ◌+◌, drop, Bool, true, false, not, ◌&&◌, ◌||◌, List, [], ◌∷◌, ◌++◌, length, map, Option, None, Some, refl, sym, ap, ◌∙◌}
use Rattle.std.specs.Prelude.{is_some}
use Rattle.std.proofs.lemmas.List.{append-nil}
use Rattle.file_tree.specs.Tree.{Trees}
use Rattle.ngx_outside.specs.Views.{Start, Log, log_of, is_idle, no_bytes}
use Rattle.ngx_outside.specs.declared.event.Entry.{Entry}
use Rattle.ngx_outside.specs.declared.event.StopCause.{StopCause}
use Rattle.req_head.specs.declared.head.HeadStep.{HeadStep}
use Rattle.req_head.specs.declared.head.HeadStep.TheVariants.{More, Head, Bad}
use Rattle.req_head.specs.Step.{head_step}
use Rattle.body_frame.specs.State.{body_of}
use Rattle.body_frame.specs.declared.state.BodyState.{BodyState}
use Rattle.response_flow.specs.declared.flight.Flight.{Flight}
use Rattle.http_connection.specs.Steps.{starts, logged_in, IsLogged}
use Rattle.http_connection.specs.Conn.{view_at, bytes_at, logs_at, idle_at, IsExact}
use Rattle.http_connection.proofs.Sound.{shut_parts, unshut, idle_shown}
use Rattle.answers_meaning.specs.Asking.{Service}
use Rattle.answers_meaning.specs.Answers.{Answer, Sends, Closes, responses, first_response, logs_in, after_body}
use Rattle.http_connection.specs.Rests.{rest_in, Serves}
use Rattle.response_flow.specs.Flights.{FlightFits}

both : (a b : Bool) → a ≡ true → b ≡ true → (not false && a && b) ≡ true
both true true e f = refl
both true false e f = cc
both false b e f = cc

-- no response is sent
abbrev are_none : List Answer → Bool
are_none [] = true
are_none (Sends r ∷ answers) = false
are_none (Closes ∷ answers) = are_none answers

-- bytes that begin a request are answered
is_answered : (service : Service) (k : ℕ) (trees : Trees) (buffered : List ℕ) (start : Start) (later : List Start) (next : HeadStep) → next ≡ head_step buffered → starts None next ≡ true →
    are_none (responses service k trees (buffered ++ []) (start ∷ later)) ≡ false
unfolding responses
is_answered service k trees buffered start later More e s = cc
is_answered service k trees buffered start later (Head head size) e s =
    ap (λ t. are_none (first_response service trees k start t (λ n kind. after_body (body_of kind (drop n (buffered ++ []))) (λ m. responses service (k + 1) trees (drop m (drop n (buffered ++ []))) later))))
    (ap head_step (append-nil buffered) ∙ sym e)
is_answered service k trees buffered start later (Bad code no_body) e s =
    ap (λ t. are_none (first_response service trees k start t (λ n kind. after_body (body_of kind (drop n (buffered ++ []))) (λ m. responses service (k + 1) trees (drop m (drop n (buffered ++ []))) later))))
    (ap head_step (append-nil buffered) ∙ sym e)

-- logs of fewer requests aren't those of all
fewer : (logs : List Log) (rs : List Answer) → are_none rs ≡ false → map (λ l. Some l) logs ++ [] ≡ map (λ l. Some l) (logs ++ logs_in rs) → ⊥
fewer logs [] n e = cc
fewer logs (Closes ∷ rs) n e = fewer logs rs n e
fewer [] (Sends r ∷ rs) n e = cc
fewer (l ∷ logs) (Sends r ∷ rs) n e = fewer logs (Sends r ∷ rs) n (ap (drop 1) e)

-- nor are those of which one isn't known yet
unknown : (logs all : List Log) → map (λ l. Some l) logs ++ None ∷ [] ≡ map (λ l. Some l) all → ⊥
unknown [] [] e = cc
unknown [] (a ∷ all) e = cc
unknown (l ∷ logs) [] e = cc
unknown (l ∷ logs) (a ∷ all) e = unknown logs all (ap (drop 1) e)

-- an idle one whose input has ended is to be closed
closed_by : (closing ended : Bool) (b : Bool) → b ≡ true → ended ≡ true → (false || ((closing || ended) && b)) ≡ true
closed_by true ended true i e = refl
closed_by false true true i e = refl
closed_by false false b i e = cc
closed_by closing ended false i e = cc

module _ (serves : Serves) where
  -- a further request may start, where nothing is in flight and it isn't idle though nothing is kept for the peer
  more_logged : (service : Service) (journal : List Entry) (closing : Bool) (body : Option BodyState) (buffered : List ℕ) (next : HeadStep) (trees : Trees) (start : Start) (later : List Start) →
      next ≡ head_step buffered → IsLogged false journal → (closing || not (starts body next)) ≡ false →
      map log_of journal ≡ map (λ l. Some l) (logs_at service (rest_in serves None) journal closing body buffered trees [] (start ∷ later)) → ⊥
  more_logged service journal true body buffered next trees start later looked told w e = cc
  more_logged service journal false (Some state) buffered next trees start later looked told w e = cc
  more_logged service journal false None buffered More trees start later looked told w e = cc
  more_logged service journal false None buffered (Head head size) trees start later looked told w e =
      fewer (logged_in journal) (responses service (length journal) trees (buffered ++ []) (start ∷ later)) (is_answered service (length journal) trees buffered start later (Head head size) looked refl) (sym told ∙ e)
  more_logged service journal false None buffered (Bad code no_body) trees start later looked told w e =
      fewer (logged_in journal) (responses service (length journal) trees (buffered ++ []) (start ∷ later)) (is_answered service (length journal) trees buffered start later (Bad code no_body) looked refl) (sym told ∙ e)

  more_left : (service : Service) (out : List ℕ) (journal : List Entry) (closing : Bool) (body : Option BodyState) (buffered : List ℕ) (next : HeadStep) (trees : Trees) (start : Start) (later : List Start) →
      next ≡ head_step buffered → IsLogged false journal → idle_at false None closing out body next ≡ false → bytes_at service (rest_in serves None) out journal closing body buffered trees [] (start ∷ later) ≡ [] →
      map log_of journal ≡ map (λ l. Some l) (logs_at service (rest_in serves None) journal closing body buffered trees [] (start ∷ later)) → ⊥
  more_left service (b ∷ out) journal closing body buffered next trees start later looked told w none e = cc
  more_left service [] journal closing body buffered next trees start later looked told w none e = more_logged service journal closing body buffered next trees start later looked told w e

  pub exact : (service : Service) (cause : Option StopCause) (flow : Option Flight) (out : List ℕ) (tail : ℕ) (journal : List Entry) (closing ended : Bool) (body : Option BodyState) (buffered : List ℕ) (next : HeadStep) →
      (is_some cause ≡ false → next ≡ head_step buffered) → FlightFits flow (length out) → (is_some cause ≡ false → IsLogged (is_some flow) journal) → IsExact (view_at serves service cause flow out tail journal closing ended body buffered next)
  exact service (Some why) flow out tail journal closing ended body buffered next looked fits told = record {
    rests = λ l s. cc;
    ends = λ i e. refl;
    busy = λ l b trees start later none logs. cc;
  }
  exact service None None out tail journal closing ended body buffered next looked fits told =
      let shown : idle_at false None closing out body next ≡ is_idle (view_at serves service None None out tail journal closing ended body buffered next) = idle_shown serves service None None out tail journal closing ended body buffered next fits in
      record {
        rests = λ l s. let i = shut_parts out closing ended body next s in sym shown ∙ both (no_bytes out) (closing || not (starts body next)) i.unsent i.waits;
        ends = λ i e. closed_by closing ended (idle_at false None closing out body next) (shown ∙ i) e;
        busy = λ l b trees start later none logs. more_left service out journal closing body buffered next trees start later (looked refl) (told refl) (shown ∙ b) none logs;
      }
  exact service None (Some flow) out tail journal closing ended body buffered next looked fits told =
      let shown : idle_at false (Some flow) closing out body next ≡ is_idle (view_at serves service None (Some flow) out tail journal closing ended body buffered next) = idle_shown serves service None (Some flow) out tail journal closing ended body buffered next fits in
      record {
        rests = λ l s. absurd (unshut closing ended s);
        ends = λ i e. (let f : false ≡ true = shown ∙ i in cc);
        busy = λ l b trees start later none logs. unknown (logged_in journal) (logs_at service (rest_in serves (Some flow)) journal closing body buffered trees [] (start ∷ later)) (sym (told refl) ∙ logs);
      }
