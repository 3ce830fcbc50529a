-- What each event does to its connection, by its answer.
use Rattle.std.proofs.Common.{◌≡◌, ◌≢◌, ◌⊎◌, ℕ, ◌+◌, ◌*◌, ◌<◌, ◌≤◌, Bool, true, false, ◌&&◌, inl, inr, List, [], length, take, Option, None, Some, refl, sym, ap, ◌∙◌, subst, arith}
use Rattle.std.specs.List.{Contains}
use Rattle.std.specs.Prelude.{is_none}
use Rattle.std.proofs.lemmas.List.{take_all}
use Rattle.http_types.specs.declared.words.Addr.{Addr}
use Rattle.file_tree.specs.Tree.{is_fitting}
use Rattle.file_tree.specs.declared.job.Ask.{Ask}
use Rattle.file_tree.specs.declared.job.JobAnswer.{JobAnswer}
use Rattle.ngx_outside.specs.Causes.{Rose}
use Rattle.ngx_outside.specs.Views.{ConnView, Course, Start, Ground, Went, Ran, Goes as RunGoes, Halts, Refused, StepsOwn, Steps, Takes, LeftBy, CountsRefused, is_live, ask_in, nobody}
use Rattle.ngx_outside.specs.Views.Ground.{Always, Answers, Raceless}
use Rattle.ngx_outside.specs.declared.event.Event.{Event}
use Rattle.ngx_outside.specs.declared.event.Event.TheVariants as ev
use Rattle.ngx_outside.specs.declared.event.StepAnswer.{StepAnswer}
use Rattle.ngx_outside.specs.declared.event.StepAnswer.TheVariants.{Done, Skipped, OutOfMemory}
use Rattle.link_service.specs.Seen.{Elsewhere}
use Rattle.link_service.specs.Passing.{Passed, Goes, Stops, Counts}

-- the bytes arrive on the connection
abbrev pub IsArrival : Event → ℕ → List ℕ → Type 0
IsArrival (ev.Arrived conn piece) c bytes = (conn ≡ c) × (piece.now ≡ bytes)
IsArrival e c bytes = ⊥

some_same : {A : Type 0} {x y : A} → Some x ≡ Some y → x ≡ y
some_same e = cc

-- a job that isn't none
pub some_ask : (o : Option Ask) → o ≢ None → (ask : Ask) × (o ≡ Some ask)
some_ask None h = absurd (h refl)
some_ask (Some ask) h = (ask, refl)

-- what an event did to its connection, that the work that is left fell below a bound, and the count of refused events
pub record Does (passed : Type 0) (bound left' r r' : ℕ) : Type 0 where
  pub does : passed
  pub left : left' < bound
  pub counts : Counts r r'

done : {P : Type 0} {bound left' r r' : ℕ} → P → left' < bound → r' ≡ r → Does P bound left' r r'
done p l e = record { does = p; left = l; counts = inl e }

-- a refused event stops its connection
refused : {now : Start} {ground : Ground} {L F : Type 0} {old new : ConnView} {came : List ℕ} {bound left' r r' : ℕ} → left' < bound → Rose r r' → Refused now old new → Does (Passed now ground L F (Rose r r') old new came []) bound left' r r'
refused l r s = record { does = Stops _ s.0 s.1 r refl s.2; left = l; counts = inr r }

taken_all : (room : Option ℕ) (bytes : List ℕ) (taken most : ℕ) → Takes room bytes taken → room ≡ Some most → length bytes ≤ most → taken ≡ length bytes
taken_all room bytes taken most t e h =
    let m : t.most ≡ most = some_same (sym t.has_room ∙ e) in
    let k = t.takes in
    omega arith

arrived_own : (course : Course) (now : Start) (conn room : ℕ) (e : Event) (bytes : List ℕ) (a : StepAnswer) (old new : ConnView) (price l l' r r' : ℕ) →
    old.room ≡ Some room → length bytes ≤ room → 0 < length bytes → IsArrival e conn bytes → LeftBy price e a l l' → CountsRefused e a r r' → StepsOwn course now e a old new →
    Does (Passed now Always ⊥ ⊥ (Rose r r') old new bytes []) (l + price * length bytes + 1) l' r r'
arrived_own course now conn room (ev.Arrived c piece) bytes (Done taken) old new price l l' r r' e h some is f k s =
    let all : taken ≡ length bytes = taken_all old.room bytes taken room (subst (λ b. Takes old.room b taken) is.1 s.0) e h in
    let p : price * taken ≡ price * length bytes = ap (λ n. price * n) all in
    done (Goes [] (inl refl) (subst (λ b. Went Always old new b [] []) (ap (λ b. take taken b) is.1 ∙ take_all taken bytes (omega arith)) s.1)) (omega (arith, f)) k
arrived_own course now conn room (ev.Arrived c piece) bytes Skipped old new price l l' r r' e h some is f k s =
    let none : bytes ≡ [] = sym is.1 ∙ s.cause room e in
    absurd (let z : length bytes ≡ 0 = ap length none in omega arith)
arrived_own course now conn room (ev.Arrived c piece) bytes OutOfMemory old new price l l' r r' e h some is f k s = refused (omega (arith, f)) k s
arrived_own course now conn room (ev.Opened c local peer) bytes a old new price l l' r r' e h some is f k s = absurd is
arrived_own course now conn room (ev.Ended c) bytes a old new price l l' r r' e h some is f k s = absurd is
arrived_own course now conn room (ev.Wrote c count) bytes a old new price l l' r r' e h some is f k s = absurd is
arrived_own course now conn room (ev.LinkFailed c) bytes a old new price l l' r r' e h some is f k s = absurd is
arrived_own course now conn room (ev.FileDone c node answer) bytes a old new price l l' r r' e h some is f k s = absurd is
arrived_own course now conn room (ev.JobFailed c node) bytes a old new price l l' r r' e h some is f k s = absurd is
arrived_own course now conn room (ev.Run c node) bytes a old new price l l' r r' e h some is f k s = absurd is
arrived_own course now conn room (ev.Tick moment) bytes a old new price l l' r r' e h some is f k s = absurd is
arrived_own course now conn room (ev.Tree to) bytes a old new price l l' r r' e h some is f k s = absurd is
arrived_own course now conn room (ev.Gone c) bytes a old new price l l' r r' e h some is f k s = absurd is

-- an event of a connection does something to it, and nothing elsewhere
pub record At (c : ℕ) (Is : ConnView → ConnView → Type 0) (view view' : ℕ → ConnView) : Type 0 where
  pub own : Is (view c) (view' c)
  pub others : Elsewhere c view view'

pub arrived_at : (fresh : Addr → Addr → Course) (now : Start) (conn room : ℕ) (e : Event) (bytes : List ℕ) (a : StepAnswer) (view view' : ℕ → ConnView) (price l l' r r' : ℕ) →
    (view conn).room ≡ Some room → length bytes ≤ room → 0 < length bytes → IsArrival e conn bytes → LeftBy price e a l l' → CountsRefused e a r r' → Steps fresh now e a view view' →
    At conn (λ v v'. Does (Passed now Always ⊥ ⊥ (Rose r r') v v' bytes []) (l + price * length bytes + 1) l' r r') view view'
arrived_at fresh now conn room (ev.Arrived c piece) bytes a view view' price l l' r r' e h some is f k s =
    record {
      own = subst (λ d. Does (Passed now Always ⊥ ⊥ (Rose r r') (view d) (view' d) bytes []) (l + price * length bytes + 1) l' r r') is.0
          (arrived_own nobody.course now c room (ev.Arrived c piece) bytes a (view c) (view' c) price l l' r r' (ap (λ d. (view d).room) is.0 ∙ e) h some (refl, is.1) f k s.own);
      others = λ d ne. s.others d (λ q. ne (q ∙ is.0));
    }
arrived_at fresh now conn room (ev.Opened c local peer) bytes a view view' price l l' r r' e h some is f k s = absurd is
arrived_at fresh now conn room (ev.Ended c) bytes a view view' price l l' r r' e h some is f k s = absurd is
arrived_at fresh now conn room (ev.Wrote c count) bytes a view view' price l l' r r' e h some is f k s = absurd is
arrived_at fresh now conn room (ev.LinkFailed c) bytes a view view' price l l' r r' e h some is f k s = absurd is
arrived_at fresh now conn room (ev.FileDone c node answer) bytes a view view' price l l' r r' e h some is f k s = absurd is
arrived_at fresh now conn room (ev.JobFailed c node) bytes a view view' price l l' r r' e h some is f k s = absurd is
arrived_at fresh now conn room (ev.Run c node) bytes a view view' price l l' r r' e h some is f k s = absurd is
arrived_at fresh now conn room (ev.Tick moment) bytes a view view' price l l' r r' e h some is f k s = absurd is
arrived_at fresh now conn room (ev.Tree to) bytes a view view' price l l' r r' e h some is f k s = absurd is
arrived_at fresh now conn room (ev.Gone c) bytes a view view' price l l' r r' e h some is f k s = absurd is

-- the peer sends no more
pub ended_own : (course : Course) (now : Start) (conn : ℕ) (a : StepAnswer) (old new : ConnView) (price l l' r r' : ℕ) → old.room ≢ None → LeftBy price (ev.Ended conn) a l l' → CountsRefused (ev.Ended conn) a r r' → StepsOwn course now (ev.Ended conn) a old new →
    Does (Passed now Always ⊥ ⊥ ⊥ old new [] []) (l + 1) l' r r'
ended_own course now conn (Done taken) old new price l l' r r' h f k s = done (Goes [] (inl refl) s.2) (omega (arith, f)) k
ended_own course now conn Skipped old new price l l' r r' h f k s = absurd (h s.cause)
ended_own course now conn OutOfMemory old new price l l' r r' h f k s = absurd s

-- the first pending bytes were written
pub wrote_own : (course : Course) (now : Start) (conn count : ℕ) (a : StepAnswer) (old new : ConnView) (price l l' r r' : ℕ) → 0 < count → count ≤ length old.pending → LeftBy price (ev.Wrote conn count) a l l' → CountsRefused (ev.Wrote conn count) a r r' → StepsOwn course now (ev.Wrote conn count) a old new →
    Does (Passed now Always ⊥ ⊥ ⊥ old new [] (take count old.pending)) l l' r r'
wrote_own course now conn count (Done taken) old new price l l' r r' some within f k s = done (Goes [] (inl refl) s.2) f k
wrote_own course now conn count Skipped old new price l l' r r' some within f k s = let h = s.cause some in absurd (omega arith)
wrote_own course now conn count OutOfMemory old new price l l' r r' some within f k s = absurd s

-- its link failed
pub link_failed_own : (course : Course) (now : Start) (conn : ℕ) (a : StepAnswer) (old new : ConnView) (price l l' r r' : ℕ) → is_live old ≡ true → LeftBy price (ev.LinkFailed conn) a l l' → CountsRefused (ev.LinkFailed conn) a r r' → StepsOwn course now (ev.LinkFailed conn) a old new →
    Does (Passed now Always (Unit {0}) ⊥ ⊥ old new [] []) l l' r r'
link_failed_own course now conn (Done taken) old new price l l' r r' live f k s = done (Stops _ [] (inl refl) tt refl s) f k
link_failed_own course now conn Skipped old new price l l' r r' live f k s = absurd (let e : true ≡ false = sym live ∙ s.cause in cc)
link_failed_own course now conn OutOfMemory old new price l l' r r' live f k s = absurd s

-- its job is answered
pub file_done_own : (course : Course) (now : Start) (conn node : ℕ) (answer : JobAnswer) (a : StepAnswer) (old new : ConnView) (price l l' r r' : ℕ) (ask : Ask) →
    ask_in old.jobs node ≡ Some ask → is_fitting ask answer ≡ true → LeftBy price (ev.FileDone conn node answer) a l l' → CountsRefused (ev.FileDone conn node answer) a r r' → StepsOwn course now (ev.FileDone conn node answer) a old new →
    Does (Passed now (Answers ask answer) ⊥ ⊥ (Rose r r') old new [] []) l l' r r'
file_done_own course now conn node answer (Done taken) old new price l l' r r' ask waits fits f k s =
    let e : s.ask ≡ ask = some_same (sym s.waits ∙ waits) in
    done (Goes [] (inl refl) (subst (λ q. Went (Answers q answer) old new [] [] []) e s.went)) f k
file_done_own course now conn node answer Skipped old new price l l' r r' ask waits fits f k s = absurd (let e : true ≡ false = sym fits ∙ s.cause ask waits in cc)
file_done_own course now conn node answer OutOfMemory old new price l l' r r' ask waits fits f k s = refused f k s

-- its job failed
pub job_failed_own : (course : Course) (now : Start) (conn node : ℕ) (a : StepAnswer) (old new : ConnView) (price l l' r r' : ℕ) → ask_in old.jobs node ≢ None → LeftBy price (ev.JobFailed conn node) a l l' → CountsRefused (ev.JobFailed conn node) a r r' → StepsOwn course now (ev.JobFailed conn node) a old new →
    Does (Passed now Always ⊥ (Unit {0}) ⊥ old new [] []) l l' r r'
job_failed_own course now conn node (Done taken) old new price l l' r r' waits f k s = done (Stops _ [] (inl refl) tt refl s.1) f k
job_failed_own course now conn node Skipped old new price l l' r r' waits f k s = absurd (waits s.cause)
job_failed_own course now conn node OutOfMemory old new price l l' r r' waits f k s = absurd s

-- a node of it runs
ran : {now : Start} {old new : ConnView} {R : Type 0} → Ran now old new → Passed now (Raceless old.raceless) ⊥ ⊥ R old new [] []
ran (RunGoes started is w) = Goes started is w
ran (Halts count started is s heavy) = Stops _ started is heavy refl s

-- what a run did where it could apply, or that nothing changed
pub record Might (passed same ready : Type 0) (l l' r r' : ℕ) : Type 0 where
  pub does : passed ⊎ same
  pub left : l' ≤ l
  pub falls : ready → l' < l
  pub counts : Counts r r'

pub ran_if_own : (course : Course) (now : Start) (conn node : ℕ) (a : StepAnswer) (old new : ConnView) (price l l' r r' : ℕ) → LeftBy price (ev.Run conn node) a l l' → CountsRefused (ev.Run conn node) a r r' → StepsOwn course now (ev.Run conn node) a old new →
    Might (Passed now (Raceless old.raceless) ⊥ ⊥ (Rose r r') old new [] []) (new ≡ old) (Contains old.ready node) l l' r r'
ran_if_own course now conn node (Done taken) old new price l l' r r' f k s = record { does = inl (ran s.1); left = omega (arith, f); falls = λ h. f; counts = inl k }
ran_if_own course now conn node Skipped old new price l l' r r' f k s = record { does = inr s.same; left = omega (arith, f); falls = λ h. absurd (s.cause h); counts = inl k }
ran_if_own course now conn node OutOfMemory old new price l l' r r' f k s = record { does = inl (Stops _ s.0 s.1 k refl s.2); left = omega (arith, f); falls = λ h. f; counts = inr k }

-- its link was closed
pub gone_own : (course : Course) (now : Start) (conn : ℕ) (a : StepAnswer) (old new : ConnView) (price l l' r r' : ℕ) → old.shut ≡ true → LeftBy price (ev.Gone conn) a l l' → CountsRefused (ev.Gone conn) a r r' → StepsOwn course now (ev.Gone conn) a old new →
    Does (new ≡ nobody) l l' r r'
gone_own course now conn (Done taken) old new price l l' r r' shut f k s = done s.1 f k
gone_own course now conn Skipped old new price l l' r r' shut f k s = absurd (let e : true ≡ false = sym shut ∙ s.cause in cc)
gone_own course now conn OutOfMemory old new price l l' r r' shut f k s = absurd s

-- it reads no more
pub ended_unread : (course : Course) (now : Start) (conn : ℕ) (a : StepAnswer) (old new : ConnView) → old.room ≢ None → StepsOwn course now (ev.Ended conn) a old new → new.room ≡ None
ended_unread course now conn (Done taken) old new h s = s.1
ended_unread course now conn Skipped old new h s = absurd (h s.cause)
ended_unread course now conn OutOfMemory old new h s = absurd s

-- it isn't live any more
pub failed_stopped : (course : Course) (now : Start) (conn : ℕ) (a : StepAnswer) (old new : ConnView) → is_live old ≡ true → StepsOwn course now (ev.LinkFailed conn) a old new → is_live new ≡ false
failed_stopped course now conn (Done taken) old new live s = ap (λ c. new.held && is_none c) s.why ∙ no_and new.held
  where
    no_and : (b : Bool) → (b && false) ≡ false
    no_and true = refl
    no_and false = refl
failed_stopped course now conn Skipped old new live s = absurd (let e : true ≡ false = sym live ∙ s.cause in cc)
failed_stopped course now conn OutOfMemory old new live s = absurd s
