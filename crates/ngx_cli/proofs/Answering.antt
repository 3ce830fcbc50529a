-- How connections were answered in a run.
use Rattle.std.proofs.Common.{◌≡◌, ◌⊎◌, inl, inr, ℕ, Bool, true, false, List, [], ◌∷◌, ◌++◌, drop, map, Option, None, Some, refl, sym, ap, ◌∙◌}
use Rattle.std.proofs.lemmas.List.{append-nil}
use Rattle.std.specs.Prelude.{◌&&◌, ◌||◌, is_none, Contains}
use Rattle.http_types.specs.declared.words.Addr.{Addr}
use Rattle.replay_text.specs.declared.parts.EventLine.{EventLine}
use Rattle.replay_text.specs.declared.parts.EventLine.TheVariants as line
use Rattle.ngx_outside.specs.Views.{ConnView, Course, IsSound, is_live}
use Rattle.ngx_outside.specs.declared.event.StopCause.{StopCause}
use Rattle.ngx_outside.specs.Runs.{Tracked, AllIsSentWhenIdle, AllIsSentWhenShut, ShutIsExact, AllIsLoggedWhenIdle}
use Rattle.replay_run.specs.Told.{Told}
use Rattle.replay_run.specs.declared.lane.LinkEnds.{LinkEnds}
use Rattle.replay_run.specs.Plays.{AreOpenedBy}
use Rattle.replay_run.specs.Scene.{Lane, Stage}
use Rattle.replay_run.specs.Standing.{Standing, Unopened, Opened, AllStanding, is_given}
use Rattle.conf_inherit.specs.declared.site.Built.{Built}
use Rattle.answers_meaning.specs.Asking.{Service}
use Rattle.answers_meaning.specs.Answers.{responses, logs_in, close_in, answers}
use Rattle.site_service.specs.request_opening.Openings.{service_of}
use Rattle.site_service.specs.http_connection.Conn.{fresh_course, IsExact}
use Rattle.ngx_cli.specs.Running.{Answered, IsNew}

-- on a connection that is held, its ends, what came and what of that is tracked
record Seen (raceless : Bool) (site : Built) (told : Told) (v : ConnView) (lane : Lane) (sent : List ℕ) : Type 0 where
  ends : LinkEnds
  opened : lane.ends ≡ Some ends
  ended : v.ended ≡ is_given lane.tail
  came : List ℕ
  arrived : sent ≡ came ++ lane.queue
  tracked : Tracked (fresh_course raceless site.patterns site.site ends.local ends.peer) told.trees told.newest v came lane.went

never : (b : Bool) → b ≡ true → b ≡ false → ⊥
never true e f = cc
never false e f = cc

seen : (raceless : Bool) (site : Built) (told : Told) (v : ConnView) (lane : Lane) (sent : List ℕ) → v.held ≡ true → Standing (fresh_course raceless site.patterns site.site) told v lane sent → Seen raceless site told v lane sent
seen raceless site told v lane sent h (Unopened n e g w s) = absurd (never v.held h n)
seen raceless site told v lane sent h (Opened ends came n o g s t) = record { ends = ends; opened = o; ended = g; came = came; arrived = s; tracked = t }

live_by : (held : Bool) (cause : Option StopCause) → held ≡ true → cause ≡ None → (held && is_none cause) ≡ true
live_by true None h c = refl
live_by true (Some cause) h c = cc
live_by false cause h c = cc

live : (v : ConnView) → v.held ≡ true → v.cause ≡ None → is_live v ≡ true
live v h c = live_by v.held v.cause h c

-- nothing comes where all is there
nothing_left : (xs ys : List ℕ) → xs ++ ys ≡ xs → ys ≡ []
nothing_left [] ys e = e
nothing_left (x ∷ xs) ys e = nothing_left xs ys (ap (drop 1) e)

pub answered : AllIsSentWhenIdle → AllIsSentWhenShut → ShutIsExact → AllIsLoggedWhenIdle → (raceless : Bool) (site : Built) (told : Told) (v : ConnView) (lane : Lane) (sent : List ℕ) → v.held ≡ true → IsSound v → IsExact v → Standing (fresh_course raceless site.patterns site.site) told v lane sent → Answered raceless site told v lane sent
answered sent_all shut_sent_all shut_all logged_all raceless site told v lane sent h sound exact standing =
    let s = seen raceless site told v lane sent h standing in
    let service : Service = service_of site.patterns site.site s.ends.local s.ends.peer in
    record {
      ends = s.ends;
      opened = s.opened;
      came = s.came;
      arrived = s.arrived;
      front = λ quiet trees agree. s.tracked.front quiet trees agree;
      on = λ quiet c trees agree more later. s.tracked.on (live v h c) quiet trees agree more later;
      whole = λ quiet i trees agree later. sent_all (fresh_course raceless site.patterns site.site s.ends.local s.ends.peer) told.trees told.newest v s.came lane.went s.tracked sound i quiet trees agree later;
      closes = λ quiet c shut given trees agree more later.
          shut_sent_all (fresh_course raceless site.patterns site.site s.ends.local s.ends.peer) told.trees told.newest v s.came lane.went s.tracked sound (live v h c) shut (s.ended ∙ given) quiet trees agree more later;
      logged = λ quiet trees agree. s.tracked.logged quiet trees agree;
      busy = λ quiet c i trees agree start later all logs.
          exact.busy (live v h c) i trees start later
          (nothing_left lane.went (v.course.bytes trees [] (start ∷ later))
          (sym (s.tracked.on (live v h c) quiet trees agree [] (start ∷ later)) ∙ ap (λ x. answers service 0 trees x (v.starts ++ start ∷ later)) (append-nil s.came) ∙ all))
          (logs ∙ ap (map (λ l. Some l)) (sym (ap (λ x. logs_in (responses service 0 trees x (v.starts ++ start ∷ later))) (append-nil s.came)) ∙ s.tracked.logs (live v h c) quiet trees agree [] (start ∷ later)));
      rests = λ c shut. exact.rests (live v h c) shut;
      shuts = λ quiet i trees agree later.
          shut_all (fresh_course raceless site.patterns site.site s.ends.local s.ends.peer) told.trees told.newest v s.came lane.went s.tracked sound i quiet trees agree later
          ∙ ap (λ b. b || close_in (responses service 0 trees s.came (v.starts ++ later))) s.ended;
      all_logged = λ quiet i trees agree later. logged_all (fresh_course raceless site.patterns site.site s.ends.local s.ends.peer) told.trees told.newest v s.came lane.went s.tracked sound i quiet trees agree later;
    }

-- before a run there is nothing on any connection
pub begins_standing : (fresh : Addr → Addr → Course) (told : Told) (s : Stage) → IsNew s → AllStanding fresh told s (λ c. [])
begins_standing fresh told s n = λ c. Unopened (ap (λ (v : ConnView). v.held) (n.view c)) (ap (λ (l : Lane). l.ends) (n.lanes c)) (ap (λ (l : Lane). is_given l.tail) (n.lanes c)) (ap (λ (l : Lane). l.went) (n.lanes c))
    (sym (ap (λ (l : Lane). l.queue) (n.lanes c)))

-- so each that was opened since was opened by a line
opened_since : (lines : List EventLine) (old : Option LinkEnds) (c : ℕ) (ends : LinkEnds) → old ≡ None → (old ≡ Some ends) ⊎ Contains lines (line.Open c ends.local ends.peer) →
    Contains lines (line.Open c ends.local ends.peer)
opened_since lines old c ends none (inl kept) = cc
opened_since lines old c ends none (inr opened) = opened

pub opened_by_lines : (lines : List EventLine) (first : Stage) (new : ℕ → Lane) → IsNew first → AreOpenedBy lines first.lanes new → (c : ℕ) (ends : LinkEnds) → (new c).ends ≡ Some ends →
    Contains lines (line.Open c ends.local ends.peer)
opened_by_lines lines first new n opened c ends is = opened_since lines (first.lanes c).ends c ends (ap (λ (l : Lane). l.ends) (n.lanes c)) (opened c ends is)
