-- Each event keeps account of what came and went on each connection.
use Rattle.std.proofs.Common.{◌≡◌, ℕ, ◌≤◌, Bool, true, false, ◌&&◌, List, [], ◌++◌, take, Some, refl, sym, ap, ◌∙◌, subst, append_assoc}
use Rattle.std.specs.Prelude.{is_none}
use Rattle.std.proofs.lemmas.List.{append-nil}
use Rattle.file_tree.specs.Tree.{Item, Trees, HoldsBytes, IsFrom, node_of, text_of, tree_of}
use Rattle.file_tree.specs.declared.job.Ask.{Ask}
use Rattle.file_tree.specs.declared.job.Ask.TheVariants as ask
use Rattle.file_tree.specs.declared.job.JobAnswer.{JobAnswer}
use Rattle.file_tree.specs.declared.job.JobAnswer.TheVariants as answer
use Rattle.http_types.specs.declared.words.Addr.{Addr}
use Rattle.ngx_outside.specs.Views.{ConnView, Course, Start, Ground, Holds, Went, Stopped, Ran, Goes, Halts, Refused, Ticked, GivesUp, Waits, StepsOwn, is_live, ask_in}
use Rattle.ngx_outside.specs.Views.Ground.{Always, Answers, Raceless}
use Rattle.ngx_outside.specs.Runs.{Tracked, Agree}
use Rattle.ngx_outside.specs.declared.event.Event.{Event}
use Rattle.ngx_outside.specs.declared.event.Event.TheVariants as ev
use Rattle.ngx_outside.specs.declared.event.StepAnswer.{StepAnswer}
use Rattle.ngx_outside.specs.declared.event.StepAnswer.TheVariants.{Done, Skipped, OutOfMemory}
use Rattle.ngx_outside.specs.declared.event.StopCause.{StopCause}
use Rattle.ngx_outside.proofs.Tracks.{tracks_begin, steps_keep_track, stops_keep_track}
use Rattle.replay_run.specs.declared.lane.LinkEnds.{LinkEnds}
use Rattle.replay_run.specs.Told.{Told}
use Rattle.replay_run.specs.Scene.{Lane, IsArrival, taken_of, opened_lane, written_of}
use Rattle.replay_run.specs.Standing.{Standing, Unopened, Opened, is_given}

-- what a step does to a connection: it goes on, is stopped, or stays as it is
pub data Passed (told : Told) (old new : ConnView) (came went : List ℕ) : Type 0 where
  Moves : (ground : Ground) (started : List Start) → (old.raceless ≡ true → (trees : Trees) → Agree told.trees told.newest trees → Holds ground trees) → Went ground old new came went started → Passed told old new came went
  Stops : (cause : StopCause) (started : List Start) → came ≡ [] → went ≡ [] → Stopped cause old new started → Passed told old new came went
  Stays : came ≡ [] → went ≡ [] → new ≡ old → Passed told old new came went

and_held : (v : ConnView) → is_live v ≡ true → v.held ≡ true
and_held v h = first v.held (is_none v.cause) h
  where
    first : (a b : Bool) → (a && b) ≡ true → a ≡ true
    first true b h = refl
    first false true h = cc
    first false false h = cc

pub unheld : {A : Type 0} (v : ConnView) → v.held ≡ false → is_live v ≡ true → A
unheld v f live = let h = and_held v live in absurd (let e : true ≡ false = sym h ∙ f in cc)

section_tracked : (whole : Course) (told : Told) (old new : ConnView) (came went came' went' : List ℕ) → Passed told old new came' went' → Tracked whole told.trees told.newest old came went → Tracked whole told.trees told.newest new (came ++ came') (went ++ went')
section_tracked whole told old new came went came' went' (Moves ground started holds w) t =
    steps_keep_track whole told.trees told.newest ground old new came went came' went' started holds t w
section_tracked whole told old new came went came' went' (Stops cause started e f s) t =
    subst (λ x. Tracked whole told.trees told.newest new (came ++ came') (went ++ x)) (sym f) (subst (λ x. Tracked whole told.trees told.newest new (came ++ came') x) (sym (append-nil went)) (stops_keep_track whole told.trees told.newest cause old new came went came' started t s))
section_tracked whole told old new came went came' went' (Stays e f same) t =
    subst (λ x. Tracked whole told.trees told.newest new (came ++ x) (went ++ went')) (sym e)
    (subst (λ x. Tracked whole told.trees told.newest new (came ++ []) (went ++ x)) (sym f)
    (subst (λ x. Tracked whole told.trees told.newest new x (went ++ [])) (sym (append-nil came))
    (subst (λ x. Tracked whole told.trees told.newest new came x) (sym (append-nil went)) (subst (λ v. Tracked whole told.trees told.newest v came went) (sym same) t))))

-- where it was held it stays held
passed_held : {told : Told} {old new : ConnView} {came went : List ℕ} → Passed told old new came went → old.held ≡ true → new.held ≡ true
passed_held {new = new} (Moves ground started holds w) h = and_held new w.after
passed_held (Stops cause started e f s) h = s.held
passed_held (Stays e f same) h = ap (λ (v : ConnView). v.held) same ∙ h

-- and where it wasn't nothing happened
passed_unheld : {told : Told} {old new : ConnView} {came went : List ℕ} → Passed told old new came went → old.held ≡ false → (came ≡ []) × (went ≡ []) × (new ≡ old)
passed_unheld {old = old} (Moves ground started holds w) h = unheld old h w.before
passed_unheld {old = old} (Stops cause started e f s) h = unheld old h s.before
passed_unheld (Stays e f same) h = (e, f, same)

-- how a step that doesn't end the input leaves it
abbrev pub KeepsEnd : ConnView → ConnView → Lane → Lane → Type 0
KeepsEnd old new lane lane' = (old.ended ≡ is_given lane.tail → new.ended ≡ is_given lane'.tail) × (old.held ≡ false → is_given lane.tail ≡ false → is_given lane'.tail ≡ false)

pub keeps_end : (old new : ConnView) (lane lane' : Lane) → new.ended ≡ old.ended → lane'.tail ≡ lane.tail → KeepsEnd old new lane lane'
keeps_end old new lane lane' e f = (λ is. e ∙ is ∙ sym (ap is_given f), λ unheld none. ap is_given f ∙ none)

pub standing : (fresh : Addr → Addr → Course) (told : Told) (old new : ConnView) (lane lane' : Lane) (sent came went : List ℕ) → Passed told old new came went → KeepsEnd old new lane lane' → lane'.ends ≡ lane.ends → lane.queue ≡ came ++ lane'.queue → lane'.went ≡ lane.went ++ went →
    Standing fresh told old lane sent → Standing fresh told new lane' sent
standing fresh told old new lane lane' sent came went p k n q w (Unopened h e g none s) =
    let u = passed_unheld p h in
    Unopened (ap (λ (v : ConnView). v.held) u.2 ∙ h) (n ∙ e) (k.1 h g) (w ∙ ap (λ x. lane.went ++ x) u.1 ∙ append-nil lane.went ∙ none) (s ∙ q ∙ ap (λ x. x ++ lane'.queue) u.0)
standing fresh told old new lane lane' sent came went p k n q w (Opened ends before h e g s t) =
    Opened ends (before ++ came) (passed_held p h) (n ∙ e) (k.0 g) (s ∙ ap (λ x. before ++ x) q ∙ sym (append_assoc before came lane'.queue))
    (subst (λ x. Tracked (fresh ends.local ends.peer) told.trees told.newest new (before ++ came) x) (sym w) (section_tracked (fresh ends.local ends.peer) told old new before lane.went came went p t))

refused_stops : {told : Told} {now : Start} {old new : ConnView} → Refused now old new → Passed told old new [] []
refused_stops r = Stops _ r.0 refl refl r.2

-- each event, by its answer
pub arrived_passed : {told : Told} (course : Course) (now : Start) (e : Event) (c : ℕ) (queue : List ℕ) (a : StepAnswer) (old new : ConnView) → IsArrival e c queue → StepsOwn course now e a old new → Passed told old new (take (taken_of a) queue) []
arrived_passed course now (ev.Arrived conn bytes) c queue (Done taken) old new is s = Moves Always [] (λ raceless trees agree. tt) (subst (λ q. Went Always old new (take taken q) [] []) is.1 s.1)
arrived_passed course now (ev.Arrived conn bytes) c queue Skipped old new is s = Stays refl refl s.same
arrived_passed course now (ev.Arrived conn bytes) c queue OutOfMemory old new is s = refused_stops s
arrived_passed course now (ev.Opened conn local peer) c queue a old new is s = absurd is
arrived_passed course now (ev.Ended conn) c queue a old new is s = absurd is
arrived_passed course now (ev.Wrote conn count) c queue a old new is s = absurd is
arrived_passed course now (ev.LinkFailed conn) c queue a old new is s = absurd is
arrived_passed course now (ev.FileDone conn node answer) c queue a old new is s = absurd is
arrived_passed course now (ev.JobFailed conn node) c queue a old new is s = absurd is
arrived_passed course now (ev.Run conn node) c queue a old new is s = absurd is
arrived_passed course now (ev.Tick moment) c queue a old new is s = absurd is
arrived_passed course now (ev.Tree to) c queue a old new is s = absurd is
arrived_passed course now (ev.Gone conn) c queue a old new is s = absurd is

pub ended_passed : {told : Told} (course : Course) (now : Start) (conn : ℕ) (a : StepAnswer) (old new : ConnView) → StepsOwn course now (ev.Ended conn) a old new → Passed told old new [] []
ended_passed course now conn (Done taken) old new s = Moves Always [] (λ raceless trees agree. tt) s.2
ended_passed course now conn Skipped old new s = Stays refl refl s.same
ended_passed course now conn OutOfMemory old new s = absurd s

pub wrote_passed : {told : Told} (course : Course) (now : Start) (conn count : ℕ) (a : StepAnswer) (old new : ConnView) → StepsOwn course now (ev.Wrote conn count) a old new → Passed told old new [] (written_of a count old.pending)
wrote_passed course now conn count (Done taken) old new s = Moves Always [] (λ raceless trees agree. tt) s.2
wrote_passed course now conn count Skipped old new s = Stays refl refl s.same
wrote_passed course now conn count OutOfMemory old new s = absurd s

ran_passed : {told : Told} (now : Start) (old new : ConnView) → Ran now old new → Passed told old new [] []
ran_passed now old new (Goes started is w) = Moves (Raceless old.raceless) started (λ raceless trees agree. raceless) w
ran_passed now old new (Halts count started is s heavy) = Stops _ started refl refl s

pub run_passed : {told : Told} (course : Course) (now : Start) (conn node : ℕ) (a : StepAnswer) (old new : ConnView) → StepsOwn course now (ev.Run conn node) a old new → Passed told old new [] []
run_passed course now conn node (Done taken) old new s = ran_passed now old new s.1
run_passed course now conn node Skipped old new s = Stays refl refl s.same
run_passed course now conn node OutOfMemory old new s = refused_stops s

-- what the files told is so in all trees that agree with it
from_agree : (told : Told) (trees : Trees) (a : Ask) (given : JobAnswer) → Agree told.trees told.newest trees → tree_of a ≤ told.newest → IsFrom told.trees a given → IsFrom trees a given
from_agree told trees (ask.Stat path of) (answer.Stat node text) agree known from =
    let same = agree.same of known path in (from.0 ∙ ap node_of (sym same), λ some. ap text_of same ∙ from.1 some)
from_agree told trees (ask.Read path start count of) (answer.Read bytes) agree known from =
    subst (λ (item : Item). HoldsBytes item start count bytes.now) (sym (agree.same of known path)) from
from_agree told trees (ask.Stat path of) (answer.Read bytes) agree known from = absurd from
from_agree told trees (ask.Read path start count of) (answer.Stat node text) agree known from = absurd from

pub job_done_passed : {told : Told} (course : Course) (now : Start) (conn node : ℕ) (a : Ask) (given : JobAnswer) (r : StepAnswer) (old new : ConnView) → StepsOwn course now (ev.FileDone conn node given) r old new →
    ask_in old.jobs node ≡ Some a → tree_of a ≤ told.newest → IsFrom told.trees a given → Passed told old new [] []
job_done_passed {told = told} course now conn node a given (Done taken) old new s waits known from =
    let same : a ≡ s.ask = (let w = s.waits in cc) in
    Moves (Answers s.ask given) [] (λ raceless trees agree. from_agree told trees s.ask given agree (subst (λ (x : Ask). tree_of x ≤ told.newest) same known) (subst (λ (x : Ask). IsFrom told.trees x given) same from)) s.went
job_done_passed course now conn node a given Skipped old new s waits known from = Stays refl refl s.same
job_done_passed course now conn node a given OutOfMemory old new s waits known from = refused_stops s

pub job_failed_passed : {told : Told} (course : Course) (now : Start) (conn node : ℕ) (a : StepAnswer) (old new : ConnView) → StepsOwn course now (ev.JobFailed conn node) a old new → Passed told old new [] []
job_failed_passed course now conn node (Done taken) old new s = Stops _ [] refl refl s.1
job_failed_passed course now conn node Skipped old new s = Stays refl refl s.same
job_failed_passed course now conn node OutOfMemory old new s = absurd s

pub ticked_passed : {told : Told} (now : ℕ) (old new : ConnView) → Ticked now old new → Passed told old new [] []
ticked_passed now old new (GivesUp due timed is before s) = Stops _ [] refl refl s
ticked_passed now old new (Waits not same) = Stays refl refl same

-- a connection that is opened
pub standing_opened : (fresh : Addr → Addr → Course) (told : Told) (now : Start) (conn : ℕ) (ends : LinkEnds) (a : StepAnswer) (old new : ConnView) (lane : Lane) (sent : List ℕ) →
    StepsOwn (fresh ends.local ends.peer) now (ev.Opened conn ends.local ends.peer) a old new → Standing fresh told old lane sent → Standing fresh told new (opened_lane lane ends a) sent
standing_opened fresh told now conn ends (Done taken) old new lane sent s (Unopened h none g e q) =
    Opened ends [] (and_held new s.1.live) refl (s.1.ended ∙ sym g) q (subst (λ x. Tracked (fresh ends.local ends.peer) told.trees told.newest new [] x) (sym e) (tracks_begin (fresh ends.local ends.peer) told.trees told.newest new s.1))
standing_opened fresh told now conn ends (Done taken) old new lane sent s (Opened before came h e g q t) = absurd (let f : true ≡ false = sym h ∙ s.0 in cc)
standing_opened fresh told now conn ends Skipped old new lane sent s st = standing fresh told old new lane (opened_lane lane ends Skipped) sent [] [] (Stays refl refl s) (keeps_end old new lane (opened_lane lane ends Skipped) (ap (λ (v : ConnView). v.ended) s) refl) refl refl (sym (append-nil lane.went)) st
standing_opened fresh told now conn ends OutOfMemory old new lane sent s st = standing fresh told old new lane (opened_lane lane ends OutOfMemory) sent [] [] (Stays refl refl s) (keeps_end old new lane (opened_lane lane ends OutOfMemory) (ap (λ (v : ConnView). v.ended) s) refl) refl refl (sym (append-nil lane.went)) st
