-- Connections that are drained one after another.
use Rattle.std.proofs.Common.{◌≡◌, ◌≢◌, ℕ, ◌+◌, ◌<◌, ◌≤◌, Bool, true, false, ◌&&◌, cond, List, [], ◌∷◌, ◌++◌, map, length, take, drop, get_or, Option, None, Some, ◌⊎◌, inl, inr, refl, sym, ap, ◌∙◌, subst, arith, suc}
use Rattle.std.specs.Prelude.{is_none}
use Rattle.std.specs.List.{All}
use Rattle.std.specs.List.Sorted.{IsStrictlyIncreasing}
use Rattle.std.proofs.lemmas.Grind.{common_steps}
use Rattle.std.proofs.lemmas.List.{take-append-drop, at_drop_more, get_or-take, take_all}
use Rattle.std.proofs.lemmas.List.Kept.{AllPairs-from_increasing}
use Rattle.std.proofs.lemmas.Bool.{cases_eq}
use Rattle.std.proofs.lemmas.List.Elements.{All-nil, All-cons, All-head, All-tail, All-append, All-more}
use Rattle.http_types.specs.declared.words.Addr.{Addr}
use Rattle.ngx_outside.specs.Views.{ConnView, Course, Start, StepsOwn, Stopped, Ran, Goes, Halts, Job, nobody, is_live, no_bytes}
use Rattle.ngx_outside.specs.Wants.{wants_at, wants_in, read_want, doable, first_doable}
use Rattle.ngx_outside.specs.declared.event.Event.{Event}
use Rattle.ngx_outside.specs.declared.event.Event.TheVariants as ev
use Rattle.ngx_outside.specs.declared.event.StepAnswer.{StepAnswer}
use Rattle.ngx_outside.specs.declared.event.StepAnswer.TheVariants.{Done, Skipped, OutOfMemory}
use Rattle.ngx_outside.specs.declared.event.StopCause.{StopCause}
use Rattle.ngx_outside.specs.declared.event.Want.{Want}
use Rattle.ngx_outside.specs.declared.event.Want.TheVariants as want
use Rattle.replay_run.specs.Told.{Told}
use Rattle.replay_run.specs.Scene.{Lane, Stage, Gives, IsArrival, Offers, EndsIfDue, Ends, Waits, Reads, Offered, Ending, Serves, AnswersJob, Answers, Fails, Unasked, Drained, Begun, Then, Drains, DrainsOne, AreHeld, conn_of, is_read, is_served, first_served, unless_close, RestsAt}

-- ---- an event of a connection leaves it held

live_held : (v : ConnView) → is_live v ≡ true → v.held ≡ true
live_held v = go v.held (is_none v.cause)
  where
    go : (a b : Bool) → (a && b) ≡ true → a ≡ true
    go true b e = refl
    go false b e = cc

went_held : (old new : ConnView) → is_live old ≡ true → is_live new ≡ true → new.held ≡ old.held
went_held old new before after = live_held new after ∙ sym (live_held old before)

stopped_held : {cause : StopCause} {old new : ConnView} {started : List Start} → Stopped cause old new started → new.held ≡ old.held
stopped_held {cause} {old} {new} s = s.held ∙ sym (live_held old s.before)

ran_held : (now : Start) (old new : ConnView) → Ran now old new → new.held ≡ old.held
ran_held now old new (Goes started is w) = went_held old new w.before w.after
ran_held now old new (Halts count started is s foreseen) = stopped_held s

same_held : {old new : ConnView} → new ≡ old → new.held ≡ old.held
same_held e = ap (λ (v : ConnView). v.held) e

arrived_held : (course : Course) (now : Start) (conn : ℕ) (e : Event) (queue : List ℕ) (a : StepAnswer) (old new : ConnView) → IsArrival e conn queue → StepsOwn course now e a old new → new.held ≡ old.held
arrived_held course now conn (ev.Arrived c bytes) queue (Done taken) old new is s = went_held old new (s.1).before (s.1).after
arrived_held course now conn (ev.Arrived c bytes) queue Skipped old new is s = same_held s.same
arrived_held course now conn (ev.Arrived c bytes) queue OutOfMemory old new is s = stopped_held s.2
arrived_held course now conn (ev.Opened c local peer) queue a old new is s = absurd is
arrived_held course now conn (ev.Ended c) queue a old new is s = absurd is
arrived_held course now conn (ev.Wrote c count) queue a old new is s = absurd is
arrived_held course now conn (ev.LinkFailed c) queue a old new is s = absurd is
arrived_held course now conn (ev.FileDone c node answer) queue a old new is s = absurd is
arrived_held course now conn (ev.JobFailed c node) queue a old new is s = absurd is
arrived_held course now conn (ev.Run c node) queue a old new is s = absurd is
arrived_held course now conn (ev.Tick moment) queue a old new is s = absurd is
arrived_held course now conn (ev.Tree to) queue a old new is s = absurd is
arrived_held course now conn (ev.Gone c) queue a old new is s = absurd is

ended_held : (course : Course) (now : Start) (conn : ℕ) (a : StepAnswer) (old new : ConnView) → StepsOwn course now (ev.Ended conn) a old new → new.held ≡ old.held
ended_held course now conn (Done taken) old new s = went_held old new (s.2).before (s.2).after
ended_held course now conn Skipped old new s = same_held s.same
ended_held course now conn OutOfMemory old new s = absurd s

wrote_held : (course : Course) (now : Start) (conn count : ℕ) (a : StepAnswer) (old new : ConnView) → StepsOwn course now (ev.Wrote conn count) a old new → new.held ≡ old.held
wrote_held course now conn count (Done taken) old new s = went_held old new (s.2).before (s.2).after
wrote_held course now conn count Skipped old new s = same_held s.same
wrote_held course now conn count OutOfMemory old new s = absurd s

run_held : (course : Course) (now : Start) (conn node : ℕ) (a : StepAnswer) (old new : ConnView) → StepsOwn course now (ev.Run conn node) a old new → new.held ≡ old.held
run_held course now conn node (Done taken) old new s = ran_held now old new s.1
run_held course now conn node Skipped old new s = same_held s.same
run_held course now conn node OutOfMemory old new s = stopped_held s.2

failed_held : (course : Course) (now : Start) (conn node : ℕ) (a : StepAnswer) (old new : ConnView) → StepsOwn course now (ev.JobFailed conn node) a old new → new.held ≡ old.held
failed_held course now conn node (Done taken) old new s = stopped_held s.1
failed_held course now conn node Skipped old new s = same_held s.same
failed_held course now conn node OutOfMemory old new s = absurd s

done_held : (course : Course) (now : Start) (conn node : ℕ) (answer : _) (a : StepAnswer) (old new : ConnView) → StepsOwn course now (ev.FileDone conn node answer) a old new → new.held ≡ old.held
done_held course now conn node answer (Done taken) old new s = went_held old new s.went.before s.went.after
done_held course now conn node answer Skipped old new s = same_held s.same
done_held course now conn node answer OutOfMemory old new s = stopped_held s.2

-- ---- what serving a want leaves of the others

-- nothing changes elsewhere, and the connection stays held
record Stays (c : ℕ) (view view' : ℕ → ConnView) : Type 0 where
  held : (view' c).held ≡ (view c).held
  others : (d : ℕ) → d ≢ c → view' d ≡ view d

offers_stay : (fresh : Addr → Addr → Course) (c : ℕ) (queue : List ℕ) (a : StepAnswer) (view : ℕ → ConnView) (now : Start) (view' : ℕ → ConnView) (now' : Start) → Offers fresh c queue a view now view' now' → Stays c view view'
offers_stay fresh c queue a view now view' now' o = go o.event o.arrival o.gives
  where
    go : (e : Event) → IsArrival e c queue → Gives fresh e a view now view' now' → Stays c view view'
    go (ev.Arrived conn bytes) is g =
        record {
          held = subst (λ k. (view' k).held ≡ (view k).held) is.0 (arrived_held nobody.course now c (ev.Arrived conn bytes) queue a (view conn) (view' conn) is g.steps.own);
          others = λ d ne. g.steps.others d (λ e. ne (e ∙ is.0));
        }
    go (ev.Opened conn local peer) is g = absurd is
    go (ev.Ended conn) is g = absurd is
    go (ev.Wrote conn count) is g = absurd is
    go (ev.LinkFailed conn) is g = absurd is
    go (ev.FileDone conn node answer) is g = absurd is
    go (ev.JobFailed conn node) is g = absurd is
    go (ev.Run conn node) is g = absurd is
    go (ev.Tick moment) is g = absurd is
    go (ev.Tree to) is g = absurd is
    go (ev.Gone conn) is g = absurd is

unchanged : (c : ℕ) (view view' : ℕ → ConnView) → view' ≡ view → Stays c view view'
unchanged c view view' e = record { held = ap (λ (f : ℕ → ConnView). (f c).held) e; others = λ d ne. ap (λ (f : ℕ → ConnView). f d) e }

ends_stay : (fresh : Addr → Addr → Course) (c : ℕ) (l l' : Lane) (a : StepAnswer) (view : ℕ → ConnView) (now : Start) (view' : ℕ → ConnView) (now' : Start) → EndsIfDue fresh c l l' a view now view' now' → Stays c view view'
ends_stay fresh c l l' a view now view' now' (Ends is g e) = record { held = ended_held nobody.course now c a (view c) (view' c) g.steps.own; others = g.steps.others }
ends_stay fresh c l l' a view now view' now' (Waits is none v n e) = unchanged c view view' v

reads_stay : (fresh : Addr → Addr → Course) (c : ℕ) (a : StepAnswer) (view : ℕ → ConnView) (now : Start) (view' : ℕ → ConnView) (now' : Start) (l l' : Lane) → Reads fresh c a view now view' now' l l' → Stays c view view'
reads_stay fresh c a view now view' now' l l' (Offered some o e) = offers_stay fresh c l.queue a view now view' now' o
reads_stay fresh c a view now view' now' l l' (Ending none e) = ends_stay fresh c l l' a view now view' now' e

job_stays : (fresh : Addr → Addr → Course) (told : Told) (c node : ℕ) (a : StepAnswer) (view : ℕ → ConnView) (now : Start) (view' : ℕ → ConnView) (now' : Start) → AnswersJob fresh told c node a view now view' now' → Stays c view view'
job_stays fresh told c node a view now view' now' (Answers ask answer waits known from g) = record { held = done_held nobody.course now c node answer a (view c) (view' c) g.steps.own; others = g.steps.others }
job_stays fresh told c node a view now view' now' (Fails ask waits none g) = record { held = failed_held nobody.course now c node a (view c) (view' c) g.steps.own; others = g.steps.others }
job_stays fresh told c node a view now view' now' (Unasked none skipped v n) = unchanged c view view' v

serves_stay : (fresh : Addr → Addr → Course) (told : Told) (w : Want) (old new : Stage) → Serves fresh told w old new → Stays (conn_of w) old.view new.view × ((d : ℕ) → d ≢ conn_of w → new.lanes d ≡ old.lanes d)
serves_stay fresh told (want.Read conn room) old new s = (reads_stay fresh conn s.0 old.view old.now new.view new.now (old.lanes conn) s.1.last s.1.does, s.1.lanes.others)
serves_stay fresh told (want.Run conn node) old new s =
    (record { held = run_held nobody.course old.now conn node s.0 (old.view conn) (new.view conn) (s.1).gives.steps.own; others = (s.1).gives.steps.others }, λ d ne. (s.1).lanes d)
serves_stay fresh told (want.Job conn node) old new s = (job_stays fresh told conn node s.0 old.view old.now new.view new.now (s.1).0, λ d ne. (s.1).1 d)
serves_stay fresh told (want.Write conn) old new s =
    (record { held = wrote_held nobody.course old.now conn (s.1).does.count s.0 (old.view conn) (new.view conn) (s.1).does.gives.steps.own; others = (s.1).does.gives.steps.others }, (s.1).lanes.others)
serves_stay fresh told (want.Close conn) old new s = absurd s

stays_held : (c : ℕ) (view view' : ℕ → ConnView) → Stays c view view' → (d : ℕ) → (view' d).held ≡ (view d).held
stays_held c view view' s d = go (cases_eq d c)
  where
    go : (d ≡ c) ⊎ (d ≡ c → ⊥) → (view' d).held ≡ (view d).held
    go (inl e) = subst (λ k. (view' k).held ≡ (view k).held) (sym e) s.held
    go (inr ne) = ap (λ (v : ConnView). v.held) (s.others d ne)

-- ---- the first want that can be served, among those of all connections

first_none : (lanes : ℕ → Lane) (xs ys : List Want) → first_served lanes xs ≡ None → first_served lanes (xs ++ ys) ≡ first_served lanes ys
first_none lanes [] ys e = refl
first_none lanes (x ∷ xs) ys e = go (is_served lanes x) e (first_none lanes xs ys)
  where
    go : (t : Bool) → cond t (Some x) (first_served lanes xs) ≡ None → (first_served lanes xs ≡ None → first_served lanes (xs ++ ys) ≡ first_served lanes ys) → cond t (Some x) (first_served lanes (xs ++ ys)) ≡ first_served lanes ys
    go true e later = cc
    go false e later = later e

first_some : (lanes : ℕ → Lane) (xs ys : List Want) (w : Want) → first_served lanes xs ≡ Some w → first_served lanes (xs ++ ys) ≡ Some w
first_some lanes [] ys w e = cc
first_some lanes (x ∷ xs) ys w e = go (is_served lanes x) e (first_some lanes xs ys w)
  where
    go : (t : Bool) → cond t (Some x) (first_served lanes xs) ≡ Some w → (first_served lanes xs ≡ Some w → first_served lanes (xs ++ ys) ≡ Some w) → cond t (Some x) (first_served lanes (xs ++ ys)) ≡ Some w
    go true e later = e
    go false e later = later e

none_in : (s : Stage) (conns : List ℕ) → All (RestsAt s) conns → first_served s.lanes (wants_in conns s.view) ≡ None
none_in s [] all = refl
none_in s (c ∷ conns) all =
    first_none s.lanes (wants_at c (s.view c)) (wants_in conns s.view) (All-head (RestsAt s) c conns all) ∙ none_in s conns (All-tail (RestsAt s) c conns all)

some_in : (s : Stage) (front : List ℕ) (c : ℕ) (back : List ℕ) (w : Want) → All (RestsAt s) front → first_served s.lanes (wants_at c (s.view c)) ≡ Some w → first_served s.lanes (wants_in (front ++ c ∷ back) s.view) ≡ Some w
some_in s [] c back w all e = first_some s.lanes (wants_at c (s.view c)) (wants_in back s.view) w e
some_in s (d ∷ front) c back w all e =
    first_none s.lanes (wants_at d (s.view d)) (wants_in (front ++ c ∷ back) s.view) (All-head (RestsAt s) d front all) ∙ some_in s front c back w (All-tail (RestsAt s) d front all) e

-- ---- the wants of a connection

-- what holds of each kind holds of all but the close
but_close : (P : Want → Type 0) (c : ℕ) (v : ConnView) → ((room : ℕ) → P (want.Read c room)) → ((node : ℕ) → P (want.Run c node)) → ((node : ℕ) → P (want.Job c node)) → P (want.Write c) →
    All P (read_want c v.room ++ map (λ node. want.Run c node) v.ready ++ map (λ (job : Job). want.Job c job.node) v.jobs ++ cond (no_bytes v.pending) [] (want.Write c ∷ []))
but_close P c v r u j w =
    All-append P _ _ (All-append P _ _ (All-append P _ _ (reads v.room) (runs v.ready)) (jobs v.jobs)) (writes (no_bytes v.pending))
  where
    reads : (room : Option ℕ) → All P (read_want c room)
    reads None = All-nil P
    reads (Some room) = All-cons P (want.Read c room) [] (r room) (All-nil P)

    runs : (nodes : List ℕ) → All P (map (λ node. want.Run c node) nodes)
    runs [] = All-nil P
    runs (n ∷ nodes) = All-cons P (want.Run c n) (map (λ node. want.Run c node) nodes) (u n) (runs nodes)

    jobs : (js : List Job) → All P (map (λ (job : Job). want.Job c job.node) js)
    jobs [] = All-nil P
    jobs (k ∷ js) = All-cons P (want.Job c k.node) (map (λ (job : Job). want.Job c job.node) js) (j k.node) (jobs js)

    writes : (t : Bool) → All P (cond t [] (want.Write c ∷ []))
    writes true = All-nil P
    writes false = All-cons P (want.Write c) [] w (All-nil P)

each_at : (P : Want → Type 0) (c : ℕ) (v : ConnView) → ((room : ℕ) → P (want.Read c room)) → ((node : ℕ) → P (want.Run c node)) → ((node : ℕ) → P (want.Job c node)) → P (want.Write c) → P (want.Close c) → All P (wants_at c v)
unfolding wants_at
each_at P c v r u j w k = All-append P _ _ (but_close P c v r u j w) (closes v.shut)
  where
    closes : (t : Bool) → All P (cond t (want.Close c ∷ []) [])
    closes true = All-cons P (want.Close c) [] k (All-nil P)
    closes false = All-nil P

-- by lanes that agree on each want the same is the first
first_like : (lanes lanes' : ℕ → Lane) (xs : List Want) → All (λ w. is_served lanes' w ≡ is_served lanes w) xs → first_served lanes' xs ≡ first_served lanes xs
first_like lanes lanes' [] all = refl
first_like lanes lanes' (x ∷ xs) all =
    ap (λ t. cond t (Some x) (first_served lanes' xs)) (All-head (λ w. is_served lanes' w ≡ is_served lanes w) x xs all)
    ∙ ap (λ r. cond (is_served lanes x) (Some x) r) (first_like lanes lanes' xs (All-tail (λ w. is_served lanes' w ≡ is_served lanes w) x xs all))

-- where neither a connection nor its lane changes it goes on resting
rests_on : (old new : Stage) (d : ℕ) → (new.view d ≡ old.view d) × (new.lanes d ≡ old.lanes d) → RestsAt old d → RestsAt new d
rests_on old new d e h =
    ap (λ v. first_served new.lanes (wants_at d v)) e.0
    ∙ first_like old.lanes new.lanes (wants_at d (old.view d)) (each_at (λ w. is_served new.lanes w ≡ is_served old.lanes w) d (old.view d) (λ room. ap is_read e.1) (λ node. refl) (λ node. refl) refl refl)
    ∙ h

-- the first that a script serves is the first that can be served, unless that is the close, which is the last
pub first_unless : (lanes : ℕ → Lane) (c : ℕ) (v : ConnView) → first_served lanes (wants_at c v) ≡ unless_close (first_doable (is_read (lanes c)) false (wants_at c v))
unfolding wants_at first_doable
first_unless lanes c v =
    go (read_want c v.room ++ map (λ node. want.Run c node) v.ready ++ map (λ (job : Job). want.Job c job.node) v.jobs ++ cond (no_bytes v.pending) [] (want.Write c ∷ []))
    (but_close Alike c v (λ room. (refl, refl)) (λ node. (refl, refl)) (λ node. (refl, refl)) (refl, refl)) v.shut
  where
    Alike : Want → Type 0
    Alike w = (is_served lanes w ≡ doable (is_read (lanes c)) false w) × (unless_close (Some w) ≡ Some w)

    closes : Bool → List Want
    closes t = cond t (want.Close c ∷ []) []

    one : (x : Want) (r s : Option Want) (t u : Bool) → t ≡ u → unless_close (Some x) ≡ Some x → r ≡ unless_close s → cond t (Some x) r ≡ unless_close (cond u (Some x) s)
    one x r s true true e k h = sym k
    one x r s true false e k h = cc
    one x r s false true e k h = cc
    one x r s false false e k h = h

    go : (xs : List Want) → All Alike xs → (t : Bool) → first_served lanes (xs ++ closes t) ≡ unless_close (first_doable (is_read (lanes c)) false (xs ++ closes t))
    go [] all true = refl
    go [] all false = refl
    go (x ∷ xs) all t =
        let a = All-head Alike x xs all in
        one x (first_served lanes (xs ++ closes t)) (first_doable (is_read (lanes c)) false (xs ++ closes t)) (is_served lanes x) (doable (is_read (lanes c)) false x) a.0 a.1
        (go xs (All-tail Alike x xs all) t)

-- each is of its connection
of_conn : (lanes : ℕ → Lane) (xs : List Want) (c : ℕ) (w : Want) → All (λ x. conn_of x ≡ c) xs → first_served lanes xs ≡ Some w → conn_of w ≡ c
of_conn lanes [] c w all e = cc
of_conn lanes (x ∷ xs) c w all e = go (is_served lanes x) e (of_conn lanes xs c w (All-tail (λ y. conn_of y ≡ c) x xs all))
  where
    go : (t : Bool) → cond t (Some x) (first_served lanes xs) ≡ Some w → (first_served lanes xs ≡ Some w → conn_of w ≡ c) → conn_of w ≡ c
    go true e later = ap conn_of (let f : w ≡ x = cc in f) ∙ All-head (λ y. conn_of y ≡ c) x xs all
    go false e later = later e

pub served_of : (lanes : ℕ → Lane) (c : ℕ) (v : ConnView) (w : Want) → first_served lanes (wants_at c v) ≡ Some w → conn_of w ≡ c
served_of lanes c v w e = of_conn lanes (wants_at c v) c w (each_at (λ x. conn_of x ≡ c) c v (λ room. refl) (λ node. refl) (λ node. refl) refl refl) e

-- ---- one connection is drained

pub drains_none : (fresh : Addr → Addr → Course) (told : Told) (c : ℕ) (s : Stage) → DrainsOne fresh told c s s
drains_none fresh told c s = record { others = λ d ne. (refl, refl); held = λ d. refl; path = λ first conns front back held whole apart all drained. drained }

-- the connections before it go on resting
still : (c : ℕ) (old new : Stage) (front : List ℕ) → ((d : ℕ) → d ≢ c → (new.view d ≡ old.view d) × (new.lanes d ≡ old.lanes d)) → All (λ d. d ≢ c) front → All (RestsAt old) front → All (RestsAt new) front
still c old new [] others apart all = All-nil (RestsAt new)
still c old new (d ∷ front) others apart all =
    All-cons (RestsAt new) d front
    (rests_on old new d (others d (All-head (λ k. k ≢ c) d front apart)) (All-head (RestsAt old) d front all))
    (still c old new front others (All-tail (λ k. k ≢ c) d front apart) (All-tail (RestsAt old) d front all))

held_on : (conns : List ℕ) (view view' : ℕ → ConnView) → ((d : ℕ) → (view' d).held ≡ (view d).held) → AreHeld conns view → AreHeld conns view'
held_on conns view view' same h = record { order = h.order; held = λ d. (λ has. same d ∙ (h.held d).0 has, λ is. (h.held d).1 (sym (same d) ∙ is)) }

-- one want more is served
pub drains_then : (fresh : Addr → Addr → Course) (told : Told) (c : ℕ) (old mid new : Stage) (w : Want) → DrainsOne fresh told c old mid → first_served mid.lanes (wants_at c (mid.view c)) ≡ Some w → Serves fresh told w mid new → DrainsOne fresh told c old new
drains_then fresh told c old mid new w d e s = record {
  others = λ k ne. (both k ne).2;
  held = λ k. stays_held (conn_of w) mid.view new.view stays.0 k ∙ d.held k;
  path = λ first conns front back held whole apart all drained.
      Then mid new conns w (d.path first conns front back held whole apart all drained) (held_on conns old.view mid.view d.held held)
      (ap (λ l. first_served mid.lanes (wants_in l mid.view)) whole ∙ some_in mid front c back w (still c old mid front d.others apart all) e) s;
}
  where
    of : conn_of w ≡ c
    of = served_of mid.lanes c (mid.view c) w e

    stays : Stays (conn_of w) mid.view new.view × ((k : ℕ) → k ≢ conn_of w → new.lanes k ≡ mid.lanes k)
    stays = serves_stay fresh told w mid new s

    both : (k : ℕ) → k ≢ c → (new.view k ≡ mid.view k) × (new.lanes k ≡ mid.lanes k) × ((new.view k ≡ old.view k) × (new.lanes k ≡ old.lanes k))
    both k ne =
        let a = stays.0.others k (λ q. ne (q ∙ of)) in
        let b = stays.1 k (λ q. ne (q ∙ of)) in
        (a, b, (a ∙ (d.others k ne).0, b ∙ (d.others k ne).1))

-- ---- all are drained, one after another

from_index : (P : ℕ → Type 0) (xs : List ℕ) → ((k : ℕ) → k < length xs → P (get_or xs k 0)) → All P xs
from_index P [] h = All-nil P
from_index P (x ∷ xs) h = All-cons P x xs (h 0 (omega arith)) (from_index P xs (λ k lt. h (suc k) (omega (arith, lt))))

-- lower ones are others
lower_apart : (conns : List ℕ) (i : ℕ) → IsStrictlyIncreasing conns → i < length conns → All (λ d. d ≢ get_or conns i 0) (take i conns)
lower_apart conns i s lt =
    from_index (λ d. d ≢ get_or conns i 0) (take i conns) (λ k h.
    let size : length (take i conns) ≡ i = (grind (arith, common_steps)) in
    let ki : k < i = omega (arith, h, size) in
    let less = AllPairs-from_increasing conns s k i 0 ki lt in
    λ e. let same = sym (get_or-take i conns k 0 ki) ∙ e in omega (arith, less, same))

whole_at : (conns : List ℕ) (i : ℕ) → i < length conns → conns ≡ take i conns ++ get_or conns i 0 ∷ drop (i + 1) conns
whole_at conns i lt = sym (take-append-drop i conns) ∙ ap (λ r. take i conns ++ r) (at_drop_more (λ r. r) conns i 0 lt)

-- What is so after some of the connections were drained.
pub record DrainedSome (fresh : Addr → Addr → Course) (told : Told) (conns : List ℕ) (i : ℕ) (old new : Stage) : Type 0 where
  pub path : Drained fresh told old new
  pub held : (d : ℕ) → (new.view d).held ≡ (old.view d).held
  pub rest : All (RestsAt new) (take i conns)

pub some_begun : (fresh : Addr → Addr → Course) (told : Told) (conns : List ℕ) (s : Stage) → DrainedSome fresh told conns 0 s s
some_begun fresh told conns s = record { path = Begun; held = λ d. refl; rest = All-nil (RestsAt s) }

pub some_more : (fresh : Addr → Addr → Course) (told : Told) (conns : List ℕ) (i : ℕ) (old mid new : Stage) → AreHeld conns old.view → i < length conns → DrainedSome fresh told conns i old mid →
    DrainsOne fresh told (get_or conns i 0) mid new → RestsAt new (get_or conns i 0) → DrainedSome fresh told conns (i + 1) old new
some_more fresh told conns i old mid new held lt d one rests = record {
  path =
      one.path old conns (take i conns) (drop (i + 1) conns) (held_on conns old.view mid.view d.held held) (whole_at conns i lt) (lower_apart conns i held.order lt) d.rest d.path;
  held = λ k. one.held k ∙ d.held k;
  rest = All-more (RestsAt new) conns i 0 lt (still (get_or conns i 0) mid new (take i conns) one.others (lower_apart conns i held.order lt) d.rest) rests;
}

pub all_drained : (fresh : Addr → Addr → Course) (told : Told) (conns : List ℕ) (i : ℕ) (old new : Stage) → AreHeld conns old.view → length conns ≤ i → DrainedSome fresh told conns i old new → Drains fresh told old new
all_drained fresh told conns i old new held all d = record {
  path = d.path;
  conns = conns;
  held = held_on conns old.view new.view d.held held;
  none = none_in new conns (subst (All (RestsAt new)) (take_all i conns all) d.rest);
}
