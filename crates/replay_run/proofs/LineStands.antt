-- Each line keeps account of what came and went on each connection.
use Rattle.std.proofs.Common.{◌≡◌, ◌≢◌, ℕ, true, false, cond, eqb, ◌⊎◌, inl, inr, List, [], ◌∷◌, ◌++◌, length, take, refl, sym, ap, ◌∙◌, subst, append_assoc, arith}
use Rattle.std.proofs.lemmas.List.{append-nil, take-append-drop}
use Rattle.std.proofs.lemmas.Bool.{cases_eq}
use Rattle.std.proofs.lemmas.Bool.Decides.{nat_tests}
use Rattle.file_tree.specs.Tree.{Nothing}
use Rattle.http_types.specs.declared.words.Addr.{Addr}
use Rattle.ngx_outside.specs.Views.{ConnView, Course, Start, OneSteps, StepsOwn, nobody, ended_after}
use Rattle.ngx_outside.specs.declared.event.Event.{Event}
use Rattle.ngx_outside.specs.declared.event.Event.TheVariants as ev
use Rattle.ngx_outside.specs.declared.event.StepAnswer.{StepAnswer}
use Rattle.ngx_outside.specs.declared.event.StepAnswer.TheVariants.{Done, Skipped, OutOfMemory}
use Rattle.ngx_outside.specs.declared.event.Want.{Want}
use Rattle.ngx_outside.specs.declared.event.Want.TheVariants as want
use Rattle.ngx_outside.specs.Runs.{Tracked}
use Rattle.ngx_outside.specs.Seen.{Terms}
use Rattle.replay_text.specs.declared.parts.EventLine.{EventLine}
use Rattle.replay_text.specs.declared.parts.EventLine.TheVariants as line
use Rattle.replay_run.specs.declared.lane.InputEnd.{InputEnd}
use Rattle.replay_run.specs.declared.lane.InputEnd.TheVariants as input
use Rattle.replay_run.specs.declared.lane.LinkEnds.{LinkEnds}
use Rattle.replay_run.specs.Told.{Told, path_of, item_of, told_after, told_in}
use Rattle.replay_run.specs.Scene.{Lane, Stage, Gives, IsArrival, Offers, EndsIfDue, Ends, Waits, OneLane, SameLanes, Plain, OpensLine, Sends, SendsLine, EndsLine, WritesLine, JobLine, AnswersJob, Answers, Fails, Unasked, Reads, Offered, Ending, Serves, Drained, Begun, Then, longer_lane, due_lane, due_after, taken_of, offered_lane, ended_lane, written_lane, written_of}
use Rattle.replay_run.specs.Standing.{Standing, Unopened, Opened, AllStanding, is_given}
use Rattle.replay_run.specs.Plays.{LineDoes, Plays, Over, Line, sent_by, sent_in}
use Rattle.ngx_outside.specs.Outside.{Grow}
use Rattle.ngx_outside.proofs.Tracks.{tracks_narrow}
use Rattle.replay_run.proofs.Growing.{grows}
use Rattle.replay_run.proofs.Stands.{Passed, KeepsEnd, keeps_end, standing, standing_opened, unheld, arrived_passed, ended_passed, wrote_passed, run_passed, job_done_passed, job_failed_passed, ticked_passed}

-- where nothing changed
kept : (fresh : Addr → Addr → Course) (told : Told) (v v' : ConnView) (l l' : Lane) (sent : List ℕ) → v' ≡ v → l' ≡ l → Standing fresh told v l sent → Standing fresh told v' l' sent
kept fresh told v v' l l' sent e f s = subst (λ x. Standing fresh told x l' sent) (sym e) (subst (λ x. Standing fresh told v x sent) (sym f) s)

-- more bytes wait
longer : (fresh : Addr → Addr → Course) (told : Told) (v : ConnView) (l : Lane) (sent bytes : List ℕ) → Standing fresh told v l sent → Standing fresh told v (longer_lane l bytes) (sent ++ bytes)
longer fresh told v l sent bytes (Unopened h e g w q) = Unopened h e g w (ap (λ x. x ++ bytes) q)
longer fresh told v l sent bytes (Opened ends came h e g q t) = Opened ends came h e g (ap (λ x. x ++ bytes) q ∙ append_assoc came l.queue bytes) t

-- how the input is to end doesn't matter
ending : (fresh : Addr → Addr → Course) (told : Told) (v : ConnView) (l l' : Lane) (sent : List ℕ) → l'.ends ≡ l.ends → is_given l'.tail ≡ is_given l.tail → l'.queue ≡ l.queue → l'.went ≡ l.went → Standing fresh told v l sent → Standing fresh told v l' sent
ending fresh told v l l' sent n k q w (Unopened h e g none s) = Unopened h (n ∙ e) (k ∙ g) (w ∙ none) (s ∙ sym q)
ending fresh told v l l' sent n k q w (Opened ends came h e g s t) = Opened ends came h (n ∙ e) (g ∙ sym k) (s ∙ ap (λ x. came ++ x) (sym q)) (subst (λ x. Tracked (fresh ends.local ends.peer) told.trees told.newest v came x) (sym w) t)

due_given : (tail : InputEnd) → is_given (due_after tail) ≡ is_given tail
due_given input.Open = refl
due_given input.Due = refl
due_given input.Given = refl

-- what an event of one connection gives
one_own : {c : ℕ} {Does : ConnView → ConnView → Type 0} {view view' : ℕ → ConnView} → OneSteps c Does view view' → Does (view c) (view' c)
one_own s = s.own

-- an offer, at the connection itself
offers_own : (told : Told) (fresh : Addr → Addr → Course) (c : ℕ) (queue : List ℕ) (a : StepAnswer) (view : ℕ → ConnView) (now : Start) (view' : ℕ → ConnView) (now' : Start) → Offers fresh c queue a view now view' now' → Passed told (view c) (view' c) (take (taken_of a) queue) [] × ((d : ℕ) → d ≢ c → view' d ≡ view d) × ((view' c).ended ≡ (view c).ended)
offers_own told fresh c queue a view now view' now' o = go o.event o.arrival o.gives
  where
    go : (e : Event) → IsArrival e c queue → Gives fresh e a view now view' now' → Passed told (view c) (view' c) (take (taken_of a) queue) [] × ((d : ℕ) → d ≢ c → view' d ≡ view d) × ((view' c).ended ≡ (view c).ended)
    go (ev.Arrived conn bytes) is s =
        let own : StepsOwn nobody.course now (ev.Arrived conn bytes) a (view c) (view' c) = subst (λ k. StepsOwn nobody.course now (ev.Arrived conn bytes) a (view k) (view' k)) is.0 s.steps.own in
        (arrived_passed nobody.course now (ev.Arrived conn bytes) c queue a (view c) (view' c) is own, λ d ne. s.steps.others d (λ e. ne (e ∙ is.0)), s.ended c)
    go (ev.Opened conn local peer) is s = absurd is
    go (ev.Ended conn) is s = absurd is
    go (ev.Wrote conn count) is s = absurd is
    go (ev.LinkFailed conn) is s = absurd is
    go (ev.FileDone conn node answer) is s = absurd is
    go (ev.JobFailed conn node) is s = absurd is
    go (ev.Run conn node) is s = absurd is
    go (ev.Tick moment) is s = absurd is
    go (ev.Tree to) is s = absurd is
    go (ev.Gone conn) is s = absurd is

offered_standing : (fresh : Addr → Addr → Course) (told : Told) (c : ℕ) (l : Lane) (a : StepAnswer) (v v' : ConnView) (sent : List ℕ) → Passed told v v' (take (taken_of a) l.queue) [] → v'.ended ≡ v.ended → Standing fresh told v l sent → Standing fresh told v' (offered_lane l a) sent
offered_standing fresh told c l a v v' sent p n s = standing fresh told v v' l (offered_lane l a) sent (take (taken_of a) l.queue) [] p (keeps_end v v' l (offered_lane l a) n refl) refl (sym (take-append-drop (taken_of a) l.queue)) (sym (append-nil l.went)) s

-- what the end of the input leaves
ended_end : (c : ℕ) (l : Lane) (a : StepAnswer) (old new : ConnView) → (a ≢ Skipped → old.held ≡ false → ⊥) → new.ended ≡ ended_after (ev.Ended c) a c old.ended → KeepsEnd old new l (ended_lane l a)
ended_end c l (Done taken) old new held e =
    let here : eqb c c ≡ true = grind (arith, nat_tests) in
    (λ is. e ∙ ap (λ t. cond t true old.ended) here, λ unheld none. absurd (held (λ e. cc) unheld))
ended_end c l Skipped old new held e = keeps_end old new l (ended_lane l Skipped) e refl
ended_end c l OutOfMemory old new held e = keeps_end old new l (ended_lane l OutOfMemory) e refl

ended_held : (now : Start) (c : ℕ) (a : StepAnswer) (old new : ConnView) → StepsOwn nobody.course now (ev.Ended c) a old new → a ≢ Skipped → old.held ≡ false → ⊥
ended_held now c (Done taken) old new s not h = unheld old h s.2.before
ended_held now c Skipped old new s not h = not refl
ended_held now c OutOfMemory old new s not h = s

-- the end of the input, at the connection itself and elsewhere
ends_own : (fresh : Addr → Addr → Course) (told : Told) (c : ℕ) (l l' : Lane) (a : StepAnswer) (view : ℕ → ConnView) (now : Start) (view' : ℕ → ConnView) (now' : Start) (sent : List ℕ) → EndsIfDue fresh c l l' a view now view' now' → Standing fresh told (view c) l sent → Standing fresh told (view' c) l' sent
ends_own fresh told c l l' a view now view' now' sent (Ends is g e) s =
    subst (λ x. Standing fresh told (view' c) x sent) (sym e)
    (standing fresh told (view c) (view' c) l (ended_lane l a) sent [] [] (ended_passed nobody.course now c a (view c) (view' c) g.steps.own) (ended_end c l a (view c) (view' c) (ended_held now c a (view c) (view' c) g.steps.own) (g.ended c)) refl refl (sym (append-nil l.went)) s)
ends_own fresh told c l l' a view now view' now' sent (Waits is none v n e) s = kept fresh told (view c) (view' c) l l' sent (ap (λ (f : ℕ → ConnView). f c) v) e s

ends_others : (fresh : Addr → Addr → Course) (c : ℕ) (l l' : Lane) (a : StepAnswer) (view : ℕ → ConnView) (now : Start) (view' : ℕ → ConnView) (now' : Start) → EndsIfDue fresh c l l' a view now view' now' → (d : ℕ) → d ≢ c → view' d ≡ view d
ends_others fresh c l l' a view now view' now' (Ends is g e) d ne = g.steps.others d ne
ends_others fresh c l l' a view now view' now' (Waits is none v n e) d ne = ap (λ (f : ℕ → ConnView). f d) v

-- one connection by its own account, the others as they were
by_conn : (fresh : Addr → Addr → Course) (told : Told) (c : ℕ) (old new : Stage) (sent sent' : ℕ → List ℕ) → Standing fresh told (new.view c) (new.lanes c) (sent' c) → ((d : ℕ) → d ≢ c → new.view d ≡ old.view d) → ((d : ℕ) → d ≢ c → new.lanes d ≡ old.lanes d) → ((d : ℕ) → d ≢ c → sent' d ≡ sent d) →
    AllStanding fresh told old sent → AllStanding fresh told new sent'
by_conn fresh told c old new sent sent' own views lanes sents all d = go (cases_eq d c)
  where
    go : (d ≡ c) ⊎ (d ≡ c → ⊥) → Standing fresh told (new.view d) (new.lanes d) (sent' d)
    go (inl e) = subst (λ k. Standing fresh told (new.view k) (new.lanes k) (sent' k)) (sym e) own
    go (inr ne) = subst (λ x. Standing fresh told (new.view d) (new.lanes d) x) (sym (sents d ne)) (kept fresh told (old.view d) (new.view d) (old.lanes d) (new.lanes d) (sent d) (views d ne) (lanes d ne) (all d))

same_sents : (sent : ℕ → List ℕ) (c : ℕ) (d : ℕ) → d ≢ c → sent d ≡ sent d
same_sents sent c d ne = refl

-- an event of one connection that touches no lane
plain_one : (fresh : Addr → Addr → Course) (told : Told) (c : ℕ) (old new : Stage) (sent : ℕ → List ℕ) → (Standing fresh told (old.view c) (old.lanes c) (sent c) → Standing fresh told (new.view c) (old.lanes c) (sent c)) → ((d : ℕ) → d ≢ c → new.view d ≡ old.view d) → SameLanes old.lanes new.lanes →
    AllStanding fresh told old sent → AllStanding fresh told new sent
plain_one fresh told c old new sent own views lanes all =
    by_conn fresh told c old new sent sent (subst (λ x. Standing fresh told (new.view c) x (sent c)) (sym (lanes c)) (own (all c))) views (λ d ne. lanes d) (same_sents sent c) all

passed_one : (fresh : Addr → Addr → Course) (told : Told) (v v' : ConnView) (l : Lane) (sent : List ℕ) → Passed told v v' [] [] → v'.ended ≡ v.ended → Standing fresh told v l sent → Standing fresh told v' l sent
passed_one fresh told v v' l sent p n s = standing fresh told v v' l l sent [] [] p (keeps_end v v' l l n refl) refl refl (sym (append-nil l.went)) s

-- a connection is opened
opens_stand : (fresh : Addr → Addr → Course) (told : Told) (c : ℕ) (ends : LinkEnds) (a : StepAnswer) (old new : Stage) (sent : ℕ → List ℕ) → OpensLine fresh c ends a old new → AllStanding fresh told old sent → AllStanding fresh told new sent
opens_stand fresh told c ends a old new sent s all =
    let o = s.does in
    by_conn fresh told c old new sent sent
    (subst (λ x. Standing fresh told (new.view c) x (sent c)) (sym (s.lanes.own ∙ o.keeps))
    (standing_opened fresh told old.now c ends a (old.view c) (new.view c) (old.lanes c) (sent c) o.gives.steps.own (all c)))
    o.gives.steps.others s.lanes.others (same_sents sent c) all

pub writes_stand_at : (fresh : Addr → Addr → Course) (told : Told) (c most : ℕ) (a : StepAnswer) (old new : Stage) (sent : ℕ → List ℕ) → WritesLine fresh c most a old new → AllStanding fresh told old sent → AllStanding fresh told new sent
writes_stand_at fresh told c most a old new sent s all =
    let w = s.does in
    let own : Standing fresh told (new.view c) (written_lane (old.lanes c) a w.count (old.view c).pending) (sent c) =
    standing fresh told (old.view c) (new.view c) (old.lanes c) (written_lane (old.lanes c) a w.count (old.view c).pending) (sent c) [] (written_of a w.count (old.view c).pending)
    (wrote_passed nobody.course old.now c w.count a (old.view c) (new.view c) w.gives.steps.own)
    (keeps_end (old.view c) (new.view c) (old.lanes c) (written_lane (old.lanes c) a w.count (old.view c).pending) (w.gives.ended c) refl) refl refl refl (all c) in
    by_conn fresh told c old new sent sent
    (subst (λ x. Standing fresh told (new.view c) x (sent c)) (sym (s.lanes.own ∙ w.emits)) own)
    w.gives.steps.others s.lanes.others (same_sents sent c) all

job_stands : (fresh : Addr → Addr → Course) (told : Told) (c node : ℕ) (a : StepAnswer) (old new : Stage) (sent : ℕ → List ℕ) → JobLine fresh told c node a old new → AllStanding fresh told old sent → AllStanding fresh told new sent
job_stands fresh told c node a old new sent s all = go s.0
  where
    go : AnswersJob fresh told c node a old.view old.now new.view new.now → AllStanding fresh told new sent
    go (Answers ask answer waits known from g) =
        plain_one fresh told c old new sent (passed_one fresh told (old.view c) (new.view c) (old.lanes c) (sent c) (job_done_passed nobody.course old.now c node ask answer a (old.view c) (new.view c) g.steps.own waits known from) (g.ended c)) g.steps.others s.1 all
    go (Fails ask waits none g) =
        plain_one fresh told c old new sent (passed_one fresh told (old.view c) (new.view c) (old.lanes c) (sent c) (job_failed_passed nobody.course old.now c node a (old.view c) (new.view c) g.steps.own) (g.ended c)) g.steps.others s.1 all
    go (Unasked none skipped v n) = λ d. kept fresh told (old.view d) (new.view d) (old.lanes d) (new.lanes d) (sent d) (ap (λ (f : ℕ → ConnView). f d) v) (s.1 d) (all d)

pub serves_stand : (fresh : Addr → Addr → Course) (told : Told) (w : Want) (old new : Stage) (sent : ℕ → List ℕ) → Serves fresh told w old new → AllStanding fresh told old sent → AllStanding fresh told new sent
serves_stand fresh told (want.Read conn room) old new sent s all = go s.1.last s.1.does s.1.lanes
  where
    views : (last : Lane) → Reads fresh conn s.0 old.view old.now new.view new.now (old.lanes conn) last → (d : ℕ) → d ≢ conn → new.view d ≡ old.view d
    views last (Offered some o e) = (offers_own told fresh conn (old.lanes conn).queue s.0 old.view old.now new.view new.now o).1
    views last (Ending none e) = ends_others fresh conn (old.lanes conn) last s.0 old.view old.now new.view new.now e

    own : (last : Lane) → Reads fresh conn s.0 old.view old.now new.view new.now (old.lanes conn) last → Standing fresh told (new.view conn) last (sent conn)
    own last (Offered some o e) =
        subst (λ x. Standing fresh told (new.view conn) x (sent conn)) (sym e)
        (offered_standing fresh told conn (old.lanes conn) s.0 (old.view conn) (new.view conn) (sent conn) (offers_own told fresh conn (old.lanes conn).queue s.0 old.view old.now new.view new.now o).0 (offers_own told fresh conn (old.lanes conn).queue s.0 old.view old.now new.view new.now o).2 (all conn))
    own last (Ending none e) = ends_own fresh told conn (old.lanes conn) last s.0 old.view old.now new.view new.now (sent conn) e (all conn)

    go : (last : Lane) → Reads fresh conn s.0 old.view old.now new.view new.now (old.lanes conn) last → OneLane conn last old.lanes new.lanes → AllStanding fresh told new sent
    go last r o = by_conn fresh told conn old new sent sent (subst (λ x. Standing fresh told (new.view conn) x (sent conn)) (sym o.own) (own last r)) (views last r) o.others (same_sents sent conn) all
serves_stand fresh told (want.Run conn node) old new sent s all =
    plain_one fresh told conn old new sent (passed_one fresh told (old.view conn) (new.view conn) (old.lanes conn) (sent conn) (run_passed nobody.course old.now conn node s.0 (old.view conn) (new.view conn) (s.1).gives.steps.own) ((s.1).gives.ended conn)) (s.1).gives.steps.others (s.1).lanes all
serves_stand fresh told (want.Job conn node) old new sent s all = job_stands fresh told conn node s.0 old new sent s.1 all
serves_stand fresh told (want.Write conn) old new sent s all = writes_stand_at fresh told conn (length (old.view conn).pending) s.0 old new sent s.1 all
serves_stand fresh told (want.Close conn) old new sent s all = absurd s

pub drained_stand : (fresh : Addr → Addr → Course) (told : Told) (old new : Stage) (sent : ℕ → List ℕ) → Drained fresh told old new → AllStanding fresh told old sent → AllStanding fresh told new sent
drained_stand fresh told old new sent Begun all = all
drained_stand fresh told old new sent (Then mid last conns w path held first s) all = serves_stand fresh told w mid last sent s (drained_stand fresh told old mid sent path all)

-- bytes are sent, all are offered, and the input may end
sends_stand : (fresh : Addr → Addr → Course) (told : Told) (c : ℕ) (bytes : List ℕ) (a : StepAnswer) (old new : Stage) (sent sent' : ℕ → List ℕ) → sent' c ≡ sent c ++ bytes → ((d : ℕ) → d ≢ c → sent' d ≡ sent d) → SendsLine fresh c bytes a old new → AllStanding fresh told old sent → AllStanding fresh told new sent'
sends_stand fresh told c bytes a old new sent sent' e others s all =
    by_conn fresh told c old new sent sent'
    (subst (λ x. Standing fresh told (new.view c) x (sent' c)) (sym s.lanes.own)
    (subst (λ x. Standing fresh told (new.view c) s.last x) (sym e) ended))
    (λ d ne. ends_others fresh c (offered_lane lane d1.first) s.last d1.second d1.mid_view d1.mid_now new.view new.now d1.ends d ne ∙ o.1 d ne)
    s.lanes.others others all
  where
    d1 : Sends fresh c bytes a old.view old.now new.view new.now (old.lanes c) s.last
    d1 = s.does

    lane : Lane
    lane = longer_lane (old.lanes c) bytes

    o : Passed told (old.view c) (d1.mid_view c) (take (taken_of d1.first) ((old.lanes c).queue ++ bytes)) [] × ((d : ℕ) → d ≢ c → d1.mid_view d ≡ old.view d) × ((d1.mid_view c).ended ≡ (old.view c).ended)
    o = offers_own told fresh c ((old.lanes c).queue ++ bytes) d1.first old.view old.now d1.mid_view d1.mid_now d1.offers

    offered : Standing fresh told (d1.mid_view c) (offered_lane lane d1.first) (sent c ++ bytes)
    offered = offered_standing fresh told c lane d1.first (old.view c) (d1.mid_view c) (sent c ++ bytes) o.0 o.2 (longer fresh told (old.view c) (old.lanes c) (sent c) bytes (all c))

    ended : Standing fresh told (new.view c) s.last (sent c ++ bytes)
    ended = ends_own fresh told c (offered_lane lane d1.first) s.last d1.second d1.mid_view d1.mid_now new.view new.now (sent c ++ bytes) d1.ends offered

ends_stand : (fresh : Addr → Addr → Course) (told : Told) (c : ℕ) (a : StepAnswer) (old new : Stage) (sent : ℕ → List ℕ) → EndsLine fresh c a old new → AllStanding fresh told old sent → AllStanding fresh told new sent
ends_stand fresh told c a old new sent s all =
    by_conn fresh told c old new sent sent
    (subst (λ x. Standing fresh told (new.view c) x (sent c)) (sym s.lanes.own)
    (ends_own fresh told c (due_lane (old.lanes c)) s.last a old.view old.now new.view new.now (sent c) s.does (ending fresh told (old.view c) (old.lanes c) (due_lane (old.lanes c)) (sent c) refl (due_given (old.lanes c).tail) refl refl (all c))))
    (ends_others fresh c (due_lane (old.lanes c)) s.last a old.view old.now new.view new.now s.does) s.lanes.others (same_sents sent c) all

abbrev behind : (ℕ → List ℕ) → EventLine → ℕ → List ℕ
behind sent l c = sent c ++ sent_by l c

nothing_sent : (fresh : Addr → Addr → Course) (told : Told) (s : Stage) (sent sent' : ℕ → List ℕ) → ((c : ℕ) → sent' c ≡ sent c ++ []) → AllStanding fresh told s sent → AllStanding fresh told s sent'
nothing_sent fresh told s sent sent' e all c = subst (λ x. Standing fresh told (s.view c) (s.lanes c) x) (sym (e c ∙ append-nil (sent c))) (all c)

bytes_here : (conn : ℕ) (bytes : List ℕ) → cond (eqb conn conn) bytes [] ≡ bytes
bytes_here conn bytes = let t : eqb conn conn ≡ true = grind (arith, nat_tests) in ap (λ b. cond b bytes []) t

bytes_elsewhere : (conn d : ℕ) (bytes : List ℕ) → d ≢ conn → cond (eqb conn d) bytes [] ≡ []
bytes_elsewhere conn d bytes ne = let t : eqb conn d ≡ false = grind (arith, nat_tests) in ap (λ b. cond b bytes []) t

-- the tree's number alone changes
tree_stands : (fresh : Addr → Addr → Course) (told : Told) (to : ℕ) (a : StepAnswer) (old new : Stage) (sent : ℕ → List ℕ) → Plain fresh (ev.Tree to) a old new → AllStanding fresh told old sent → AllStanding fresh told new sent
tree_stands fresh told to (Done taken) old new sent p all c = kept fresh told (old.view c) (new.view c) (old.lanes c) (new.lanes c) (sent c) (p.gives.steps.1 c) (p.lanes c) (all c)
tree_stands fresh told to Skipped old new sent p all c = kept fresh told (old.view c) (new.view c) (old.lanes c) (new.lanes c) (sent c) (p.gives.steps.1 c) (p.lanes c) (all c)
tree_stands fresh told to OutOfMemory old new sent p all c = absurd p.gives.steps

-- and the files tell more
narrowed : (fresh : Addr → Addr → Course) (told told' : Told) (v : ConnView) (l : Lane) (sent : List ℕ) → Grow told.newest told'.newest told.trees told'.trees → Standing fresh told v l sent → Standing fresh told' v l sent
narrowed fresh told told' v l sent g (Unopened h e n w q) = Unopened h e n w q
narrowed fresh told told' v l sent g (Opened ends came h e n q t) = Opened ends came h e n q (tracks_narrow (fresh ends.local ends.peer) told.trees told'.trees told.newest told'.newest v came l.went g t)

pub line_stands : (terms : Terms) (told : Told) (l : EventLine) (a : StepAnswer) (old new : Stage) (sent : ℕ → List ℕ) → LineDoes terms told l a old new → AllStanding terms.fresh told old sent → AllStanding terms.fresh (told_after l told) new (behind sent l)
line_stands terms told (line.Open conn local peer) a old new sent s all =
    nothing_sent terms.fresh told new sent (behind sent (line.Open conn local peer)) (λ c. refl)
    (opens_stand terms.fresh told conn (record { local = local; peer = peer }) a old new sent s.0 all)
line_stands terms told (line.Bytes conn bytes) a old new sent s all =
    sends_stand terms.fresh told conn bytes a old new sent (behind sent (line.Bytes conn bytes)) (ap (λ x. sent conn ++ x) (bytes_here conn bytes)) (λ d ne. ap (λ x. sent d ++ x) (bytes_elsewhere conn d bytes ne) ∙ append-nil (sent d)) s all
line_stands terms told (line.End conn) a old new sent s all =
    nothing_sent terms.fresh told new sent (behind sent (line.End conn)) (λ c. refl) (ends_stand terms.fresh told conn a old new sent s all)
line_stands terms told (line.Room conn count) a old new sent s all =
    nothing_sent terms.fresh told new sent (behind sent (line.Room conn count)) (λ c. refl) (writes_stand_at terms.fresh told conn count a old new sent s all)
line_stands terms told (line.File conn node) a old new sent s all =
    nothing_sent terms.fresh told new sent (behind sent (line.File conn node)) (λ c. refl) (job_stands terms.fresh told conn node a old new sent s all)
line_stands terms told (line.FileFails conn node) a old new sent s all =
    nothing_sent terms.fresh told new sent (behind sent (line.FileFails conn node)) (λ c. refl)
    (plain_one terms.fresh told conn old new sent (passed_one terms.fresh told (old.view conn) (new.view conn) (old.lanes conn) (sent conn) (job_failed_passed nobody.course old.now conn node a (old.view conn) (new.view conn) s.gives.steps.own) (s.gives.ended conn)) s.gives.steps.others s.lanes all)
line_stands terms told (line.Run conn node) a old new sent s all =
    nothing_sent terms.fresh told new sent (behind sent (line.Run conn node)) (λ c. refl)
    (plain_one terms.fresh told conn old new sent (passed_one terms.fresh told (old.view conn) (new.view conn) (old.lanes conn) (sent conn) (run_passed nobody.course old.now conn node a (old.view conn) (new.view conn) s.gives.steps.own) (s.gives.ended conn)) s.gives.steps.others s.lanes all)
line_stands terms told (line.Tick now) a old new sent s all =
    nothing_sent terms.fresh told new sent (behind sent (line.Tick now)) (λ c. refl) (go a s)
  where
    go : (a : StepAnswer) → Plain terms.fresh (ev.Tick now) a old new → AllStanding terms.fresh told new sent
    go (Done taken) p c = subst (λ x. Standing terms.fresh told (new.view c) x (sent c)) (sym (p.lanes c)) (passed_one terms.fresh told (old.view c) (new.view c) (old.lanes c) (sent c) (ticked_passed _ (old.view c) (new.view c) (p.gives.steps c)) (p.gives.ended c) (all c))
    go Skipped p c = absurd p.gives.steps
    go OutOfMemory p c = absurd p.gives.steps
line_stands terms told (line.Tree change) a old new sent s all =
    let told' = told_after (line.Tree change) told in
    nothing_sent terms.fresh told' new sent (behind sent (line.Tree change)) (λ c. refl)
    (λ c. narrowed terms.fresh told told' (new.view c) (new.lanes c) (sent c) (grows (path_of change) (item_of change) told) (tree_stands terms.fresh told _ a old new sent s all c))
line_stands terms told (line.TreeGone path) a old new sent s all =
    let told' = told_after (line.TreeGone path) told in
    nothing_sent terms.fresh told' new sent (behind sent (line.TreeGone path)) (λ c. refl)
    (λ c. narrowed terms.fresh told told' (new.view c) (new.lanes c) (sent c) (grows path Nothing told) (tree_stands terms.fresh told _ a old new sent s all c))
line_stands terms told line.Drain a old new sent s all =
    nothing_sent terms.fresh told new sent (behind sent line.Drain) (λ c. refl) (drained_stand terms.fresh told old new sent (s.1).path all)

pub plays_stand : (terms : Terms) (told : Told) (lines : List EventLine) (old new : Stage) (k r k' r' : ℕ) (sent : ℕ → List ℕ) → Plays terms lines told old k r new k' r' → AllStanding terms.fresh told old sent → AllStanding terms.fresh (told_in lines told) new (λ c. sent c ++ sent_in lines c)
plays_stand terms told [] old new k r k' r' sent (Over t s skipped refused) all c = nothing_sent terms.fresh told old sent (λ d. sent d ++ []) (λ d. refl) all c
plays_stand terms told (l ∷ lines) old new k r k' r' sent (Line m ms a t o mid last skipped refused skipped' refused' d p) all c =
    subst (λ x. Standing terms.fresh (told_in lines (told_after l told)) (new.view c) (new.lanes c) x) (append_assoc (sent c) (sent_by l c) (sent_in lines c))
    (plays_stand terms (told_after l told) lines mid new _ _ k' r' (behind sent l) p (line_stands terms told l a old mid sent d all) c)
