-- An account of a connection goes on with each event, and stays while others go on.
use Rattle.std.proofs.Common.{◌≡◌, ◌≢◌, ℕ, ◌≤◌, Bool, true, false, ◌&&◌, inl, inr, List, [], ◌∷◌, ◌++◌, Option, None, Some, refl, sym, ap, ◌∙◌, subst, append_assoc, arith}
use Rattle.std.specs.Prelude.{is_none}
use Rattle.std.proofs.lemmas.List.{append-nil}
use Rattle.file_tree.specs.Tree.{Trees}
use Rattle.http_types.specs.declared.words.Addr.{Addr}
use Rattle.ngx_outside.specs.Linked.{LinkView}
use Rattle.ngx_outside.specs.Views.{ConnView, Course, Start, Ground, Holds, IsStart, Fresh, IsSound, is_live, no_bytes}
use Rattle.ngx_outside.specs.Runs.{Tracked, Agree}
use Rattle.ngx_outside.specs.declared.event.StopCause.{StopCause}
use Rattle.ngx_outside.specs.declared.event.StopCause.TheVariants as stop
use Rattle.ngx_outside.proofs.Tracks.{tracks_begin, steps_keep_track, stops_keep_track, tracks_narrow}
use Rattle.ngx_outside.specs.Seen.{Terms, FilesSeen}
use Rattle.link_service.specs.Seen.{Tick, Grown, IsDated, Later, Started, last_start, start_at}
use Rattle.link_service.specs.Passing.{Behind, Foreseen, Passed, Goes, Stops}
use Rattle.link_service.specs.Standing.{Account, WasHeavy, Reason, NobodyAnswers, NoPlaceLeft, NoMemory, Stands, Unused, TurnedAway, Open, Closed}

-- what a live connection is
pub live_held : (v : ConnView) → is_live v ≡ true → v.held ≡ true
live_held v h = first v.held (is_none v.cause) h
  where
    first : (a b : Bool) → (a && b) ≡ true → a ≡ true
    first true b h = refl
    first false true h = cc
    first false false h = cc

caused : {A : Type 0} (v : ConnView) (cause : StopCause) → is_live v ≡ true → v.cause ≡ Some cause → A
caused v cause live e = absurd (clash v.held v.cause live e)
  where
    clash : (a : Bool) (o : Option StopCause) → (a && is_none o) ≡ true → o ≡ Some cause → ⊥
    clash true None h f = cc
    clash true (Some c) h f = cc
    clash false None h f = cc
    clash false (Some c) h f = cc

-- what a cause comes of
pub behind : {L F R H T L' F' R' H' T' : Type 0} → (L → L') → (F → F') → (R → R') → (H → H') → (T → T') → (cause : StopCause) → Behind L F R H T cause → Behind L' F' R' H' T' cause
behind l f r h t stop.LinkFault b = l b
behind l f r h t stop.FileFault b = f b
behind l f r h t stop.Memory b = r b
behind l f r h t (stop.SubLimit started) b = h b
behind l f r h t (stop.Deadline due now) b = (t b.0, b.1)

-- the last tick
pub last_start-append : (ticks : List Tick) (t : Tick) → last_start (ticks ++ t ∷ []) ≡ start_at t
unfolding last_start
last_start-append [] t = refl
last_start-append (a ∷ []) t = refl
last_start-append (a ∷ b ∷ ticks) t = last_start-append (b ∷ ticks) t

-- a request starts at the last tick
pub dated_on : (ticks : List Tick) (starts started : List Start) (now : Start) → now ≡ last_start ticks → IsStart now started → IsDated ticks starts → IsDated ticks (starts ++ started)
dated_on ticks starts started now e (inl none) d = subst (IsDated ticks) (sym (ap (λ s. starts ++ s) none ∙ append-nil starts)) d
dated_on ticks starts started now e (inr one) d =
    subst (λ s. IsDated ticks (starts ++ s)) (sym one) (record {
      before = d.before;
      since = d.since;
      last = d.last;
      all = d.all;
      dated = Started d.since starts d.last now (e ∙ ap last_start d.all ∙ ap last_start (sym (append_assoc d.before d.since (d.last ∷ []))) ∙ last_start-append (d.before ++ d.since) d.last) d.dated;
    })

-- another tick
pub dated_later : (ticks : List Tick) (t : Tick) (starts : List Start) → IsDated ticks starts → IsDated (ticks ++ t ∷ []) starts
dated_later ticks t starts d = record {
  before = d.before;
  since = d.since ++ d.last ∷ [];
  last = t;
  all = ap (λ x. x ++ t ∷ []) d.all ∙ append_assoc d.before (d.since ++ d.last ∷ []) (t ∷ []);
  dated = Later (d.since ++ d.last ∷ []) starts t d.dated;
}

pub agree_narrow : (old new : FilesSeen) → Grown old new → (trees : Trees) → Agree new.trees new.newest trees → Agree old.trees old.newest trees
agree_narrow old new g trees a = record {
  same = λ of within path. a.same of (let r : old.newest ≤ new.newest = g.trees.rises in omega arith) path ∙ g.trees.same of within path;
}

-- a connection and its link go on so that the connection's input has ended only where a read of the link found that
abbrev pub EndsOn : ConnView → ConnView → LinkView → LinkView → Type 0
EndsOn v v' l l' = (v.ended ≡ true → l.ended ≡ true) → v'.ended ≡ true → l'.ended ≡ true

pub ends_same : (v v' : ConnView) (l l' : LinkView) → v'.ended ≡ v.ended → l'.ended ≡ l.ended → EndsOn v v' l l'
ends_same v v' l l' ev el h is = el ∙ h (sym ev ∙ is)

-- an account stays while the files tell more trees, and counts rise
pub account_stays : {L F R L' F' R' : Type 0} (whole : Course) (files files' : FilesSeen) (ticks : List Tick) (v : ConnView) (came went : List ℕ) (found_end : Bool) → (L → L') → (F → F') → (R → R') → Grown files files' →
    Account L F R whole files ticks v came went found_end → Account L' F' R' whole files' ticks v came went found_end
account_stays whole files files' ticks v came went found_end l f r g a = record {
  tracked = tracks_narrow whole files.trees files'.trees files.newest files'.newest v came went g.trees a.tracked;
  cause = λ cause is. behind l f r (λ heavy raceless trees agree. heavy raceless trees (agree_narrow files files' g trees agree)) (λ t. t) cause (a.cause cause is);
  dated = a.dated;
  ends = a.ends;
}

-- it goes on with an event
pub account_passed : {L F R L' F' R' : Type 0} (whole : Course) (files : FilesSeen) (ticks : List Tick) (now : Start) (ground : Ground) (v v' : ConnView) (came went came' went' : List ℕ) (found found' : Bool) → (L' → L) → (F' → F) → (R' → R) →
    (v.raceless ≡ true → (trees : Trees) → Agree files.trees files.newest trees → Holds ground trees) → now ≡ last_start ticks → ((v.ended ≡ true → found ≡ true) → v'.ended ≡ true → found' ≡ true) →
    Passed now ground L' F' R' v v' came' went' → Account L F R whole files ticks v came went found → Account L F R whole files ticks v' (came ++ came') (went ++ went') found'
account_passed whole files ticks now ground v v' came went came' went' found found' l f r holds moment ends (Goes started is w) a = record {
  tracked = steps_keep_track whole files.trees files.newest ground v v' came went came' went' started holds a.tracked w;
  cause = λ cause e. caused v' cause w.after e;
  dated = subst (IsDated ticks) (sym w.moved.starts) (dated_on ticks v.starts started now moment is a.dated);
  ends = ends a.ends;
}
account_passed {L = L} {F = F} {R = R} whole files ticks now ground v v' came went came' went' found found' l f r holds moment ends (Stops why started is b none s) a = record {
  tracked = subst (λ x. Tracked whole files.trees files.newest v' (came ++ came') x) (sym (ap (λ x. went ++ x) none ∙ append-nil went)) (stops_keep_track whole files.trees files.newest why v v' came went came' started a.tracked s);
  cause = λ cause e. subst (Behind L F R (WasHeavy whole files v' (came ++ came')) (whole.timed ≡ true)) (same (sym s.why ∙ e)) (behind l f r heavy (λ t. sym (a.tracked.timed s.before) ∙ t) why b);
  dated = subst (IsDated ticks) (sym s.starts) (dated_on ticks v.starts started now moment is a.dated);
  ends = ends a.ends;
}
  where
    same : {x y : StopCause} → Some x ≡ Some y → x ≡ y
    same e = cc

    heavy : Foreseen v started → WasHeavy whole files v' (came ++ came')
    heavy h raceless trees agree =
        ap (λ x. whole.heavy trees (came ++ came') x) s.starts
        ∙ a.tracked.heavy s.before raceless trees agree came' started (ap (λ x. v.course.heavy trees came' x) (sym (append-nil started)) ∙ h (a.tracked.raceless ∙ raceless) trees came' [])

-- and begins with an opening
pub account_begins : {L F R : Type 0} (whole : Course) (files : FilesSeen) (ticks : List Tick) (v : ConnView) → Fresh whole v → IsDated ticks v.starts → Account L F R whole files ticks v [] [] false
account_begins whole files ticks v fresh dated = record {
  tracked = tracks_begin whole files.trees files.newest v fresh;
  cause = λ cause e. caused v cause fresh.live e;
  dated = dated;
  ends = λ is. absurd (let e : true ≡ false = sym is ∙ fresh.ended in cc);
}

was_live : {now : Start} {ground : Ground} {L F R : Type 0} {v v' : ConnView} {came went : List ℕ} → Passed now ground L F R v v' came went → is_live v ≡ true
was_live (Goes started s w) = w.before
was_live (Stops cause started s b none e) = e.before

held_on : {now : Start} {ground : Ground} {L F R : Type 0} {v v' : ConnView} {came went : List ℕ} → Passed now ground L F R v v' came went → v'.held ≡ true
held_on {v' = v'} (Goes started s w) = live_held v' w.after
held_on (Stops cause started s b none e) = e.held

unheld : {A : Type 0} (v : ConnView) → v.held ≡ false → is_live v ≡ true → A
unheld v f live = let h = live_held v live in absurd (let e : true ≡ false = sym h ∙ f in cc)

-- A connection whose link is open is so after an event.
pub stands_passed : {L F R L' F' R' : Type 0} (terms : Terms) (whole : Addr → Addr → Course) (files : FilesSeen) (ticks : List Tick) (now : Start) (ground : Ground) (v v' : ConnView) (l l' : LinkView) (used used' is_open is_open' : Bool) (came went : List ℕ) → (L' → L) → (F' → F) → (R' → R) →
    (v.raceless ≡ true → (trees : Trees) → Agree files.trees files.newest trees → Holds ground trees) → now ≡ last_start ticks → is_open' ≡ is_open →
    l'.local ≡ l.local → l'.peer ≡ l.peer → l'.taken ≡ l.taken ++ came → l'.sent ≡ l.sent ++ went → EndsOn v v' l l' →
    Passed now ground L' F' R' v v' came went → Stands L F R terms whole files ticks v l used is_open → Stands L F R terms whole files ticks v' l' used' is_open'
stands_passed {L = L} {F = F} {R = R} terms whole files ticks now ground v v' l l' used used' is_open is_open' came went fl ff fr holds moment same local peer taken sent ends p (Open held o a) =
    Open (held_on p) (same ∙ o)
    (subst (λ x. Account L F R (whole x l'.peer) files ticks v' l'.taken l'.sent l'.ended) (sym local)
    (subst (λ x. Account L F R (whole l.local x) files ticks v' l'.taken l'.sent l'.ended) (sym peer)
    (subst (λ x. Account L F R (whole l.local l.peer) files ticks v' x l'.sent l'.ended) (sym taken)
    (subst (λ x. Account L F R (whole l.local l.peer) files ticks v' (l.taken ++ came) x l'.ended) (sym sent)
    (account_passed (whole l.local l.peer) files ticks now ground v v' l.taken l.sent came went l.ended l'.ended fl ff fr holds moment ends p a)))))
stands_passed terms whole files ticks now ground v v' l l' used used' is_open is_open' came went fl ff fr holds moment same local peer taken sent ends p (Unused held o u) = unheld v held (was_live p)
stands_passed terms whole files ticks now ground v v' l l' used used' is_open is_open' came went fl ff fr holds moment same local peer taken sent ends p (TurnedAway held o t s w) = unheld v held (was_live p)
stands_passed terms whole files ticks now ground v v' l l' used used' is_open is_open' came went fl ff fr holds moment same local peer taken sent ends p (Closed last held o sound shut a) = unheld v held (was_live p)

-- it stays while neither it nor its link changes but in what is due and full
-- why a link was turned away stays
reason_stays : {R R' : Type 0} (terms : Terms) (l l' : LinkView) → (R → R') → l'.local ≡ l.local → l'.among ≡ l.among → Reason R terms l → Reason R' terms l'
reason_stays terms l l' r local among (NobodyAnswers h) = NobodyAnswers (ap terms.serves local ∙ h)
reason_stays terms l l' r local among (NoPlaceLeft h) = NoPlaceLeft (omega (arith, among, h))
reason_stays terms l l' r local among (NoMemory h) = NoMemory (r h)

pub stands_stays : {L F R L' F' R' : Type 0} (terms : Terms) (whole : Addr → Addr → Course) (files files' : FilesSeen) (ticks : List Tick) (v v' : ConnView) (l l' : LinkView) (used used' is_open is_open' : Bool) → (L → L') → (F → F') → (R → R') → Grown files files' →
    v' ≡ v → l'.local ≡ l.local → l'.peer ≡ l.peer → l'.among ≡ l.among → l'.taken ≡ l.taken → l'.sent ≡ l.sent → l'.ended ≡ l.ended → used' ≡ used → is_open' ≡ is_open →
    Stands L F R terms whole files ticks v l used is_open → Stands L' F' R' terms whole files' ticks v' l' used' is_open'
stands_stays terms whole files files' ticks v v' l l' used used' is_open is_open' fl ff fr g ev local peer among taken sent ended eu eo (Unused held o u) = Unused (ap (λ (x : ConnView). x.held) ev ∙ held) (eo ∙ o) (eu ∙ u)
stands_stays terms whole files files' ticks v v' l l' used used' is_open is_open' fl ff fr g ev local peer among taken sent ended eu eo (TurnedAway held o t s w) = TurnedAway (ap (λ (x : ConnView). x.held) ev ∙ held) (eo ∙ o) (taken ∙ t) (sent ∙ s) (reason_stays terms l l' fr local among w)
stands_stays {L' = L'} {F' = F'} {R' = R'} terms whole files files' ticks v v' l l' used used' is_open is_open' fl ff fr g ev local peer among taken sent ended eu eo (Open held o a) =
    Open (ap (λ (x : ConnView). x.held) ev ∙ held) (eo ∙ o)
    (subst (λ x. Account L' F' R' (whole l'.local l'.peer) files' ticks x l'.taken l'.sent l'.ended) (sym ev)
    (subst (λ x. Account L' F' R' (whole x l'.peer) files' ticks v l'.taken l'.sent l'.ended) (sym local)
    (subst (λ x. Account L' F' R' (whole l.local x) files' ticks v l'.taken l'.sent l'.ended) (sym peer)
    (subst (λ x. Account L' F' R' (whole l.local l.peer) files' ticks v x l'.sent l'.ended) (sym taken)
    (subst (λ x. Account L' F' R' (whole l.local l.peer) files' ticks v l.taken x l'.ended) (sym sent)
    (subst (λ x. Account L' F' R' (whole l.local l.peer) files' ticks v l.taken l.sent x) (sym ended)
    (account_stays (whole l.local l.peer) files files' ticks v l.taken l.sent l.ended fl ff fr g a)))))))
stands_stays {L' = L'} {F' = F'} {R' = R'} terms whole files files' ticks v v' l l' used used' is_open is_open' fl ff fr g ev local peer among taken sent ended eu eo (Closed last held o sound shut a) =
    Closed last (ap (λ (x : ConnView). x.held) ev ∙ held) (eo ∙ o) sound shut
    (subst (λ x. Account L' F' R' (whole x l'.peer) files' ticks last l'.taken l'.sent l'.ended) (sym local)
    (subst (λ x. Account L' F' R' (whole l.local x) files' ticks last l'.taken l'.sent l'.ended) (sym peer)
    (subst (λ x. Account L' F' R' (whole l.local l.peer) files' ticks last x l'.sent l'.ended) (sym taken)
    (subst (λ x. Account L' F' R' (whole l.local l.peer) files' ticks last l.taken x l'.ended) (sym sent)
    (subst (λ x. Account L' F' R' (whole l.local l.peer) files' ticks last l.taken l.sent x) (sym ended)
    (account_stays (whole l.local l.peer) files files' ticks last l.taken l.sent l.ended fl ff fr g a))))))

-- it is closed
pub stands_closed : {L F R : Type 0} (terms : Terms) (whole : Addr → Addr → Course) (files : FilesSeen) (ticks : List Tick) (v v' : ConnView) (l : LinkView) (used used' is_open is_open' : Bool) → is_open ≡ true → is_open' ≡ false → v'.held ≡ false → IsSound v → v.shut ≡ true →
    Stands L F R terms whole files ticks v l used is_open → Stands L F R terms whole files ticks v' l used' is_open'
stands_closed terms whole files ticks v v' l used used' is_open is_open' is is' gone sound shut (Open held o a) = Closed v gone is' sound shut a
stands_closed terms whole files ticks v v' l used used' is_open is_open' is is' gone sound shut (Unused held o u) = absurd (let e : true ≡ false = sym is ∙ o in cc)
stands_closed terms whole files ticks v v' l used used' is_open is_open' is is' gone sound shut (TurnedAway held o t s w) = absurd (let e : true ≡ false = sym is ∙ o in cc)
stands_closed terms whole files ticks v v' l used used' is_open is_open' is is' gone sound shut (Closed last held o s h a) = absurd (let e : true ≡ false = sym is ∙ o in cc)

-- less may be there after a cause
pub passed_weaker : {L F R L' F' R' : Type 0} {now : Start} {ground : Ground} {v v' : ConnView} {came went : List ℕ} → (L → L') → (F → F') → (R → R') → Passed now ground L F R v v' came went → Passed now ground L' F' R' v v' came went
passed_weaker l f r (Goes started is w) = Goes started is w
passed_weaker l f r (Stops cause started is b none s) = Stops cause started is (behind l f r (λ h. h) (λ t. t) cause b) none s

pub some_bytes : {bytes : List ℕ} → no_bytes bytes ≡ false → bytes ≢ []
some_bytes {bytes = []} h e = cc
some_bytes {bytes = b ∷ bytes} h e = cc
