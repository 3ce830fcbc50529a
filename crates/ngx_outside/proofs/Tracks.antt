-- Each step of a connection keeps track of what has come and gone.
use Rattle.std.proofs.Common.{◌≡◌, ℕ, ◌≤◌, Bool, true, false, ◌&&◌, ◌||◌, List, [], ◌++◌, Option, Some, map, inl, refl, subst, sym, ap, ◌∙◌, append_assoc, arith}
use Rattle.std.specs.Prelude.{is_none}
use Rattle.std.proofs.lemmas.List.{append-nil}
use Rattle.file_tree.specs.Tree.{Trees}
use Rattle.ngx_outside.specs.Outside.{Grow}
use Rattle.ngx_outside.specs.Views.{ConnView, Course, Start, Log, Logged, Moved, is_live, no_bytes, no_nodes, no_jobs}
use Rattle.ngx_outside.specs.Runs.{IsPrefixOf, Agree, TracksBegin, StepsKeepTrack, StopsKeepTrack, TracksNarrow, AllIsSentWhenIdle, AllIsSentWhenShut, ShutIsExact, AllIsLoggedWhenIdle}

-- before a request starts nothing is logged
logs_none : (logs : List (Option Log)) (all : List Log) → logs ≡ [] → Logged logs all
logs_none logs all e = record { over = []; later = all; first = refl; told = inl e }

pub tracks_begin : TracksBegin
tracks_begin whole told newest v f = record {
  raceless = f.raceless;
  timed = λ live. ap (λ (c : Course). c.timed) f.comes;
  front = λ raceless trees agree. (whole.bytes trees [] v.starts, refl);
  on = λ live raceless trees agree more later.
      ap (λ s. whole.bytes trees more (s ++ later)) f.starts ∙ ap (λ (c : Course). c.bytes trees more later) (sym f.comes);
  logged = λ raceless trees agree. logs_none v.logs (whole.logs trees [] v.starts) f.logs;
  shown = λ live trees more later. logs_none v.logs (v.course.logs trees more later) f.logs;
  logs = λ live raceless trees agree more later.
      ap (λ s. whole.logs trees more (s ++ later)) f.starts ∙ ap (λ (c : Course). c.logs trees more later) (sym f.comes);
  closes = λ live raceless trees agree more later.
      ap (λ s. whole.closes trees more (s ++ later)) f.starts ∙ ap (λ (c : Course). c.closes trees more later) (sym f.comes);
  heavy = λ live raceless trees agree more later h.
      ap (λ s. whole.heavy trees more (s ++ later)) f.starts ∙ ap (λ (c : Course). c.heavy trees more later) (sym f.comes) ∙ h;
}

-- with nothing more to come
front_of : (whole : Course) (trees : Trees) (v : ConnView) (came went : List ℕ) →
    ((more : List ℕ) (later : List Start) → whole.bytes trees (came ++ more) (v.starts ++ later) ≡ went ++ v.course.bytes trees more later) →
    IsPrefixOf went (whole.bytes trees came v.starts)
front_of whole trees v came went on =
    (v.course.bytes trees [] [], ap (λ c. whole.bytes trees c v.starts) (sym (append-nil came)) ∙ ap (λ s. whole.bytes trees (came ++ []) s) (sym (append-nil v.starts)) ∙ on [] [])

-- the logs of all responses, with nothing more to come
logged_of : (whole : Course) (trees : Trees) (v : ConnView) (came : List ℕ) →
    ((more : List ℕ) (later : List Start) → whole.logs trees (came ++ more) (v.starts ++ later) ≡ v.course.logs trees more later) →
    Logged v.logs (v.course.logs trees [] []) → Logged v.logs (whole.logs trees came v.starts)
logged_of whole trees v came on l =
    subst (Logged v.logs) (sym (ap (λ c. whole.logs trees c v.starts) (sym (append-nil came)) ∙ ap (λ s. whole.logs trees (came ++ []) s) (sym (append-nil v.starts)) ∙ on [] [])) l

pub steps_keep_track : StepsKeepTrack
steps_keep_track whole told newest ground old new came went came' went' started holds t w = record {
  raceless = m.raceless ∙ t.raceless;
  timed = λ live. m.timed ∙ t.timed w.before;
  front = λ raceless trees agree. front_of whole trees new (came ++ came') (went ++ went') (go raceless trees agree);
  on = λ live raceless trees agree. go raceless trees agree;
  logged = λ raceless trees agree. logged_of whole trees new (came ++ came') (same raceless trees agree) (w.logged trees [] []);
  shown = λ live trees more later. w.logged trees more later;
  logs = λ live raceless trees agree. same raceless trees agree;
  closes = λ live raceless trees agree. ends raceless trees agree;
  heavy = λ live raceless trees agree. foreseen raceless trees agree;
}
  where
    m : Moved ground old new came' went' started
    m = w.moved

    go : whole.raceless ≡ true → (trees : Trees) → Agree told newest trees → (more : List ℕ) (later : List Start) →
        whole.bytes trees ((came ++ came') ++ more) (new.starts ++ later) ≡ (went ++ went') ++ new.course.bytes trees more later
    go raceless trees agree more later =
        ap (λ c. whole.bytes trees c (new.starts ++ later)) (append_assoc came came' more)
        ∙ ap (λ s. whole.bytes trees (came ++ (came' ++ more)) s) (ap (λ s. s ++ later) m.starts ∙ append_assoc old.starts started later)
        ∙ t.on w.before raceless trees agree (came' ++ more) (started ++ later)
        ∙ ap (λ r. went ++ r) (m.bytes trees (holds (t.raceless ∙ raceless) trees agree) more later)
        ∙ sym (append_assoc went went' (new.course.bytes trees more later))

    same : whole.raceless ≡ true → (trees : Trees) → Agree told newest trees → (more : List ℕ) (later : List Start) →
        whole.logs trees ((came ++ came') ++ more) (new.starts ++ later) ≡ new.course.logs trees more later
    same raceless trees agree more later =
        ap (λ c. whole.logs trees c (new.starts ++ later)) (append_assoc came came' more)
        ∙ ap (λ s. whole.logs trees (came ++ (came' ++ more)) s) (ap (λ s. s ++ later) m.starts ∙ append_assoc old.starts started later)
        ∙ t.logs w.before raceless trees agree (came' ++ more) (started ++ later)
        ∙ m.logs trees (holds (t.raceless ∙ raceless) trees agree) more later

    ends : whole.raceless ≡ true → (trees : Trees) → Agree told newest trees → (more : List ℕ) (later : List Start) →
        whole.closes trees ((came ++ came') ++ more) (new.starts ++ later) ≡ new.course.closes trees more later
    ends raceless trees agree more later =
        ap (λ c. whole.closes trees c (new.starts ++ later)) (append_assoc came came' more)
        ∙ ap (λ s. whole.closes trees (came ++ (came' ++ more)) s) (ap (λ s. s ++ later) m.starts ∙ append_assoc old.starts started later)
        ∙ t.closes w.before raceless trees agree (came' ++ more) (started ++ later)
        ∙ m.closes trees (holds (t.raceless ∙ raceless) trees agree) more later

    foreseen : whole.raceless ≡ true → (trees : Trees) → Agree told newest trees → (more : List ℕ) (later : List Start) →
        new.course.heavy trees more later ≡ true → whole.heavy trees ((came ++ came') ++ more) (new.starts ++ later) ≡ true
    foreseen raceless trees agree more later h =
        ap (λ c. whole.heavy trees c (new.starts ++ later)) (append_assoc came came' more)
        ∙ ap (λ s. whole.heavy trees (came ++ (came' ++ more)) s) (ap (λ s. s ++ later) m.starts ∙ append_assoc old.starts started later)
        ∙ t.heavy w.before raceless trees agree (came' ++ more) (started ++ later) (m.heavy trees (holds (t.raceless ∙ raceless) trees agree) more later h)

-- a connection with a cause isn't live
dead : (v : ConnView) {A : Type 0} (cause : A) (is : Bool) → is ≡ is_live v → is_none (Some cause) ≡ is_none v.cause → is ≡ true → ⊥
dead v cause is e f h = let k : is_live v ≡ true = sym e ∙ h in clash v.held (is_none v.cause) k (sym f)
  where
    clash : (a b : Bool) → (a && b) ≡ true → b ≡ false → ⊥
    clash true true h g = cc
    clash true false h g = cc
    clash false b h g = cc

pub stops_keep_track : StopsKeepTrack
stops_keep_track whole told newest cause old new came went more started t s = record {
  raceless = s.raceless ∙ t.raceless;
  timed = λ live. absurd (stopped live);
  front = λ raceless trees agree.
      (old.course.bytes trees more started, ap (λ x. whole.bytes trees (came ++ more) x) s.starts ∙ t.on s.before raceless trees agree more started);
  on = λ live. absurd (stopped live);
  logged = λ raceless trees agree.
      s.logged (whole.logs trees (came ++ more) new.starts)
      (subst (Logged old.logs) (sym (ap (λ x. whole.logs trees (came ++ more) x) s.starts ∙ t.logs s.before raceless trees agree more started)) (t.shown s.before trees more started));
  shown = λ live. absurd (stopped live);
  logs = λ live. absurd (stopped live);
  closes = λ live. absurd (stopped live);
  heavy = λ live. absurd (stopped live);
}
  where
    stopped : is_live new ≡ true → ⊥
    stopped live = dead new cause (is_live new) refl (ap is_none (sym s.why)) live

narrow : (told told' : Trees) (newest newest' : ℕ) → Grow newest newest' told told' → (trees : Trees) → Agree told' newest' trees → Agree told newest trees
narrow told told' newest newest' g trees a = record {
  same = λ of within path. a.same of (let r : newest ≤ newest' = g.rises in omega arith) path ∙ g.same of within path;
}

pub tracks_narrow : TracksNarrow
tracks_narrow whole told told' newest newest' v came went g t = record {
  raceless = t.raceless;
  timed = t.timed;
  front = λ raceless trees agree. t.front raceless trees (narrow told told' newest newest' g trees agree);
  on = λ live raceless trees agree. t.on live raceless trees (narrow told told' newest newest' g trees agree);
  logged = λ raceless trees agree. t.logged raceless trees (narrow told told' newest newest' g trees agree);
  shown = t.shown;
  logs = λ live raceless trees agree. t.logs live raceless trees (narrow told told' newest newest' g trees agree);
  closes = λ live raceless trees agree. t.closes live raceless trees (narrow told told' newest newest' g trees agree);
  heavy = λ live raceless trees agree. t.heavy live raceless trees (narrow told told' newest newest' g trees agree);
}

first_and : (a b c d : Bool) → (a && b && c && d) ≡ true → a ≡ true
first_and true b c d h = refl
first_and false true true true h = cc
first_and false true true false h = cc
first_and false true false d h = cc
first_and false false c d h = cc

pub all_is_sent_when_idle : AllIsSentWhenIdle
all_is_sent_when_idle whole told newest v came went t sound idle raceless trees agree later =
    ap (λ c. whole.bytes trees c (v.starts ++ later)) (sym (append-nil came))
    ∙ t.on (first_and (is_live v) (no_bytes v.pending) (no_nodes v.ready) (no_jobs v.jobs) idle) raceless trees agree [] later
    ∙ ap (λ r. went ++ r) (sound.idle idle trees later) ∙ append-nil went

pub all_is_logged_when_idle : AllIsLoggedWhenIdle
all_is_logged_when_idle whole told newest v came went t sound idle raceless trees agree later =
    sound.logged idle trees later
    ∙ ap (map (λ l. Some l)) (sym (
    ap (λ c. whole.logs trees c (v.starts ++ later)) (sym (append-nil came))
    ∙ t.logs (first_and (is_live v) (no_bytes v.pending) (no_nodes v.ready) (no_jobs v.jobs) idle) raceless trees agree [] later
    ))

pub shut_is_exact : ShutIsExact
shut_is_exact whole told newest v came went t sound idle raceless trees agree later =
    sound.shuts idle trees later
    ∙ ap (λ b. v.ended || b) (sym (
    ap (λ c. whole.closes trees c (v.starts ++ later)) (sym (append-nil came))
    ∙ t.closes (first_and (is_live v) (no_bytes v.pending) (no_nodes v.ready) (no_jobs v.jobs) idle) raceless trees agree [] later
    ))

pub all_is_sent_when_shut : AllIsSentWhenShut
all_is_sent_when_shut whole told newest v came went t sound live shut unended raceless trees agree more later =
    t.on live raceless trees agree more later
    ∙ ap (λ r. went ++ r) (sound.closes live shut unended trees more later) ∙ append-nil went
