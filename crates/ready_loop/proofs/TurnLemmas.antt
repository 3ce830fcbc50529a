-- What is so of all links and connections is kept while links are opened, the clock tells a moment and the files a tree.
use Rattle.std.proofs.Common.{◌≡◌, ℕ, ◌≤◌, Bool, true, false, ◌⊎◌, inl, inr, List, [], ◌∷◌, ◌++◌, refl, sym, ap, ◌∙◌, subst, arith}
use Rattle.std.specs.Prelude.{◌+◌, ◌&&◌, not, nat_lt, length}
use Rattle.std.proofs.lemmas.Bool.{cases_eq}
use Rattle.std.proofs.lemmas.Bool.Decides.{nat_tests}
use Rattle.std.proofs.lemmas.List.{append-nil}
use Rattle.http_types.specs.declared.words.Addr.{Addr}
use Rattle.ngx_outside.specs.Causes.{Rose}
use Rattle.ngx_outside.specs.Linked.{LinkView, Same, begun}
use Rattle.ngx_outside.specs.Views.{ConnView, Course, Start, Fresh, Ticked, GivesUp, Waits, kept_moment}
use Rattle.ngx_outside.specs.Views.Ground.{Always}
use Rattle.ngx_outside.specs.Seen.{CoreSeen, LinksSeen, FilesSeen, Terms, opens_at}
use Rattle.link_service.specs.Seen.{Begun, Tick, Elsewhere, Grown, HasTicked, OpenedAt, IsDated, last_start, start_at}
use Rattle.ngx_outside.specs.declared.event.StopCause.TheVariants as stop
use Rattle.link_service.specs.Passing.{Stops, Counts}
use Rattle.link_service.specs.Standing.{Marks, Account, Reason, NobodyAnswers, NoPlaceLeft, NoMemory, Stands, Unused, TurnedAway, Open, Closed, Kept}
use Rattle.link_service.proofs.AccountLemmas.{ends_same, stands_passed, stands_stays, account_begins, dated_later, last_start-append, live_held}
use Rattle.link_service.proofs.KeptLemmas.{StandsAt, stays_at, grown_same, mark_counts, rose_counts, rose_marked}

-- a link that was opened, and what became of its connection
kept_new : (marks : Marks) (whole : ℕ → Addr → Addr → Course) (core core' : CoreSeen) (before mid links' : LinksSeen) (files : FilesSeen) (ticks : List Tick) (id : ℕ) (local peer : Addr) →
    OpenedAt id local peer before mid → core'.terms ≡ core.terms → core'.now ≡ core.now → Counts core.refused core'.refused → Elsewhere id core.view core'.view →
    ((d : ℕ) → links'.link d ≡ mid.link d) → Same mid.used links'.used → Elsewhere id mid.is_open links'.is_open → ((d : ℕ) → mid.link_faults d ≤ links'.link_faults d) → (length core.conns ≡ before.crowd → length core'.conns ≡ links'.crowd) →
    (Kept marks whole core before files ticks → StandsAt marks whole core' links' files ticks id) → Kept marks whole core before files ticks → Kept marks whole core' links' files ticks
kept_new marks whole core core' before mid links' files ticks id local peer o terms now refused views links used opens faults crowd own k = record {
  fresh = λ d unused. k.fresh d (was_unused d (sym (used d) ∙ unused) (cases_eq d id));
  terms = terms ∙ k.terms;
  link_marks = λ d. (let a = k.link_marks d in let b = o.later d in let e = faults d in omega arith);
  file_marks = k.file_marks;
  refused_marks = mark_counts marks.refused core.refused core'.refused refused k.refused_marks;
  now = now ∙ k.now;
  crowd = crowd k.crowd;
  all = λ d. by_case d (cases_eq d id);
}
  where
    was_unused : (d : ℕ) → mid.used d ≡ false → (d ≡ id) ⊎ (d ≡ id → ⊥) → before.used d ≡ false
    was_unused d f (inl e) = ap before.used e ∙ o.unused
    was_unused d f (inr ne) = sym (o.marked.others d ne) ∙ f

    by_case : (d : ℕ) → (d ≡ id) ⊎ (d ≡ id → ⊥) → StandsAt marks whole core' links' files ticks d
    by_case d (inl e) = subst (StandsAt marks whole core' links' files ticks) (sym e) (own k)
    by_case d (inr ne) =
        stays_at marks whole core core' before links' files files ticks d refused (let b = o.later d in let e = faults d in omega arith) (grown_same files) (views d ne)
        (links d ∙ o.linked.others d ne) (used d ∙ o.marked.others d ne) (opens d ne ∙ o.opened.others d ne) (k.all d)

pub kept_opened : (marks : Marks) (whole : ℕ → Addr → Addr → Course) (core core' : CoreSeen) (before links : LinksSeen) (files : FilesSeen) (ticks : List Tick) (id : ℕ) (local peer : Addr) →
    OpenedAt id local peer before links → HasTicked ticks → core'.terms ≡ core.terms → core'.now ≡ core.now → Counts core.refused core'.refused → Elsewhere id core.view core'.view → Fresh (core.terms.fresh local peer) (core'.view id) →
    length core'.conns ≡ length core.conns + 1 →
    Kept marks whole core before files ticks → Kept marks whole core' links files ticks
kept_opened marks whole core core' before links files ticks id local peer o told terms now refused views begins more =
    kept_new marks whole core core' before links links files ticks id local peer o terms now refused views (λ d. refl) (λ d. refl) (λ d ne. refl) (λ d. omega arith) (λ e. let m = o.crowd in omega (arith, e, m, more)) own
  where
    L : Type 0
    L = Rose (marks.link id) (links.link_faults id)

    F : Type 0
    F = Rose marks.files files.faults

    R : Type 0
    R = Rose marks.refused core'.refused

    at_last : IsDated ticks (core'.view id).starts
    at_last = let e = begins.starts in subst (IsDated ticks) (sym e) (record { before = told.0; since = []; last = told.1; all = told.2; dated = Begun told.1 })

    own : Kept marks whole core before files ticks → StandsAt marks whole core' links files ticks id
    own k =
        let comes : core.terms.fresh ≡ whole id = ap (λ (x : Terms). x.fresh) k.terms ∙ sym (k.fresh id o.unused) in
        let begun_so : Fresh (whole id local peer) (core'.view id) = subst (λ (f : Addr → Addr → Course). Fresh (f local peer) (core'.view id)) comes begins in
        Open (live_held (core'.view id) begins.live) o.opened.own
        (subst (λ (l : LinkView). Account L F R (whole id l.local l.peer) files ticks (core'.view id) l.taken l.sent l.ended) (sym o.linked.own)
        (account_begins (whole id local peer) files ticks (core'.view id) begun_so at_last))

full_or_deaf : (most crowd : ℕ) (serves : Bool) → (nat_lt crowd most && serves) ≡ false → (most ≤ crowd) ⊎ (serves ≡ false)
full_or_deaf most crowd serves h =
    elim (nat_lt crowd most) as (λ b. nat_lt crowd most ≡ b → (b && serves) ≡ false → (most ≤ crowd) ⊎ (serves ≡ false)) [
      | true ↦ (λ e f. inr f)
      | false ↦ (λ e f. inl (let le : most ≤ crowd = grind (arith, nat_tests) in le))
    ] refl h

pub kept_turned_away : (marks : Marks) (whole : ℕ → Addr → Addr → Course) (core core' : CoreSeen) (before mid links' : LinksSeen) (files : FilesSeen) (ticks : List Tick) (id : ℕ) (local peer : Addr) →
    OpenedAt id local peer before mid → core'.terms ≡ core.terms → core'.now ≡ core.now → Counts core.refused core'.refused → Elsewhere id core.view core'.view → (core.view id).held ≡ false → (core'.view id).held ≡ false →
    ((opens_at core id local ≡ false) ⊎ Rose core.refused core'.refused) →
    ((d : ℕ) → links'.link d ≡ mid.link d) → Same mid.used links'.used → Elsewhere id mid.is_open links'.is_open → links'.is_open id ≡ false → ((d : ℕ) → mid.link_faults d ≤ links'.link_faults d) →
    length core'.conns ≡ length core.conns → mid.crowd ≡ links'.crowd + 1 →
    Kept marks whole core before files ticks → Kept marks whole core' links' files ticks
kept_turned_away marks whole core core' before mid links' files ticks id local peer o terms now refused views was_unheld unheld why links used opens shut faults same fewer =
    kept_new marks whole core core' before mid links' files ticks id local peer o terms now refused views links used opens faults (λ e. let m = o.crowd in omega (arith, e, m, same, fewer))
    (λ k. TurnedAway unheld shut (ap (λ (l : LinkView). l.taken) is_begun) (ap (λ (l : LinkView). l.sent) is_begun) (reason k why))
  where
    is_begun : links'.link id ≡ begun local peer before.crowd (before.link id)
    is_begun = links id ∙ o.linked.own

    by_place : Kept marks whole core before files ticks → (core.terms.limit ≤ length core.conns) ⊎ (core.terms.serves local ≡ false) → Reason (Rose marks.refused core'.refused) marks.terms (links'.link id)
    by_place k (inl most) =
        let limit : core.terms.limit ≡ marks.terms.limit = ap (λ (x : Terms). x.limit) k.terms in
        let among : (links'.link id).among ≡ before.crowd = ap (λ (l : LinkView). l.among) is_begun in
        let crowd = k.crowd in
        NoPlaceLeft (omega (arith, most, limit, among, crowd))
    by_place k (inr deaf) =
        NobodyAnswers (ap marks.terms.serves (ap (λ (l : LinkView). l.local) is_begun) ∙ ap (λ (x : Terms). x.serves local) (sym k.terms) ∙ deaf)

    reason : Kept marks whole core before files ticks → ((opens_at core id local ≡ false) ⊎ Rose core.refused core'.refused) → Reason (Rose marks.refused core'.refused) marks.terms (links'.link id)
    reason k (inr r) = NoMemory (rose_marked marks.refused core.refused core'.refused k.refused_marks r)
    reason k (inl h) = by_place k (full_or_deaf core.terms.limit (length core.conns) (core.terms.serves local) (ap (λ b. not b && (nat_lt (length core.conns) core.terms.limit && core.terms.serves local)) (sym was_unheld) ∙ h))

-- there is a tick
account_told : {L F R : Type 0} (whole : Course) (files : FilesSeen) (ticks : List Tick) (v : ConnView) (came went : List ℕ) (found_end : Bool) (tick : Tick) →
    Account L F R whole files ticks v came went found_end → Account L F R whole files (ticks ++ tick ∷ []) v came went found_end
account_told whole files ticks v came went found_end tick a = record {
  tracked = a.tracked;
  cause = a.cause;
  dated = dated_later ticks tick v.starts a.dated;
  ends = a.ends;
}

stands_told : {L F R : Type 0} (terms : Terms) (whole : Addr → Addr → Course) (files : FilesSeen) (ticks : List Tick) (v : ConnView) (l : LinkView) (used is_open : Bool) (tick : Tick) →
    Stands L F R terms whole files ticks v l used is_open → Stands L F R terms whole files (ticks ++ tick ∷ []) v l used is_open
stands_told terms whole files ticks v l used is_open tick (Unused held o u) = Unused held o u
stands_told terms whole files ticks v l used is_open tick (TurnedAway held o t s w) = TurnedAway held o t s w
stands_told terms whole files ticks v l used is_open tick (Open held o a) = Open held o (account_told (whole l.local l.peer) files ticks v l.taken l.sent l.ended tick a)
stands_told terms whole files ticks v l used is_open tick (Closed last held o sound shut a) = Closed last held o sound shut (account_told (whole l.local l.peer) files ticks last l.taken l.sent l.ended tick a)

pub kept_ticked : (marks : Marks) (whole : ℕ → Addr → Addr → Course) (core core' : CoreSeen) (links : LinksSeen) (files : FilesSeen) (ticks : List Tick) (tick : Tick) →
    ((c : ℕ) → Ticked (kept_moment tick.moment) (core.view c) (core'.view c)) → core'.terms ≡ core.terms → core'.now ≡ start_at tick → core'.refused ≡ core.refused → ((c : ℕ) → (core'.view c).ended ≡ (core.view c).ended) →
    length core'.conns ≡ length core.conns → Kept marks whole core links files ticks → Kept marks whole core' links files (ticks ++ tick ∷ [])
kept_ticked marks whole core core' links files ticks tick ticked terms now refused ended same k = record {
  fresh = k.fresh;
  terms = terms ∙ k.terms;
  link_marks = k.link_marks;
  file_marks = k.file_marks;
  refused_marks = mark_counts marks.refused core.refused core'.refused (inl refused) k.refused_marks;
  now = at_last;
  crowd = same ∙ k.crowd;
  all = λ d. go d (ticked d) (stands_told marks.terms (whole d) files ticks (core.view d) (links.link d) (links.used d) (links.is_open d) tick (counted d));
}
  where
    at_last : core'.now ≡ last_start (ticks ++ tick ∷ [])
    at_last = now ∙ sym (last_start-append ticks tick)

    counted : (d : ℕ) → Stands (Rose (marks.link d) (links.link_faults d)) (Rose marks.files files.faults) (Rose marks.refused core'.refused) marks.terms (whole d) files ticks (core.view d) (links.link d) (links.used d) (links.is_open d)
    counted d =
        stands_stays marks.terms (whole d) files files ticks (core.view d) (core.view d) (links.link d) (links.link d) (links.used d) (links.used d) (links.is_open d) (links.is_open d)
        (λ x. x) (λ x. x) (rose_counts marks.refused core.refused core'.refused (inl refused)) (grown_same files) refl refl refl refl refl refl refl refl refl (k.all d)

    go : (d : ℕ) → Ticked (kept_moment tick.moment) (core.view d) (core'.view d) → Stands (Rose (marks.link d) (links.link_faults d)) (Rose marks.files files.faults) (Rose marks.refused core'.refused) marks.terms (whole d) files (ticks ++ tick ∷ []) (core.view d) (links.link d) (links.used d) (links.is_open d) →
        StandsAt marks whole core' links files (ticks ++ tick ∷ []) d
    go d (GivesUp due timed is before s) st =
        stands_passed marks.terms (whole d) files (ticks ++ tick ∷ []) core'.now Always (core.view d) (core'.view d) (links.link d) (links.link d) (links.used d) (links.used d) (links.is_open d) (links.is_open d) [] []
        (λ x. x) (λ x. x) (λ x. x) (λ raceless trees agree. tt) at_last refl refl refl (sym (append-nil (links.link d).taken)) (sym (append-nil (links.link d).sent)) (ends_same (core.view d) (core'.view d) (links.link d) (links.link d) (ended d) refl)
        (Stops (stop.Deadline due (kept_moment tick.moment)) [] (inl refl) (timed, before) refl s) st
    go d (Waits not same') st =
        subst (λ v. Stands (Rose (marks.link d) (links.link_faults d)) (Rose marks.files files.faults) (Rose marks.refused core'.refused) marks.terms (whole d) files (ticks ++ tick ∷ []) v (links.link d) (links.used d) (links.is_open d)) (sym same') st

-- the links are told how many events were refused
pub kept_refused : (marks : Marks) (whole : ℕ → Addr → Addr → Course) (core : CoreSeen) (links : LinksSeen) (files : FilesSeen) (ticks : List Tick) (count : ℕ) →
    Kept marks whole core links files ticks → Kept marks whole core (record links { refused = count }) files ticks
kept_refused marks whole core links files ticks count k = record {
  fresh = k.fresh;
  terms = k.terms;
  link_marks = k.link_marks;
  file_marks = k.file_marks;
  refused_marks = k.refused_marks;
  now = k.now;
  crowd = k.crowd;
  all = k.all;
}

-- the files tell the number of the newest tree
pub kept_version : (marks : Marks) (whole : ℕ → Addr → Addr → Course) (core : CoreSeen) (links : LinksSeen) (files files' : FilesSeen) (ticks : List Tick) →
    Grown files files' → Kept marks whole core links files ticks → Kept marks whole core links files' ticks
kept_version marks whole core links files files' ticks grown k = record {
  fresh = k.fresh;
  terms = k.terms;
  link_marks = k.link_marks;
  file_marks = (let a = k.file_marks in let b = grown.faults in omega (arith, a, b));
  refused_marks = k.refused_marks;
  now = k.now;
  crowd = k.crowd;
  all = λ d. stays_at marks whole core core links links files files' ticks d (inl refl) (omega arith) grown refl refl refl refl (k.all d);
}

-- a start by its parts
pub now_is : (now : Start) (moment tree : ℕ) → now.moment ≡ moment → now.tree ≡ tree → now ≡ record { moment = moment; tree = tree }
now_is now moment tree m t =
    ap (λ (x : ℕ). let s : Start = record { moment = x; tree = now.tree } in s) m ∙ ap (λ (x : ℕ). let s : Start = record { moment = moment; tree = x } in s) t
