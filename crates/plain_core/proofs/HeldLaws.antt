-- The connection under its number, and nobody elsewhere.
use Rattle.std.proofs.Common.{◌≡◌, ◌≢◌, ℕ, ◌<◌, min, Bool, true, false, ◌&&◌, ◌||◌, eqb, cond, List, [], ◌∷◌, ◌++◌, length, refl, sym, ap, subst, ◌∙◌, arith}
use Rattle.std.specs.Prelude.{Option, None, Some, not, map, nat_lt}
use Rattle.std.proofs.lemmas.Bool.Decides.{nat_tests}
use Rattle.std.proofs.lemmas.List.{append-nil}
use Rattle.file_tree.specs.Tree.{is_fitting}
use Rattle.file_tree.specs.declared.job.Ask.{Ask}
use Rattle.file_tree.specs.declared.job.JobAnswer.{JobAnswer}
use Rattle.http_types.specs.declared.words.Addr.{Addr}
use Rattle.ngx_outside.specs.declared.event.Event.{Event}
use Rattle.ngx_outside.specs.declared.event.Event.TheVariants as ev
use Rattle.ngx_outside.specs.declared.event.StepAnswer.{StepAnswer}
use Rattle.ngx_outside.specs.declared.event.StepAnswer.TheVariants.{Done, Skipped, OutOfMemory}
use Rattle.ngx_outside.specs.Views.{ConnView, Course, Fresh, OpensIf, OneSteps, Ticked, Waits, Unmoved, IsSound, Start, Log, kept_moment, nobody, ask_in, no_bytes, no_nodes}
use Rattle.ngx_outside.specs.Wants.{wants_at, read_want, first_doable}
use Rattle.plain_core.specs.declared.conn.Request.{Request}
use Rattle.ngx_outside.specs.declared.event.Want.{Want}
use Rattle.ngx_outside.specs.declared.event.Want.TheVariants as want
use Rattle.plain_core.specs.declared.conn.Life.{Life}
use Rattle.plain_core.specs.declared.conn.Life.TheVariants as life
use Rattle.plain_core.specs.Lines.{has_line, requests, answers, logs}
use Rattle.plain_core.specs.Shown.{shown_at, logs_in, is_absent_at, reads_at, can_run_at, is_shut_at, crowd_of}
use Rattle.plain_core.specs.Held.{at_conn, conns_at, first_of}
use Rattle.plain_core.proofs.LineLaws.{requests-none}

test_yes : (a b : ℕ) → a ≡ b → eqb a b ≡ true
test_yes a b e = grind (arith, nat_tests)

test_no : (a b : ℕ) → a ≢ b → eqb a b ≡ false
test_no a b e = grind (arith, nat_tests)

pub at_own : (n c : ℕ) (v : ConnView) → c ≡ n → at_conn n v c ≡ v
at_own n c v e = ap (λ b. cond b v nobody) (test_yes c n e)

pub at_other : (n c : ℕ) (v : ConnView) → c ≢ n → at_conn n v c ≡ nobody
at_other n c v e = ap (λ b. cond b v nobody) (test_no c n e)

-- the connection does so
pub own_step : (n c : ℕ) (Does : ConnView → ConnView → Type 0) (v v' : ConnView) → c ≡ n → Does v v' → OneSteps c Does (at_conn n v) (at_conn n v')
own_step n c Does v v' e d = record {
  own = subst (λ (a : ConnView). Does a (at_conn n v' c)) (sym (at_own n c v e)) (subst (λ (b : ConnView). Does v b) (sym (at_own n c v' e)) d);
  others = λ k ne. at_other n k v' (λ q. ne (q ∙ sym e)) ∙ sym (at_other n k v (λ q. ne (q ∙ sym e)));
}

-- another number's event
pub other_step : (n c : ℕ) (Does : ConnView → ConnView → Type 0) (v : ConnView) → c ≢ n → Does nobody nobody → OneSteps c Does (at_conn n v) (at_conn n v)
other_step n c Does v e d = record {
  own = subst (λ (a : ConnView). Does a a) (sym (at_other n c v e)) d;
  others = λ k ne. refl;
}

-- an absent connection is nobody
pub absent_is : (reply input output : List ℕ) (l : Life) (journal : List Request) (ended : Bool) (due : ℕ) → is_absent_at l ≡ true →
    shown_at reply l input output journal ended due ≡ nobody
absent_is reply input output life.Absent journal ended due h = refl
absent_is reply input output life.Live journal ended due h = cc
absent_is reply input output (life.Stopped cause) journal ended due h = cc

all_nobody : (n c : ℕ) (v : ConnView) → v ≡ nobody → at_conn n v c ≡ nobody
all_nobody n c v e =
    elim (eqb c n) as (λ t. cond t v nobody ≡ nobody) [ true ↦ e | false ↦ refl ]

-- an opening
pub begin_step : (n c : ℕ) (course : Course) (v v' : ConnView) (taken : ℕ) → v ≡ nobody → Fresh course v' →
    OneSteps c (λ old new. (old.held ≡ false) × Fresh course new) (at_conn n v) (at_conn c v')
begin_step n c course v v' taken e f = record {
  own = (ap (λ (a : ConnView). a.held) (all_nobody n c v e), subst (Fresh course) (sym (at_own c c v' refl)) f);
  others = λ k ne. at_other c k v' ne ∙ sym (all_nobody n k v e);
}

-- the clock
pub tick_step : (n c now : ℕ) (v v' : ConnView) → Ticked now v v' → Ticked now (at_conn n v c) (at_conn n v' c)
tick_step n c now v v' t =
    elim (eqb c n) as (λ b. Ticked now (cond b v nobody) (cond b v' nobody)) [ true ↦ t | false ↦ Waits (λ due e. cc) refl ]

pub kept_is : (now : ℕ) → kept_moment now ≡ min now 253402300799
unfolding kept_moment
kept_is now = refl

-- no job waits
pub jobs_none : (reply input output : List ℕ) (l : Life) (journal : List Request) (ended : Bool) (due : ℕ) → (shown_at reply l input output journal ended due).jobs ≡ []
jobs_none reply input output life.Absent journal ended due = refl
jobs_none reply input output life.Live journal ended due = refl
jobs_none reply input output (life.Stopped cause) journal ended due = refl

pub no_jobs_at : (n c : ℕ) (v : ConnView) → v.jobs ≡ [] → (at_conn n v c).jobs ≡ []
no_jobs_at n c v e = elim (eqb c n) as (λ t. (cond t v nobody).jobs ≡ []) [ true ↦ e | false ↦ refl ]

pub no_ask : (n c node : ℕ) (v : ConnView) → v.jobs ≡ [] → ask_in (at_conn n v c).jobs node ≡ None
no_ask n c node v e = ap (λ jobs. ask_in jobs node) (no_jobs_at n c v e)

pub file_step : (n c node : ℕ) (v : ConnView) (answer : JobAnswer) → v.jobs ≡ [] →
    OneSteps c (λ old new. Unmoved old new ((ask : Ask) → ask_in old.jobs node ≡ Some ask → is_fitting ask answer ≡ false)) (at_conn n v) (at_conn n v)
file_step n c node v answer e = record {
  own = record { same = refl; cause = λ ask h. let none : ask_in (at_conn n v c).jobs node ≡ None = no_ask n c node v e in cc };
  others = λ k ne. refl;
}

pub job_step : (n c node : ℕ) (v : ConnView) → v.jobs ≡ [] → OneSteps c (λ old new. Unmoved old new (ask_in old.jobs node ≡ None)) (at_conn n v) (at_conn n v)
job_step n c node v e = record { own = record { same = refl; cause = no_ask n c node v e }; others = λ k ne. refl }

-- the first want that can be served, by what the connection is
first_live : (n : ℕ) (due full e o h : Bool) →
    first_of n (due && (true && not e)) (true && o && h) (not full && not o) (e && (o && not h))
    ≡ first_doable due full (read_want n (cond e None (Some 4096)) ++ map (λ node. want.Run n node) (cond (o && h) (0 ∷ []) []) ++ [] ++ (cond o [] (want.Write n ∷ [])) ++ cond (e && (o && not h)) (want.Close n ∷ []) [])
unfolding first_doable
first_live n true full false o h = refl
first_live n false full false true true = refl
first_live n false true false true false = refl
first_live n false false false true false = refl
first_live n false true false false h = refl
first_live n false false false false h = refl
first_live n true full true true true = refl
first_live n false full true true true = refl
first_live n true true true true false = refl
first_live n true false true true false = refl
first_live n false true true true false = refl
first_live n false false true true false = refl
first_live n true true true false h = refl
first_live n true false true false h = refl
first_live n false true true false h = refl
first_live n false false true false h = refl

pub first_wants : (n : ℕ) (reply input output : List ℕ) (l : Life) (journal : List Request) (ended : Bool) (due : ℕ) (read full : Bool) →
    first_of n (read && reads_at l ended) (can_run_at l input output) (not full && not (no_bytes (shown_at reply l input output journal ended due).pending)) (is_shut_at l input output ended)
    ≡ first_doable read full (wants_at n (shown_at reply l input output journal ended due))
unfolding first_doable wants_at
first_wants n reply input output life.Absent journal ended due true true = refl
first_wants n reply input output life.Absent journal ended due true false = refl
first_wants n reply input output life.Absent journal ended due false true = refl
first_wants n reply input output life.Absent journal ended due false false = refl
first_wants n reply input output (life.Stopped cause) journal ended due true true = refl
first_wants n reply input output (life.Stopped cause) journal ended due true false = refl
first_wants n reply input output (life.Stopped cause) journal ended due false true = refl
first_wants n reply input output (life.Stopped cause) journal ended due false false = refl
first_wants n reply input output life.Live journal ended due read full = first_live n read full ended (no_bytes output) (has_line input)

pub wants_nobody : (n : ℕ) → wants_at n nobody ≡ []
unfolding wants_at
wants_nobody n = refl

no_bytes_is : (xs : List ℕ) → eqb (length xs) 0 ≡ no_bytes xs
no_bytes_is [] = refl
no_bytes_is (x ∷ xs) = test_no (length (x ∷ xs)) 0 (λ e. omega arith)

-- the same of what the code asks
pub next_is : (n : ℕ) (reply input output pending : List ℕ) (l : Life) (journal : List Request) (ended : Bool) (due : ℕ) (read full reads runs empty shut : Bool) →
    reads ≡ reads_at l ended → runs ≡ can_run_at l input output → empty ≡ eqb (length pending) 0 →
    pending ≡ (shown_at reply l input output journal ended due).pending → shut ≡ is_shut_at l input output ended →
    first_of n (read && reads) runs (not full && not empty) shut ≡ first_doable read full (wants_at n (shown_at reply l input output journal ended due))
next_is n reply input output pending l journal ended due read full reads runs empty shut r u e p s =
    ap (λ t. first_of n (read && t) runs (not full && not empty) shut) r ∙ ap (λ t. first_of n (read && reads_at l ended) t (not full && not empty) shut) u
    ∙ ap (λ t. first_of n (read && reads_at l ended) (can_run_at l input output) (not full && not t) shut) (e ∙ no_bytes_is pending ∙ ap no_bytes p)
    ∙ ap (λ t. first_of n (read && reads_at l ended) (can_run_at l input output) (not full && not (no_bytes (shown_at reply l input output journal ended due).pending)) t) s
    ∙ first_wants n reply input output l journal ended due read full

quiet_bytes : (reply input output : List ℕ) (later : List Start) → (no_bytes output ≡ true) × (has_line input ≡ false) → output ++ answers reply (requests (input ++ []) later) ≡ []
quiet_bytes reply input [] later q = ap (answers reply) (requests-none input later q.1)
quiet_bytes reply input (b ∷ output) later q = let no : no_bytes (b ∷ output) ≡ true = q.0 in cc

-- and no log
quiet_logs : (reply input : List ℕ) (past : List Log) (later : List Start) → has_line input ≡ false → past ++ logs reply (requests (input ++ []) later) ≡ past
quiet_logs reply input past later q = ap (λ asked. past ++ logs reply asked) (requests-none input later q) ∙ append-nil past

idle_tests : (o h : Bool) → (o && no_nodes (cond (o && h) (0 ∷ []) []) && true) ≡ true → (o ≡ true) × (h ≡ false)
idle_tests true true e = cc
idle_tests true false e = (refl, refl)
idle_tests false true e = cc
idle_tests false false e = cc

shut_tests : (e o h : Bool) → (e && (o && not h)) ≡ true → (o ≡ true) × (h ≡ false)
shut_tests true true true q = cc
shut_tests true true false q = (refl, refl)
shut_tests true false h q = cc
shut_tests false o h q = cc

-- an idle connection is to be closed where its input has ended
over_idle : (e o h : Bool) → (o ≡ true) × (h ≡ false) → (e && (o && not h)) ≡ (e || false)
over_idle true true false q = refl
over_idle true true true q = cc
over_idle true false h q = cc
over_idle false o h q = refl

abbrev reading_room : Bool → Option ℕ
reading_room e = cond e None (Some 4096)

-- an idle connection that isn't to be closed reads
reading : (e o h : Bool) → (o ≡ true) × (h ≡ false) → (e && (o && not h)) ≡ false → reading_room e ≢ None
reading e true false q s = elim e as (λ t. (t && true) ≡ false → reading_room t ≢ None) [ true ↦ (λ n. cc) | false ↦ (λ n k. cc) ] s
reading e true true q s = cc
reading e false h q s = cc

-- none is closed before the end of its input
unended : (e o h : Bool) → (e && (o && not h)) ≡ true → e ≡ false → ⊥
unended true o h s n = cc
unended false o h s n = cc

room_is : (ended : Bool) (room : ℕ) → cond ended None (Some 4096) ≡ Some room → 0 < room
room_is true room e = cc
room_is false room e = let is : 4096 ≡ room = cc in omega arith

-- what it shows is sound
pub sound_at : (reply input output : List ℕ) (l : Life) (journal : List Request) (ended : Bool) (due : ℕ) → IsSound (shown_at reply l input output journal ended due)
sound_at reply input output life.Absent journal ended due = record {
  unsent = λ h. refl;
  unready = λ h. refl;
  unasked = λ h. refl;
  unread = λ h. refl;
  untimed = λ h. refl;
  stopped = λ cause h e. cc;
  absent = λ h. refl;
  roomy = λ room e. cc;
  silent = λ h. refl;
  reads = λ h. cc;
  idle = λ h trees later. cc;
  logged = λ h trees later. cc;
  shut = λ h s trees later. cc;
  shuts = λ h trees later. cc;
  closes = λ h. cc;
}
sound_at reply input output (life.Stopped cause) journal ended due = record {
  unsent = λ h. refl;
  unready = λ h. refl;
  unasked = λ h. refl;
  unread = λ h. refl;
  untimed = λ h. refl;
  stopped = λ cause h e. refl;
  absent = λ h. cc;
  roomy = λ room e. cc;
  silent = λ h. refl;
  reads = λ h. cc;
  idle = λ h trees later. cc;
  logged = λ h trees later. cc;
  shut = λ h s trees later. cc;
  shuts = λ h trees later. cc;
  closes = λ h. cc;
}
sound_at reply input output life.Live journal ended due = record {
  unsent = λ h. cc;
  unready = λ h. cc;
  unasked = λ h. cc;
  unread = λ h. cc;
  untimed = λ h. cc;
  stopped = λ cause h e. cc;
  absent = λ h. cc;
  roomy = λ room e. room_is ended room e;
  silent = λ e. ap reading_room e;
  reads = λ h s. reading ended (no_bytes output) (has_line input) (idle_tests (no_bytes output) (has_line input) h) s;
  idle = λ h trees later. quiet_bytes reply input output later (idle_tests (no_bytes output) (has_line input) h);
  logged = λ h trees later. ap (map (λ l. Some l)) (sym (quiet_logs reply input (logs_in journal) later (idle_tests (no_bytes output) (has_line input) h).1));
  shut = λ h s trees later. quiet_bytes reply input output later (shut_tests ended (no_bytes output) (has_line input) s);
  shuts = λ h trees later. over_idle ended (no_bytes output) (has_line input) (idle_tests (no_bytes output) (has_line input) h);
  closes = λ h s e. absurd (unended ended (no_bytes output) (has_line input) s e);
}

sound_nobody : IsSound nobody
sound_nobody = sound_at [] [] [] life.Absent [] false 0

pub sound_view : (n c : ℕ) (v : ConnView) → IsSound v → IsSound (at_conn n v c)
sound_view n c v s = elim (eqb c n) as (λ t. IsSound (cond t v nobody)) [ true ↦ s | false ↦ sound_nobody ]

-- no other connection wants anything
pub other_wants : (n c : ℕ) (v : ConnView) (read full : Bool) → c ≢ n → first_doable read full (wants_at c (at_conn n v c)) ≡ None
unfolding first_doable
other_wants n c v read full e = ap (first_doable read full) (ap (wants_at c) (at_other n c v e) ∙ wants_nobody c)

-- the connection is held unless it is absent
pub conns_are : (n : ℕ) (reply input output : List ℕ) (l : Life) (journal : List Request) (ended : Bool) (due : ℕ) →
    conns_at n (shown_at reply l input output journal ended due) ≡ cond (is_absent_at l) [] (n ∷ [])
conns_are n reply input output life.Absent journal ended due = refl
conns_are n reply input output life.Live journal ended due = refl
conns_are n reply input output (life.Stopped cause) journal ended due = refl

-- how many are held, by what the connection is
pub crowd_is : (n : ℕ) (reply input output : List ℕ) (l : Life) (journal : List Request) (ended : Bool) (due : ℕ) → length (conns_at n (shown_at reply l input output journal ended due)) ≡ crowd_of l
crowd_is n reply input output life.Absent journal ended due = refl
crowd_is n reply input output life.Live journal ended due = refl
crowd_is n reply input output (life.Stopped cause) journal ended due = refl

-- a connection can be opened where none is held
pub opens_is : (n c : ℕ) (reply input output : List ℕ) (l : Life) (journal : List Request) (ended : Bool) (due : ℕ) →
    (not (at_conn n (shown_at reply l input output journal ended due) c).held && (nat_lt (length (conns_at n (shown_at reply l input output journal ended due))) 1 && true)) ≡ is_absent_at l
opens_is n c reply input output life.Absent journal ended due =
    elim (eqb c n) as (λ b. (not (cond b nobody nobody).held && (nat_lt 0 1 && true)) ≡ true) [ true ↦ refl | false ↦ refl ]
opens_is n c reply input output life.Live journal ended due = never (not (at_conn n (shown_at reply life.Live input output journal ended due) c).held)
  where
    never : (t : Bool) → (t && (nat_lt 1 1 && true)) ≡ false
    never true = refl
    never false = refl
opens_is n c reply input output (life.Stopped cause) journal ended due = never (not (at_conn n (shown_at reply (life.Stopped cause) input output journal ended due) c).held)
  where
    never : (t : Bool) → (t && (nat_lt 1 1 && true)) ≡ false
    never true = refl
    never false = refl

pub opens_like : (f g : ℕ → Addr → Bool) → ((c : ℕ) (local : Addr) → g c local ≡ f c local) → (e : Event) (a : StepAnswer) → OpensIf f e a → OpensIf g e a
opens_like f g same (ev.Opened conn local peer) Skipped h = same conn local ∙ h
opens_like f g same (ev.Opened conn local peer) (Done taken) h = same conn local ∙ h
opens_like f g same (ev.Opened conn local peer) OutOfMemory h = same conn local ∙ h
opens_like f g same (ev.Arrived conn bytes) a h = tt
opens_like f g same (ev.Ended conn) a h = tt
opens_like f g same (ev.Wrote conn count) a h = tt
opens_like f g same (ev.LinkFailed conn) a h = tt
opens_like f g same (ev.FileDone conn node answer) a h = tt
opens_like f g same (ev.JobFailed conn node) a h = tt
opens_like f g same (ev.Run conn node) a h = tt
opens_like f g same (ev.Tick moment) a h = tt
opens_like f g same (ev.Tree to) a h = tt
opens_like f g same (ev.Gone conn) a h = tt
