-- Each step at one connection keeps what is so of all links and connections.
use Rattle.std.proofs.Common.{◌≡◌, ℕ, ◌-◌, ◌^◌, ◌≤◌, min, Bool, true, false, ◌⊎◌, inl, inr, List, [], ◌++◌, refl, sym, ap, ◌∙◌, subst, arith}
use Rattle.std.specs.Prelude.{◌+◌, length}
use Rattle.std.proofs.lemmas.Bool.{cases_eq}
use Rattle.std.proofs.lemmas.List.{append-nil}
use Rattle.file_tree.specs.Tree.{Trees}
use Rattle.http_types.specs.declared.words.Addr.{Addr}
use Rattle.ngx_outside.specs.Causes.{Rose}
use Rattle.ngx_outside.specs.Linked.{LinkView, Same, CrowdCloses}
use Rattle.ngx_outside.specs.Views.{Course, Ground, Holds, IsSound}
use Rattle.ngx_outside.specs.Views.Ground.{Raceless}
use Rattle.ngx_outside.specs.Runs.{Agree}
use Rattle.ngx_outside.specs.Seen.{CoreSeen, LinksSeen, FilesSeen}
use Rattle.link_service.specs.Seen.{Tick, Elsewhere, Grown}
use Rattle.link_service.specs.Passing.{Passed, Counts}
use Rattle.link_service.specs.Standing.{Marks, Stands, Kept}
use Rattle.link_service.proofs.AccountLemmas.{EndsOn, ends_same, stands_passed, stands_stays, stands_closed}

-- counts that rose stay risen
pub rose_on : (m x y : ℕ) → x ≤ y → Rose m x → Rose m y
rose_on m x y h r = omega arith

pub rose_after : (m x y : ℕ) → m ≤ x → Rose x y → Rose m y
rose_after m x y h r = omega arith

pub rose_counts : (m x y : ℕ) → Counts x y → Rose m x → Rose m y
rose_counts m x y (inl e) r = omega arith
rose_counts m x y (inr k) r = omega arith

pub mark_counts : (m x y : ℕ) → Counts x y → min m (2 ^ 64 - 1) ≤ x → min m (2 ^ 64 - 1) ≤ y
mark_counts m x y (inl e) r = omega arith
mark_counts m x y (inr k) r = omega arith

pub rose_marked : (m x y : ℕ) → min m (2 ^ 64 - 1) ≤ x → Rose x y → Rose m y
rose_marked m x y h r = omega arith

pub grown_same : (files : FilesSeen) → Grown files files
grown_same files = record { trees = record { rises = omega arith; same = λ of within path. refl }; faults = omega arith }

-- a step at one connection
pub record Steps (c : ℕ) (core core' : CoreSeen) (links links' : LinksSeen) (files files' : FilesSeen) : Type 0 where
  pub terms : core'.terms ≡ core.terms
  pub now : core'.now ≡ core.now
  pub counts : Counts core.refused core'.refused
  pub views : Elsewhere c core.view core'.view
  pub wires : Elsewhere c links.link links'.link
  pub used : Same links.used links'.used
  pub opens : Elsewhere c links.is_open links'.is_open
  pub faults : (d : ℕ) → links.link_faults d ≤ links'.link_faults d
  pub store : Grown files files'
  pub crowd : length core.conns ≡ links.crowd → length core'.conns ≡ links'.crowd

abbrev pub StandsAt : Marks → (ℕ → Addr → Addr → Course) → CoreSeen → LinksSeen → FilesSeen → List Tick → ℕ → Type 0
StandsAt marks whole core links files ticks c =
    Stands (Rose (marks.link c) (links.link_faults c)) (Rose marks.files files.faults) (Rose marks.refused core.refused) marks.terms (whole c) files ticks (core.view c) (links.link c) (links.used c) (links.is_open c)

-- counts that rise and trees that grow leave what is so elsewhere
pub stays_at : (marks : Marks) (whole : ℕ → Addr → Addr → Course) (core core' : CoreSeen) (links links' : LinksSeen) (files files' : FilesSeen) (ticks : List Tick) (c : ℕ) →
    Counts core.refused core'.refused → links.link_faults c ≤ links'.link_faults c → Grown files files' → core'.view c ≡ core.view c → links'.link c ≡ links.link c → links'.used c ≡ links.used c → links'.is_open c ≡ links.is_open c →
    StandsAt marks whole core links files ticks c → StandsAt marks whole core' links' files' ticks c
stays_at marks whole core core' links links' files files' ticks c counts lf grown v l u o s =
    stands_stays marks.terms (whole c) files files' ticks (core.view c) (core'.view c) (links.link c) (links'.link c) (links.used c) (links'.used c) (links.is_open c) (links'.is_open c)
    (rose_on (marks.link c) (links.link_faults c) (links'.link_faults c) lf) (rose_on marks.files files.faults files'.faults grown.faults) (rose_counts marks.refused core.refused core'.refused counts) grown
    v (ap (λ (x : LinkView). x.local) l) (ap (λ (x : LinkView). x.peer) l) (ap (λ (x : LinkView). x.among) l) (ap (λ (x : LinkView). x.taken) l) (ap (λ (x : LinkView). x.sent) l) (ap (λ (x : LinkView). x.ended) l) u o s

-- all is kept, where it is at the connection itself
pub kept_step : (marks : Marks) (whole : ℕ → Addr → Addr → Course) (core core' : CoreSeen) (links links' : LinksSeen) (files files' : FilesSeen) (ticks : List Tick) (c : ℕ) →
    Steps c core core' links links' files files' → (Kept marks whole core links files ticks → StandsAt marks whole core' links' files' ticks c) → Kept marks whole core links files ticks → Kept marks whole core' links' files' ticks
kept_step marks whole core core' links links' files files' ticks c s own k = record {
  fresh = λ d unused. k.fresh d (sym (s.used d) ∙ unused);
  terms = s.terms ∙ k.terms;
  link_marks = λ d. (let a = k.link_marks d in let b = s.faults d in omega arith);
  file_marks = (let a = k.file_marks in let b = s.store.faults in omega arith);
  refused_marks = mark_counts marks.refused core.refused core'.refused s.counts k.refused_marks;
  now = s.now ∙ k.now;
  crowd = s.crowd k.crowd;
  all = λ d. by_case d (cases_eq d c);
}
  where
    by_case : (d : ℕ) → (d ≡ c) ⊎ (d ≡ c → ⊥) → StandsAt marks whole core' links' files' ticks d
    by_case d (inl e) = subst (StandsAt marks whole core' links' files' ticks) (sym e) (own k)
    by_case d (inr ne) = stays_at marks whole core core' links links' files files' ticks d s.counts (s.faults d) s.store (s.views d ne) (s.wires d ne) (s.used d) (s.opens d ne) (k.all d)

-- the link and its connection, with the counts as they are now
lifted : (marks : Marks) (whole : ℕ → Addr → Addr → Course) (core core' : CoreSeen) (links links' : LinksSeen) (files files' : FilesSeen) (ticks : List Tick) (c : ℕ) →
    Steps c core core' links links' files files' → Kept marks whole core links files ticks →
    Stands (Rose (marks.link c) (links'.link_faults c)) (Rose marks.files files'.faults) (Rose marks.refused core'.refused) marks.terms (whole c) files' ticks (core.view c) (links.link c) (links.used c) (links.is_open c)
lifted marks whole core core' links links' files files' ticks c s k =
    stands_stays marks.terms (whole c) files files' ticks (core.view c) (core.view c) (links.link c) (links.link c) (links.used c) (links.used c) (links.is_open c) (links.is_open c)
    (rose_on (marks.link c) (links.link_faults c) (links'.link_faults c) (s.faults c)) (rose_on marks.files files.faults files'.faults s.store.faults) (rose_counts marks.refused core.refused core'.refused s.counts) s.store
    refl refl refl refl refl refl refl refl refl (k.all c)

-- an event of the core, with the bytes that came of the link and went to it
pub kept_passed : {L' F' R' : Type 0} (marks : Marks) (whole : ℕ → Addr → Addr → Course) (core core' : CoreSeen) (links links' : LinksSeen) (files files' : FilesSeen) (ticks : List Tick) (c : ℕ) (ground : Ground) (came went : List ℕ) →
    Steps c core core' links links' files files' →
    ((core.view c).raceless ≡ true → (trees : Trees) → Agree files'.trees files'.newest trees → Holds ground trees) →
    (L' → Rose (links.link_faults c) (links'.link_faults c)) → (F' → Rose files.faults files'.faults) → (R' → Rose core.refused core'.refused) →
    links'.is_open c ≡ links.is_open c →
    (links'.link c).local ≡ (links.link c).local → (links'.link c).peer ≡ (links.link c).peer → (links'.link c).taken ≡ (links.link c).taken ++ came → (links'.link c).sent ≡ (links.link c).sent ++ went →
    EndsOn (core.view c) (core'.view c) (links.link c) (links'.link c) →
    Passed core.now ground L' F' R' (core.view c) (core'.view c) came went → Kept marks whole core links files ticks → Kept marks whole core' links' files' ticks
kept_passed marks whole core core' links links' files files' ticks c ground came went s holds fl ff fr same local peer taken sent ends p =
    kept_step marks whole core core' links links' files files' ticks c s
    (λ k. stands_passed marks.terms (whole c) files' ticks core.now ground (core.view c) (core'.view c) (links.link c) (links'.link c) (links.used c) (links'.used c) (links.is_open c) (links'.is_open c) came went
    (λ x. rose_after (marks.link c) (links.link_faults c) (links'.link_faults c) (k.link_marks c) (fl x)) (λ x. rose_after marks.files files.faults files'.faults k.file_marks (ff x)) (λ x. rose_marked marks.refused core.refused core'.refused k.refused_marks (fr x))
    holds k.now same local peer taken sent ends p (lifted marks whole core core' links links' files files' ticks c s k))

-- nothing but what is due and full
pub kept_same : (marks : Marks) (whole : ℕ → Addr → Addr → Course) (core core' : CoreSeen) (links links' : LinksSeen) (files files' : FilesSeen) (ticks : List Tick) (c : ℕ) →
    Steps c core core' links links' files files' → core'.view c ≡ core.view c → links'.is_open c ≡ links.is_open c →
    (links'.link c).local ≡ (links.link c).local → (links'.link c).peer ≡ (links.link c).peer → (links'.link c).among ≡ (links.link c).among → (links'.link c).taken ≡ (links.link c).taken → (links'.link c).sent ≡ (links.link c).sent → (links'.link c).ended ≡ (links.link c).ended →
    Kept marks whole core links files ticks → Kept marks whole core' links' files' ticks
kept_same marks whole core core' links links' files files' ticks c s v same local peer among taken sent ended =
    kept_step marks whole core core' links links' files files' ticks c s
    (λ k. stands_stays marks.terms (whole c) files files' ticks (core.view c) (core'.view c) (links.link c) (links'.link c) (links.used c) (links'.used c) (links.is_open c) (links'.is_open c)
    (rose_on (marks.link c) (links.link_faults c) (links'.link_faults c) (s.faults c)) (rose_on marks.files files.faults files'.faults s.store.faults) (rose_counts marks.refused core.refused core'.refused s.counts) s.store
    v local peer among taken sent ended (s.used c) same (k.all c))

-- a node ran where it could
pub kept_ran : (marks : Marks) (whole : ℕ → Addr → Addr → Course) (core core' : CoreSeen) (links : LinksSeen) (files : FilesSeen) (ticks : List Tick) (c : ℕ) → Steps c core core' links links files files → (core'.view c).ended ≡ (core.view c).ended →
    Passed core.now (Raceless (core.view c).raceless) ⊥ ⊥ (Rose core.refused core'.refused) (core.view c) (core'.view c) [] [] ⊎ (core'.view c ≡ core.view c) → Kept marks whole core links files ticks → Kept marks whole core' links files ticks
kept_ran marks whole core core' links files ticks c s e (inl p) =
    kept_passed marks whole core core' links links files files ticks c (Raceless (core.view c).raceless) [] [] s
    (λ raceless trees agree. raceless) (λ x. absurd x) (λ x. absurd x) (λ x. x) refl refl refl (sym (append-nil (links.link c).taken)) (sym (append-nil (links.link c).sent))
    (ends_same (core.view c) (core'.view c) (links.link c) (links.link c) e refl) p
kept_ran marks whole core core' links files ticks c s e (inr same) = kept_same marks whole core core' links links files files ticks c s same refl refl refl refl refl refl refl

-- a link and its connection are closed
pub kept_closed : (marks : Marks) (whole : ℕ → Addr → Addr → Course) (core core' : CoreSeen) (links links' : LinksSeen) (files files' : FilesSeen) (ticks : List Tick) (c : ℕ) →
    Steps c core core' links links' files files' → links.is_open c ≡ true → links'.is_open c ≡ false → (core'.view c).held ≡ false → IsSound (core.view c) → (core.view c).shut ≡ true → links'.link c ≡ links.link c →
    Kept marks whole core links files ticks → Kept marks whole core' links' files' ticks
kept_closed marks whole core core' links links' files files' ticks c s is is' gone sound shut same =
    kept_step marks whole core core' links links' files files' ticks c s
    (λ k. subst (λ l. Stands (Rose (marks.link c) (links'.link_faults c)) (Rose marks.files files'.faults) (Rose marks.refused core'.refused) marks.terms (whole c) files' ticks (core'.view c) l (links'.used c) (links'.is_open c)) (sym same)
    (stands_closed marks.terms (whole c) files' ticks (core.view c) (core'.view c) (links.link c) (links.used c) (links'.used c) (links.is_open c) (links'.is_open c) is is' gone sound shut (lifted marks whole core core' links links' files files' ticks c s k)))

-- one fewer is open after the close of one that was
pub closes_open : (is : Bool) (old new : ℕ) → is ≡ true → CrowdCloses is old new → old ≡ new + 1
closes_open true old new e h = h
closes_open false old new e h = cc
