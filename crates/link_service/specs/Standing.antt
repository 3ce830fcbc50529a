-- What a loop keeps true of each link and its connection.
use Rattle.std.specs.Prelude.{◌≡◌, ℕ, ◌-◌, ◌^◌, ◌≤◌, min, Bool, true, false, List, [], ◌++◌, length, Some}
use Rattle.file_tree.specs.Tree.{Trees}
use Rattle.http_types.specs.declared.words.Addr.{Addr}
use Rattle.ngx_outside.specs.Causes.{Rose}
use Rattle.ngx_outside.specs.Linked.{LinkView}
use Rattle.ngx_outside.specs.Seen.{Terms, CoreSeen, LinksSeen, FilesSeen, ClockSeen}
use Rattle.ngx_outside.specs.Views.{ConnView, Course, IsSound}
use Rattle.ngx_outside.specs.Runs.{Tracked, Agree}
use Rattle.ngx_outside.specs.declared.event.StopCause.{StopCause}
use Rattle.link_service.specs.Seen.{Tick, IsDated, HasTicked, AreTold, last_start}
use Rattle.link_service.specs.Passing.{Behind}

-- What was so at some moment: the counts of faults, of each link, of the files, and of refused
-- events; and what the core keeps to.
pub record Marks : Type 0 where
  pub link : ℕ → ℕ
  pub files : ℕ
  pub refused : ℕ
  pub terms : Terms

-- too many subrequests were foreseen when the connection was opened, of what was taken and started
abbrev pub WasHeavy : Course → FilesSeen → ConnView → List ℕ → Type 0
WasHeavy whole files v came = whole.raceless ≡ true → (trees : Trees) →
    Agree files.trees files.newest trees → whole.heavy trees came v.starts ≡ true

-- A connection, on which `whole` was to come at its opening, and its link, of which these bytes
-- came and to which those went, and of which a read found the end of the input or not. They are
-- tracked; where it was stopped, there was what the cause comes of; its requests started at ticks,
-- in their order; and its input ended only where a read found that.
pub record Account (link_rose files_rose refused_rose : Type 0) (whole : Course) (files : FilesSeen)
    (ticks : List Tick) (v : ConnView) (came went : List ℕ) (found_end : Bool) : Type 0 where
  pub tracked : Tracked whole files.trees files.newest v came went
  pub cause : (cause : StopCause) → v.cause ≡ Some cause →
      Behind link_rose files_rose refused_rose (WasHeavy whole files v came)
      (whole.timed ≡ true) cause
  pub dated : IsDated ticks v.starts
  pub ends : v.ended ≡ true → found_end ≡ true

-- Why a link was turned away: nobody answers at its local end; as many links were open as
-- connections are held at most; or an event was refused for want of memory.
pub data Reason (refused_rose : Type 0) (terms : Terms) (l : LinkView) : Type 0 where
  NobodyAnswers : terms.serves l.local ≡ false → Reason refused_rose terms l
  NoPlaceLeft : terms.limit ≤ l.among → Reason refused_rose terms l
  NoMemory : refused_rose → Reason refused_rose terms l

-- An id was never reported; or its link was turned away and closed at once; or the core holds its
-- connection, and its link is open; or both are closed, and the connection was as it was last, when
-- its link was to be closed.
pub data Stands (link_rose files_rose refused_rose : Type 0) (terms : Terms)
    (whole : Addr → Addr → Course) (files : FilesSeen) (ticks : List Tick) (v : ConnView)
    (l : LinkView) (used is_open : Bool) : Type 0 where
  Unused : v.held ≡ false → is_open ≡ false → used ≡ false →
      Stands link_rose files_rose refused_rose terms whole files ticks v l used is_open
  TurnedAway : v.held ≡ false → is_open ≡ false → l.taken ≡ [] → l.sent ≡ [] →
      Reason refused_rose terms l →
      Stands link_rose files_rose refused_rose terms whole files ticks v l used is_open
  Open : v.held ≡ true → is_open ≡ true →
      Account link_rose files_rose refused_rose
      (whole l.local l.peer) files ticks v l.taken l.sent l.ended →
      Stands link_rose files_rose refused_rose terms whole files ticks v l used is_open
  Closed : (last : ConnView) → v.held ≡ false → is_open ≡ false → IsSound last → last.shut ≡ true →
      Account link_rose files_rose refused_rose
      (whole l.local l.peer) files ticks last l.taken l.sent l.ended →
      Stands link_rose files_rose refused_rose terms whole files ticks v l used is_open

-- All are so, with the counts at the marks or above, and requests start at the last tick. On a
-- connection that is yet to be opened, what the core says is to come; `whole` says it by id and
-- ends. As many links are open as connections are held.
pub record Kept (marks : Marks) (whole : ℕ → Addr → Addr → Course) (core : CoreSeen)
    (links : LinksSeen) (files : FilesSeen) (ticks : List Tick) : Type 0 where
  pub fresh : (c : ℕ) → links.used c ≡ false → whole c ≡ marks.terms.fresh
  pub terms : core.terms ≡ marks.terms
  pub link_marks : (c : ℕ) → marks.link c ≤ links.link_faults c
  pub file_marks : marks.files ≤ files.faults
  pub refused_marks : min marks.refused (2 ^ 64 - 1) ≤ core.refused
  pub now : core.now ≡ last_start ticks
  pub crowd : length core.conns ≡ links.crowd
  pub all : (c : ℕ) → Stands (Rose (marks.link c) (links.link_faults c))
      (Rose marks.files files.faults) (Rose marks.refused core.refused) marks.terms
      (whole c) files ticks (core.view c) (links.link c) (links.used c) (links.is_open c)

-- What came and went on each connection stays accounted for, where links and files tell what they
-- do.
abbrev pub Keeps : (core core' : CoreSeen) (links links' : LinksSeen) (files files' : FilesSeen) →
    Type 0
Keeps core core' links links' files files' =
    links.tells ≡ true → files.tells ≡ true →
    (marks : Marks) (whole : ℕ → Addr → Addr → Course) (ticks : List Tick) →
    Kept marks whole core links files ticks → Kept marks whole core' links' files' ticks

-- the same once there was a tick
abbrev pub KeepsTicked : (core core' : CoreSeen) (links links' : LinksSeen) (files : FilesSeen) →
    Type 0
KeepsTicked core core' links links' files =
    links.tells ≡ true → (marks : Marks) (whole : ℕ → Addr → Addr → Course) (ticks : List Tick) →
    HasTicked ticks →
    Kept marks whole core links files ticks → Kept marks whole core' links' files ticks

-- the same over turns: there were these ticks meanwhile
pub record KeptThrough (core core' : CoreSeen) (links links' : LinksSeen) (files files' : FilesSeen)
    (clock clock' : ClockSeen) : Type 0 where
  pub since : List Tick
  pub told : AreTold since clock clock' files files'
  pub kept : links.tells ≡ true → files.tells ≡ true →
      (marks : Marks) (whole : ℕ → Addr → Addr → Course) (ticks : List Tick) →
      Kept marks whole core links files ticks →
      Kept marks whole core' links' files' (ticks ++ since)

-- the connections that the core holds are those whose links are open
abbrev pub IsMatched : (ℕ → ConnView) → (ℕ → Bool) → Type 0
IsMatched view is_open = (c : ℕ) → (view c).held ≡ is_open c
