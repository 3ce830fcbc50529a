-- A site that is served, by what was taken of each link and sent on it.
use Rattle.std.specs.Prelude.{◌≡◌, ◌≢◌, ℕ, ◌≤◌, ◌-◌, ◌^◌, Bool, true, false, List, [], ◌++◌, None, Some, map, flat_map}
use Rattle.file_tree.specs.Tree.{Trees}
use Rattle.http_types.specs.declared.words.Addr.{Addr}
use Rattle.ngx_outside.specs.Causes.{Rose}
use Rattle.ngx_outside.specs.Seen.{LinksSeen, FilesSeen, ClockSeen}
use Rattle.ngx_outside.specs.Views.{ConnView, Course, Start, IsSound}
use Rattle.ngx_outside.specs.Runs.{IsPrefixOf, Agree}
use Rattle.ngx_outside.specs.declared.event.StopCause.{StopCause}
use Rattle.link_service.specs.Seen.{Tick, AreTold, IsDated}
use Rattle.link_service.specs.Passing.{Behind}
use Rattle.link_service.specs.Standing.{Reason}
use Rattle.ready_loop.specs.Turns.{AtRest, TurnsTaken}
use Rattle.ready_loop.specs.declared.service.Ending.{Ending}
use Rattle.ready_loop.specs.declared.service.Ending.TheVariants as ending
use Rattle.ngx_pattern.specs.Pattern.{Pattern as SetPattern}
use Rattle.pattern_search.specs.Found.{patterns_seen}
use Rattle.site_model.specs.declared.site.Site.{Site}
use Rattle.site_views.specs.Views.{ListenView, ServerView}
use Rattle.site_whole.specs.Whole.{whole}
use Rattle.connection_core.specs.answers_meaning.Asking.{Service}
use Rattle.connection_core.specs.answers_meaning.Answers.{answers, responses, close_in}
use Rattle.connection_core.specs.request_opening.Openings.{service_of}
use Rattle.connection_core.specs.http_connection.Conn.{fresh_course}
use Rattle.connection_core.specs.Core.{site_terms}
use Rattle.site_service.specs.Ends.{each_once}

-- What a call meets, before it and after it: files, links and a clock.
pub record Outside : Type 0 where
  pub files : FilesSeen
  pub files' : FilesSeen
  pub links : LinksSeen
  pub links' : LinksSeen
  pub clock : ClockSeen
  pub clock' : ClockSeen

-- no link was reported yet, and none is open
pub record AreNew (links : LinksSeen) : Type 0 where
  pub unused : (id : ℕ) → links.used id ≡ false
  pub shut : (id : ℕ) → links.is_open id ≡ false
  pub nobody : links.tells ≡ true → links.crowd ≡ 0

-- trees that say what the files told, up to the newest
abbrev pub SayAsTold : Outside → Trees → Type 0
SayAsTold o trees = Agree o.files'.trees o.files'.newest trees

-- the addresses that a server listens on, as its meaning sees them, and those of a site's servers, each once
abbrev pub addresses_of : ServerView → List Addr
addresses_of server = map (λ (l : ListenView). l.addr) server.listens

abbrev pub addresses : List SetPattern → Site → List Addr
addresses patterns site = each_once (flat_map addresses_of (whole (patterns_seen patterns) site).servers)

-- what a link is served: the site, with its patterns, at the link's two ends
abbrev pub service_at : List SetPattern → Site → Outside → ℕ → Service
service_at patterns site o id = service_of patterns site (o.links'.link id).local (o.links'.link id).peer

-- the answers to what was taken of a link, with this after it
abbrev pub answers_to : List SetPattern → Site → Outside → ℕ → Trees → (more : List ℕ) → List Start → List ℕ
answers_to patterns site o id trees more starts = answers (service_at patterns site o id) 0 trees
    ((o.links'.link id).taken ++ more) starts

-- What was sent on a link is all the answers to what was taken of it, whatever requests start
-- later.
abbrev pub AllIsSent : List SetPattern → Site → Outside → ℕ → List Start → Type 0
AllIsSent patterns site o id starts =
    (trees : Trees) → SayAsTold o trees → (later : List Start) →
    answers (service_at patterns site o id) 0 trees (o.links'.link id).taken
    (starts ++ later) ≡ (o.links'.link id).sent

-- What was sent on a link is all the answers to what was taken of it, whatever else would have
-- arrived and whatever requests start later.
abbrev pub NothingWasMissed : List SetPattern → Site → Outside → ℕ → List Start → Type 0
NothingWasMissed patterns site o id starts =
    (trees : Trees) → SayAsTold o trees → (more : List ℕ) (later : List Start) →
    answers_to patterns site o id trees more (starts ++ later) ≡ (o.links'.link id).sent

-- The answers to what was taken of a link don't close it, whatever requests start later.
abbrev pub StaysOpen : List SetPattern → Site → Outside → ℕ → List Start → Type 0
StaysOpen patterns site o id starts =
    (trees : Trees) → SayAsTold o trees → (later : List Start) →
    close_in (responses (service_at patterns site o id) 0 trees (o.links'.link id).taken
    (starts ++ later)) ≡ false

-- what is to come on the connection of a link that is opened now, where the race check names no
-- variable of the site, or some
abbrev pub fresh_at : (raceless : Bool) → List SetPattern → Site → Outside → ℕ → Course
fresh_at raceless patterns site o id = fresh_course raceless patterns site
    (o.links'.link id).local (o.links'.link id).peer

-- too many subrequests were foreseen when the connection of a link was opened, where no variable is
-- named
abbrev pub WasForeseen : (raceless : Bool) → List SetPattern → Site → Outside → ℕ → List Start →
    Type 0
WasForeseen raceless patterns site o id starts =
    raceless ≡ true → (trees : Trees) → SayAsTold o trees →
    (fresh_at raceless patterns site o id).heavy trees (o.links'.link id).taken starts ≡ true

-- the connection of a link may be given up when a moment comes
abbrev pub IsTimed : (raceless : Bool) → List SetPattern → Site → Outside → ℕ → Type 0
IsTimed raceless patterns site o id = (fresh_at raceless patterns site o id).timed ≡ true

-- What a cause of a stop comes of: a fault of the link or of the files, an event that was refused
-- for want of memory, as the links were told, too many subrequests, or a moment that had come of a
-- connection that may be given up.
abbrev pub HasReason : (raceless : Bool) → List SetPattern → Site → Outside → ℕ → List Start →
    StopCause → Type 0
HasReason raceless patterns site o id starts cause =
    Behind (Rose (o.links.link_faults id) (o.links'.link_faults id))
    (Rose o.files.faults o.files'.faults) (Rose 0 o.links'.refused)
    (WasForeseen raceless patterns site o id starts) (IsTimed raceless patterns site o id) cause

-- A link that was served, where `last` is what its connection showed last. Where the race check
-- names no variable of the site, what was sent is the beginning of the answers to what was taken, by
-- the requests that were started. Where no cause stopped the connection then it is all of them, once
-- the link is closed, and also at rest, unless the link is full; and a link that is open then is one
-- that the answers don't close. A link is closed without a cause only where a read found the end of
-- its input, or where nothing that could still arrive would have been answered.
-- Whether variables are named or not, where a cause stopped the connection, that has its reason, and
-- at rest the link is closed. The requests started at ticks, in their order. And at rest nothing is
-- left to do: where no cause stopped the connection, a link that was reported readable was read,
-- unless it is full.
pub record LinkServed (raceless : Bool) (patterns : List SetPattern) (site : Site) (o : Outside)
    (rests : Type 0) (ticks : List Tick) (id : ℕ) : Type 0 where
  pub last : ConnView
  pub sound : IsSound last
  pub front : raceless ≡ true → (trees : Trees) → SayAsTold o trees →
      IsPrefixOf (o.links'.link id).sent
      (answers (service_at patterns site o id) 0 trees (o.links'.link id).taken last.starts)
  pub closed : raceless ≡ true → last.cause ≡ None → o.links'.is_open id ≡ false →
      AllIsSent patterns site o id last.starts
  pub unended : raceless ≡ true → last.cause ≡ None → o.links'.is_open id ≡ false →
      (o.links'.link id).ended ≡ false → NothingWasMissed patterns site o id last.starts
  pub rested : raceless ≡ true → last.cause ≡ None → o.links'.is_open id ≡ true → rests →
      (o.links'.link id).full ≡ false →
      AllIsSent patterns site o id last.starts
  pub stays : raceless ≡ true → last.cause ≡ None → o.links'.is_open id ≡ true → rests →
      (o.links'.link id).full ≡ false →
      StaysOpen patterns site o id last.starts
  pub read : last.cause ≡ None → o.links'.is_open id ≡ true → rests →
      (o.links'.link id).full ≡ false →
      (o.links'.link id).due ≡ false
  pub stopped : (cause : StopCause) → last.cause ≡ Some cause →
      HasReason raceless patterns site o id last.starts cause
  pub shut : (cause : StopCause) → last.cause ≡ Some cause → rests → o.links'.is_open id ≡ false
  pub dated : IsDated ticks last.starts
  pub left : rests → o.links'.is_open id ≡ true →
      AtRest (Unit {0}) (Unit {0}) last (o.links'.link id)

-- What became of a link: it was turned away for a reason, and closed at once; or it was served.
pub data Became (raceless : Bool) (patterns : List SetPattern) (site : Site) (o : Outside)
    (rests : Type 0) (ticks : List Tick) (id : ℕ) : Type 0 where
  TurnedAway : o.links'.is_open id ≡ false → (o.links'.link id).taken ≡ [] →
      (o.links'.link id).sent ≡ [] →
      Reason (Rose 0 o.links'.refused) (site_terms raceless false patterns site) (o.links'.link id) →
      Became raceless patterns site o rests ticks id
  Served : LinkServed raceless patterns site o rests ticks id →
      Became raceless patterns site o rests ticks id

-- A site was served, of which the race check names no variable, or some, and it ended so: the ticks
-- that there were are as the clock and the files told; what became of each link that was reported,
-- as far as links and files tell; each address of the site is listened on, unless that failed; and
-- each turn handled one notice.
pub record Serving (raceless : Bool) (patterns : List SetPattern) (site : Site) (turns : ℕ)
    (e : Ending) (o : Outside) : Type 0 where
  pub ticks : List Tick
  pub told : AreTold ticks o.clock o.clock' o.files o.files'
  pub links : o.links.tells ≡ true → o.files.tells ≡ true → (id : ℕ) → o.links'.used id ≡ true →
      Became raceless patterns site o (e ≢ ending.ListenFault) ticks id
  pub listens : e ≢ ending.ListenFault →
      o.links'.listening ≡ o.links.listening ++ addresses patterns site
  pub notices : o.links.tells ≡ true → o.links.notices ≤ 2 ^ 64 - 1 →
      TurnsTaken e turns o.links.notices o.links'.notices
