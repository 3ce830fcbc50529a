-- The connections that are held, each under its number.
use Rattle.std.specs.Prelude.{◌≡◌, ◌⊎◌, Bool, true, false, ℕ, ◌+◌, ◌==◌, ◌<◌, ◌≤◌, List, [], ◌∷◌, ◌++◌, length, sum_by, not, ◌&&◌, ◌||◌, nat_lt, None, is_some, if◌then◌else◌}
use Rattle.std.specs.List.{AllByRecursion}
use Rattle.ngx_outside.specs.Views.{ConnView, Ticked, nobody}
use Rattle.ngx_outside.specs.Causes.{Rose}
use Rattle.ngx_outside.specs.declared.event.StepAnswer.{StepAnswer}
use Rattle.ngx_outside.specs.declared.event.StepAnswer.TheVariants.{Done, Skipped, OutOfMemory}
use Rattle.ngx_outside.specs.declared.event.Entry.{Entry}
use Rattle.ngx_outside.specs.declared.event.Event.{Event}
use Rattle.ngx_outside.specs.declared.event.Event.TheVariants as ev
use Rattle.http_types.specs.declared.words.Addr.{Addr}
use Rattle.ngx_pattern.specs.Pattern.{Pattern as SetPattern}
use Rattle.pattern_search.specs.Found.{patterns_seen}
use Rattle.site_model.specs.declared.site.Site.{Site}
use Rattle.site_views.specs.Choice.{default_server}
use Rattle.site_whole.specs.Whole.{whole}
use Rattle.http_connection.specs.served_site.declared.served.ServedSite.{ServedSite}
use Rattle.http_connection.specs.declared.conn.Conn.{Conn}
use Rattle.http_connection.specs.Conn.{view_of, left_of, asked_of, due_at, price}
use Rattle.http_connection.specs.Rests.{Serves, IsReachedIn}
use Rattle.http_connection.specs.Times.{soonest}

-- a site that is served, with its patterns
abbrev pub serves_with : List SetPattern → ServedSite → Serves
serves_with patterns served = record { patterns = patterns; served = served }

-- what the connection under a number shows
abbrev pub view_in : Serves → List ℕ → List Conn → ℕ → ConnView
view_in serves [] conns c = nobody
view_in serves (id ∷ ids) [] c = nobody
view_in serves (id ∷ ids)
    (conn ∷ conns) c = if id == c then view_of serves conn else view_in serves ids conns c

-- the requests that were started on the connection under a number
abbrev pub journal_in : List ℕ → List Conn → ℕ → List Entry
journal_in [] conns c = []
journal_in (id ∷ ids) [] c = []
journal_in (id ∷ ids)
    (conn ∷ conns) c = if id == c then conn.journal.past.entries else journal_in ids conns c

-- the work that is left on all, with one for each that is to be closed some time
abbrev pub left_in : List Conn → ℕ
left_in conns = sum_by (λ conn. 1 + left_of conn) conns

-- no job asks of a tree with a higher number than this
abbrev pub AllKnown : ℕ → List Conn → Type 0
AllKnown tree conns = AllByRecursion (λ conn. asked_of conn ≤ tree) conns

-- steps have led to the response in flight on each of them
abbrev pub AllReached : Serves → List Conn → Type 0
AllReached x conns = AllByRecursion (λ (conn : Conn). IsReachedIn x conn.flight) conns

-- each of them keeps its requests, to be told, or none does
abbrev pub AllKeep : Bool → List Conn → Type 0
AllKeep keeps conns = AllByRecursion (λ (conn : Conn). conn.journal.keeps ≡ keeps) conns

-- none of them is given up before this moment
abbrev pub AllLater : ℕ → List Conn → Type 0
AllLater soon conns = AllByRecursion (λ conn. soon ≤ soonest (due_at conn)) conns

-- What the clock's telling does to a connection: it is given up exactly where its moment has come,
-- and nothing more is left to do. Its response stays in flight, or is dropped.
pub record TickedOne (now : ℕ) (old new : Conn) : Type 0 where
  pub ticked : (serves : Serves) → Ticked now (view_of serves old) (view_of serves new)
  pub left : left_of new ≤ left_of old
  pub asked : asked_of new ≤ asked_of old
  pub ended : new.ended ≡ old.ended
  pub flight : (new.flight ≡ old.flight) ⊎ (new.flight ≡ None)
  pub keeps : new.journal.keeps ≡ old.journal.keeps

abbrev pub AllTicked : ℕ → List Conn → List Conn → Type 0
AllTicked now [] [] = Unit {0}
AllTicked now [] (new ∷ news) = ⊥
AllTicked now (old ∷ olds) [] = ⊥
AllTicked now (old ∷ olds) (new ∷ news) = TickedOne now old new × AllTicked now olds news

-- the event is of a connection that is held, and leaves it held
abbrev pub is_own : Event → Bool
is_own (ev.Opened conn local peer) = false
is_own (ev.Arrived conn bytes) = true
is_own (ev.Ended conn) = true
is_own (ev.Wrote conn count) = true
is_own (ev.LinkFailed conn) = true
is_own (ev.FileDone conn node answer) = true
is_own (ev.JobFailed conn node) = true
is_own (ev.Run conn node) = true
is_own (ev.Tick moment) = false
is_own (ev.Tree to) = false
is_own (ev.Gone conn) = false

-- the connection of an event that is of one
abbrev pub event_conn : Event → ℕ
event_conn (ev.Opened conn local peer) = conn
event_conn (ev.Arrived conn bytes) = conn
event_conn (ev.Ended conn) = conn
event_conn (ev.Wrote conn count) = conn
event_conn (ev.LinkFailed conn) = conn
event_conn (ev.FileDone conn node answer) = conn
event_conn (ev.JobFailed conn node) = conn
event_conn (ev.Run conn node) = conn
event_conn (ev.Tick moment) = 0
event_conn (ev.Tree to) = 0
event_conn (ev.Gone conn) = conn

-- no more are held than this
unfoldable pub most_held : ℕ
most_held = 512

abbrev pub is_among : ℕ → List ℕ → Bool
is_among c [] = false
is_among c (id ∷ ids) = id == c || is_among c ids

-- a server of the site listens at a local end
abbrev pub listens_there : List SetPattern → Site → Addr → Bool
listens_there patterns site local = is_some
    (default_server (whole (patterns_seen patterns) site).servers local)

-- there is room for one more, and the site listens at this local end
abbrev pub has_place : List SetPattern → Site → List ℕ → Addr → Bool
has_place patterns site ids local = nat_lt (length ids) most_held &&
    listens_there patterns site local

-- whether a connection of this number can be opened at a local end: it isn't held, there is room,
-- and the site listens there
abbrev pub opens_in : List SetPattern → Site → List ℕ → ℕ → Addr → Bool
opens_in patterns site ids c local = not (is_among c ids) && has_place patterns site ids local

-- what an opening, or a byte that arrives, may add to the work that is left
abbrev pub price_each : ℕ
price_each = price + 1

-- numbers below this one, and above it
abbrev pub Below : ℕ → List ℕ → Type 0
Below c ids = AllByRecursion (λ id. id < c) ids

abbrev pub Above : ℕ → List ℕ → Type 0
Above c ids = AllByRecursion (λ id. c < id) ids

-- the number is at place i
pub record StandsAt (c : ℕ) (ids : List ℕ) (i : ℕ) : Type 0 where
  pub front : List ℕ
  pub back : List ℕ
  pub whole : ids ≡ front ++ c ∷ back
  pub size : length front ≡ i
  pub below : Below c front
  pub above : Above c back

-- the number isn't there, and belongs at i
pub record BelongsAt (c : ℕ) (ids : List ℕ) (i : ℕ) : Type 0 where
  pub front : List ℕ
  pub back : List ℕ
  pub whole : ids ≡ front ++ back
  pub size : length front ≡ i
  pub below : Below c front
  pub above : Above c back

-- a connection among those that are held
pub record Placed (at : ℕ) (conns : List Conn) : Type 0 where
  pub front : List Conn
  pub here : Conn
  pub back : List Conn
  pub whole : conns ≡ front ++ here ∷ back
  pub size : length front ≡ at

-- it changes
pub record Replaced (at : ℕ) (conns : List Conn) (Does : Conn → Conn → Type 0) (p : Placed at conns)
    (conns' : List Conn) : Type 0 where
  pub there : Conn
  pub does : Does p.here there
  pub whole : conns' ≡ p.front ++ there ∷ p.back

-- an answer that refuses raises the count
abbrev pub Counted : StepAnswer → ℕ → ℕ → Type 0
Counted (Done taken) old new = new ≡ old
Counted Skipped old new = new ≡ old
Counted OutOfMemory old new = Rose old new
