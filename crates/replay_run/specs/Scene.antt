-- A run of a script, between two of its lines.
use Rattle.std.specs.Prelude.{◌≡◌, ◌≢◌, ℕ, ◌+◌, ◌*◌, ◌≤◌, ◌==◌, ◌||◌, ◌&&◌, not, nat_lt, min, Bool, true, false, List, [], ◌∷◌, ◌++◌, length, take, drop, sum_by, Option, None, Some, if◌then◌else◌}
use Rattle.std.specs.List.{All, Contains}
use Rattle.std.specs.Prelude.{◌↔◌}
use Rattle.std.specs.List.Sorted.{IsStrictlyIncreasing}
use Rattle.http_types.specs.declared.words.Addr.{Addr}
use Rattle.file_tree.specs.Tree.{Trees, HoldsBytes, IsFrom, node_of, tree_of}
use Rattle.file_tree.specs.declared.job.Ask.{Ask}
use Rattle.file_tree.specs.declared.job.Ask.TheVariants as ask
use Rattle.file_tree.specs.declared.job.JobAnswer.{JobAnswer}
use Rattle.ngx_outside.specs.Seen.{Terms}
use Rattle.ngx_outside.specs.Views.{ConnView, Course, Start, Steps, OpensIf, now_after, ended_after, no_bytes, ask_in}
use Rattle.ngx_outside.specs.Wants.{wants_at, wants_in}
use Rattle.ngx_outside.specs.declared.event.Event.{Event}
use Rattle.ngx_outside.specs.declared.event.Event.TheVariants.{Opened, Arrived, Ended, Wrote, FileDone, JobFailed, Run}
use Rattle.ngx_outside.specs.declared.event.StepAnswer.{StepAnswer}
use Rattle.ngx_outside.specs.declared.event.StepAnswer.TheVariants.{Done, Skipped, OutOfMemory}
use Rattle.ngx_outside.specs.declared.event.Want.{Want}
use Rattle.ngx_outside.specs.declared.event.Want.TheVariants as want
use Rattle.replay_run.specs.Told.{Told}
use Rattle.replay_run.specs.declared.jobs.JobResult.{JobResult}
use Rattle.replay_run.specs.declared.jobs.JobResult.TheVariants as found
use Rattle.replay_run.specs.declared.lane.InputEnd.{InputEnd}
use Rattle.replay_run.specs.declared.lane.InputEnd.TheVariants as input
use Rattle.replay_run.specs.declared.lane.Lane.{Lane as LaneOf}
use Rattle.replay_run.specs.declared.lane.LinkEnds.{LinkEnds}

-- what a script keeps of a connection: the bytes that wait to arrive, how they end, what was
-- emitted on it, and the ends of its last opening that was done
pub record Lane : Type 0 where
  pub queue : List ℕ
  pub tail : InputEnd
  pub went : List ℕ
  pub ends : Option LinkEnds

abbrev pub empty_lane : Lane
empty_lane = record { queue = []; tail = input.Open; went = []; ends = None }

abbrev pub shown_lane : LaneOf → Lane
shown_lane l = record { queue = l.queue; tail = l.tail; went = l.emitted; ends = l.ends }

-- the lane of a connection
abbrev pub lane_in : List LaneOf → ℕ → Lane
lane_in [] c = empty_lane
lane_in (l ∷ lanes) c = if l.conn == c then shown_lane l else lane_in lanes c

-- what the core shows, when a request starts that is started now, and what the script keeps
pub record Stage : Type 0 where
  pub view : ℕ → ConnView
  pub now : Start
  pub lanes : ℕ → Lane

abbrev pub stage : (ℕ → ConnView) → Start → List LaneOf → Stage
stage view now lanes = record { view = view; now = now; lanes = lane_in lanes }

-- a core is given an event, and answers so
pub record Gives (fresh : Addr → Addr → Course) (e : Event) (a : StepAnswer) (view : ℕ → ConnView)
    (now : Start) (view' : ℕ → ConnView) (now' : Start) : Type 0 where
  pub steps : Steps fresh now e a view view'
  pub moment : now' ≡ now_after now e a
  pub ended : (c : ℕ) → (view' c).ended ≡ ended_after e a c (view c).ended

-- one lane becomes this, and no other changes
pub record OneLane (c : ℕ) (lane : Lane) (old new : ℕ → Lane) : Type 0 where
  pub own : new c ≡ lane
  pub others : (d : ℕ) → d ≢ c → new d ≡ old d

abbrev pub SameLanes : (ℕ → Lane) → (ℕ → Lane) → Type 0
SameLanes old new = (c : ℕ) → new c ≡ old c

-- the bytes arrive on the connection
abbrev pub IsArrival : Event → ℕ → List ℕ → Type 0
IsArrival (Arrived conn bytes) c queue = (conn ≡ c) × (bytes.now ≡ queue)
IsArrival e c queue = ⊥

abbrev pub taken_of : StepAnswer → ℕ
taken_of (Done taken) = taken
taken_of Skipped = 0
taken_of OutOfMemory = 0

-- all that waits is offered to a connection
pub record Offers (fresh : Addr → Addr → Course) (c : ℕ) (queue : List ℕ) (a : StepAnswer)
    (view : ℕ → ConnView) (now : Start) (view' : ℕ → ConnView) (now' : Start) : Type 0 where
  pub event : Event
  pub arrival : IsArrival event c queue
  pub gives : Gives fresh event a view now view' now'

abbrev pub offered_lane : Lane → StepAnswer → Lane
offered_lane l a = record
    { queue = drop (taken_of a) l.queue; tail = l.tail; went = l.went; ends = l.ends }

-- whether a lane's input ends now
abbrev pub is_ending : Lane → Bool
is_ending l = ends_by l.tail (no_bytes l.queue)
  where
    ends_by : InputEnd → Bool → Bool
    ends_by input.Open b = false
    ends_by input.Due b = b
    ends_by input.Given b = b

abbrev pub tail_after : StepAnswer → InputEnd → InputEnd
tail_after (Done taken) tail = input.Given
tail_after Skipped tail = tail
tail_after OutOfMemory tail = tail

abbrev pub ended_lane : Lane → StepAnswer → Lane
ended_lane l a = record
    { queue = l.queue; tail = tail_after a l.tail; went = l.went; ends = l.ends }

-- the core is told that a lane's input ends, where it does
pub data EndsIfDue (fresh : Addr → Addr → Course) (c : ℕ) (lane lane' : Lane) (a : StepAnswer)
    (view : ℕ → ConnView) (now : Start) (view' : ℕ → ConnView) (now' : Start) : Type 0 where
  Ends : is_ending lane ≡ true → Gives fresh (Ended c) a view now view' now' →
      lane' ≡ ended_lane lane a → EndsIfDue fresh c lane lane' a view now view' now'
  Waits : is_ending lane ≡ false → a ≡ Skipped → view' ≡ view → now' ≡ now → lane' ≡ lane →
      EndsIfDue fresh c lane lane' a view now view' now'

-- a line of two steps is refused where one of them was, and done where one was
abbrev pub either : StepAnswer → StepAnswer → StepAnswer
either OutOfMemory b = OutOfMemory
either (Done taken) b = Done taken
either Skipped b = b

-- the bytes that a write emits
abbrev pub written_of : StepAnswer → ℕ → List ℕ → List ℕ
written_of (Done taken) count pending = take count pending
written_of Skipped count pending = []
written_of OutOfMemory count pending = []

abbrev pub written_lane : Lane → StepAnswer → ℕ → List ℕ → Lane
written_lane l a count pending = record
    { queue = l.queue; tail = l.tail; went = l.went ++ written_of a count pending; ends = l.ends }

-- An event that touches no lane.
pub record Plain (fresh : Addr → Addr → Course) (e : Event) (a : StepAnswer)
    (old new : Stage) : Type 0 where
  pub gives : Gives fresh e a old.view old.now new.view new.now
  pub lanes : SameLanes old.lanes new.lanes

-- One lane changes so, and no other.
pub record OnLane (c : ℕ) (Does : Lane → Lane → Type 0) (old new : ℕ → Lane) : Type 0 where
  pub last : Lane
  pub does : Does (old c) last
  pub lanes : OneLane c last old new

-- A connection is opened at these ends, which its lane keeps where that is done.
abbrev pub ends_after : LinkEnds → StepAnswer → Option LinkEnds → Option LinkEnds
ends_after ends (Done taken) kept = Some ends
ends_after ends Skipped kept = kept
ends_after ends OutOfMemory kept = kept

abbrev pub opened_lane : Lane → LinkEnds → StepAnswer → Lane
opened_lane l ends a = record
    { queue = l.queue; tail = l.tail; went = l.went; ends = ends_after ends a l.ends }

pub record Opens (fresh : Addr → Addr → Course) (c : ℕ) (ends : LinkEnds) (a : StepAnswer)
    (view : ℕ → ConnView) (now : Start) (view' : ℕ → ConnView) (now' : Start)
    (lane lane' : Lane) : Type 0 where
  pub gives : Gives fresh (Opened c ends.local ends.peer) a view now view' now'
  pub keeps : lane' ≡ opened_lane lane ends a

abbrev pub longer_lane : Lane → List ℕ → Lane
longer_lane l bytes = record
    { queue = l.queue ++ bytes; tail = l.tail; went = l.went; ends = l.ends }

-- the connections that are held, by number
pub record AreHeld (conns : List ℕ) (view : ℕ → ConnView) : Type 0 where
  pub order : IsStrictlyIncreasing conns
  pub held : (c : ℕ) → Contains conns c ↔ ((view c).held ≡ true)

-- A connection can be opened exactly where its number isn't held, fewer connections than the limit
-- are, and somebody answers at its local end: its opening is skipped exactly where it can't.
abbrev pub can_open : Terms → List ℕ → (ℕ → ConnView) → ℕ → Addr → Bool
can_open terms conns view conn local = not (view conn).held &&
    (nat_lt (length conns) terms.limit && terms.serves local)

pub record Openable (terms : Terms) (c : ℕ) (ends : LinkEnds) (a : StepAnswer)
    (view : ℕ → ConnView) : Type 0 where
  pub conns : List ℕ
  pub held : AreHeld conns view
  pub opens : OpensIf (can_open terms conns view) (Opened c ends.local ends.peer) a

-- Bytes are put after those that wait, and all are offered; then the input ends where it is due.
pub record Sends (fresh : Addr → Addr → Course) (c : ℕ) (bytes : List ℕ) (a : StepAnswer)
    (view : ℕ → ConnView) (now : Start) (view' : ℕ → ConnView) (now' : Start)
    (lane lane' : Lane) : Type 0 where
  pub first : StepAnswer
  pub second : StepAnswer
  pub mid_view : ℕ → ConnView
  pub mid_now : Start
  pub offers : Offers fresh c (lane.queue ++ bytes) first view now mid_view mid_now
  pub ends : EndsIfDue fresh c
      (offered_lane (longer_lane lane bytes) first) lane' second mid_view mid_now view' now'
  pub answer : a ≡ either first second

abbrev pub due_after : InputEnd → InputEnd
due_after input.Open = input.Due
due_after input.Due = input.Due
due_after input.Given = input.Given

abbrev pub due_lane : Lane → Lane
due_lane l = record { queue = l.queue; tail = due_after l.tail; went = l.went; ends = l.ends }

-- At most this many of the pending bytes are written.
pub record Writes (fresh : Addr → Addr → Course) (c most : ℕ) (a : StepAnswer) (view : ℕ → ConnView)
    (now : Start) (view' : ℕ → ConnView) (now' : Start) (lane lane' : Lane) : Type 0 where
  pub count : ℕ
  pub counts : count ≡ min most (length (view c).pending)
  pub gives : Gives fresh (Wrote c count) a view now view' now'
  pub emits : lane' ≡ written_lane lane a count (view c).pending

-- what waits is offered, or where nothing waits its end is told
pub data Reads (fresh : Addr → Addr → Course) (c : ℕ) (a : StepAnswer) (view : ℕ → ConnView)
    (now : Start) (view' : ℕ → ConnView) (now' : Start) (lane lane' : Lane) : Type 0 where
  Offered : no_bytes lane.queue ≡ false → Offers fresh c lane.queue a view now view' now' →
      lane' ≡ offered_lane lane a → Reads fresh c a view now view' now' lane lane'
  Ending : no_bytes lane.queue ≡ true → EndsIfDue fresh c lane lane' a view now view' now' →
      Reads fresh c a view now view' now' lane lane'

-- What a line does, from stage to stage: a connection is opened, bytes are sent, the input ends as
-- soon as nothing waits, bytes are written.
abbrev pub OpensLine : (Addr → Addr → Course) → ℕ → LinkEnds → StepAnswer → Stage → Stage → Type 0
OpensLine fresh c ends a old new = OnLane c
    (Opens fresh c ends a old.view old.now new.view new.now) old.lanes new.lanes

abbrev pub SendsLine : (Addr → Addr → Course) → ℕ → List ℕ → StepAnswer → Stage → Stage → Type 0
SendsLine fresh c bytes a old new = OnLane c
    (Sends fresh c bytes a old.view old.now new.view new.now) old.lanes new.lanes

abbrev pub EndsLine : (Addr → Addr → Course) → ℕ → StepAnswer → Stage → Stage → Type 0
EndsLine fresh c a old new = OnLane c
    (λ l l'. EndsIfDue fresh c (due_lane l) l' a old.view old.now new.view new.now) old.lanes
    new.lanes

abbrev pub WritesLine : (Addr → Addr → Course) → ℕ → ℕ → StepAnswer → Stage → Stage → Type 0
WritesLine fresh c most a old new = OnLane c
    (Writes fresh c most a old.view old.now new.view new.now) old.lanes new.lanes

-- What the files found for a job, with the bytes of a block that was read; nothing where the trees
-- have no answer to it.
abbrev pub IsFound : Trees → Ask → JobResult → List ℕ → Type 0
IsFound trees (ask.Stat path of) (found.Node node) block = node ≡ node_of (trees of path)
IsFound trees (ask.Stat path of) found.Block block = ⊥
IsFound trees (ask.Stat path of) found.Nothing block = ⊥
IsFound trees (ask.Read path start count of) (found.Node node) block = ⊥
IsFound trees (ask.Read path start count of) found.Block block = HoldsBytes
    (trees of path) start count block × (length block ≡ count)
IsFound trees (ask.Read path start count of) found.Nothing block = (bytes : List ℕ) →
    ¬ HoldsBytes (trees of path) start count bytes

-- A node's job is answered by what the trees say to it, or fails where they have no answer; where
-- the node has no job nothing happens.
pub data AnswersJob (fresh : Addr → Addr → Course) (told : Told) (c node : ℕ) (a : StepAnswer)
    (view : ℕ → ConnView) (now : Start) (view' : ℕ → ConnView) (now' : Start) : Type 0 where
  Answers : (ask : Ask) (answer : JobAnswer) → ask_in (view c).jobs node ≡ Some ask →
      tree_of ask ≤ told.newest → IsFrom told.trees ask answer →
      Gives fresh (FileDone c node answer) a view now view' now' →
      AnswersJob fresh told c node a view now view' now'
  Fails : (ask : Ask) → ask_in (view c).jobs node ≡ Some ask →
      ((answer : JobAnswer) → ¬ IsFrom told.trees ask answer) →
      Gives fresh (JobFailed c node) a view now view' now' →
      AnswersJob fresh told c node a view now view' now'
  Unasked : ask_in (view c).jobs node ≡ None → a ≡ Skipped → view' ≡ view → now' ≡ now →
      AnswersJob fresh told c node a view now view' now'

abbrev pub JobLine : (Addr → Addr → Course) → Told → ℕ → ℕ → StepAnswer → Stage → Stage → Type 0
JobLine fresh told c node a old new = AnswersJob fresh told c node a old.view old.now new.view
    new.now × SameLanes old.lanes new.lanes

-- whether bytes wait, or their end is due
abbrev pub is_read : Lane → Bool
is_read l = reads l.queue l.tail
  where
    reads : List ℕ → InputEnd → Bool
    reads (b ∷ bytes) tail = true
    reads [] input.Open = false
    reads [] input.Due = true
    reads [] input.Given = false

-- whether a want can be served: a read where bytes wait or their end is due, a run, a job, a write
abbrev pub is_served : (ℕ → Lane) → Want → Bool
is_served lanes (want.Read conn room) = is_read (lanes conn)
is_served lanes (want.Run conn node) = true
is_served lanes (want.Job conn node) = true
is_served lanes (want.Write conn) = true
is_served lanes (want.Close conn) = false

-- the first want that can be served
abbrev pub first_served : (ℕ → Lane) → List Want → Option Want
first_served lanes [] = None
first_served lanes (w ∷ wants) = if is_served lanes w then Some w else first_served lanes wants

-- serving a want: what waits is offered, or its end told; a node runs; its job is answered; all
-- that is pending is written
abbrev pub Serves : (Addr → Addr → Course) → Told → Want → Stage → Stage → Type 0
Serves fresh told (want.Read conn room) old new = (a : StepAnswer) ×
    OnLane conn (Reads fresh conn a old.view old.now new.view new.now) old.lanes new.lanes
Serves fresh told (want.Run conn node) old new = (a : StepAnswer) ×
    Plain fresh (Run conn node) a old new
Serves fresh told (want.Job conn node) old new = (a : StepAnswer) ×
    JobLine fresh told conn node a old new
Serves fresh told (want.Write conn) old new = (a : StepAnswer) ×
    WritesLine fresh conn (length (old.view conn).pending) a old new
Serves fresh told (want.Close conn) old new = ⊥

-- Wants are served, each the first that can be.
pub data Drained (fresh : Addr → Addr → Course) (told : Told) (old : Stage) : Stage → Type 0 where
  Begun : Drained fresh told old old
  Then : (mid new : Stage) (conns : List ℕ) (w : Want) → Drained fresh told old mid →
      AreHeld conns mid.view → first_served mid.lanes (wants_in conns mid.view) ≡ Some w →
      Serves fresh told w mid new → Drained fresh told old new

-- as long as one can be
pub record Drains (fresh : Addr → Addr → Course) (told : Told) (old new : Stage) : Type 0 where
  pub path : Drained fresh told old new
  pub conns : List ℕ
  pub held : AreHeld conns new.view
  pub none : first_served new.lanes (wants_in conns new.view) ≡ None

-- nothing can be served on a connection
abbrev pub RestsAt : Stage → ℕ → Type 0
RestsAt s c = first_served s.lanes (wants_at c (s.view c)) ≡ None

-- The wants of one connection are served, each the first that can be: no other connection changes,
-- each stays held, and where nothing could be served on the connections before it, these are the
-- first wants of all.
pub record DrainsOne (fresh : Addr → Addr → Course) (told : Told) (c : ℕ)
    (old new : Stage) : Type 0 where
  pub others : (d : ℕ) → d ≢ c → (new.view d ≡ old.view d) × (new.lanes d ≡ old.lanes d)
  pub held : (d : ℕ) → (new.view d).held ≡ (old.view d).held
  pub path : (first : Stage) (conns front back : List ℕ) → AreHeld conns old.view →
      conns ≡ front ++ c ∷ back →
      All (λ d. d ≢ c) front → All (RestsAt old) front → Drained fresh told first old →
      Drained fresh told first new

-- the connection of a want
abbrev pub conn_of : Want → ℕ
conn_of (want.Read conn room) = conn
conn_of (want.Run conn node) = conn
conn_of (want.Job conn node) = conn
conn_of (want.Write conn) = conn
conn_of (want.Close conn) = conn

-- a script closes no link
abbrev pub unless_close : Option Want → Option Want
unless_close None = None
unless_close (Some (want.Read conn room)) = Some (want.Read conn room)
unless_close (Some (want.Run conn node)) = Some (want.Run conn node)
unless_close (Some (want.Job conn node)) = Some (want.Job conn node)
unless_close (Some (want.Write conn)) = Some (want.Write conn)
unless_close (Some (want.Close conn)) = None

-- the work that is left: each byte that waits may cost its price, and each end one step
abbrev pub work_of : ℕ → LaneOf → ℕ
work_of price l = (price + 1) * length l.queue + due l.tail
  where
    due : InputEnd → ℕ
    due input.Open = 0
    due input.Due = 1
    due input.Given = 0

abbrev pub work : ℕ → ℕ → List LaneOf → ℕ
work price left lanes = left + sum_by (work_of price) lanes

-- what a want says of its connection
abbrev pub IsWanted : (ℕ → ConnView) → Want → Type 0
IsWanted view (want.Read conn room) = (view conn).room ≡ Some room
IsWanted view (want.Run conn node) = Contains (view conn).ready node
IsWanted view (want.Job conn node) = ask_in (view conn).jobs node ≢ None
IsWanted view (want.Write conn) = no_bytes (view conn).pending ≡ false
IsWanted view (want.Close conn) = Unit {0}

abbrev pub has_lane : ℕ → List LaneOf → Bool
has_lane c [] = false
has_lane c (l ∷ lanes) = l.conn == c || has_lane c lanes

-- the first lane of a connection is at i
pub record LaneAt (c : ℕ) (lanes : List LaneOf) (i : ℕ) : Type 0 where
  pub front : List LaneOf
  pub here : LaneOf
  pub back : List LaneOf
  pub whole : lanes ≡ front ++ here ∷ back
  pub size : length front ≡ i
  pub number : here.conn ≡ c
  pub before : has_lane c front ≡ false
