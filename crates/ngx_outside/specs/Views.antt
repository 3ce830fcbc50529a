-- What a core shows of a connection, and what an event does to it.
use Rattle.std.specs.Prelude.{◌≡◌, ◌≢◌, ℕ, ◌+◌, ◌*◌, ◌==◌, ◌<◌, ◌≤◌, min, Bool, true, false, ◌&&◌, ◌||◌, is_none, List, [], ◌∷◌, ◌++◌, length, take, map, Contains, Option, None, Some, if◌then◌else◌, ◌⊎◌}
use Rattle.file_tree.specs.Tree.{Trees, IsFrom, is_fitting}
use Rattle.file_tree.specs.declared.job.Ask.{Ask}
use Rattle.file_tree.specs.declared.job.JobAnswer.{JobAnswer}
use Rattle.http_types.specs.declared.words.Addr.{Addr}
use Rattle.ngx_outside.specs.declared.event.Event.{Event}
use Rattle.ngx_outside.specs.declared.event.Event.TheVariants.{Opened, Arrived, Ended, Wrote, LinkFailed, FileDone, JobFailed, Run, Tick, Tree, Gone}
use Rattle.ngx_outside.specs.declared.event.StepAnswer.{StepAnswer}
use Rattle.ngx_outside.specs.declared.event.StepAnswer.TheVariants.{Done, Skipped, OutOfMemory}
use Rattle.ngx_outside.specs.declared.event.Entry.{Entry}
use Rattle.ngx_outside.specs.declared.event.StopCause.{StopCause}
use Rattle.ngx_outside.specs.declared.event.StopCause.TheVariants as stop
use Rattle.ngx_outside.specs.Causes.{Rose}

-- when a request starts: the clock's moment, and the number of the tree
pub record Start : Type 0 where
  pub moment : ℕ
  pub tree : ℕ

abbrev pub start_of : Entry → Start
start_of e = record { moment = e.moment; tree = e.tree }

-- what is logged of a response: its status, and the length of its body in bytes
abbrev pub Log : Type 0
Log = ℕ × ℕ

-- nothing is logged of a request until its response is made
abbrev pub log_of : Entry → Option Log
log_of e = e.log

-- What comes of a connection if its jobs are answered from these trees, these bytes arrive and
-- further requests start so: the bytes that are still to come; the logs of all its responses, one
-- after another, of those that are over too; whether the answers end the connection, so that
-- nothing is answered after them; and whether a request then asks for more subrequests than are
-- made for one. And whether the order of the connection's steps can't change its bytes, and whether
-- it may be given up when a moment comes.
pub record Course : Type 0 where
  pub bytes : Trees → List ℕ → List Start → List ℕ
  pub logs : Trees → List ℕ → List Start → List Log
  pub closes : Trees → List ℕ → List Start → Bool
  pub heavy : Trees → List ℕ → List Start → Bool
  pub raceless : Bool
  pub timed : Bool

-- a job that waits for its answer
pub record Job : Type 0 where
  pub node : ℕ
  pub ask : Ask

-- A connection as a core shows it: whether it is held, and why it was stopped, if it was; what is
-- to be written next; the requests that were started, and what is logged of each; what comes of it;
-- and how many bytes it takes now, the nodes that can run and the jobs, each by node number,
-- whether its link is to be closed, whether its input has ended, whether the order of its steps
-- can't change its bytes, and the moment at which it is given up.
pub record ConnView : Type 0 where
  pub held : Bool
  pub cause : Option StopCause
  pub pending : List ℕ
  pub starts : List Start
  pub logs : List (Option Log)
  pub course : Course
  pub room : Option ℕ
  pub ready : List ℕ
  pub jobs : List Job
  pub shut : Bool
  pub ended : Bool
  pub raceless : Bool
  pub deadline : Option ℕ

-- held, and not stopped
abbrev pub is_live : ConnView → Bool
is_live v = v.held && is_none v.cause

abbrev pub no_bytes : List ℕ → Bool
no_bytes [] = true
no_bytes (b ∷ bytes) = false

abbrev pub no_nodes : List ℕ → Bool
no_nodes [] = true
no_nodes (n ∷ nodes) = false

abbrev pub no_jobs : List Job → Bool
no_jobs [] = true
no_jobs (j ∷ jobs) = false

-- live, and nothing is to be done until more arrives
abbrev pub is_idle : ConnView → Bool
is_idle v = is_live v && no_bytes v.pending && no_nodes v.ready && no_jobs v.jobs

-- a connection that isn't held
abbrev pub nobody : ConnView
nobody =
    record {
      held = false;
      cause = None;
      pending = [];
      starts = [];
      logs = [];
      course = record {
        bytes = λ trees more later. [];
        logs = λ trees more later. [];
        closes = λ trees more later. false;
        heavy = λ trees more later. false;
        raceless = true;
        timed = false;
      };
      room = None;
      ready = [];
      jobs = [];
      shut = false;
      ended = false;
      raceless = true;
      deadline = None;
    }

-- the job of a node
abbrev pub ask_in : List Job → ℕ → Option Ask
ask_in [] node = None
ask_in (job ∷ jobs) node = if job.node == node then Some job.ask else ask_in jobs node

-- What an event's claim of the bytes still to come rests on: nothing, an answer from the trees, or
-- that the order of steps can't change the bytes.
pub data Ground : Type 0 where
  Always : Ground
  Answers : (ask : Ask) → (answer : JobAnswer) → Ground
  Raceless : (raceless : Bool) → Ground

-- the ground holds for these trees
abbrev pub Holds : Ground → Trees → Type 0
Holds Always trees = Unit {0}
Holds (Answers ask answer) trees = IsFrom trees ask answer
Holds (Raceless raceless) trees = raceless ≡ true

-- Of a connection's requests these are the logs, in their order, where all its responses have
-- those: the log of each that is over, and nothing yet of the last one, where that isn't.
pub record Logged (logs : List (Option Log)) (all : List Log) : Type 0 where
  pub over : List Log
  pub later : List Log
  pub first : all ≡ over ++ later
  pub told : (logs ≡ map (λ l. Some l) over) ⊎ (logs ≡ map (λ l. Some l) over ++ None ∷ [])

-- From old to new these bytes came, those went and these requests started. For all trees for which
-- the ground holds, what was still to come, with the bytes and the starts in front, is what went
-- and what is still to come; and the logs of all responses are the same, and whether the answers
-- end the connection.
pub record Moved (ground : Ground) (old new : ConnView) (came went : List ℕ)
    (started : List Start) : Type 0 where
  pub starts : new.starts ≡ old.starts ++ started
  pub raceless : new.raceless ≡ old.raceless
  pub timed : new.course.timed ≡ old.course.timed
  pub bytes : (trees : Trees) → Holds ground trees → (more : List ℕ) (later : List Start) →
      old.course.bytes trees (came ++ more) (started ++ later) ≡ went
      ++ new.course.bytes trees more later
  pub logs : (trees : Trees) → Holds ground trees → (more : List ℕ) (later : List Start) →
      old.course.logs trees (came ++ more) (started ++ later) ≡ new.course.logs trees more later
  pub closes : (trees : Trees) → Holds ground trees → (more : List ℕ) (later : List Start) →
      old.course.closes trees (came ++ more) (started ++ later) ≡ new.course.closes trees more later
  pub heavy : (trees : Trees) → Holds ground trees → (more : List ℕ) (later : List Start) →
      new.course.heavy trees more later ≡ true →
      old.course.heavy trees (came ++ more) (started ++ later) ≡ true

-- an event that was done on a live connection, which stays live, and of whose requests the logs are
-- those of its responses
pub record Went (ground : Ground) (old new : ConnView) (came went : List ℕ)
    (started : List Start) : Type 0 where
  pub before : is_live old ≡ true
  pub after : is_live new ≡ true
  pub moved : Moved ground old new came went started
  pub logged : (trees : Trees) (more : List ℕ) (later : List Start) →
      Logged new.logs (new.course.logs trees more later)

-- at most one request starts, and it starts now
abbrev pub IsStart : Start → List Start → Type 0
IsStart now started = (started ≡ []) ⊎ (started ≡ now ∷ [])

-- how a connection is stopped: what was started and logged stays, and nothing is to be done but to
-- close it
pub record Stopped (cause : StopCause) (old new : ConnView) (started : List Start) : Type 0 where
  pub before : is_live old ≡ true
  pub held : new.held ≡ true
  pub why : new.cause ≡ Some cause
  pub pending : new.pending ≡ []
  pub starts : new.starts ≡ old.starts ++ started
  pub logs : new.logs ≡ old.logs ++ map (λ s. None) started
  pub logged : (all : List Log) → Logged old.logs all → Logged new.logs all
  pub raceless : new.raceless ≡ old.raceless

-- how a connection begins, from what is to come on it
pub record Fresh (course : Course) (new : ConnView) : Type 0 where
  pub live : is_live new ≡ true
  pub pending : new.pending ≡ []
  pub starts : new.starts ≡ []
  pub logs : new.logs ≡ []
  pub comes : new.course ≡ course
  pub ended : new.ended ≡ false
  pub raceless : new.raceless ≡ course.raceless

-- an event that is skipped changes nothing, and has this cause
pub record Unmoved (old new : ConnView) (why : Type 0) : Type 0 where
  pub same : new ≡ old
  pub cause : why

-- Bytes are taken as far as there is room for them.
pub record Takes (room : Option ℕ) (bytes : List ℕ) (taken : ℕ) : Type 0 where
  pub most : ℕ
  pub has_room : room ≡ Some most
  pub takes : taken ≡ min (length bytes) most
  pub some : 0 < taken

-- What a node's run does: it goes on, maybe starting a request; or it asks for one subrequest too
-- many, which is foreseen where the order of steps can't change the bytes.
pub data Ran (now : Start) (old new : ConnView) : Type 0 where
  Goes : (started : List Start) → IsStart now started →
      Went (Raceless old.raceless) old new [] [] started → Ran now old new
  Halts : (count : ℕ) (started : List Start) → IsStart now started →
      Stopped (stop.SubLimit count) old new started →
      (old.raceless ≡ true → (trees : Trees) (more : List ℕ) (later : List Start) →
      old.course.heavy trees more (started ++ later) ≡ true) → Ran now old new

-- a job that waited is answered by what fits it
pub record Answered (node : ℕ) (old : ConnView) (IsFits : Ask → Bool)
    (goes : Ask → Type 0) : Type 0 where
  pub ask : Ask
  pub waits : ask_in old.jobs node ≡ Some ask
  pub fits : IsFits ask ≡ true
  pub went : goes ask

-- an event for which there was no memory stops its own connection
abbrev pub Refused : Start → ConnView → ConnView → Type 0
Refused now old new = (started : List Start) × IsStart now started ×
    Stopped stop.Memory old new started

-- What a step does to the connection of its event. `course` is what is to come on a connection that
-- is opened now, and `now` is when a request starts that is started now.
abbrev pub StepsOwn : Course → Start → Event → StepAnswer → ConnView → ConnView → Type 0
StepsOwn course now (Opened conn local peer) (Done taken) old new = (old.held ≡ false) ×
    Fresh course new
StepsOwn course now (Opened conn local peer) Skipped old new = new ≡ old
StepsOwn course now (Opened conn local peer) OutOfMemory old new = new ≡ old
StepsOwn course now (Arrived conn bytes) (Done taken) old new = Takes old.room bytes.now taken ×
    Went Always old new (take taken bytes.now) [] []
StepsOwn course now (Arrived conn bytes) Skipped old new = Unmoved old new
    ((room : ℕ) → old.room ≡ Some room → bytes.now ≡ [])
StepsOwn course now (Ended conn) (Done taken) old new = (old.room ≢ None) × (new.room ≡ None) ×
    Went Always old new [] [] []
StepsOwn course now (Ended conn) Skipped old new = Unmoved old new (old.room ≡ None)
StepsOwn course now (Ended conn) OutOfMemory old new = ⊥
StepsOwn course now (Wrote conn count) (Done taken) old new = (0 < count) ×
    (count ≤ length old.pending) × Went Always old new [] (take count old.pending) []
StepsOwn course now (Wrote conn count) Skipped old new = Unmoved old new
    (0 < count → length old.pending < count)
StepsOwn course now (Wrote conn count) OutOfMemory old new = ⊥
StepsOwn course now (LinkFailed conn) (Done taken) old new = Stopped stop.LinkFault old new []
StepsOwn course now (LinkFailed conn) Skipped old new = Unmoved old new (is_live old ≡ false)
StepsOwn course now (LinkFailed conn) OutOfMemory old new = ⊥
StepsOwn course now (FileDone conn node answer) (Done taken) old new = Answered node old
    (λ ask. is_fitting ask answer) (λ ask. Went (Answers ask answer) old new [] [] [])
StepsOwn course now (FileDone conn node answer) Skipped old new = Unmoved old new
    ((ask : Ask) → ask_in old.jobs node ≡ Some ask → is_fitting ask answer ≡ false)
StepsOwn course now (JobFailed conn node) (Done taken) old new = (ask_in old.jobs node ≢ None) ×
    Stopped stop.FileFault old new []
StepsOwn course now (JobFailed conn node) Skipped old new = Unmoved old new
    (ask_in old.jobs node ≡ None)
StepsOwn course now (JobFailed conn node) OutOfMemory old new = ⊥
StepsOwn course now (Run conn node) (Done taken) old new = Contains old.ready node × Ran now old new
StepsOwn course now (Run conn node) Skipped old new = Unmoved old new (¬ Contains old.ready node)
StepsOwn course now (Gone conn) (Done taken) old new = (old.shut ≡ true) × (new ≡ nobody)
StepsOwn course now (Gone conn) Skipped old new = Unmoved old new (old.shut ≡ false)
StepsOwn course now (Gone conn) OutOfMemory old new = ⊥
StepsOwn course now e OutOfMemory old new = Refused now old new
StepsOwn course now e a old new = ⊥

-- one connection does so, and no other changes
pub record OneSteps (conn : ℕ) (Does : ConnView → ConnView → Type 0)
    (old new : ℕ → ConnView) : Type 0 where
  pub own : Does (old conn) (new conn)
  pub others : (c : ℕ) → c ≢ conn → new c ≡ old c

-- no moment is later than the last second of the year 9999
unfoldable pub kept_moment : ℕ → ℕ
kept_moment moment = min moment 253402300799

-- what the clock's telling does to a connection: it is given up where its moment has come, and
-- stays as it is elsewhere
pub data Ticked (now : ℕ) (old new : ConnView) : Type 0 where
  GivesUp : (due : ℕ) → old.course.timed ≡ true → old.deadline ≡ Some due → due ≤ now →
      Stopped (stop.Deadline due now) old new [] → Ticked now old new
  Waits : ((due : ℕ) → old.deadline ≡ Some due → now < due) → new ≡ old → Ticked now old new

-- what a step does to all connections
abbrev pub Steps : (Addr → Addr → Course) → Start → Event → StepAnswer → (ℕ → ConnView) →
    (ℕ → ConnView) → Type 0
Steps fresh now (Opened conn local peer) a old new = OneSteps conn
    (StepsOwn (fresh local peer) now (Opened conn local peer) a) old new
Steps fresh now (Arrived conn bytes) a old new = OneSteps conn
    (StepsOwn nobody.course now (Arrived conn bytes) a) old new
Steps fresh now (Ended conn) a old new = OneSteps conn
    (StepsOwn nobody.course now (Ended conn) a) old new
Steps fresh now (Wrote conn count) a old new = OneSteps conn
    (StepsOwn nobody.course now (Wrote conn count) a) old new
Steps fresh now (LinkFailed conn) a old new = OneSteps conn
    (StepsOwn nobody.course now (LinkFailed conn) a) old new
Steps fresh now (FileDone conn node answer) a old new = OneSteps conn
    (StepsOwn nobody.course now (FileDone conn node answer) a) old new
Steps fresh now (JobFailed conn node) a old new = OneSteps conn
    (StepsOwn nobody.course now (JobFailed conn node) a) old new
Steps fresh now (Run conn node) a old new = OneSteps conn
    (StepsOwn nobody.course now (Run conn node) a) old new
Steps fresh now (Gone conn) a old new = OneSteps conn
    (StepsOwn nobody.course now (Gone conn) a) old new
Steps fresh now (Tick moment) (Done taken) old new = (c : ℕ) →
    Ticked (kept_moment moment) (old c) (new c)
Steps fresh now (Tick moment) Skipped old new = ⊥
Steps fresh now (Tick moment) OutOfMemory old new = ⊥
Steps fresh now (Tree to) (Done taken) old new = (now.tree < to) × ((c : ℕ) → new c ≡ old c)
Steps fresh now (Tree to) Skipped old new = (to ≤ now.tree) × ((c : ℕ) → new c ≡ old c)
Steps fresh now (Tree to) OutOfMemory old new = ⊥

-- when a request starts that is started after an event
abbrev pub now_after : Start → Event → StepAnswer → Start
now_after now (Tick moment) (Done taken) = record { moment = kept_moment moment; tree = now.tree }
now_after now (Tree to) (Done taken) = record { moment = now.moment; tree = to }
now_after now e a = now

-- whether the input of a connection has ended after an event: its own end ends it, and nothing else
-- does
abbrev pub ended_after : Event → StepAnswer → ℕ → Bool → Bool
ended_after (Ended conn) (Done taken) c ended = if c == conn then true else ended
ended_after (Gone conn) (Done taken) c ended = if c == conn then false else ended
ended_after e a c ended = ended

-- one more connection is held after an opening that was done, and one fewer after a closing
abbrev pub CountsHeld : Event → StepAnswer → ℕ → ℕ → Type 0
CountsHeld (Opened conn local peer) (Done taken) old new = new ≡ old + 1
CountsHeld (Gone conn) (Done taken) old new = old ≡ new + 1
CountsHeld e a old new = new ≡ old

-- bytes are taken by an arrival, and by nothing else
abbrev pub TakesNone : Event → StepAnswer → Type 0
TakesNone (Arrived conn bytes) a = Unit {0}
TakesNone e (Done taken) = taken ≡ 0
TakesNone e Skipped = Unit {0}
TakesNone e OutOfMemory = Unit {0}

-- an opening is done or refused only where a connection of this number can be opened at this end,
-- and is skipped only where none can
abbrev pub OpensIf : (ℕ → Addr → Bool) → Event → StepAnswer → Type 0
OpensIf opens (Opened conn local peer) Skipped = opens conn local ≡ false
OpensIf opens (Opened conn local peer) a = opens conn local ≡ true
OpensIf opens e a = Unit {0}

-- Each event that was done or refused lowers what is left to do, but for an opening, bytes that
-- arrive, which raise it by their price at most, an end and what tells the time or the tree, which
-- don't raise it.
abbrev pub LeftBy : ℕ → Event → StepAnswer → ℕ → ℕ → Type 0
LeftBy price e Skipped old new = new ≡ old
LeftBy price (Opened conn local peer) OutOfMemory old new = new ≡ old
LeftBy price (Opened conn local peer) (Done taken) old new = new ≤ old + price
LeftBy price (Arrived conn bytes) (Done taken) old new = new ≤ old + price * taken
LeftBy price (Ended conn) (Done taken) old new = new ≤ old
LeftBy price (Tick moment) (Done taken) old new = new ≤ old
LeftBy price (Tree to) (Done taken) old new = new ≤ old
LeftBy price e a old new = new < old

-- each refused event raises the count of the refused, and nothing else does
abbrev pub CountsRefused : Event → StepAnswer → ℕ → ℕ → Type 0
CountsRefused e OutOfMemory old new = Rose old new
CountsRefused e a old new = new ≡ old

-- What is so of each connection that a core shows.
pub record IsSound (v : ConnView) : Type 0 where
  -- one that isn't live has nothing to do
  pub unsent : is_live v ≡ false → v.pending ≡ []
  pub unready : is_live v ≡ false → v.ready ≡ []
  pub unasked : is_live v ≡ false → v.jobs ≡ []
  pub unread : is_live v ≡ false → v.room ≡ None
  pub untimed : is_live v ≡ false → v.deadline ≡ None
  -- one that was stopped is to be closed, one that isn't held is nothing
  pub stopped : (cause : StopCause) → v.held ≡ true → v.cause ≡ Some cause → v.shut ≡ true
  pub absent : v.held ≡ false → v ≡ nobody
  -- there is room for a byte where it reads
  pub roomy : (room : ℕ) → v.room ≡ Some room → 0 < room
  -- none reads after the end of its input, and an idle one that isn't to be closed reads
  pub silent : v.ended ≡ true → v.room ≡ None
  pub reads : is_idle v ≡ true → v.shut ≡ false → v.room ≢ None
  -- an idle one has nothing more to come, all its responses are logged, and a live one that is to
  -- be closed has nothing more to come either; where its input hasn't ended, nothing comes whatever
  -- arrives
  pub idle : is_idle v ≡ true → (trees : Trees) (later : List Start) →
      v.course.bytes trees [] later ≡ []
  pub logged : is_idle v ≡ true → (trees : Trees) (later : List Start) →
      v.logs ≡ map (λ l. Some l) (v.course.logs trees [] later)
  pub shut : is_live v ≡ true → v.shut ≡ true → (trees : Trees) (later : List Start) →
      v.course.bytes trees [] later ≡ []
  -- an idle one is to be closed exactly where its input has ended or its answers end it
  pub shuts : is_idle v ≡ true → (trees : Trees) (later : List Start) →
      v.shut ≡ (v.ended || v.course.closes trees [] later)
  pub closes : is_live v ≡ true → v.shut ≡ true → v.ended ≡ false →
      (trees : Trees) (more : List ℕ) (later : List Start) → v.course.bytes trees more later ≡ []
