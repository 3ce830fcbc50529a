-- What a run tells of itself where it can: the events that a core was given, and what its links and
-- files answered.
use Rattle.std.specs.Prelude.{◌≡◌, ◌==◌, if◌then◌else◌, ℕ, Bool, true, false, List, [], ◌∷◌, ◌++◌, take, Option, Some, Result, Ok, Err}
use Rattle.http_types.specs.declared.words.Addr.{Addr}
use Rattle.file_tree.specs.declared.job.Node.{Node}
use Rattle.file_tree.specs.declared.job.JobAnswer.{JobAnswer}
use Rattle.file_tree.specs.declared.job.JobAnswer.TheVariants as answer
use Rattle.ngx_outside.specs.declared.event.Event.{Event}
use Rattle.ngx_outside.specs.declared.event.Event.TheVariants as ev
use Rattle.ngx_outside.specs.declared.files.Look.{Look}
use Rattle.ngx_outside.specs.declared.links.Notice.{Notice}
use Rattle.ngx_outside.specs.declared.links.Notice.TheVariants as notice
use Rattle.ngx_outside.specs.declared.links.Input.{Input}
use Rattle.ngx_outside.specs.declared.links.Input.TheVariants as input
use Rattle.ngx_outside.specs.declared.links.Output.{Output}
use Rattle.ngx_outside.specs.declared.links.Output.TheVariants as output

-- A list that is told after a call was told before it, and is longer by this. One that has no room
-- for the next isn't told from then on.
abbrev pub Adds : {A : Type 0} → A → Option (List A) → Option (List A) → Type 0
Adds {A} a old new = (later : List A) → new ≡ Some later → (earlier : List A) ×
    (old ≡ Some earlier) × (later ≡ earlier ++ a ∷ [])

-- what a file job was answered
pub data FileAnswer : Type 0 where
  Stat : (node : Node) → FileAnswer
  Bytes : (bytes : List ℕ) → FileAnswer
  Failed : FileAnswer

-- bytes of a file that came with a stat aren't told
abbrev pub answer_of : JobAnswer → FileAnswer
answer_of (answer.Stat node text) = Stat node
answer_of (answer.Read bytes) = Bytes bytes.now

-- an event, with its bytes as they were given
pub data Given : Type 0 where
  Opened : (conn : ℕ) → (local peer : Addr) → Given
  Arrived : (conn : ℕ) → (bytes : List ℕ) → Given
  Ended : (conn : ℕ) → Given
  Wrote : (conn count : ℕ) → Given
  LinkFailed : (conn : ℕ) → Given
  Answered : (conn node : ℕ) → (answer : FileAnswer) → Given
  Run : (conn node : ℕ) → Given
  Tick : (moment : ℕ) → Given
  Tree : (to : ℕ) → Given
  Gone : (conn : ℕ) → Given

abbrev pub given_of : Event → Given
given_of (ev.Opened conn local peer) = Opened conn local peer
given_of (ev.Arrived conn bytes) = Arrived conn bytes.now
given_of (ev.Ended conn) = Ended conn
given_of (ev.Wrote conn count) = Wrote conn count
given_of (ev.LinkFailed conn) = LinkFailed conn
given_of (ev.FileDone conn node answer) = Answered conn node (answer_of answer)
given_of (ev.JobFailed conn node) = Answered conn node Failed
given_of (ev.Run conn node) = Run conn node
given_of (ev.Tick moment) = Tick moment
given_of (ev.Tree to) = Tree to
given_of (ev.Gone conn) = Gone conn

-- what links answered: a notice, the outcome of a read with the bytes that were got, the outcome of
-- a write
pub data LinkAnswer : Type 0 where
  Noticed : (notice : Notice) → LinkAnswer
  Read : (id : ℕ) → (input : Input) → (bytes : List ℕ) → LinkAnswer
  Written : (id : ℕ) → (output : Output) → LinkAnswer

-- the bytes that a read got are a front of the buffer
abbrev pub got_of : Input → List ℕ → List ℕ
got_of (input.Got count) buf = take count buf
got_of input.NotYet buf = []
got_of input.End buf = []
got_of input.Failed buf = []

-- the events that are beside an answer of the links
abbrev pub beside_link : LinkAnswer → List Given
beside_link (Noticed (notice.Opened id local peer)) = Opened id local peer ∷ []
beside_link (Noticed (notice.Readable id)) = []
beside_link (Noticed (notice.Writable id)) = []
beside_link (Noticed notice.Nothing) = []
beside_link (Noticed notice.Ended) = []
beside_link (Noticed notice.Failed) = []
beside_link (Read id (input.Got count) bytes) = Arrived id bytes ∷ []
beside_link (Read id input.NotYet bytes) = []
beside_link (Read id input.End bytes) = Ended id ∷ []
beside_link (Read id input.Failed bytes) = LinkFailed id ∷ []
beside_link (Written id (output.Put count)) =
    (if count == 0 then LinkFailed id else Wrote id count) ∷ []
beside_link (Written id output.NotYet) = []
beside_link (Written id output.Failed) = LinkFailed id ∷ []

-- the events of a core that come of its links, those that come of its files, and those that come of
-- its clock
abbrev pub of_links : Given → Bool
of_links (Opened conn local peer) = true
of_links (Arrived conn bytes) = true
of_links (Ended conn) = true
of_links (Wrote conn count) = true
of_links (LinkFailed conn) = true
of_links (Answered conn node answer) = false
of_links (Run conn node) = false
of_links (Tick moment) = false
of_links (Tree to) = false
of_links (Gone conn) = false

abbrev pub of_files : Given → List FileAnswer
of_files (Answered conn node answer) = answer ∷ []
of_files (Opened conn local peer) = []
of_files (Arrived conn bytes) = []
of_files (Ended conn) = []
of_files (Wrote conn count) = []
of_files (LinkFailed conn) = []
of_files (Run conn node) = []
of_files (Tick moment) = []
of_files (Tree to) = []
of_files (Gone conn) = []

abbrev pub of_clock : Given → List ℕ
of_clock (Tick moment) = moment ∷ []
of_clock (Opened conn local peer) = []
of_clock (Arrived conn bytes) = []
of_clock (Ended conn) = []
of_clock (Wrote conn count) = []
of_clock (LinkFailed conn) = []
of_clock (Answered conn node answer) = []
of_clock (Run conn node) = []
of_clock (Tree to) = []
of_clock (Gone conn) = []

-- what a stat or a read of a file answered
abbrev pub stat_answer : {E : Type 0} → Result Node E → FileAnswer
stat_answer (Ok node) = Stat node
stat_answer (Err e) = Failed

abbrev pub look_answer : {E : Type 0} → Result Look E → FileAnswer
look_answer (Ok look) = Stat look.node
look_answer (Err e) = Failed

-- what a read of a file answered that lends this block
abbrev pub block_answer : {E : Type 0} → List ℕ → Result (Unit {0}) E → FileAnswer
block_answer block (Ok u) = Bytes block
block_answer block (Err e) = Failed

-- A read that added bytes is told with these. One that added none is told too: with the bytes that
-- the files had, where there was no room for them.
abbrev pub ReadTold : {E : Type 0} → List ℕ → List ℕ → Result (Unit {0}) E →
    Option (List FileAnswer) → Option (List FileAnswer) → Type 0
ReadTold old new (Ok u) before after = (added : List ℕ) → new ≡ old ++ added →
    Adds (Bytes added) before after
ReadTold old new (Err e) before after = (answer : FileAnswer) × Adds answer before after
