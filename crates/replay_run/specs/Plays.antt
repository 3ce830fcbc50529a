-- What the lines of a script do, one after another.
use Rattle.std.specs.Prelude.{◌≡◌, ℕ, ◌==◌, List, [], ◌∷◌, ◌++◌, Contains, Some, ◌⊎◌, if◌then◌else◌}
use Rattle.http_types.specs.declared.words.Addr.{Addr}
use Rattle.ngx_outside.specs.Seen.{Terms}
use Rattle.ngx_outside.specs.Views.{Course}
use Rattle.ngx_outside.specs.declared.event.Event.TheVariants as ev
use Rattle.ngx_outside.specs.declared.event.StepAnswer.{StepAnswer}
use Rattle.ngx_outside.specs.declared.event.StepAnswer.TheVariants.{Done, Skipped, OutOfMemory}
use Rattle.replay_text.specs.declared.parts.EventLine.{EventLine}
use Rattle.replay_text.specs.declared.parts.EventLine.TheVariants as line
use Rattle.replay_run.specs.declared.lane.LinkEnds.{LinkEnds}
use Rattle.replay_run.specs.Told.{Told, told_after, next_number}
use Rattle.replay_run.specs.Scene.{Lane, Stage, Plain, Openable, OpensLine, SendsLine, EndsLine, WritesLine, JobLine, Drains}

-- the files' newest tree has the next number from now on
abbrev pub ChangesTree : (Addr → Addr → Course) → Told → StepAnswer → Stage → Stage → Type 0
ChangesTree fresh told a old new = Plain fresh (ev.Tree (next_number told.newest)) a old new

-- What a line does, where the files tell so, and what became of its step.
abbrev pub LineDoes : Terms → Told → EventLine → StepAnswer → Stage → Stage → Type 0
LineDoes terms told (line.Open conn local peer) a old new =
    OpensLine terms.fresh conn (record { local = local; peer = peer }) a old new ×
    Openable terms conn (record { local = local; peer = peer }) a old.view
LineDoes terms told (line.Bytes conn bytes) a old new = SendsLine terms.fresh conn bytes a old new
LineDoes terms told (line.End conn) a old new = EndsLine terms.fresh conn a old new
LineDoes terms told (line.Room conn count) a old new = WritesLine terms.fresh conn count a old new
LineDoes terms told (line.File conn node) a old new = JobLine terms.fresh told conn node a old new
LineDoes terms told (line.FileFails conn node) a old new = Plain terms.fresh
    (ev.JobFailed conn node) a old new
LineDoes terms told (line.Run conn node) a old new = Plain terms.fresh (ev.Run conn node) a old new
LineDoes terms told (line.Tick now) a old new = Plain terms.fresh (ev.Tick now) a old new
LineDoes terms told (line.Tree change) a old new = ChangesTree terms.fresh told a old new
LineDoes terms told (line.TreeGone path) a old new = ChangesTree terms.fresh told a old new
LineDoes terms told line.Drain a old new = (a ≡ Done 0) × Drains terms.fresh told old new

-- a line whose step was refused counts as refused, else one that made no step counts as skipped
abbrev pub skipped_after : StepAnswer → ℕ → ℕ
skipped_after (Done taken) n = n
skipped_after Skipped n = next_number n
skipped_after OutOfMemory n = n

abbrev pub refused_after : StepAnswer → ℕ → ℕ
refused_after (Done taken) n = n
refused_after Skipped n = n
refused_after OutOfMemory n = next_number n

-- the lines are run one after another, each where the files tell what those before it came to
pub data Plays (terms : Terms) : List EventLine → Told → Stage → ℕ → ℕ → Stage → ℕ → ℕ →
    Type 0 where
  Over : (told : Told) (s : Stage) (skipped refused : ℕ) →
      Plays terms [] told s skipped refused s skipped refused
  Line : (l : EventLine) (lines : List EventLine) (a : StepAnswer) (told : Told)
      (old mid new : Stage) (skipped refused skipped' refused' : ℕ) →
      LineDoes terms told l a old mid →
      Plays terms lines (told_after l told) mid (skipped_after a skipped)
      (refused_after a refused) new skipped' refused' →
      Plays terms (l ∷ lines) told old skipped refused new skipped' refused'

-- the bytes that a line sends on a connection
abbrev pub sent_by : EventLine → ℕ → List ℕ
sent_by (line.Bytes conn bytes) c = if conn == c then bytes else []
sent_by l c = []

-- all that the lines send on it
abbrev pub sent_in : List EventLine → ℕ → List ℕ
sent_in [] c = []
sent_in (l ∷ lines) c = sent_by l c ++ sent_in lines c

-- the ends of each connection are those that it had before, or those of a line that opens it
abbrev pub AreOpenedBy : List EventLine → (ℕ → Lane) → (ℕ → Lane) → Type 0
AreOpenedBy lines old new = (c : ℕ) (ends : LinkEnds) → (new c).ends ≡ Some ends →
    ((old c).ends ≡ Some ends) ⊎ Contains lines (line.Open c ends.local ends.peer)
