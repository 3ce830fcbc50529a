-- What an event that comes of a link, a file or the clock does to its connection.
use Rattle.std.specs.Prelude.{◌≡◌, ◌⊎◌, ℕ, ◌≤◌, true, List, [], ◌++◌, None, false}
use Rattle.file_tree.specs.Tree.{Trees}
use Rattle.ngx_outside.specs.Causes.{Rose}
use Rattle.ngx_outside.specs.Views.{ConnView, Start, Ground, IsStart, Went, Stopped, is_live}
use Rattle.ngx_outside.specs.declared.links.Input.{Input}
use Rattle.ngx_outside.specs.declared.links.Input.TheVariants as input
use Rattle.ngx_outside.specs.declared.event.StopCause.{StopCause}
use Rattle.ngx_outside.specs.declared.event.StopCause.TheVariants as stop

-- What a cause comes of: the link failed, the files failed, an event was refused, a request asked
-- for too many subrequests, or the moment had come of a connection that may be given up.
abbrev pub Behind : (link files refused heavy timed : Type 0) → StopCause → Type 0
Behind link files refused heavy timed stop.LinkFault = link
Behind link files refused heavy timed stop.FileFault = files
Behind link files refused heavy timed stop.Memory = refused
Behind link files refused heavy timed (stop.SubLimit started) = heavy
Behind link files refused heavy timed (stop.Deadline due now) = timed × (due ≤ now)

-- where the order of steps can't change the bytes, too many subrequests were foreseen
abbrev pub Foreseen : ConnView → List Start → Type 0
Foreseen v started = v.raceless ≡ true → (trees : Trees) (more : List ℕ) (later : List Start) →
    v.course.heavy trees more (started ++ later) ≡ true

-- Such an event goes on by a ground, or stops its connection for a cause that comes of this.
pub data Passed (now : Start) (ground : Ground) (link files refused : Type 0) (old new : ConnView)
    (came went : List ℕ) : Type 0 where
  Goes : (started : List Start) → IsStart now started → Went ground old new came went started →
      Passed now ground link files refused old new came went
  Stops : (cause : StopCause) (started : List Start) → IsStart now started →
      Behind link files refused (Foreseen old started) (old.course.timed ≡ true) cause → went ≡ [] →
      Stopped cause old new started →
      Passed now ground link files refused old new came went

-- a count of refused events stays the same or rises
abbrev pub Counts : ℕ → ℕ → Type 0
Counts old new = (new ≡ old) ⊎ Rose old new

-- what the core shows of a connection once it was told what a read gave
abbrev pub IsInput : Input → ConnView → ConnView → Type 0
IsInput (input.Got count) old new = Unit {0}
IsInput input.NotYet old new = new ≡ old
IsInput input.End old new = new.room ≡ None
IsInput input.Failed old new = is_live new ≡ false
