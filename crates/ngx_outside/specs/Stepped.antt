-- What an event did to a core, told as a whole, and a block of a file that a core was given as it was read.
use Rattle.std.specs.Borrow.{Bor}
use Rattle.std.specs.Prelude.{◌≡◌, ℕ, Bool, true, List, length, Option, None, Some}
use Rattle.file_tree.specs.Tree.{Tree, HoldsBytes}
use Rattle.file_tree.specs.declared.job.Ask.{Ask}
use Rattle.file_tree.specs.declared.job.Ask.TheVariants as asks
use Rattle.file_tree.specs.declared.job.JobAnswer.TheVariants.{Read}
use Rattle.ngx_outside.specs.Records.{Adds, FileAnswer, Bytes, given_of}
use Rattle.ngx_outside.specs.Seen.{CoreSeen, opens_at}
use Rattle.ngx_outside.specs.Views.{Steps, OpensIf, LeftBy, CountsRefused, CountsHeld, TakesNone, now_after, ended_after}
use Rattle.ngx_outside.specs.declared.event.Event.{Event}
use Rattle.ngx_outside.specs.declared.event.Event.TheVariants.{FileDone}
use Rattle.ngx_outside.specs.declared.event.StepAnswer.{StepAnswer}

-- an event was given, and this came of it
pub record Stepped (old new : CoreSeen) (event : Event) (answer : StepAnswer) : Type 0 where
  pub steps : Steps old.terms.fresh old.now event answer old.view new.view
  pub opens : OpensIf (opens_at old) event answer
  pub held : CountsHeld event answer (length old.conns) (length new.conns)
  pub ended : (c : ℕ) → (new.view c).ended ≡ ended_after event answer c (old.view c).ended
  pub taken : TakesNone event answer
  pub now : new.now ≡ now_after old.now event answer
  pub left : LeftBy old.terms.price event answer old.left new.left
  pub refused : CountsRefused event answer old.refused new.refused
  pub events : Adds (given_of event) old.events new.events
  pub steady : new.terms ≡ old.terms

-- A job was answered by the bytes that a file has, exactly `count` of them, as the files told them.
pub record Brought (tells : Bool) (tree : Tree) (path : List ℕ) (start count conn node : ℕ)
    (answers answers' : Option (List FileAnswer)) (old new : CoreSeen)
    (answer : StepAnswer) : Type 0 where
  pub block : Bor (List ℕ)
  pub exact : length block.now ≡ count
  pub holds : tells ≡ true → HoldsBytes (tree path) start count block.now
  pub told : Adds (Bytes block.now) answers answers'
  pub step : Stepped old new (FileDone conn node (Read block)) answer

-- a job asks for a block of a file
abbrev pub IsReading : Option Ask → Type 0
IsReading None = ⊥
IsReading (Some (asks.Stat path of)) = ⊥
IsReading (Some (asks.Read path start count of)) = Unit {0}
