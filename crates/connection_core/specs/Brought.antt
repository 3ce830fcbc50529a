-- A block of a file that a connection among those that are held was given as it was read.
use Rattle.std.specs.Borrow.{Bor}
use Rattle.std.specs.Prelude.{◌≡◌, ℕ, Bool, true, List, length, Option}
use Rattle.file_tree.specs.Tree.{Tree, HoldsBytes}
use Rattle.file_tree.specs.declared.job.JobAnswer.TheVariants.{Read}
use Rattle.ngx_outside.specs.Records.{Adds, FileAnswer, Bytes}
use Rattle.ngx_outside.specs.Views.{Start, StepsOwn, OneSteps, LeftBy, TakesNone, nobody}
use Rattle.ngx_outside.specs.declared.event.Event.TheVariants.{FileDone}
use Rattle.ngx_outside.specs.declared.event.StepAnswer.{StepAnswer}
use Rattle.http_connection.specs.Conn.{ended_by}
use Rattle.http_connection.specs.Rests.{Serves, TellsRaceless}
use Rattle.http_connection.specs.declared.conn.Conn.{Conn}
use Rattle.connection_core.specs.Table.{view_in, left_in, price_each, AllReached}

-- A job was answered by the bytes that a file has, exactly `count` of them, as the files told them.
pub record BroughtIn (tells : Bool) (tree : Tree) (path : List ℕ) (start count conn node : ℕ)
    (answers answers' : Option (List FileAnswer)) (x x' : Serves) (ids ids' : List ℕ)
    (conns conns' : List Conn) (answer : StepAnswer) : Type 0 where
  pub block : Bor (List ℕ)
  pub exact : length block.now ≡ count
  pub holds : tells ≡ true → HoldsBytes (tree path) start count block.now
  pub told : Adds (Bytes block.now) answers answers'
  pub steps : (now : Start) → TellsRaceless x → AllReached x conns →
      OneSteps conn (StepsOwn nobody.course now (FileDone conn node (Read block)) answer)
      (view_in x ids conns) (view_in x' ids' conns')
  pub left : LeftBy price_each (FileDone conn node (Read block)) answer (left_in conns)
      (left_in conns')
  pub ended : (view_in x' ids' conns' conn).ended ≡
      ended_by (FileDone conn node (Read block)) answer (view_in x ids conns conn).ended
  pub taken : TakesNone (FileDone conn node (Read block)) answer
