-- A block of a file that a connection was given as it was read.
use Rattle.std.specs.Borrow.{Bor}
use Rattle.std.specs.Prelude.{◌≡◌, ℕ, ◌≤◌, Bool, true, List, length, Option, None, Some}
use Rattle.file_tree.specs.Tree.{Tree, HoldsBytes, tree_of}
use Rattle.file_tree.specs.declared.job.Ask.{Ask}
use Rattle.file_tree.specs.declared.job.JobAnswer.TheVariants.{Read}
use Rattle.ngx_outside.specs.Records.{Adds, FileAnswer, Bytes}
use Rattle.ngx_outside.specs.Views.{Start}
use Rattle.ngx_outside.specs.declared.event.Event.TheVariants.{FileDone}
use Rattle.ngx_outside.specs.declared.event.StepAnswer.{StepAnswer}
use Rattle.http_connection.specs.Conn.{StepsConn, TimesConn}
use Rattle.http_connection.specs.Rests.{Serves}
use Rattle.http_connection.specs.declared.conn.Conn.{Conn}

-- a job, if there is one, asks of a tree with no higher number
abbrev pub AsksWithin : (newest : ℕ) → Option Ask → Type 0
AsksWithin newest None = Unit {0}
AsksWithin newest (Some job) = tree_of job ≤ newest

-- A job was answered by the bytes that a file has, exactly `count` of them, as the files told them.
pub record BroughtConn (tells : Bool) (tree : Tree) (path : List ℕ) (start count node : ℕ)
    (answers answers' : Option (List FileAnswer)) (moment : ℕ) (old new : Conn)
    (answer : StepAnswer) : Type 0 where
  pub block : Bor (List ℕ)
  pub exact : length block.now ≡ count
  pub holds : tells ≡ true → HoldsBytes (tree path) start count block.now
  pub told : Adds (Bytes block.now) answers answers'
  pub steps : (x : Serves) (now : Start) (conn : ℕ) →
      StepsConn x now (FileDone conn node (Read block)) answer old new
  pub times : (x : Serves) (now : Start) (conn : ℕ) → now.moment ≡ moment →
      TimesConn x now (FileDone conn node (Read block)) answer old new
