-- What it does to a core that a job is answered by a block of a file.
use Rattle.std.specs.Borrow.{Bor}
use Rattle.std.specs.Prelude.{◌≡◌, ℕ, Bool, true, List, [], length, Option}
use Rattle.file_tree.specs.Tree.{Tree, HoldsBytes}
use Rattle.file_tree.specs.declared.job.Ask.TheVariants as asks
use Rattle.file_tree.specs.declared.job.JobAnswer.TheVariants as answer
use Rattle.ngx_outside.specs.Causes.{Rose}
use Rattle.ngx_outside.specs.Records.{Adds, FileAnswer, Bytes, Answered as AnsweredGiven, answer_of}
use Rattle.ngx_outside.specs.Seen.{CoreSeen}
use Rattle.ngx_outside.specs.Views.{Answers}
use Rattle.link_service.specs.Passing.{Passed}

-- A node's job that asks for a block of a file was answered by the bytes that the file has, exactly
-- `count` of them: the files told them, and the core was given them.
pub record BlockGiven (tells : Bool) (tree : Tree) (path : List ℕ) (start count of conn node : ℕ)
    (answers answers' : Option (List FileAnswer)) (old new : CoreSeen) : Type 0 where
  pub block : Bor (List ℕ)
  pub exact : length block.now ≡ count
  pub holds : tells ≡ true → HoldsBytes (tree path) start count block.now
  pub told : Adds (Bytes block.now) answers answers'
  pub passed : Passed old.now (Answers (asks.Read path start count of) (answer.Read block)) ⊥ ⊥
      (Rose old.refused new.refused) (old.view conn) (new.view conn) [] []
  pub given : Adds (AnsweredGiven conn node (answer_of (answer.Read block))) old.events new.events
