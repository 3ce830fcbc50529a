-- A job that asks for a block of a file, and what comes of its answer.
use Rattle.std.specs.Borrow.{Bor}
use Rattle.std.proofs.Common.{◌≡◌, ◌==◌, ℕ, ◌<◌, Bool, true, List, [], length, Option, None, Some, refl, arith}
use Rattle.std.proofs.lemmas.Bool.Decides.{nat_tests}
use Rattle.file_tree.specs.Tree.{Tree, is_fitting}
use Rattle.file_tree.specs.declared.job.Ask.{Ask}
use Rattle.file_tree.specs.declared.job.Ask.TheVariants as asks
use Rattle.file_tree.specs.declared.job.JobAnswer.TheVariants as answer
use Rattle.ngx_outside.specs.Causes.{Rose}
use Rattle.ngx_outside.specs.Records.{FileAnswer}
use Rattle.ngx_outside.specs.Seen.{CoreSeen}
use Rattle.ngx_outside.specs.Stepped.{Brought, IsReading}
use Rattle.ngx_outside.specs.Views.{ConnView, Start, Ground, Answers, ask_in, nobody}
use Rattle.ngx_outside.specs.declared.event.StepAnswer.{StepAnswer}
use Rattle.link_service.specs.Blocks.{BlockGiven}
use Rattle.link_service.specs.Passing.{Passed, Goes, Stops, Counts}
use Rattle.link_service.specs.Seen.{Elsewhere}
use Rattle.link_service.proofs.AccountLemmas.{live_held}
use Rattle.link_service.proofs.EventLemmas.{Does, file_done_own}

-- a job that asks for a block of a file
pub record Asked (job : Option Ask) : Type 0 where
  pub path : List ℕ
  pub start : ℕ
  pub count : ℕ
  pub of : ℕ
  pub is : job ≡ Some (asks.Read path start count of)

pub reading_asks : (job : Option Ask) → IsReading job → Asked job
reading_asks None h = absurd h
reading_asks (Some (asks.Stat path of)) h = absurd h
reading_asks (Some (asks.Read path start count of)) h = record { path = path; start = start; count = count; of = of; is = refl }

-- a block of the length that is asked for is an answer
block_fits : (path : List ℕ) (start count of : ℕ) (block : Bor (List ℕ)) → length block.now ≡ count → is_fitting (asks.Read path start count of) (answer.Read block) ≡ true
block_fits path start count of block e = same_tests (length block.now) count e
  where
    same_tests : (a b : ℕ) → a ≡ b → (a == b) ≡ true
    same_tests a b h = grind (arith, nat_tests)

-- what the event of such an answer did
brought_does : (tells : Bool) (tree : Tree) (path : List ℕ) (start count of conn node : ℕ) (answers answers' : Option (List FileAnswer)) (old new : CoreSeen) (a : StepAnswer) →
    ask_in (old.view conn).jobs node ≡ Some (asks.Read path start count of) → (b : Brought tells tree path start count conn node answers answers' old new a) →
    Does (Passed old.now (Answers (asks.Read path start count of) (answer.Read b.block)) ⊥ ⊥ (Rose old.refused new.refused) (old.view conn) (new.view conn) [] []) old.left new.left old.refused new.refused
brought_does tells tree path start count of conn node answers answers' old new a waits b =
    file_done_own nobody.course old.now conn node (answer.Read b.block) a (old.view conn) (new.view conn) old.terms.price old.left new.left old.refused new.refused
    (asks.Read path start count of) waits (block_fits path start count of b.block b.exact) b.step.left b.step.refused b.step.steps.own

pub brought_given : (tells : Bool) (tree : Tree) (path : List ℕ) (start count of conn node : ℕ) (answers answers' : Option (List FileAnswer)) (old new : CoreSeen) (a : StepAnswer) →
    ask_in (old.view conn).jobs node ≡ Some (asks.Read path start count of) → Brought tells tree path start count conn node answers answers' old new a →
    BlockGiven tells tree path start count of conn node answers answers' old new
brought_given tells tree path start count of conn node answers answers' old new a waits b = record {
  block = b.block;
  exact = b.exact;
  holds = b.holds;
  told = b.told;
  passed = (let d = brought_does tells tree path start count of conn node answers answers' old new a waits b in d.does);
  given = b.step.events;
}

-- the connection is held after it
pub given_held : (tells : Bool) (tree : Tree) (path : List ℕ) (start count of conn node : ℕ) (answers answers' : Option (List FileAnswer)) (old new : CoreSeen) → BlockGiven tells tree path start count of conn node answers answers' old new → (new.view conn).held ≡ true
given_held tells tree path start count of conn node answers answers' old new b = passed_held b.passed
  where
    passed_held : {now : Start} {ground : Ground} {L F R : Type 0} {v v' : ConnView} {came went : List ℕ} → Passed now ground L F R v v' came went → v'.held ≡ true
    passed_held {v' = v'} (Goes started is w) = live_held v' w.after
    passed_held (Stops cause started is why none s) = s.held

-- and what it left elsewhere
pub record Left (conn : ℕ) (old new : CoreSeen) : Type 0 where
  pub ended : (new.view conn).ended ≡ (old.view conn).ended
  pub others : Elsewhere conn old.view new.view
  pub left : new.left < old.left
  pub steady : (new.terms ≡ old.terms) × (new.now ≡ old.now) × (length new.conns ≡ length old.conns)
  pub counts : Counts old.refused new.refused

pub brought_left : (tells : Bool) (tree : Tree) (path : List ℕ) (start count of conn node : ℕ) (answers answers' : Option (List FileAnswer)) (old new : CoreSeen) (a : StepAnswer) →
    ask_in (old.view conn).jobs node ≡ Some (asks.Read path start count of) → Brought tells tree path start count conn node answers answers' old new a → Left conn old new
brought_left tells tree path start count of conn node answers answers' old new a waits b =
    let d = brought_does tells tree path start count of conn node answers answers' old new a waits b in
    record {
      ended = b.step.ended conn;
      others = b.step.steps.others;
      left = d.left;
      steady = (b.step.steady, b.step.now, b.step.held);
      counts = d.counts;
    }
