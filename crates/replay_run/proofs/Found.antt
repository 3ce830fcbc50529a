-- What the files found is an answer to the job, and answering it lowers the work that is left.
use Rattle.std.proofs.Common.{◌≡◌, ℕ, ◌<◌, Bool, true, false, List, [], length, None, Some, refl, sym, ap, ◌∙◌, subst, arith, Bor}
use Rattle.std.proofs.lemmas.Bool.Decides.{nat_tests}
use Rattle.file_tree.specs.Tree.{Trees, HoldsBytes, IsFrom, is_fitting}
use Rattle.file_tree.specs.declared.job.Ask.{Ask}
use Rattle.file_tree.specs.declared.job.Ask.TheVariants as ask
use Rattle.file_tree.specs.declared.job.Node.{Node}
use Rattle.file_tree.specs.declared.job.JobAnswer.{JobAnswer}
use Rattle.file_tree.specs.declared.job.JobAnswer.TheVariants as answer
use Rattle.ngx_outside.specs.Views.{ConnView, Course, Start, StepsOwn, LeftBy, ask_in}
use Rattle.ngx_outside.specs.declared.event.Event.TheVariants as ev
use Rattle.ngx_outside.specs.declared.event.StepAnswer.{StepAnswer}
use Rattle.ngx_outside.specs.declared.event.StepAnswer.TheVariants.{Done, Skipped, OutOfMemory}
use Rattle.replay_run.specs.declared.jobs.JobResult.TheVariants as found
use Rattle.replay_run.specs.Scene.{IsFound}

pub node_from : (trees : Trees) (a : Ask) (node : Node) (text : Bor (List ℕ)) (block : List ℕ) → text.now ≡ [] → IsFound trees a (found.Node node) block → IsFrom trees a (answer.Stat node text)
node_from trees (ask.Stat path of) node text block none f = (f, λ some. absurd (some none))
node_from trees (ask.Read path start count of) node text block none f = absurd f

pub node_fits : (trees : Trees) (a : Ask) (node : Node) (text : Bor (List ℕ)) (block : List ℕ) → IsFound trees a (found.Node node) block → is_fitting a (answer.Stat node text) ≡ true
node_fits trees (ask.Stat path of) node text block f = refl
node_fits trees (ask.Read path start count of) node text block f = absurd f

pub block_from : (trees : Trees) (a : Ask) (bytes : Bor (List ℕ)) (block : List ℕ) → bytes.now ≡ block → IsFound trees a found.Block block → IsFrom trees a (answer.Read bytes)
block_from trees (ask.Stat path of) bytes block e f = absurd f
block_from trees (ask.Read path start count of) bytes block e f = subst (λ b. HoldsBytes (trees of path) start count b) (sym e) f.0

pub block_fits : (trees : Trees) (a : Ask) (bytes : Bor (List ℕ)) (block : List ℕ) → bytes.now ≡ block → IsFound trees a found.Block block → is_fitting a (answer.Read bytes) ≡ true
block_fits trees (ask.Stat path of) bytes block e f = absurd f
block_fits trees (ask.Read path start count of) bytes block e f = let n : length bytes.now ≡ count = ap length e ∙ f.1 in grind (arith, nat_tests)

pub nothing_from : (trees : Trees) (a : Ask) (block : List ℕ) → IsFound trees a found.Nothing block → (given : JobAnswer) → ¬ IsFrom trees a given
nothing_from trees (ask.Stat path of) block f given = absurd f
nothing_from trees (ask.Read path start count of) block f (answer.Stat node text) = λ from. from
nothing_from trees (ask.Read path start count of) block f (answer.Read bytes) = f bytes.now

clash : {A : Type 0} (b : Bool) → b ≡ true → b ≡ false → A
clash true e f = cc
clash false e f = cc

pub done_falls : (course : Course) (now : Start) (price conn node : ℕ) (a : Ask) (given : JobAnswer) (r : StepAnswer) (old new : ConnView) (left left' : ℕ) → StepsOwn course now (ev.FileDone conn node given) r old new → LeftBy price (ev.FileDone conn node given) r left left' → ask_in old.jobs node ≡ Some a → is_fitting a given ≡ true → left' < left
done_falls course now price conn node a given (Done taken) old new left left' s l waits fits = l
done_falls course now price conn node a given Skipped old new left left' s l waits fits = clash (is_fitting a given) fits (s.cause a waits)
done_falls course now price conn node a given OutOfMemory old new left left' s l waits fits = l

pub failed_falls : (course : Course) (now : Start) (price conn node : ℕ) (a : Ask) (r : StepAnswer) (old new : ConnView) (left left' : ℕ) → StepsOwn course now (ev.JobFailed conn node) r old new → LeftBy price (ev.JobFailed conn node) r left left' → ask_in old.jobs node ≡ Some a → left' < left
failed_falls course now price conn node a (Done taken) old new left left' s l waits = l
failed_falls course now price conn node a Skipped old new left left' s l waits = absurd (let e : None ≡ Some a = sym s.cause ∙ waits in cc)
failed_falls course now price conn node a OutOfMemory old new left left' s l waits = absurd s
