use Rattle.std.proofs.Common.{ℕ, List, ◌≤◌, sym, subst, arith}
use Rattle.file_tree.specs.Tree.{tree_of}
use Rattle.memory_outside.specs.Stored.{trees_of, newest_of}
use Rattle.replay_run.specs.Told.{told_of}
use Rattle.replay_run.specs.Scene.{IsFound}
use Rattle.replay_run.proofs.jobs.answer_job.Goals as goal

pub returns-clause-answers : goal.returns-clause-answers
returns-clause-answers g c =
    let known : tree_of c.in-Some.ask.now ≤ newest_of c.args.files.now = omega (arith, c.in-Some.ensures.known, c.requires.newest) in
    c.give_found.ensures.answers (told_of c.args.files.now) c.in-Some.ask.now (sym c.in-Some.ensures.job) known
    (subst (λ (block : List ℕ). IsFound (trees_of c.args.files.now) c.in-Some.ask.now c.in_ok-found.found block) (sym c.block.ensures) c.in_ok-found.ensures.found)

pub returns-clause-falls : goal.returns-clause-falls
returns-clause-falls g c = λ some.
    c.give_found.ensures.falls (told_of c.args.files.now) c.in-Some.ask.now (sym c.in-Some.ensures.job)
    (subst (λ (block : List ℕ). IsFound (trees_of c.args.files.now) c.in-Some.ask.now c.in_ok-found.found block) (sym c.block.ensures) c.in_ok-found.ensures.found)
