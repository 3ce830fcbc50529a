use Rattle.std.proofs.Common.{refl, subst}
use Rattle.file_tree.specs.declared.job.JobAnswer.TheVariants as answer
use Rattle.ngx_outside.specs.Views.{nobody}
use Rattle.replay_run.specs.Scene.{IsFound, Answers, Fails}
use Rattle.replay_run.proofs.Found.{node_from, node_fits, block_from, block_fits, nothing_from, done_falls}
use Rattle.replay_run.proofs.jobs.give_found.Goals as goal

pub returns-in-Node-clause-answers : goal.returns-in-Node-clause-answers
returns-in-Node-clause-answers g c = λ told a waits known f.
    Answers a (answer.Stat c.in-Node.node_there _) waits known (node_from told.trees a c.in-Node.node_there _ c.args.block.now refl (subst (λ x. IsFound told.trees a x c.args.block.now) c.in-Node.is f))
    (record { steps = c.step.ensures.steps; moment = c.step.ensures.now; ended = c.step.ensures.ended })

pub returns-in-Node-clause-falls : goal.returns-in-Node-clause-falls
returns-in-Node-clause-falls g c = λ told a waits f.
    let e = g.E.EventCore in
    done_falls nobody.course (e.seen c.args.core.now).now (e.seen c.args.core.now).terms.price c.args.conn c.args.node a (answer.Stat c.in-Node.node_there _) c.step.result ((e.seen c.args.core.now).view c.args.conn) ((e.seen c.step.new.self).view c.args.conn) (e.seen c.args.core.now).left (e.seen c.step.new.self).left
    c.step.ensures.steps.own c.step.ensures.left waits (node_fits told.trees a c.in-Node.node_there _ c.args.block.now (subst (λ x. IsFound told.trees a x c.args.block.now) c.in-Node.is f))

pub returns-in-Block-clause-answers : goal.returns-in-Block-clause-answers
returns-in-Block-clause-answers g c = λ told a waits known f.
    Answers a (answer.Read c.args.block) waits known (block_from told.trees a c.args.block c.args.block.now refl (subst (λ x. IsFound told.trees a x c.args.block.now) c.in-Block.is f))
    (record { steps = c.step-in-Block.ensures.steps; moment = c.step-in-Block.ensures.now; ended = c.step-in-Block.ensures.ended })

pub returns-in-Block-clause-falls : goal.returns-in-Block-clause-falls
returns-in-Block-clause-falls g c = λ told a waits f.
    let e = g.E.EventCore in
    done_falls nobody.course (e.seen c.args.core.now).now (e.seen c.args.core.now).terms.price c.args.conn c.args.node a (answer.Read c.args.block) c.step-in-Block.result ((e.seen c.args.core.now).view c.args.conn) ((e.seen c.step-in-Block.new.self).view c.args.conn) (e.seen c.args.core.now).left (e.seen c.step-in-Block.new.self).left
    c.step-in-Block.ensures.steps.own c.step-in-Block.ensures.left waits (block_fits told.trees a c.args.block c.args.block.now refl (subst (λ x. IsFound told.trees a x c.args.block.now) c.in-Block.is f))

pub returns-in-Nothing-clause-answers : goal.returns-in-Nothing-clause-answers
returns-in-Nothing-clause-answers g c = λ told a waits known f.
    Fails a waits (nothing_from told.trees a c.args.block.now (subst (λ x. IsFound told.trees a x c.args.block.now) c.in-Nothing.is f))
    (record { steps = c.step-in-Nothing.ensures.steps; moment = c.step-in-Nothing.ensures.now; ended = c.step-in-Nothing.ensures.ended })
