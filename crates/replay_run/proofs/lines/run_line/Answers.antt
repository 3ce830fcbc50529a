use Rattle.std.proofs.Common.{sym, subst, IfOk}
use Rattle.replay_run.specs.Told.{told_of}
use Rattle.replay_run.specs.Scene.{stage}
use Rattle.replay_run.specs.Plays.{LineDoes}
use Rattle.replay_run.proofs.lines.run_line.Goals as goal

pub returns-in-File-clause-does : goal.returns-in-File-clause-does
returns-in-File-clause-does g c =
    let e = g.E.EventCore in
    subst (λ l. IfOk c.answer.result (λ a. LineDoes (e.seen c.args.core.now).terms (told_of c.args.files.now) l a (stage (e.seen c.args.core.now).view (e.seen c.args.core.now).now c.args.player.now.lanes.items) (stage (e.seen c.answer.new.core).view (e.seen c.answer.new.core).now c.answer.new.self.lanes.items))) (sym c.in-File.is)
    c.answer.ensures.answers
