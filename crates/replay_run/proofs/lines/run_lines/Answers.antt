use Rattle.std.proofs.Common.{refl, ap, ◌∙◌, subst, arith}
use Rattle.std.proofs.lemmas.List.{take_all}
use Rattle.replay_run.specs.Told.{told_of, told_in}
use Rattle.replay_run.specs.Scene.{stage}
use Rattle.replay_run.specs.Plays.{LineDoes, Plays, Over}
use Rattle.replay_run.proofs.PlaysLaws.{plays_on, told_on}
use Rattle.replay_run.proofs.LineStands.{plays_stand}
use Rattle.replay_run.proofs.Openings.{plays_open}
use Rattle.replay_run.proofs.lines.run_lines.Goals as goal

pub loop-line-init : goal.loop-line-init
loop-line-init g c = record {
  terms = refl;
  newest = c.requires.newest;
  sure = c.requires.sure;
  told = refl;
  plays = Over (told_of c.args.files.now) (stage (g.E.EventCore.seen c.args.core.now).view (g.E.EventCore.seen c.args.core.now).now c.args.player.now.lanes.items) 0 0;
}

pub loop-line-preserved : goal.loop-line-preserved
loop-line-preserved g c = record {
  terms = c.in_ok-answer.ensures.steady ∙ c.loop-line.invariant.terms;
  newest = c.in_ok-answer.ensures.newest;
  sure = c.in_ok-answer.ensures.sure;
  told = told_on c.args.lines.now c.loop-line.line-index c.line-item.result (told_of c.args.files.now) (told_of c.loop-line.files) (told_of c.run_line.new.files) c.loop-line-test.true c.line-item.is c.loop-line.invariant.told c.in_ok-answer.ensures.told;
  plays = plays_on (g.E.EventCore.seen c.args.core.now).terms c.args.lines.now c.loop-line.line-index c.line-item.result c.in_ok-answer.answer
      (told_of c.args.files.now) (told_of c.loop-line.files)
      (stage (g.E.EventCore.seen c.args.core.now).view (g.E.EventCore.seen c.args.core.now).now c.args.player.now.lanes.items)
      (stage (g.E.EventCore.seen c.loop-line.core).view (g.E.EventCore.seen c.loop-line.core).now c.loop-line.player.lanes.items)
      (stage (g.E.EventCore.seen c.run_line.new.core).view (g.E.EventCore.seen c.run_line.new.core).now c.run_line.new.player.lanes.items)
      0 0 c.loop-line.counts.skipped c.loop-line.counts.refused c.count-counts.result.skipped c.count-counts.result.refused
      c.loop-line-test.true c.line-item.is c.count-counts.ensures.skipped c.count-counts.ensures.refused c.loop-line.invariant.told c.loop-line.invariant.plays
      (subst (λ f. LineDoes f (told_of c.loop-line.files) c.line-item.result c.in_ok-answer.answer
      (stage (g.E.EventCore.seen c.loop-line.core).view (g.E.EventCore.seen c.loop-line.core).now c.loop-line.player.lanes.items)
      (stage (g.E.EventCore.seen c.run_line.new.core).view (g.E.EventCore.seen c.run_line.new.core).now c.run_line.new.player.lanes.items)) c.loop-line.invariant.terms c.in_ok-answer.ensures.does);
}

pub returns-clause-told : goal.returns-clause-told
returns-clause-told g c = c.loop-line.invariant.told ∙ ap (λ xs. told_in xs (told_of c.args.files.now)) (take_all c.loop-line.line-index c.args.lines.now (omega (arith, c.loop-line-test.false)))

pub returns-clause-stands : goal.returns-clause-stands
returns-clause-stands g c = λ sent all.
    let plays = subst (λ xs. Plays (g.E.EventCore.seen c.args.core.now).terms xs (told_of c.args.files.now) (stage (g.E.EventCore.seen c.args.core.now).view (g.E.EventCore.seen c.args.core.now).now c.args.player.now.lanes.items) 0 0 (stage (g.E.EventCore.seen c.loop-line.core).view (g.E.EventCore.seen c.loop-line.core).now c.loop-line.player.lanes.items) c.loop-line.counts.skipped c.loop-line.counts.refused)
    (take_all c.loop-line.line-index c.args.lines.now (omega (arith, c.loop-line-test.false))) c.loop-line.invariant.plays in
    plays_stand (g.E.EventCore.seen c.args.core.now).terms (told_of c.args.files.now) c.args.lines.now
    (stage (g.E.EventCore.seen c.args.core.now).view (g.E.EventCore.seen c.args.core.now).now c.args.player.now.lanes.items)
    (stage (g.E.EventCore.seen c.loop-line.core).view (g.E.EventCore.seen c.loop-line.core).now c.loop-line.player.lanes.items) 0 0 c.loop-line.counts.skipped c.loop-line.counts.refused sent plays all

pub returns-clause-opened : goal.returns-clause-opened
returns-clause-opened g c =
    let plays = subst (λ xs. Plays (g.E.EventCore.seen c.args.core.now).terms xs (told_of c.args.files.now) (stage (g.E.EventCore.seen c.args.core.now).view (g.E.EventCore.seen c.args.core.now).now c.args.player.now.lanes.items) 0 0 (stage (g.E.EventCore.seen c.loop-line.core).view (g.E.EventCore.seen c.loop-line.core).now c.loop-line.player.lanes.items) c.loop-line.counts.skipped c.loop-line.counts.refused)
    (take_all c.loop-line.line-index c.args.lines.now (omega (arith, c.loop-line-test.false))) c.loop-line.invariant.plays in
    plays_open (g.E.EventCore.seen c.args.core.now).terms (told_of c.args.files.now) c.args.lines.now
    (stage (g.E.EventCore.seen c.args.core.now).view (g.E.EventCore.seen c.args.core.now).now c.args.player.now.lanes.items)
    (stage (g.E.EventCore.seen c.loop-line.core).view (g.E.EventCore.seen c.loop-line.core).now c.loop-line.player.lanes.items) 0 0 c.loop-line.counts.skipped c.loop-line.counts.refused plays
