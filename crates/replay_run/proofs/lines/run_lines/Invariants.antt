use Rattle.std.proofs.Common.{◌≡◌, [], take}
use Rattle.memory_outside.specs.Stored.{newest_of, failing_of}
use Rattle.replay_run.specs.Told.{told_of, told_in}
use Rattle.replay_run.specs.Scene.{stage}
use Rattle.replay_run.specs.Plays.{Plays}
use Rattle.replay_run.proofs.lines.run_lines.Given as goal

abbrev pub invariant-loop-line : goal.invariant-loop-line
invariant-loop-line g l = record {
  terms : (g.E.EventCore.seen l.core).terms ≡ (g.E.EventCore.seen l.initial.core).terms;
  newest : newest_of l.files ≡ (g.E.EventCore.seen l.core).now.tree;
  sure : failing_of l.files ≡ [];
  told : told_of l.files ≡ told_in (take l.line-index l.lines) (told_of l.initial.files);
  plays : Plays (g.E.EventCore.seen l.initial.core).terms (take l.line-index l.lines) (told_of l.initial.files) (stage (g.E.EventCore.seen l.initial.core).view (g.E.EventCore.seen l.initial.core).now l.initial.player.lanes.items) 0 0 (stage (g.E.EventCore.seen l.core).view (g.E.EventCore.seen l.core).now l.player.lanes.items) l.counts.skipped l.counts.refused;
}
