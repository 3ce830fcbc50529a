use Rattle.std.proofs.Common.{◌≡◌, []}
use Rattle.memory_outside.specs.Stored.{newest_of, failing_of}
use Rattle.replay_run.specs.Told.{told_of}
use Rattle.replay_run.specs.Scene.{stage}
use Rattle.replay_run.proofs.Drains.{DrainedSome}
use Rattle.replay_run.proofs.player.Player.drain.Given as goal

abbrev pub invariant-loop-conn : goal.invariant-loop-conn
invariant-loop-conn g l = record {
  terms : (g.E.EventCore.seen l.core).terms ≡ (g.E.EventCore.seen l.fn.core).terms;
  newest : newest_of l.files ≡ (g.E.EventCore.seen l.core).now.tree;
  sure : failing_of l.files ≡ [];
  told : told_of l.files ≡ told_of l.fn.files;
  drained : DrainedSome (g.E.EventCore.seen l.fn.core).terms.fresh (told_of l.fn.files) l.conn-items l.conn-index (stage (g.E.EventCore.seen l.fn.core).view (g.E.EventCore.seen l.fn.core).now l.fn.self.lanes.items) (stage (g.E.EventCore.seen l.core).view (g.E.EventCore.seen l.core).now l.self.lanes.items);
}
