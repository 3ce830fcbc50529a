use Rattle.std.proofs.Common.{◌≡◌, []}
use Rattle.memory_outside.specs.Stored.{newest_of, failing_of}
use Rattle.replay_run.specs.Told.{told_of}
use Rattle.replay_run.specs.Scene.{stage, DrainsOne, work}
use Rattle.replay_run.proofs.player.Player.drain_one.Given as goal

abbrev pub invariant-loop-want : goal.invariant-loop-want
invariant-loop-want g l = record {
  terms : (g.E.EventCore.seen l.core).terms ≡ (g.E.EventCore.seen l.initial.core).terms;
  newest : newest_of l.files ≡ (g.E.EventCore.seen l.core).now.tree;
  sure : failing_of l.files ≡ [];
  told : told_of l.files ≡ told_of l.initial.files;
  drains : DrainsOne (g.E.EventCore.seen l.initial.core).terms.fresh (told_of l.initial.files) l.conn (stage (g.E.EventCore.seen l.initial.core).view (g.E.EventCore.seen l.initial.core).now l.initial.self.lanes.items) (stage (g.E.EventCore.seen l.core).view (g.E.EventCore.seen l.core).now l.self.lanes.items);
}

abbrev pub decreases-loop-want : goal.decreases-loop-want
decreases-loop-want g l = work (g.E.EventCore.seen l.core).terms.price (g.E.EventCore.seen l.core).left l.self.lanes.items
