use Rattle.std.proofs.Common.{◌≡◌, drop}
use Rattle.replay_run.specs.Scene.{lane_in}
use Rattle.replay_run.proofs.player.Player.emitted.Given as goal

abbrev pub invariant-loop-lane : goal.invariant-loop-lane
invariant-loop-lane l = lane_in (drop l.lane-index l.self.lanes.items) l.conn ≡ lane_in l.self.lanes.items l.conn
