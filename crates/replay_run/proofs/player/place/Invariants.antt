use Rattle.std.proofs.Common.{◌≡◌, take, false}
use Rattle.replay_run.specs.Scene.{has_lane}
use Rattle.replay_run.proofs.player.place.Given as goal

abbrev pub invariant-loop-i : goal.invariant-loop-i
invariant-loop-i l = has_lane l.conn (take l.i l.lanes) ≡ false
