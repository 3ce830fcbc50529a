use Rattle.std.proofs.Common.{◌≡◌}
use Rattle.replay_run.specs.Scene.{shown_lane, empty_lane}
use Rattle.replay_run.proofs.Lanes.{same_added}
use Rattle.replay_run.proofs.player.place_or_add.Goals as goal

pub returns-in_ok-push-in-None-clause-same : goal.returns-in_ok-push-in-None-clause-same
returns-in_ok-push-in-None-clause-same c = same_added c.args.conn c.args.lanes.now.items c.push.new.self.items c.new.result c.in_ok-push-in-None.ensures.items (let e : shown_lane c.new.result ≡ empty_lane = cc (c.new.ensures.queue, c.new.ensures.tail, c.new.ensures.emitted, c.new.ensures.ends) in e)
