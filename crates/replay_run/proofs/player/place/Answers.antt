use Rattle.replay_run.proofs.Lanes.{none_more, at_place}
use Rattle.replay_run.proofs.player.place.Goals as goal

pub returns-then-lane-conn : goal.returns-then-lane-conn
returns-then-lane-conn c = at_place c.args.conn c.args.lanes.now c.loop-i.i c.index-lanes-i.result c.loop-i-test.true c.loop-i.invariant c.index-lanes-i.is c.if-lane-conn.true

pub loop-i-preserved : goal.loop-i-preserved
loop-i-preserved c = none_more c.args.conn c.args.lanes.now c.loop-i.i c.index-lanes-i.result c.loop-i-test.true c.loop-i.invariant c.index-lanes-i.is c.if-lane-conn.false
