use Rattle.std.proofs.Common.{subst}
use Rattle.replay_run.specs.Scene.{Writes, shown_lane, lane_in}
use Rattle.replay_run.proofs.Lanes.{placed, conn_at}
use Rattle.replay_run.proofs.player.Player.write.Goals as goal

pub returns-clause-writes : goal.returns-clause-writes
returns-clause-writes g c =
    let e = g.E.EventCore in
    let mid = c.place_or_add.new.lanes.items in
    let here = c.index_mut-lane.result.now in
    let at = c.in_ok-at.ensures.place in
    placed c.args.conn (Writes (e.seen c.args.core.now).terms.fresh c.args.conn c.args.most c.in_ok-answer.answer (e.seen c.args.core.now).view (e.seen c.args.core.now).now (e.seen c.write.new.core).view (e.seen c.write.new.core).now) (lane_in c.args.self.now.lanes.items) mid c.in_ok-at.at here c.write.new.lane c.in_ok-at.ensures.same at c.index_mut-lane.ensures.value c.write.ensures.conn
    (subst (λ k. Writes (e.seen c.args.core.now).terms.fresh k c.args.most c.in_ok-answer.answer (e.seen c.args.core.now).view (e.seen c.args.core.now).now (e.seen c.write.new.core).view (e.seen c.write.new.core).now (shown_lane here) (shown_lane c.write.new.lane)) (conn_at c.args.conn mid c.in_ok-at.at here at c.index_mut-lane.ensures.value)
    (let w = c.in_ok-answer.ensures.gives in record { count = w.0; counts = w.1; gives = w.2; emits = w.3 }))
