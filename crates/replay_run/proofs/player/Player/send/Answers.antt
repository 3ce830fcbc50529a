use Rattle.std.proofs.Common.{subst}
use Rattle.replay_run.specs.Scene.{Sends, shown_lane, lane_in}
use Rattle.replay_run.proofs.Lanes.{placed, conn_at}
use Rattle.replay_run.proofs.player.Player.send.Goals as goal

pub returns-clause-sends : goal.returns-clause-sends
returns-clause-sends g c =
    let e = g.E.EventCore in
    let mid = c.place_or_add.new.lanes.items in
    let here = c.index_mut-lane.result.now in
    let at = c.in_ok-at.ensures.place in
    placed c.args.conn (Sends (e.seen c.args.core.now).terms.fresh c.args.conn c.args.bytes.now c.in_ok-answer.answer (e.seen c.args.core.now).view (e.seen c.args.core.now).now (e.seen c.send_on.new.core).view (e.seen c.send_on.new.core).now) (lane_in c.args.self.now.lanes.items) mid c.in_ok-at.at here c.send_on.new.lane c.in_ok-at.ensures.same at c.index_mut-lane.ensures.value c.send_on.ensures.conn
    (subst (λ k. Sends (e.seen c.args.core.now).terms.fresh k c.args.bytes.now c.in_ok-answer.answer (e.seen c.args.core.now).view (e.seen c.args.core.now).now (e.seen c.send_on.new.core).view (e.seen c.send_on.new.core).now (shown_lane here) (shown_lane c.send_on.new.lane)) (conn_at c.args.conn mid c.in_ok-at.at here at c.index_mut-lane.ensures.value) c.in_ok-answer.ensures.sends)
