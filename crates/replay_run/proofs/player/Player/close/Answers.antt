use Rattle.std.proofs.Common.{subst}
use Rattle.replay_run.specs.Scene.{EndsIfDue, due_lane, shown_lane, lane_in}
use Rattle.replay_run.proofs.Lanes.{placed, conn_at}
use Rattle.replay_run.proofs.player.Player.close.Goals as goal

pub returns-clause-ends : goal.returns-clause-ends
returns-clause-ends g c =
    let e = g.E.EventCore in
    let mid = c.place_or_add.new.lanes.items in
    let here = c.index_mut-lane.result.now in
    let at = c.in_ok-at.ensures.place in
    placed c.args.conn (λ l l'. EndsIfDue (e.seen c.args.core.now).terms.fresh c.args.conn (due_lane l) l' c.close_on-answer.result (e.seen c.args.core.now).view (e.seen c.args.core.now).now (e.seen c.close_on-answer.new.core).view (e.seen c.close_on-answer.new.core).now) (lane_in c.args.self.now.lanes.items) mid c.in_ok-at.at here c.close_on-answer.new.lane c.in_ok-at.ensures.same at c.index_mut-lane.ensures.value c.close_on-answer.ensures.conn
    (subst (λ k. EndsIfDue (e.seen c.args.core.now).terms.fresh k (due_lane (shown_lane here)) (shown_lane c.close_on-answer.new.lane) c.close_on-answer.result (e.seen c.args.core.now).view (e.seen c.args.core.now).now (e.seen c.close_on-answer.new.core).view (e.seen c.close_on-answer.new.core).now) (conn_at c.args.conn mid c.in_ok-at.at here at c.index_mut-lane.ensures.value) c.close_on-answer.ensures.ends)
