use Rattle.std.proofs.Common.{◌≡◌, ◌∙◌, ap, sym, subst, true, Some}
use Rattle.replay_run.specs.Scene.{Reads, shown_lane, lane_in, is_read, work_of}
use Rattle.replay_run.proofs.Lanes.{placed, falls, conn_at, lane_at}
use Rattle.replay_run.proofs.player.Player.read.Goals as goal

pub returns-clause-reads : goal.returns-clause-reads
returns-clause-reads g c =
    let e = g.E.EventCore in
    let mid = c.place_or_add.new.lanes.items in
    let here = c.index_mut-lane.result.now in
    let at = c.in_ok-at.ensures.place in
    placed c.args.conn (Reads (e.seen c.args.core.now).terms.fresh c.args.conn c.read_on-answer.result (e.seen c.args.core.now).view (e.seen c.args.core.now).now (e.seen c.read_on-answer.new.core).view (e.seen c.read_on-answer.new.core).now) (lane_in c.args.self.now.lanes.items) mid c.in_ok-at.at here c.read_on-answer.new.lane c.in_ok-at.ensures.same at c.index_mut-lane.ensures.value c.read_on-answer.ensures.conn
    (subst (λ k. Reads (e.seen c.args.core.now).terms.fresh k c.read_on-answer.result (e.seen c.args.core.now).view (e.seen c.args.core.now).now (e.seen c.read_on-answer.new.core).view (e.seen c.read_on-answer.new.core).now (shown_lane here) (shown_lane c.read_on-answer.new.lane)) (conn_at c.args.conn mid c.in_ok-at.at here at c.index_mut-lane.ensures.value) c.read_on-answer.ensures.reads)

pub returns-clause-falls : goal.returns-clause-falls
returns-clause-falls g c = λ room has.
    let e = g.E.EventCore in
    let price = (e.seen c.args.core.now).terms.price in
    let mid = c.place_or_add.new.lanes.items in
    let here = c.index_mut-lane.result.now in
    let at = c.in_ok-at.ensures.place in
    let is = c.index_mut-lane.ensures.value in
    let reads : is_read (shown_lane here) ≡ true = ap is_read (sym (lane_at c.args.conn mid c.in_ok-at.at here at is) ∙ c.in_ok-at.ensures.same c.args.conn) ∙ c.requires in
    let roomy : ((e.seen c.args.core.now).view here.conn).room ≡ Some room = ap (λ k. ((e.seen c.args.core.now).view k).room) (conn_at c.args.conn mid c.in_ok-at.at here at is) ∙ has in
    falls (work_of price) (e.seen c.args.core.now).left (e.seen c.read_on-answer.new.core).left c.args.conn c.args.self.now.lanes.items mid c.in_ok-at.at here c.read_on-answer.new.lane (c.in_ok-at.ensures.work price) at is (c.read_on-answer.ensures.falls room reads roomy)
