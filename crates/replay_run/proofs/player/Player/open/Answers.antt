use Rattle.std.proofs.Common.{subst}
use Rattle.ngx_outside.specs.Views.{OpensIf}
use Rattle.ngx_outside.specs.declared.event.Event.TheVariants.{Opened}
use Rattle.ngx_outside.specs.Seen.{opens_at}
use Rattle.replay_run.specs.Scene.{Opens, shown_lane, lane_in}
use Rattle.replay_run.proofs.Lanes.{placed, conn_at}
use Rattle.replay_run.proofs.player.Player.open.Goals as goal

pub returns-clause-opens : goal.returns-clause-opens
returns-clause-opens g c =
    let e = g.E.EventCore in
    let mid = c.place_or_add.new.lanes.items in
    let here = c.index_mut-lane.result.now in
    let at = c.in_ok-at.ensures.place in
    placed c.args.conn (Opens (e.seen c.args.core.now).terms.fresh c.args.conn c.args.ends c.open-answer.result (e.seen c.args.core.now).view (e.seen c.args.core.now).now (e.seen c.open-answer.new.core).view (e.seen c.open-answer.new.core).now) (lane_in c.args.self.now.lanes.items) mid c.in_ok-at.at here c.open-answer.new.lane c.in_ok-at.ensures.same at c.index_mut-lane.ensures.value c.open-answer.ensures.conn
    (subst (λ k. Opens (e.seen c.args.core.now).terms.fresh k c.args.ends c.open-answer.result (e.seen c.args.core.now).view (e.seen c.args.core.now).now (e.seen c.open-answer.new.core).view (e.seen c.open-answer.new.core).now (shown_lane here) (shown_lane c.open-answer.new.lane)) (conn_at c.args.conn mid c.in_ok-at.at here at c.index_mut-lane.ensures.value) c.open-answer.ensures.opens)

pub returns-clause-why : goal.returns-clause-why
returns-clause-why g c =
    let e = (g.E.EventCore.seen c.args.core.now) in
    record {
      conns = e.conns;
      held = record { order = c.conns.ensures.order; held = c.conns.ensures.held };
      opens = subst (λ k. OpensIf (opens_at e) (Opened k c.args.ends.local c.args.ends.peer) c.open-answer.result)
          (conn_at c.args.conn c.place_or_add.new.lanes.items c.in_ok-at.at c.index_mut-lane.result.now c.in_ok-at.ensures.place c.index_mut-lane.ensures.value) c.open-answer.ensures.why;
    }
