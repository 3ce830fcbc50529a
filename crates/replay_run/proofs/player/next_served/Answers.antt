use Rattle.std.proofs.Common.{false, sym, ap, ◌∙◌}
use Rattle.ngx_outside.specs.Wants.{wants_at, first_doable}
use Rattle.replay_run.specs.Scene.{lane_in, unless_close}
use Rattle.replay_run.proofs.Drains.{first_unless}
use Rattle.replay_run.proofs.player.next_served.Goals as goal

pub returns : goal.returns
returns g c =
    let v = (g.E.EventCore.seen c.args.core.now).view c.args.conn in
    c.unless_close.ensures ∙ ap unless_close (c.next_want.ensures.want ∙ ap (λ d. first_doable d false (wants_at c.args.conn v)) c.waits.ensures)
    ∙ sym (first_unless (lane_in c.args.lanes.now) c.args.conn v)
