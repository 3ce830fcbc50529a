use Rattle.std.proofs.Common.{◌≡◌, ◌⊎◌, ◌≤◌, ◌<◌, true}
use Rattle.link_service.specs.Nodes.{Served, Spares}
use Rattle.link_service.proofs.jobs.work_off.Given as goal

abbrev pub invariant-loop-now_large : goal.invariant-loop-now_large
invariant-loop-now_large g l =
    let e = g.E.EventCore in
    let f = g.F.Files in
    record {
      served : Served (e.seen l.fn.core) (e.seen l.core) (f.seen l.fn.files) (f.seen l.files);
      spares : Spares l.conn (e.seen l.fn.core) (e.seen l.core) (f.seen l.fn.files) (f.seen l.files);
      held : ((e.seen l.core).view l.conn).held ≡ true;
      left : ((e.seen l.core).left < (e.seen l.fn.core).left) ⊎ (((e.seen l.core).left ≡ (e.seen l.fn.core).left) × ((e.seen l.core).view l.conn ≡ (e.seen l.fn.core).view l.conn));
      known : (e.seen l.core).now.tree ≤ (f.seen l.files).newest;
    }

abbrev pub decreases-loop-now_large : goal.decreases-loop-now_large
decreases-loop-now_large g l = (g.E.EventCore.seen l.core).left
