use Rattle.std.proofs.Common.{◌≡◌, ◌<◌, suc, length, ap, ◌∙◌, arith}
use Rattle.site_service.specs.Ends.{once_after}
use Rattle.site_service.proofs.EndsLaws.{once_more}
use Rattle.site_service.proofs.ends.addresses.Goals as goal

pub loop-server-preserved : goal.loop-server-preserved
loop-server-preserved c =
    let lt : c.loop-server.server-index < length c.args.servers.now = omega (arith, c.loop-server-test.true) in
    once_more c.loop-server.all.items c.add_all.new.all.items c.args.servers.now c.loop-server.server-index _ c.server-item.result lt (omega arith) c.server-item.is
    (c.in_ok-add_all.ensures ∙ ap (once_after c.loop-server.all.items) c.as_slice.ensures)
    ∙ c.loop-server.invariant
