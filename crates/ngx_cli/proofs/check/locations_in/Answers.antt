use Rattle.std.proofs.Common.{◌-◌, ◌^◌, ◌∙◌, ap, sym, arith}
use Rattle.std.specs.Prelude.{min}
use Rattle.ngx_cli.specs.Checks.{locations_of}
use Rattle.ngx_cli.proofs.CountLaws.{counts_step, counts_end, whole_servers}
use Rattle.ngx_cli.proofs.check.locations_in.Goals as goal

pub loop-server-preserved : goal.loop-server-preserved
loop-server-preserved c = record {
  fits = omega arith;
  counted = counts_step c.args.site.now c.as_slice-server-items.result.now c.loop-server.server-index c.server-item.result c.loop-server.count c.locations_of.result c.saturating_add-count.result (2 ^ 64 - 1) _ c.loop-server-test.true c.server-item.is c.locations_of.ensures (omega arith) c.loop-server.invariant.counted;
}

pub returns : goal.returns
returns c =
    counts_end c.args.site.now c.as_slice-server-items.result.now c.loop-server.server-index c.loop-server.count (2 ^ 64 - 1) _ c.loop-server-test.false c.loop-server.invariant.fits c.loop-server.invariant.counted
    ∙ ap (λ ss. min (locations_of ss) (2 ^ 64 - 1)) (sym (whole_servers c.args.site.now))
