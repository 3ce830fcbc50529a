use Rattle.std.proofs.Common.{◌++◌, ◌∙◌, ap, length}
use Rattle.ngx_cli.proofs.CountLaws.{counts_are}
use Rattle.ngx_cli.proofs.check.counts_line.Goals as goal

pub returns : goal.returns
returns c =
    c.in_ok-counts_text.ensures ∙ ap (λ t. c.args.out.now ++ t) (counts_are c.args.site.now (length c.as_slice-servers.result.now) c.locations_in.result (ap length c.as_slice-servers.ensures.value) c.locations_in.ensures)
