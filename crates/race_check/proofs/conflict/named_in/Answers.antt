use Rattle.std.proofs.Common.{subst}
use Rattle.site_whole.specs.Whole.{server_whole}
use Rattle.race_check.specs.Told.{HasNamed}
use Rattle.race_check.proofs.conflict.named_in.Goals as goal

pub returns : goal.returns
returns c = λ patterns.
    subst (λ l. HasNamed c.args.number (server_whole patterns c.args.site.now c.args.server.now) l c.push_server.new.named.items) c.new-named.ensures.items (c.in_ok-push_server.ensures patterns)
