use Rattle.std.proofs.Common.{◌≡◌, drop}
use Rattle.site_service.specs.Ends.{once_after}
use Rattle.site_service.proofs.ends.add_all.Given as goal

abbrev pub invariant-loop-addr : goal.invariant-loop-addr
invariant-loop-addr l = once_after l.all.items (drop l.addr-index l.addrs) ≡ once_after l.fn.all.items l.addrs
