use Rattle.std.proofs.Common.{◌≡◌, drop}
use Rattle.std.specs.List.{list_any}
use Rattle.site_views.specs.Choice.{is_exactly}
use Rattle.server_choice.proofs.address.has_addr.Given as goal

abbrev pub invariant-loop-addr : goal.invariant-loop-addr
invariant-loop-addr l = list_any (is_exactly l.local) (drop l.addr-index l.addrs) ≡ list_any (is_exactly l.local) l.addrs
