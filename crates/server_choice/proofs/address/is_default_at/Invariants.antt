use Rattle.std.proofs.Common.{◌≡◌, ◌&&◌, drop}
use Rattle.std.specs.List.{list_any}
use Rattle.site_views.specs.Choice.{is_exactly}
use Rattle.server_choice.specs.Listening.{is_default_at}
use Rattle.server_choice.proofs.address.is_default_at.Given as goal

abbrev pub invariant-loop-addr : goal.invariant-loop-addr
invariant-loop-addr l = list_any (λ a. is_exactly l.local a && list_any (is_exactly a) l.server.defaults) (drop l.addr-index l.addr-items) ≡ is_default_at l.local l.server
