use Rattle.std.proofs.Common.{◌≡◌, drop}
use Rattle.std.specs.List.{list_any}
use Rattle.site_views.specs.Choice.{is_exactly}
use Rattle.site_service.proofs.ends.has_addr.Given as goal

abbrev pub invariant-loop-other : goal.invariant-loop-other
invariant-loop-other l = list_any (is_exactly l.addr) (drop l.other-index l.all) ≡ list_any (is_exactly l.addr) l.all
