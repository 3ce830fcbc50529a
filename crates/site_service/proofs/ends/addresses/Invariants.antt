use Rattle.std.proofs.Common.{◌≡◌, drop, flat_map}
use Rattle.site_service.specs.Ends.{once_after, each_once}
use Rattle.site_service.proofs.ends.addresses.Given as goal

abbrev pub invariant-loop-server : goal.invariant-loop-server
invariant-loop-server l = once_after l.all.items (flat_map (λ s. s.listens) (drop l.server-index l.servers)) ≡ each_once (flat_map (λ s. s.listens) l.servers)
