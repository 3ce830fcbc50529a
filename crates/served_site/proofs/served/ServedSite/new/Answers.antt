use Rattle.std.proofs.Common.{subst}
use Rattle.std.specs.List.{AllZip}
use Rattle.location_search.specs.Served.{AreOf}
use Rattle.served_site.proofs.Zips.{zip_each}
use Rattle.served_site.proofs.served.ServedSite.new.Goals as goal

pub invariant_of-result : goal.invariant_of-result
invariant_of-result c = record {
  chosen = c.in_ok-servers.ensures;
  located = zip_each AreOf c.in_ok-locations.locations.items c.args.site.servers.items c.in_ok-spare_locations.spare_locations c.nowhere-spare.result
      (subst (λ ys. AllZip AreOf c.in_ok-locations.locations.items ys) c.as_slice.ensures.value c.in_ok-locations.ensures) c.in_ok-spare_locations.ensures;
  indexed = c.in_ok-index.ensures;
}
