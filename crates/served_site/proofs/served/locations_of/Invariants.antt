use Rattle.std.proofs.Common.{take}
use Rattle.std.specs.List.{AllZip}
use Rattle.location_search.specs.Served.{AreOf}
use Rattle.served_site.proofs.served.locations_of.Given as goal

abbrev pub invariant-loop-server : goal.invariant-loop-server
invariant-loop-server l = AllZip AreOf l.all.items (take l.server-index l.servers)
