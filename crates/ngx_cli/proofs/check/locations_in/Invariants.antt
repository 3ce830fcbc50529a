use Rattle.std.proofs.Common.{◌≡◌, [], ◌+◌, ◌-◌, ◌^◌, ◌≤◌, drop}
use Rattle.std.specs.Prelude.{map, min}
use Rattle.conf_inherit.specs.Pools.{server_built}
use Rattle.ngx_cli.specs.Checks.{locations_of}
use Rattle.ngx_cli.proofs.check.locations_in.Given as goal

-- the count so far, with the locations of the servers that are left
abbrev pub invariant-loop-server : goal.invariant-loop-server
invariant-loop-server l = record {
  fits : l.count ≤ 2 ^ 64 - 1;
  counted : min (l.count + locations_of (map (server_built l.site) (drop l.server-index l.server-items))) (2 ^ 64 - 1) ≡ min (locations_of (map (server_built l.site) l.site.site.servers.items)) (2 ^ 64 - 1);
}
