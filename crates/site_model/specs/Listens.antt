-- Whether one of several addresses is this one.
use Rattle.std.specs.Prelude.{◌==◌, Bool, false, ◌&&◌, ◌||◌, List, [], ◌∷◌, bytes_eq}
use Rattle.std.specs.declared.net.ip_addr.IpAddr.{IpAddr}
use Rattle.std.specs.declared.net.ip_addr.IpAddr.TheVariants.{V4, V6}
use Rattle.std.specs.Net.Addr.{ipv4_octets, ipv6_segments}
use Rattle.http_types.specs.declared.words.Addr.{Addr}

abbrev pub same_ip : IpAddr → IpAddr → Bool
same_ip (V4 a) (V4 b) = bytes_eq (ipv4_octets a) (ipv4_octets b)
same_ip (V6 a) (V6 b) = bytes_eq (ipv6_segments a) (ipv6_segments b)
same_ip (V4 a) (V6 b) = false
same_ip (V6 a) (V4 b) = false

abbrev pub at_end : Addr → Addr → Bool
at_end a local = a.port == local.port && same_ip a.ip local.ip

-- one of the addresses is this one
abbrev pub listens_exactly : List Addr → Addr → Bool
listens_exactly [] local = false
listens_exactly (a ∷ addrs) local = at_end a local || listens_exactly addrs local
