-- Sets of addresses, as ordered sets of keys.
use Rattle.std.specs.Prelude.{ℕ, ◌==◌, Bool, ◌&&◌, ◌||◌, Option, None, Some}
use Rattle.std.specs.Net.Addr.{ipv4_bits, ipv6_bits}
use Rattle.std.specs.declared.net.ip_addr.IpAddr.{IpAddr}
use Rattle.std.specs.declared.net.ip_addr.IpAddr.TheVariants.{V4, V6}
use Rattle.std.specs.declared.cmp.Ordering.{Ordering}
use Rattle.std.specs.Ordering.{nat_cmp, ordering_then}
use Rattle.std.specs.BTreeSet.{BTreeSet, contains}
use Rattle.http_types.specs.declared.words.Addr.{Addr}

-- the family of an address, and its bits
abbrev pub family_of : IpAddr → ℕ
family_of (V4 a) = 4
family_of (V6 a) = 6

abbrev pub bits_of : IpAddr → ℕ
bits_of (V4 a) = ipv4_bits a
bits_of (V6 a) = ipv6_bits a

-- the same address of one family, and the same port
abbrev pub same_addr : Addr → Addr → Bool
same_addr a b = (family_of a.ip == family_of b.ip && a.port == b.port) && bits_of a.ip == bits_of b.ip

-- the addresses of a set, and one more, if there is one
abbrev pub with_end : Option Addr → (Addr → Bool) → Addr → Bool
with_end None ends q = ends q
with_end (Some addr) ends q = same_addr addr q || ends q

-- family and port, and the bits
abbrev pub Key : Type 0
Key = (ℕ × ℕ) × ℕ

abbrev pub key_of : Addr → Key
key_of a = ((family_of a.ip, a.port), bits_of a.ip)

abbrev pub key_cmp : Key → Key → Ordering
key_cmp x y = ordering_then (ordering_then (nat_cmp x.0.0 y.0.0) (nat_cmp x.0.1 y.0.1)) (nat_cmp x.1 y.1)

-- the address is in the set
unfoldable pub has_end : BTreeSet Key → Addr → Bool
has_end keys addr = contains key_cmp keys (key_of addr)
