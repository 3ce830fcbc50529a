-- The word of `allow` and `deny` (nginx's module ngx_http_access_module): `all`, an address, or an address and the number of
-- its first bits.
use Rattle.std.specs.Prelude.{ℕ, List, nat_le, Option, None, Some, codes, bytes_eq, if◌then◌else◌}
use Rattle.std.specs.declared.net.ip_addr.IpAddr.{IpAddr}
use Rattle.access_rules.specs.Rule.{width_of}
use Rattle.access_rules.specs.declared.rule.Source.{Source}
use Rattle.access_rules.specs.declared.rule.Source.TheVariants.{All, Network}
use Rattle.conf_values.specs.Numbers.{count_to}
use Rattle.text_words.specs.Addresses.{ipv4_of, ipv6_of}
use Rattle.text_words.specs.Cuts.{before_byte, behind_byte}

abbrev pub or_else : Option IpAddr → Option IpAddr → Option IpAddr
or_else None other = other
or_else (Some ip) other = Some ip

-- an address of either family
abbrev pub ip_of : List ℕ → Option IpAddr
ip_of text = or_else (ipv4_of text) (ipv6_of text)

-- a number of bits in decimals, with no leading zero
abbrev pub bits_of : List ℕ → Option ℕ
bits_of text = if bytes_eq text (codes "0") then Some 0 else count_to 128 text

-- an address alone is the network of all its bits
abbrev pub host_of : Option IpAddr → Option Source
host_of None = None
host_of (Some ip) = Some (Network ip (width_of ip))

abbrev pub network_with : IpAddr → Option ℕ → Option Source
network_with ip None = None
network_with ip (Some bits) = if nat_le bits (width_of ip) then Some (Network ip bits) else None

-- the addresses whose first `bits` bits are this one's, at most as many bits as an address has
abbrev pub network_of : Option IpAddr → Option ℕ → Option Source
network_of None bits = None
network_of (Some ip) bits = network_with ip bits

abbrev pub by_slash : Option (List ℕ) → List ℕ → Option Source
by_slash None word = host_of (ip_of word)
by_slash (Some bits) word = network_of (ip_of (before_byte 47 word)) (bits_of bits)

-- the addresses that a rule speaks of
unfoldable pub source_of : List ℕ → Option Source
source_of word = if bytes_eq word (codes "all") then Some All else by_slash (behind_byte 47 word) word
