-- Addresses of the network, as std's grammar has them.
use Rattle.std.specs.Prelude.{ℕ, List, Option, option_map}
use Rattle.std.specs.Net.Reader.{read_ipv4, read_ipv6, whole_value}
use Rattle.std.specs.declared.net.ip_addr.IpAddr.{IpAddr}
use Rattle.std.specs.declared.net.ip_addr.IpAddr.TheVariants.{V4, V6}

-- an IPv4 address in dotted decimals
unfoldable pub ipv4_of : List ℕ → Option IpAddr
ipv4_of text = option_map (λ octets. V4 (record { octets = octets })) (whole_value (read_ipv4 text))

-- an IPv6 address (RFC 4291, 2.2), with no scope
unfoldable pub ipv6_of : List ℕ → Option IpAddr
ipv6_of text = option_map (λ segments. V6 (record { segments = segments })) (whole_value (read_ipv6 text))
