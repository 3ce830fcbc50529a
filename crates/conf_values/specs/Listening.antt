-- The values of `listen` (nginx's core module): a port, or an address and a port.
use Rattle.std.specs.Prelude.{ℕ, List, [], ◌∷◌, ◌==◌, Bool, false, Option, None, Some, codes, bytes_eq, if◌then◌else◌}
use Rattle.std.specs.List.{list_all, list_any}
use Rattle.std.specs.declared.net.ip_addr.IpAddr.{IpAddr}
use Rattle.std.specs.declared.net.ip_addr.IpAddr.TheVariants.{V4}
use Rattle.http_types.specs.declared.words.Addr.{Addr}
use Rattle.text_words.specs.Addresses.{ipv4_of, ipv6_of}
use Rattle.text_words.specs.Cuts.{before_byte, behind_byte, behind_colon}
use Rattle.conf_values.specs.Numbers.{port_of}

-- every IPv4 address
unfoldable pub wildcard : IpAddr
wildcard = V4 (record { octets = 0 ∷ 0 ∷ 0 ∷ 0 ∷ [] })

abbrev pub port_in : Option (List ℕ) → Option ℕ
port_in None = None
port_in (Some text) = port_of text

-- an address and its port
abbrev pub end_of : Option IpAddr → Option ℕ → Option Addr
end_of None port = None
end_of (Some ip) None = None
end_of (Some ip) (Some port) = Some (record { ip = ip; port = port })

-- `ADDRESS:PORT`, or a port of every IPv4 address
abbrev pub plain_end : Option (List ℕ) → List ℕ → Option Addr
plain_end None text = end_of (Some wildcard) (port_of text)
plain_end (Some port) text = end_of (ipv4_of (before_byte 58 text)) (port_of port)

-- `PORT`, `*:PORT`, `1.2.3.4:PORT` or `[::1]:PORT`
unfoldable pub listened : List ℕ → Option Addr
listened [] = None
listened (b ∷ bs) =
    if b == 91 then end_of (ipv6_of (before_byte 93 bs)) (port_in (behind_colon (behind_byte 93 bs)))
    else (if b == 42 then end_of (Some wildcard) (port_in (behind_colon (Some bs)))
    else plain_end (behind_byte 58 (b ∷ bs)) (b ∷ bs))

-- the address of a `listen`, by its words
abbrev pub listened_by : List (List ℕ) → Option Addr
listened_by [] = None
listened_by (word ∷ words) = listened word

-- after the address `default_server` may come, and nothing else
unfoldable pub is_default : List ℕ → Bool
is_default word = bytes_eq word (codes "default_server")

abbrev pub has_known_parameters : List (List ℕ) → Bool
has_known_parameters [] = false
has_known_parameters (word ∷ words) = list_all is_default words

-- the address is marked as the one whose connections this server takes by default
abbrev pub is_marked : List (List ℕ) → Bool
is_marked [] = false
is_marked (word ∷ words) = list_any is_default words
