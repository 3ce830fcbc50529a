-- The ends of a connection: `1.2.3.4:80`, or `[::1]:80`.
use Rattle.std.specs.Prelude.{ℕ, List, [], ◌∷◌, ◌==◌, Option, Some, None, Result, Ok, Err, if◌then◌else◌}
use Rattle.std.specs.Result.{result_ok}
use Rattle.std.specs.declared.net.ip_addr.IpAddr.{IpAddr}
use Rattle.http_types.specs.declared.words.Addr.{Addr}
use Rattle.replay_words.specs.declared.faults.FaultKind.{FaultKind}
use Rattle.replay_words.specs.declared.faults.FaultKind.TheVariants.{Word}
use Rattle.replay_words.specs.Numbers.{number}
use Rattle.text_words.specs.Addresses.{ipv4_of, ipv6_of}
use Rattle.text_words.specs.Cuts.{before_byte, behind_byte, behind_colon}

-- a port in decimals, with no leading zero
unfoldable pub port_of : List ℕ → Option ℕ
port_of text = result_ok (number 65535 text)

-- an address and its port
abbrev pub end_of : Option IpAddr → Option ℕ → Result Addr FaultKind
end_of None port = Err Word
end_of (Some ip) None = Err Word
end_of (Some ip) (Some port) = Ok (record { ip = ip; port = port })

-- what comes after a colon is a port
abbrev pub port_behind : Option (List ℕ) → Option ℕ
port_behind None = None
port_behind (Some text) = port_of text

-- an IPv4 address, a colon and a port
abbrev pub addr_v4 : List ℕ → Result Addr FaultKind
addr_v4 text = end_of (ipv4_of (before_byte 58 text)) (port_behind (behind_byte 58 text))

-- after the opening bracket: an IPv6 address, the closing one, a colon and a port
abbrev pub addr_v6 : List ℕ → Result Addr FaultKind
addr_v6 text = end_of (ipv6_of (before_byte 93 text)) (port_behind (behind_colon (behind_byte 93 text)))

unfoldable pub addr_of : List ℕ → Result Addr FaultKind
addr_of [] = Err Word
addr_of (b ∷ bs) = if b == 91 then addr_v6 bs else addr_v4 (b ∷ bs)
