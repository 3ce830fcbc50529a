-- What a pass over the bytes of a field Host shows.
use Rattle.std.specs.Prelude.{◌≡◌, ℕ, Bool, true, ◌&&◌, not, ◌==◌, List, if◌then◌else◌}
use Rattle.std.specs.Char.{to_ascii_lowercase}
use Rattle.std.specs.List.{list_all}
use Rattle.http_header.specs.Token.{lowercase}
use Rattle.req_head.specs.Host.{is_no_mark, without_port}
use Rattle.req_head.specs.Rules.{is_host_byte}
use Rattle.req_head.specs.declared.host_bytes.HostBytes.{HostBytes}

-- of a host, begins no port, and is its own lower case
abbrev pub is_plain : ℕ → Bool
is_plain b = is_host_byte b && (is_no_mark b && to_ascii_lowercase b == b)

-- `0` for a plain byte, `1` for another one of a host, `2` for the rest
unfoldable pub kind_of : ℕ → ℕ
kind_of b = if is_plain b then 48 else if is_host_byte b then 49 else 50

-- it is so of this host
pub record IsLookedAt (host : List ℕ) (bytes : HostBytes) : Type 0 where
  pub bad : bytes.bad ≡ not (list_all is_host_byte host)
  pub plain : bytes.plain ≡ true → lowercase (without_port host) ≡ host
