-- Which server answers a request (https://nginx.org/en/docs/http/request_processing.html, and server_names.html for the
-- order of the names).
use Rattle.std.specs.Prelude.{ℕ, nat_eq, nat_lt, ◌==◌, Bool, true, false, ◌&&◌, List, [], ◌∷◌, length, drop, Option, None, Some, is_some, bytes_eq, find, filter, if◌then◌else◌}
use Rattle.std.specs.List.{starts_with, ends_with, list_any}
use Rattle.std.specs.declared.net.ip_addr.IpAddr.{IpAddr}
use Rattle.std.specs.declared.net.ip_addr.IpAddr.TheVariants.{V4, V6}
use Rattle.std.specs.Net.Addr.{ipv4_octets, ipv6_segments}
use Rattle.http_types.specs.declared.words.Addr.{Addr}
use Rattle.site_views.specs.Pattern.{Finds}
use Rattle.site_views.specs.Views.{ServerView, ServerName}
use Rattle.site_views.specs.Views.ServerName.{Whole, Ending, Beginning, WithSubdomains, Like}

-- ---- the servers that listen at a local end

abbrev pub same_ip : IpAddr → IpAddr → Bool
same_ip (V4 a) (V4 b) = bytes_eq (ipv4_octets a) (ipv4_octets b)
same_ip (V6 a) (V6 b) = bytes_eq (ipv6_segments a) (ipv6_segments b)
same_ip (V4 a) (V6 b) = false
same_ip (V6 a) (V4 b) = false

-- the address that means every one of its family
abbrev pub is_wildcard_of : IpAddr → IpAddr → Bool
is_wildcard_of (V4 a) (V4 b) = bytes_eq (ipv4_octets a) (0 ∷ 0 ∷ 0 ∷ 0 ∷ [])
is_wildcard_of (V6 a) (V6 b) = bytes_eq (ipv6_segments a) (0 ∷ 0 ∷ 0 ∷ 0 ∷ 0 ∷ 0 ∷ 0 ∷ 0 ∷ [])
is_wildcard_of (V4 a) (V6 b) = false
is_wildcard_of (V6 a) (V4 b) = false

-- a test of the addresses that are listened on: this very one, or the wildcard of its family and port
abbrev pub is_exactly : Addr → Addr → Bool
is_exactly local a = a.port == local.port && same_ip a.ip local.ip

abbrev pub is_wildcard : Addr → Addr → Bool
is_wildcard local a = a.port == local.port && is_wildcard_of a.ip local.ip

abbrev pub listens_at : (Addr → Bool) → ServerView → Bool
listens_at test s = list_any (λ l. test l.addr) s.listens

-- the servers among which a host decides: by the address itself where one listens on it, else by the wildcard
unfoldable pub test_for : List ServerView → Addr → Addr → Bool
test_for servers local = if list_any (listens_at (is_exactly local)) servers then is_exactly local else is_wildcard local

-- ---- names

abbrev pub or_else : {A : Type 0} → Option A → Option A → Option A
or_else None other = other
or_else (Some a) other = Some a

-- the one of the greatest size, the first of those that are as great; none where none has a size
abbrev pub greater : {A : Type 0} → (A → Option ℕ) → A → (size : ℕ) → Option A → Option A
greater size a n None = Some a
greater size a n (Some b) = elim (size b) [
  | None ↦ Some a
  | Some m ↦ if nat_lt n m then Some b else Some a
]

abbrev pub kept : {A : Type 0} → (A → Option ℕ) → A → Option ℕ → Option A → Option A
kept size a None best = best
kept size a (Some n) best = greater size a n best

unfoldable pub greatest : {A : Type 0} → (A → Option ℕ) → List A → Option A
greatest size [] = None
greatest size (a ∷ others) = kept size a (size a) (greatest size others)

-- the name is exactly this host
abbrev pub is_host : List ℕ → ServerName → Bool
is_host host (Whole name) = bytes_eq name host
is_host host (WithSubdomains text) = bytes_eq (drop 1 text) host
is_host host (Ending text) = false
is_host host (Beginning text) = false
is_host host (Like pattern) = false

abbrev pub sized : Bool → List ℕ → List ℕ → Option ℕ
sized fits text host = if fits && nat_lt (length text) (length host) then Some (length text) else None

-- how long the name is, if it is `*.x` and fits the host; and if it is `x.*`. The star is at least one byte
abbrev pub ending_size : List ℕ → ServerName → Option ℕ
ending_size host (Ending text) = sized (ends_with nat_eq host text) text host
ending_size host (WithSubdomains text) = sized (ends_with nat_eq host text) text host
ending_size host (Whole name) = None
ending_size host (Beginning text) = None
ending_size host (Like pattern) = None

abbrev pub beginning_size : List ℕ → ServerName → Option ℕ
beginning_size host (Beginning text) = sized (starts_with nat_eq host text) text host
beginning_size host (Whole name) = None
beginning_size host (Ending text) = None
beginning_size host (WithSubdomains text) = None
beginning_size host (Like pattern) = None

abbrev pub is_like : Finds → List ℕ → ServerName → Bool
is_like finds host (Like pattern) = is_some (finds pattern host)
is_like finds host (Whole name) = false
is_like finds host (Ending text) = false
is_like finds host (Beginning text) = false
is_like finds host (WithSubdomains text) = false

abbrev pub has_name : (ServerName → Bool) → ServerView → Bool
has_name test s = list_any test s.names

-- the size of a server's longest name by this measure
abbrev pub size_at : Option ServerName → (ServerName → Option ℕ) → Option ℕ
size_at None size = None
size_at (Some name) size = size name

abbrev pub longest_name : (ServerName → Option ℕ) → ServerView → Option ℕ
longest_name size s = size_at (greatest size s.names) size

-- ---- the choice

abbrev pub is_default : (Addr → Bool) → ServerView → Bool
is_default test s = list_any (λ l. test l.addr && l.default) s.listens

-- by the exact name, the longest name `*.x`, the longest name `x.*`, the first `~` name, the default server, the first
unfoldable pub choice : Finds → (Addr → Bool) → List ℕ → List ServerView → Option ServerView
choice finds test host servers =
    or_else (find (has_name (is_host host)) servers)
    (or_else (greatest (longest_name (ending_size host)) servers)
    (or_else (greatest (longest_name (beginning_size host)) servers)
    (or_else (find (has_name (is_like finds host)) servers)
    (or_else (find (is_default test) servers) (find (λ s. true) servers)))))

-- The server of the requests for a host on connections to a local end; none where no server listens there.
unfoldable pub server_of : Finds → List ServerView → Addr → (host : List ℕ) → Option ServerView
server_of finds servers local host = choice finds (test_for servers local) host (filter (listens_at (test_for servers local)) servers)

-- the server of a local end where no host is known
unfoldable pub default_server : List ServerView → Addr → Option ServerView
default_server servers local =
    or_else (find (is_default (test_for servers local)) servers) (find (listens_at (test_for servers local)) servers)
