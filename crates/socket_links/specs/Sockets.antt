-- What socket links show of their ids.
use Rattle.std.specs.Prelude.{ℕ, Bool}
use Rattle.socket_links.specs.declared.sockets.SocketLinks.{SocketLinks}
use Rattle.socket_links.specs.Slots.{open_in, used_in}

abbrev pub is_open_in : {R : Type 0} → SocketLinks R → ℕ → Bool
is_open_in s = open_in s.links.items

abbrev pub is_used_in : {R : Type 0} → SocketLinks R → ℕ → Bool
is_used_in s = used_in s.counts.items
