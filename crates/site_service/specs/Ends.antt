-- Addresses, each once.
use Rattle.std.specs.Prelude.{List, [], ◌∷◌, ◌++◌, if◌then◌else◌}
use Rattle.std.specs.List.{list_any}
use Rattle.http_types.specs.declared.words.Addr.{Addr}
use Rattle.site_views.specs.Choice.{is_exactly}

-- an address after others, unless it is among them
unfoldable pub add_once : List Addr → Addr → List Addr
add_once all addr = if list_any (is_exactly addr) all then all else all ++ addr ∷ []

-- addresses after others, each once
unfoldable pub once_after : List Addr → List Addr → List Addr
once_after all [] = all
once_after all (addr ∷ later) = once_after (add_once all addr) later

-- addresses in their order, each once
abbrev pub each_once : List Addr → List Addr
each_once addrs = once_after [] addrs
