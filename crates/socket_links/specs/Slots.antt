-- Links by their ids. An id is 1024 times the number of links that its slot had before, and the number of the slot.
use Rattle.std.specs.Prelude.{◌≡◌, ℕ, ◌/◌, ◌%◌, ◌<◌, ◌==◌, nat_lt, Bool, true, false, List, [], Option, Some, None, length, slice_index, slice_index_or}
use Rattle.std.specs.Prelude.{◌∷◌}
use Rattle.std.specs.declared.net.ip_addr.IpAddr.TheVariants.{V4}
use Rattle.http_types.specs.declared.words.Addr.{Addr}
use Rattle.ngx_outside.specs.Linked.{LinkView, Opens}
use Rattle.ngx_outside.specs.declared.links.Notice.{Notice}
use Rattle.ngx_outside.specs.declared.links.Notice.TheVariants as notice
use Rattle.ngx_outside.specs.declared.links.Output.{Output}
use Rattle.ngx_outside.specs.declared.links.Output.TheVariants as output
use Rattle.socket_links.specs.declared.slots.Link.{Link}

-- whether a slot had the link of an id: it had that many links
abbrev pub used_in : List ℕ → ℕ → Bool
used_in counts id = nat_lt (id / 1024) (slice_index counts (id % 1024))

-- whether a slot has the link of an id
abbrev pub is_at : Option Link → ℕ → Bool
is_at None id = false
is_at (Some link) id = link.id == id

abbrev pub open_in : List (Option Link) → ℕ → Bool
open_in links id = is_at (slice_index_or links (id % 1024) None) id

-- the id that a slot's next link has, where the slot has none
pub record IsNext (counts : List ℕ) (links : List (Option Link)) (id : ℕ) : Type 0 where
  pub slot : id % 1024 < length counts
  pub link_slot : id % 1024 < length links
  pub next : slice_index counts (id % 1024) ≡ id / 1024
  pub empty : slice_index_or links (id % 1024) None ≡ None

-- of bytes some are put, or none where there are none
abbrev pub IsSomePut : Output → List ℕ → Type 0
IsSomePut (output.Put count) bytes = count ≡ 0 → bytes ≡ []
IsSomePut output.NotYet bytes = Unit {0}
IsSomePut output.Failed bytes = Unit {0}

-- nothing is told of a link
abbrev pub untold : LinkView
untold = record { local = nowhere; peer = nowhere; taken = []; sent = []; among = 0; due = false; full = false; ended = false }
  where
    nowhere : Addr
    nowhere = record { ip = V4 (record { octets = 0 ∷ 0 ∷ 0 ∷ 0 ∷ [] }); port = 0 }

-- a notice of a link that is open, or none
abbrev pub IsReport : Notice → List (Option Link) → Type 0
IsReport (notice.Opened id local peer) links = ⊥
IsReport (notice.Readable id) links = open_in links id ≡ true
IsReport (notice.Writable id) links = open_in links id ≡ true
IsReport notice.Nothing links = Unit {0}
IsReport notice.Ended links = ⊥
IsReport notice.Failed links = ⊥

-- a notice that goes on: neither the last one nor a fault
abbrev pub GoesOn : Notice → Type 0
GoesOn notice.Ended = ⊥
GoesOn notice.Failed = ⊥
GoesOn (notice.Opened id local peer) = Unit {0}
GoesOn (notice.Readable id) = Unit {0}
GoesOn (notice.Writable id) = Unit {0}
GoesOn notice.Nothing = Unit {0}

-- what a notice says of the ids, by the numbers of links and the links
abbrev pub OpensIn : Notice → (counts counts' : List ℕ) → (links links' : List (Option Link)) → Type 0
OpensIn n counts counts' links links' = Opens n (used_in counts) (used_in counts') (open_in links) (open_in links')
