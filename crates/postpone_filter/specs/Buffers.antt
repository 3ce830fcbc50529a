-- The row over one buffer a node: a part says how many bytes of its node's buffer come next.
use Rattle.std.specs.Prelude.{◌≡◌, ℕ, ◌+◌, ◌-◌, ◌<◌, ◌≤◌, Bool, true, false, ◌&&◌, ◌||◌, ◌==◌, nat_lt, List, [], ◌∷◌, length, take, drop, map, slice_index_or, if◌then◌else◌}
use Rattle.postpone_filter.specs.declared.part.Part.{Part}
use Rattle.postpone_filter.specs.Row.{Piece, is_open, bytes_of, is_over, most}

-- the bytes of a node that wait, and whether it has not ended
pub record Buffer : Type 0 where
  pub waiting : List ℕ
  pub goes_on : Bool

-- a node that there isn't
abbrev pub no_buffer : Buffer
no_buffer = record { waiting = []; goes_on = false }

abbrev pub waiting_at : List Buffer → ℕ → List ℕ
waiting_at buffers id = (slice_index_or buffers id no_buffer).waiting

abbrev pub open_at : List Buffer → ℕ → Bool
open_at buffers id = (slice_index_or buffers id no_buffer).goes_on

-- whether a node may have a buffer: it has not ended, or bytes of it wait
abbrev pub is_kept : Bool → ℕ → Bool
is_kept opened count = opened || nat_lt 0 count

-- Of a node's buffer, in which bytes wait from `start` up to `len`: no more of them than the most that wait, and no
-- memory is kept where the node may have no buffer.
pub record IsReserved (opened : Bool) (start len capacity : ℕ) : Type 0 where
  pub within : start ≤ len
  pub bounded : len ≤ start + most
  pub given_back : is_kept opened (len - start) ≡ false → capacity ≡ 0

abbrev pub part_of : Piece → Part
part_of p = record { node = p.node; len = length p.bytes; grows = p.grows }

abbrev pub is_part_place : ℕ → Part → Bool
is_part_place id s = s.grows && (s.node == id)

-- the buffers without the bytes of a part
abbrev pub cut : Part → (ℕ → List ℕ) → ℕ → List ℕ
cut s waiting id = if s.node == id then drop s.len (waiting id) else waiting id

unfoldable pub shown : List Part → (ℕ → List ℕ) → List Piece
shown [] waiting = []
shown (s ∷ ss) waiting = record { node = s.node; bytes = take s.len (waiting s.node); grows = s.grows } ∷ shown ss (cut s waiting)

abbrev pub pieces_of : List Part → List Buffer → List Piece
pieces_of parts buffers = shown parts (waiting_at buffers)

-- whether a piece is of the node
unfoldable pub names : ℕ → List Piece → Bool
names id [] = false
names id (p ∷ ps) = if p.node == id then true else names id ps

-- each piece is of one of the first `nodes` nodes, and a node goes on after the last of its pieces
unfoldable pub IsLawful : ℕ → List Piece → Type 0
IsLawful nodes [] = Unit {0}
IsLawful nodes (p ∷ ps) = (p.node < nodes) × ((p.grows ≡ true → names p.node ps ≡ false) × IsLawful nodes ps)

-- the parts and the buffers are those of these pieces
pub record Shows (pieces : List Piece) (parts : List Part) (buffers : List Buffer) : Type 0 where
  pub parts_are : parts ≡ map part_of pieces
  pub waiting_are : (id : ℕ) → waiting_at buffers id ≡ bytes_of id pieces
  pub open_are : (id : ℕ) → open_at buffers id ≡ is_open id pieces
  pub lawful : IsLawful (length buffers) pieces

abbrev pub AreTied : List Part → List Buffer → Type 0
AreTied parts buffers = Shows (pieces_of parts buffers) parts buffers

abbrev pub starts_over : List Piece → Bool
starts_over [] = false
starts_over (p ∷ ps) = is_over p

-- the parts of pieces that have been cleaned
abbrev pub is_part_over : Part → Bool
is_part_over s = if s.grows then false else s.len == 0

unfoldable pub clean_parts : List Part → List Part
clean_parts [] = []
clean_parts (s ∷ ss) = if is_part_over s then clean_parts ss else s ∷ ss

-- whether the node goes on after a part
unfoldable pub has_place : ℕ → List Part → Bool
has_place id [] = false
has_place id (s ∷ ss) = if is_part_place id s then true else has_place id ss

-- whether a part is of the node
unfoldable pub is_named : ℕ → List Part → Bool
is_named id [] = false
is_named id (s ∷ ss) = if s.node == id then true else is_named id ss

abbrev pub parts_start_over : List Part → Bool
parts_start_over [] = false
parts_start_over (s ∷ ss) = is_part_over s

abbrev pub first_part_is : ℕ → List Part → Bool
first_part_is id [] = false
first_part_is id (s ∷ ss) = s.node == id
