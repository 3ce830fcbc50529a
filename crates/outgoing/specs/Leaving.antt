-- What of a response is still to be written.
use Rattle.std.specs.Prelude.{◌≡◌, ℕ, ◌+◌, ◌<◌, ◌≤◌, Option, None, Some, List, ◌++◌, length}
use Rattle.chunk_out.specs.Chunks.{framed}

-- The bytes that are to be written next. And, of a body that is framed, those of its bytes that wait
-- for their block to become whole; nothing of one that isn't framed.
pub record Leaving : Type 0 where
  pub pending : List ℕ
  pub block : Option (List ℕ)

-- how many bytes `put` lets be pending
abbrev pub most : ℕ
most = 65536

-- The rest of a body as it is written: as it is; or after the bytes of it that wait, in chunks with the last one (RFC
-- 9112, section 7.1).
abbrev pub framed_as : Option (List ℕ) → List ℕ → List ℕ
framed_as None more = more
framed_as (Some block) more = framed (block ++ more)

-- all that is still to be written, where this is the rest of the body
abbrev pub to_come : Leaving → List ℕ → List ℕ
to_come o body = o.pending ++ framed_as o.block body

-- how many bytes of the body wait for their block to become whole
abbrev pub waiting : Option (List ℕ) → ℕ
waiting None = 0
waiting (Some block) = length block

-- No more fits into so much room, where so much of it is taken: no byte; or, of a body that is framed,
-- no whole block as a chunk, for which one byte is missing.
abbrev pub IsFull : ℕ → Option (List ℕ) → ℕ → Type 0
IsFull room None taken = room ≤ taken
IsFull room (Some block) taken = (length block ≡ 4095) × (room < taken + 4104)
