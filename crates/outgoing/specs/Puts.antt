-- What adding bytes of a body does.
use Rattle.std.specs.Prelude.{◌≡◌, ℕ, ◌+◌, ◌*◌, ◌≤◌, ◌<◌, Option, is_some, List, ◌++◌, length, drop}
use Rattle.outgoing.specs.Leaving.{framed_as, waiting}

-- Bytes were added to the output, and they with the rest of the body as it is written now are the
-- body as it was to be written before. They are no more than a chunk's 4104 bytes for each 4096 of
-- the body.
pub record Puts (old : Option (List ℕ)) (bytes : List ℕ) (count : ℕ) (new : Option (List ℕ))
    (before after : List ℕ) : Type 0 where
  pub written : List ℕ
  pub adds : after ≡ before ++ written
  pub rest : (more : List ℕ) → framed_as old (bytes ++ more)
      ≡ written ++ framed_as new (drop count bytes ++ more)
  pub kind : is_some new ≡ is_some old
  pub share : 512 * length written + 513 * waiting new ≤ 513 * waiting old + 513 * count

-- The buffer: the bytes before `start` were written, it has all the room that `put` needs, and no
-- block that is whole waits.
pub record IsReserved (start len capacity : ℕ) (block : Option (List ℕ)) : Type 0 where
  pub within : start ≤ len
  pub reserved : 131072 ≤ capacity
  pub waits : waiting block < 4096
